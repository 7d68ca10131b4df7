pub mod DataSections
pub mod lemmas
mod BlobEnds
mod ElementFronts
mod ElementsThere
mod BlobsBegun
mod ListsMade
