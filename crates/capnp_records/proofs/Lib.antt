pub mod lemmas
mod Overlaps
mod Breaks
mod Forward
mod Marked
mod Claimed
mod Members
mod DistinctNames
mod Below
mod FoundNodes
mod FieldTables
mod ByName
mod Holders
mod OneMore
