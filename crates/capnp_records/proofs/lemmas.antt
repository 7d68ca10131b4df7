pub mod ListTests
pub mod PlainStructs
pub mod Segments
pub mod FieldPlaces
pub mod Stored
