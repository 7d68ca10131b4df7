pub mod Counting
pub mod Streams
pub mod Adapters
pub mod SliceWriters
pub mod Writes
