pub mod Bytes
pub mod ListLaws
pub mod BackedBytes
