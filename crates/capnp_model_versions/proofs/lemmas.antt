pub mod WholeValues
pub mod WrittenValues
pub mod TrimmedRelays
