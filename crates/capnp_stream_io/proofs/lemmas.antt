pub mod Filling
pub mod KnownLemmas
