pub mod Beginnings
pub mod PauseLemmas
