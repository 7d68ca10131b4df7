pub mod Meaning
pub mod Paths
pub mod Mistakes
pub mod Numbers
