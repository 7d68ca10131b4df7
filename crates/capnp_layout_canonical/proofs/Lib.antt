mod Scratches
pub mod Measures
