pub mod Accepted
pub mod Fronts
