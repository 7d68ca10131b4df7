pub mod Begun
pub mod Charging
pub mod Makes
pub mod Fronts
