pub mod FirstBytes
pub mod Spending
pub mod Sizes
