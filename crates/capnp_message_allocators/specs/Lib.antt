pub mod Growth
pub mod Loans
pub mod Scratch
pub mod Segments
pub mod Single
