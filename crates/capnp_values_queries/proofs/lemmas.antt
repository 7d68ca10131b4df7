pub mod Shapes
pub mod Records
pub mod Places
pub mod Names
