pub mod Calls
pub mod Drafts
pub mod Faults
pub mod Names
pub mod Note
pub mod Openings
pub mod Places
