pub mod Checks
pub mod Faults
pub mod Messages
pub mod Parts
pub mod Replies
pub mod Texts
pub mod Writes
