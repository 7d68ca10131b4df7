pub mod Certificates
pub mod Drafts
pub mod Holes
pub mod Sections
pub mod Slots
