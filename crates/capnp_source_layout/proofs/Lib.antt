pub mod Apart
mod Examples
pub mod Kept
pub mod Layouts
pub mod Places
pub mod Shared
