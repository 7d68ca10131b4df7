pub mod Exports
pub mod Statuses
