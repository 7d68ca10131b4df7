pub mod Types
pub mod Identity
pub mod Plans
pub mod Scopes
pub mod Bound
