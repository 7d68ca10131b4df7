pub mod Errors
pub mod Sizes
pub mod Items
pub mod Limits
pub mod Segments
pub use Rattle.capnp_model.specs.Kinds
