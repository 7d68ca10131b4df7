-- What an answer may cost and be, passed on to the relay between versions.
pub use Rattle.capnp_relay_answers.specs.Bounds.{limits_view}
pub use Rattle.capnp_relay_answers.specs.declared.bounds.Bounds.{Bounds}
pub use Rattle.capnp_relay_answers.specs.Answers.{MakesTooLarge}
pub use Rattle.capnp_relay_answers.specs.Plain.{with_segments}
