use Rattle.std.proofs.Common.{inl}
use Rattle.capnp_values.proofs.dynamic_struct.Reader.get_named.Goals as goal

pub returns : goal.returns
returns g c = inl (c.in_ok-field.field, c.in_ok-field.ensures.found, c.get.ensures)
