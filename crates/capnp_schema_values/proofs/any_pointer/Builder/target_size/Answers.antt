use Rattle.std.proofs.Common.{subst}
use Rattle.capnp_wire.specs.ValueSizes.{PointerSize}
use Rattle.capnp_values.specs.Sources.{WithoutLimit}
use Rattle.capnp_schema_values.proofs.any_pointer.Builder.target_size.Goals as goal

pub returns : goal.returns
returns g c = subst (λ p. WithoutLimit (PointerSize p) c.target_size.result) c.reborrow_as_reader.ensures c.target_size.ensures
