use Rattle.std.proofs.Common.{ap, sym, ◌∙◌, Result, Ok, Err}
use Rattle.capnp_model.specs.Kinds.{Kind}
use Rattle.capnp_wire_objects.specs.Places.{seen}
use Rattle.capnp_wire.specs.Views.{PointerView, seen_pointer}
use Rattle.capnp_values.specs.Sources.{null_root_segments, null_default}
use Rattle.capnp_values.proofs.defaults.null.Goals as goal

abbrev or_null : Result PointerView Kind → PointerView
or_null (Ok p) = p
or_null (Err kind) = null_default

pub returns : goal.returns
returns c = ap or_null (sym (ap (seen (seen_pointer null_root_segments)) c.in-Ok.is) ∙ c.get_root_from_arena.ensures)
