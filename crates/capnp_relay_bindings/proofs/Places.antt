-- Records at places.
use Rattle.std.proofs.Common.{◌≡◌, ℕ, List, Option, map, option_map, sym, ◌∙◌, ap}
use Rattle.std.specs.Prelude.{slice_get}
use Rattle.std.proofs.lemmas.Option.{slice_get-map}
use Rattle.capnp_records.specs.declared.node.NodeRecord.{NodeRecord}
use Rattle.capnp_records.specs.NodeViews.{node_of}

pub record_at : (ns : List NodeRecord) (place : ℕ) (o : Option NodeRecord) → o ≡ slice_get ns place → option_map node_of o ≡ slice_get (map node_of ns) place
record_at ns place o is = ap (option_map node_of) is ∙ sym (slice_get-map node_of ns place)
