-- Along versions the older view of a record may be taken in two steps.
use Rattle.std.proofs.Common.{◌≡◌, ℕ, List, sym, ◌∙◌, ap}
use Rattle.capnp_model.specs.Trees.{Tree}
use Rattle.capnp_model.specs.Schemas.{Node}
use Rattle.capnp_model.specs.Readings.{record_of}
use Rattle.capnp_model.specs.Accepted.{schema_of, IsAccepted}
use Rattle.capnp_model.specs.Compatible.{IsCompatible}
use Rattle.capnp_model.specs.Projection.{projected}
use Rattle.capnp_model.proofs.lemmas.KeptShapes.{older_record}
use Rattle.capnp_model.proofs.Transitive.{compatible_along_versions}

-- THE LAW: both are the record under the oldest
pub views_along_versions : (a b c : List Node) (x y z : ℕ) (t : Tree) → IsAccepted a → IsAccepted b → IsAccepted c → IsCompatible (schema_of a) (schema_of b) x y → IsCompatible (schema_of b) (schema_of c) y z
    → projected (schema_of a) x (projected (schema_of b) y (record_of (schema_of c) z t)) ≡ projected (schema_of a) x (record_of (schema_of c) z t)
views_along_versions a b c x y z t accepted accepted' accepted'' p q =
    ap (projected (schema_of a) x) (sym (older_record b c y z t accepted' q))
    ∙ sym (older_record a b x y t accepted p)
    ∙ older_record a c x z t accepted (compatible_along_versions (schema_of a) (schema_of b) c x y z accepted'' p q)
