-- Names in node records.
use Rattle.std.specs.Prelude.{ℕ, suc, if◌then◌else◌, Option, Some, None, List, [], ◌∷◌}
use Rattle.std.specs.Str.{bytes_eq}
use Rattle.capnp_model.specs.Schemas.{Field}

-- The place of the first field of a name, from a place on.
abbrev pub place_named : List ℕ → ℕ → List Field → Option ℕ
place_named name i [] = None
place_named name i (f ∷ fs) = if bytes_eq f.name name then Some i else place_named name (suc i) fs
