-- What a renames file says: an array of fields that have other names in a newer schema.
use Rattle.std.specs.Prelude.{ℕ, ◌-◌, ◌^◌, Option, Some, List, [], ◌∷◌, codes}
use Rattle.capnp_model.specs.Chains.{◌>>=◌}
use Rattle.capnp_model.specs.Partners.{Renaming}
use Rattle.serde_json.specs.Data.{Data}
use Rattle.serde_json.specs.Find.{as_array}
use Rattle.capnp_relay_files.specs.Json.{json_value_in, with_keys, number_at, text_at, each_item}

-- A renaming: the id of the older node, the field's name there, and its newer name.
abbrev pub renaming_in : Data → Option Renaming
renaming_in d =
    with_keys (codes "node" ∷ codes "from" ∷ codes "to" ∷ []) d >>= λ o.
    number_at (codes "node") (2 ^ 64 - 1) o >>= λ id.
    text_at (codes "from") o >>= λ from.
    text_at (codes "to") o >>= λ to.
    Some (record { node = id; older = from; newer = to })

-- The renamings of an array.
abbrev pub renamings_in : Data → Option (List Renaming)
renamings_in d = as_array d >>= each_item renaming_in

-- The renamings of a renames file.
abbrev pub renames_in : List ℕ → Option (List Renaming)
renames_in bytes = json_value_in bytes >>= renamings_in
