-- What decides whether types are related. (Schema language, "Evolving Your Protocol")
use Rattle.std.specs.Prelude.{ℕ, Bool, true}
use Rattle.capnp_model.specs.Schemas.{PlainType, bool, int, uint, «enum», width, Ty, void, plain, text, blob, untyped, interface, struct, list, Schema}
use Rattle.capnp_model.specs.Compatible.{Pairs, has_pair, same_names}

-- The sort of a plain type.
abbrev pub plain_sort : PlainType → ℕ
plain_sort bool = 1
plain_sort (int w) = 2
plain_sort (uint w) = 3
plain_sort («enum» i) = 4

-- The sort of a type.
abbrev pub sort : Ty → ℕ
sort void = 0
sort (plain p) = plain_sort p
sort text = 5
sort blob = 6
sort untyped = 7
sort interface = 8
sort (struct i) = 9
sort (list ty) = 10

-- The bits of a plain value.
abbrev pub bits : Ty → ℕ
bits (plain p) = width p
bits _ = 0

-- The id of a plain type.
abbrev pub plain_id : PlainType → ℕ
plain_id («enum» i) = i
plain_id _ = 0

-- The id that a type names.
abbrev pub id_in : Ty → ℕ
id_in (plain p) = plain_id p
id_in (struct i) = i
id_in _ = 0

-- A plain type of the sort is related to the one of the id.
abbrev pub plain_keeps_id : Schema → Schema → PlainType → ℕ → Bool
plain_keeps_id o n («enum» i) j = same_names (o.names_of i) (n.names_of j)
plain_keeps_id o n _ j = true

-- A type is related to the one of its sort and of the id.
abbrev pub keeps_id : Schema → Schema → Pairs → Ty → ℕ → Bool
keeps_id o n pairs (plain p) j = plain_keeps_id o n p j
keeps_id o n pairs (struct i) j = has_pair pairs i j
keeps_id o n pairs _ j = true
