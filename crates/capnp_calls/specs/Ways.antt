-- What the names of paths find.
use Rattle.std.specs.Prelude.{◌≡◌, ℕ, List, [], ◌∷◌, ⊤}
use Rattle.std.specs.Coded.{Coded-set, coded_option, coded_ℕ, ×_prop, Unit-prop}
use Rattle.capnp_model.specs.Printing.{fields_in}
use Rattle.capnp_model.specs.Schemas.{Schema}
use Rattle.capnp_model.specs.Calls.{Step, name, index}
use Rattle.capnp_values_queries.specs.Fields.{place_of_name}
use Rattle.capnp_calls.specs.declared.find.FoundField.{FoundField}

-- The place is that of the first field of the name in the struct or the group of the node, or
-- `None` where that has no such field.
abbrev pub Finds : Schema → List ℕ → FoundField → Type 0
Finds s n found = found.place ≡ place_of_name n (fields_in (s.shape_of found.node))

-- The first of the fields is what the name finds; where no more are known, nothing is said.
abbrev pub FindsFirst : Schema → List ℕ → List FoundField → Type 0
FindsFirst s n [] = ⊤
FindsFirst s n (found ∷ behind) = Finds s n found

-- The fields behind the first.
abbrev pub fields_behind_first : List FoundField → List FoundField
fields_behind_first [] = []
fields_behind_first (found ∷ behind) = behind

-- The fields are what the names of a path find, in turn, as far as they are known.
abbrev pub IsWay : Schema → List Step → List FoundField → Type 0
IsWay s [] way = ⊤
IsWay s (name n ∷ path) way = FindsFirst s n way × IsWay s path (fields_behind_first way)
IsWay s (index i ∷ path) way = IsWay s path way

-- ---- each of these facts has at most one proof, so a struct can keep it

pub FindsFirst-prop : (s : Schema) (n : List ℕ) (way : List FoundField) → IsProp (FindsFirst s n way)
FindsFirst-prop s n [] = Unit-prop
FindsFirst-prop s n (found ∷ behind) = Coded-set (coded_option coded_ℕ) found.place (place_of_name n (fields_in (s.shape_of found.node)))

pub IsWay-prop : (s : Schema) (path : List Step) (way : List FoundField) → IsProp (IsWay s path way)
IsWay-prop s [] way = Unit-prop
IsWay-prop s (name n ∷ path) way = ×_prop (FindsFirst-prop s n way) (IsWay-prop s path (fields_behind_first way))
IsWay-prop s (index i ∷ path) way = IsWay-prop s path way
