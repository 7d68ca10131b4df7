-- Versions of schemas: what a newer schema keeps of an older one. (Schema language, "Evolving Your Protocol")
use Rattle.std.specs.Prelude.{ℕ, ◌≡◌, suc, Bool, true, false, ◌&&◌, ◌==◌, nat_le, IsTrue, Option, Some, None, List, [], ◌∷◌}
use Rattle.std.specs.List.{list_all, list_any}
use Rattle.std.specs.Str.{bytes_eq}
use Rattle.capnp_model.specs.Trees.{Tree}
use Rattle.capnp_model.specs.Encoding.{canonical_words}
use Rattle.capnp_model.specs.Partners.{Renaming, renamed, is_partner}
use Rattle.capnp_model.specs.Schemas.{PlainType, bool, int, uint, «enum», Ty, void, plain, text, blob, untyped, interface, struct, list, Shape, shape, Fields, no_fields, field, Body, void_slot, plain_slot, pointer_slot, group_slot, Schema}

-- Pairs of an older and a newer id.
abbrev pub Pairs : Type 0
Pairs = List (ℕ × ℕ)

-- The pair is among them.
abbrev pub has_pair : Pairs → ℕ → ℕ → Bool
has_pair pairs i j = list_any (λ p. p.0 == i && p.1 == j) pairs

-- The older names are the beginning of the newer.
abbrev pub same_names : List (List ℕ) → List (List ℕ) → Bool
same_names [] ys = true
same_names (x ∷ xs) [] = false
same_names (x ∷ xs) (y ∷ ys) = bytes_eq x y && same_names xs ys

-- The older's enumerants are the beginning of the newer's.
abbrev pub related_plain : Schema → Schema → PlainType → PlainType → Bool
related_plain o n bool bool = true
related_plain o n (int v) (int w) = v == w
related_plain o n (uint v) (uint w) = v == w
related_plain o n («enum» i) («enum» j) = same_names (o.names_of i) (n.names_of j)
related_plain o n _ _ = false

-- Related types: equal but for enums and structs, which are versions of one another.
abbrev pub related : Schema → Schema → Pairs → Ty → Ty → Bool
related o n pairs void void = true
related o n pairs (plain p) (plain q) = related_plain o n p q
related o n pairs text text = true
related o n pairs blob blob = true
related o n pairs untyped untyped = true
related o n pairs interface interface = true
related o n pairs (struct i) (struct j) = has_pair pairs i j
related o n pairs (list ty) (list ty') = related o n pairs ty ty'
related o n pairs _ _ = false

-- Equal numbers, or none of both.
abbrev pub same_option : Option ℕ → Option ℕ → Bool
same_option None None = true
same_option (Some a) (Some b) = a == b
same_option _ _ = false

-- How many fields are union members.
abbrev pub member_count : Fields → ℕ
member_count no_fields = 0
member_count (field n None b fs) = member_count fs
member_count (field n (Some m) b fs) = suc (member_count fs)

-- A field that only the newer has: no member, or one of a value from the older's count on.
abbrev pub is_new : ℕ → Option ℕ → Bool
is_new count None = true
is_new count (Some m) = nat_le count m

-- An older union keeps its discriminant's place.
abbrev pub keeps_union : Option ℕ → Option ℕ → Bool
keeps_union None u = true
keeps_union (Some a) u = same_option (Some a) u

-- There is no field.
abbrev pub is_no_fields : Fields → Bool
is_no_fields no_fields = true
is_no_fields (field n m b fs) = false

-- Equal defaults: the canonical words are equal.
abbrev pub same_default : Option Tree → Option Tree → Bool
same_default None None = true
same_default (Some t) (Some u) = bytes_eq (canonical_words t) (canonical_words u)
same_default _ _ = false

unfoldable mutual
  -- The newer struct keeps the older.
  pub keeps : Schema → Schema → Pairs → Shape → Shape → Bool
  keeps o n pairs (shape nid w p u fs) (shape nid' w' p' u' fs') =
      nat_le w w' && nat_le p p' && keeps_union u u' && keeps_fields o n pairs (member_count fs) fs fs'

  -- The older's fields in the order of the newer's, each with the same place, value and default.
  pub keeps_fields : Schema → Schema → Pairs → ℕ → Fields → Fields → Bool
  keeps_fields o n pairs count fs no_fields = is_no_fields fs
  keeps_fields o n pairs count no_fields (field l' m' b' fs') = is_new count m' && keeps_fields o n pairs count no_fields fs'
  keeps_fields o n pairs count (field l m b fs) (field l' m' b' fs') =
      elim (is_partner l l') [
        | true ↦ same_option m m' && keeps_body o n pairs b b' && keeps_fields o n pairs count fs fs'
        | false ↦ is_new count m' && keeps_fields o n pairs count (field l m b fs) fs'
      ]

  -- The newer field keeps the older.
  pub keeps_body : Schema → Schema → Pairs → Body → Body → Bool
  keeps_body o n pairs b (void_slot j) = elim b [ void_slot i ↦ i == j | _ ↦ false ]
  keeps_body o n pairs b (plain_slot q at' d') = elim b [ plain_slot p at d ↦ related_plain o n p q && at == at' && d == d' | _ ↦ false ]
  keeps_body o n pairs b (pointer_slot j ty' d') = elim b [ pointer_slot i ty d ↦ i == j && related o n pairs ty ty' && same_default d d' | _ ↦ false ]
  keeps_body o n pairs (group_slot g) (group_slot g') = keeps o n pairs g g'
  keeps_body o n pairs b (group_slot g') = false

-- Compatible: some set of pairs has the two roots, and each of its pairs is kept and names only its pairs.
pub record IsCompatible (o n : Schema) (older newer : ℕ) : Type 0 where
  pub pairs : Pairs
  pub same_sort : o.is_group older ≡ n.is_group newer
  pub has_roots : IsTrue (has_pair pairs older newer)
  pub are_kept : IsTrue (list_all (λ p. keeps o n pairs (o.shape_of p.0) (n.shape_of p.1)) pairs)

-- Compatible with renamed fields: compatible with the older schema in the newer's words.
abbrev pub IsCompatibleWith : List Renaming → Schema → Schema → ℕ → ℕ → Type 0
IsCompatibleWith rs o n older newer = IsCompatible (renamed rs o) n older newer
