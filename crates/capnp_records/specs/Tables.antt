-- Where fields stand in the list of their struct, and nodes in that of their set.
use Rattle.std.specs.Prelude.{ℕ, zero, suc, ◌≡◌, ◌==◌, ◌<◌, nat_lt, Bool, true, false, if◌then◌else◌, Option, Some, None, List, [], ◌∷◌, length, slice_get}
use Rattle.std.specs.List.{list_all, list_any}
use Rattle.std.specs.List.Sorted.{IsSorted}
use Rattle.std.specs.Ordering.{nat_cmp}
use Rattle.std.specs.Cmp.Lexicographic.{slice_cmp}
use Rattle.capnp_model.specs.Schemas.{Field, StructNode, NodeKind, struct_node, enum_node, Node}
use Rattle.capnp_model.specs.Accepted.{fields_of_kind}
use Rattle.capnp_records.specs.declared.tables.FieldTables.{FieldTables}

-- The field is the union member of a value.
abbrev pub is_member_at : ℕ → Field → Bool
is_member_at d f = elim f.member [ None ↦ false | Some m ↦ m == d ]

-- The place of the first member of a value, from a place on; 0 without one.
abbrev pub place_from : ℕ → ℕ → List Field → ℕ
place_from d i [] = 0
place_from d i (f ∷ fs) = if is_member_at d f then i else place_from d (suc i) fs

-- The places of n members, by their values from one on.
abbrev pub members_from : List Field → ℕ → ℕ → List ℕ
members_from fs d zero = []
members_from fs d (suc n) = place_from d 0 fs ∷ members_from fs (suc d) n

-- The places of the fields that are no members, from a place on.
abbrev pub others_from : ℕ → List Field → List ℕ
others_from i [] = []
others_from i (f ∷ fs) = elim f.member [ None ↦ i ∷ others_from (suc i) fs | Some m ↦ others_from (suc i) fs ]

-- The places of a node's members, by value.
abbrev pub members_in : NodeKind → List ℕ
members_in (struct_node s) = members_from s.fields 0 s.discriminant_count
members_in (enum_node es) = []

-- The places of a node's other fields, in order.
abbrev pub others_in : NodeKind → List ℕ
others_in (struct_node s) = others_from 0 s.fields
others_in (enum_node es) = []

-- The name of the field at a place; without a field no bytes.
abbrev pub name_at : List Field → ℕ → List ℕ
name_at fs i = elim (slice_get fs i) [ None ↦ [] | Some f ↦ f.name ]

-- The names of fields with their places, from a place on.
abbrev pub named_from : ℕ → List Field → List (List ℕ × ℕ)
named_from i [] = []
named_from i (f ∷ fs) = (f.name, i) ∷ named_from (suc i) fs

-- The places of all fields, in the order of their names' bytes.
pub record AreByName (fs : List Field) (places : List ℕ) : Type 0 where
  pub count : length places ≡ length fs
  pub inside : list_all (λ i. nat_lt i (length fs)) places ≡ true
  pub every : (i : ℕ) → i < length fs → list_any (λ k. k == i) places ≡ true
  pub ascending : IsSorted (λ i k. slice_cmp nat_cmp (name_at fs i) (name_at fs k)) places

-- In each node's table are its fields' places in the order of their names.
abbrev pub AreNodesByName : List Node → List FieldTables → Type 0
AreNodesByName nodes ts = (k : ℕ) (n : Node) (t : FieldTables) → slice_get nodes k ≡ Some n → slice_get ts k ≡ Some t → AreByName (fields_of_kind n.kind) t.by_name.items

-- The place of the first node of an id, from a place on.
abbrev pub node_place : ℕ → ℕ → List Node → Option ℕ
node_place id i [] = None
node_place id i (n ∷ ns) = if n.id == id then Some i else node_place id (suc i) ns

-- The tables of what a node says of a struct or a group.
pub record AreTablesOf (s : StructNode) (t : FieldTables) : Type 0 where
  pub members : t.members.items ≡ members_from s.fields 0 s.discriminant_count
  pub others : t.others.items ≡ others_from 0 s.fields
  pub by_name : AreByName s.fields t.by_name.items
