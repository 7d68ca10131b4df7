-- What breaks the compatibility of two versions. (Schema language, "Evolving Your Protocol")
use Rattle.std.specs.Prelude.{ℕ, ◌≡◌, ◌⊎◌, ◌<◌, true, false, not, ◌==◌, Option, Some, List}
use Rattle.capnp_model.specs.Schemas.{Ty, Shape, shape, Fields, no_fields, field, Body, group_slot, id_of_shape, Schema}
use Rattle.capnp_model.specs.Partners.{Renaming, renamed, is_partner}
use Rattle.capnp_model.specs.Compatible.{Pairs, has_pair, same_option, member_count, is_new, is_no_fields, keeps_union, related, keeps}
pub use Rattle.capnp_calls_versions.specs.DueFields.{first_fields, fields_behind, due, IsDue, has_partner}
pub use Rattle.capnp_calls_versions.specs.SlotParts.{is_group_slot, type_if_slot, slot_place, same_defaults}
use Rattle.capnp_calls_versions.specs.declared.breaks.FieldRule.{FieldRule}
use Rattle.capnp_calls_versions.specs.declared.breaks.FieldRule.TheVariants as of_field
use Rattle.capnp_calls_versions.specs.declared.breaks.Rule.{Rule}
use Rattle.capnp_calls_versions.specs.declared.breaks.Rule.TheVariants as rule
use Rattle.capnp_calls_versions.specs.declared.breaks.Break.{Break}
use Rattle.capnp_calls_versions.specs.declared.root.Root.{Root}
use Rattle.capnp_calls_versions.specs.Roots.{schema_at}

-- ---- a field that does not keep its older one

-- Both are slots, of whose types this holds.
pub record AreSlots (b b' : Body) (P : Ty → Ty → Type 0) : Type 0 where
  pub older_type : Ty
  pub newer_type : Ty
  pub is_older : type_if_slot b ≡ Some older_type
  pub is_newer : type_if_slot b' ≡ Some newer_type
  pub holds : P older_type newer_type

-- The types are related where some structs are kept; or they are not, whichever are.
abbrev pub AreRelated : Schema → Schema → Ty → Ty → Type 0
AreRelated o n t u = (pairs : Pairs) × (related o n pairs t u ≡ true)

abbrev pub AreUnrelated : Schema → Schema → Ty → Ty → Type 0
AreUnrelated o n t u = (pairs : Pairs) → related o n pairs t u ≡ false

-- A newer slot or group breaks the rule.
abbrev pub BreaksBody : Schema → Schema → FieldRule → Body → Body → Type 0
BreaksBody o n of_field.Value b b' = ⊥
BreaksBody o n of_field.Kind b b' = is_group_slot b ≡ not (is_group_slot b')
BreaksBody o n of_field.Type b b' = AreSlots b b' (AreUnrelated o n)
BreaksBody o n of_field.Place b b' = AreSlots b b' (AreRelated o n) × ((slot_place b == slot_place b') ≡ false)
BreaksBody o n of_field.Default b b' = AreSlots b b' (AreRelated o n) × (same_defaults b b' ≡ false)

-- A newer field breaks the rule: a member's value, or what the field is.
abbrev pub BreaksField : Schema → Schema → FieldRule → Option ℕ → Body → Option ℕ → Body → Type 0
BreaksField o n r m b m' b' = ((r ≡ of_field.Value) × (same_option m m' ≡ false)) ⊎ BreaksBody o n r b b'

-- The first newer field is the partner of the first older one, and breaks the rule.
abbrev pub BreaksFirst : Schema → Schema → FieldRule → Fields → Fields → Type 0
BreaksFirst o n r (field l m b fs) (field l' m' b' fs') = (is_partner l l' ≡ true) × BreaksField o n r m b m' b'
BreaksFirst o n r fs fs' = ⊥

-- The first newer field may not be new beside n members, and the partner of the first older one, if
-- there is one, is further on.
abbrev pub IsTaken : ℕ → Fields → Fields → Type 0
IsTaken count fs no_fields = ⊥
IsTaken count no_fields (field l' m' b' fs') = is_new count m' ≡ false
IsTaken count (field l m b fs) (field l' m' b' fs') = (is_partner l l' ≡ false) × (has_partner l fs' ≡ true) × (is_new count m' ≡ false)

-- The first newer field is the partner of the first older one, and these are the two groups.
abbrev pub AreFirstGroups : Fields → Fields → Shape → Shape → Type 0
AreFirstGroups (field l m b fs) (field l' m' b' fs') g g' = (is_partner l l' ≡ true) × (b ≡ group_slot g) × (b' ≡ group_slot g')
AreFirstGroups fs fs' g g' = ⊥

-- ---- a pair that breaks a rule

-- The fields of a struct or a group.
abbrev pub fields_in_shape : Shape → Fields
fields_in_shape (shape id w p u fs) = fs

-- A newer struct or group breaks the rule.
abbrev pub BreaksRule : Schema → Schema → Rule → Shape → Shape → Type 0
BreaksRule o n rule.Roots g g' = ⊥
BreaksRule o n rule.Words (shape id w p u fs) (shape id' w' p' u' fs') = w' < w
BreaksRule o n rule.Pointers (shape id w p u fs) (shape id' w' p' u' fs') = p' < p
BreaksRule o n rule.Union (shape id w p u fs) (shape id' w' p' u' fs') = keeps_union u u' ≡ false
BreaksRule o n (rule.Missing i) (shape id w p u fs) (shape id' w' p' u' fs') = (due fs fs' ≡ fields_behind i fs) × (is_no_fields (fields_behind i fs) ≡ false)
BreaksRule o n (rule.Taken i k) (shape id w p u fs) (shape id' w' p' u' fs') = IsDue fs fs' i k × IsTaken (member_count fs) (fields_behind i fs) (fields_behind k fs')
BreaksRule o n (rule.Field i k r) (shape id w p u fs) (shape id' w' p' u' fs') = IsDue fs fs' i k × BreaksFirst o n r (fields_behind i fs) (fields_behind k fs')

-- A break is at two structs or groups, or at groups that are fields of them, one the partner of the other.
pub data IsBreak (o n : Schema) (b : Break) : Shape → Shape → Type 0 where
  breaks_here : (g g' : Shape) → b.older ≡ id_of_shape g → b.newer ≡ id_of_shape g' → BreaksRule o n b.rule g g' → IsBreak o n b g g'
  breaks_inside : (g g' h h' : Shape) (i k : ℕ) → IsDue (fields_in_shape g) (fields_in_shape g') i k
      → AreFirstGroups (fields_behind i (fields_in_shape g)) (fields_behind k (fields_in_shape g')) h h' → IsBreak o n b h h' → IsBreak o n b g g'

-- ---- pairs that are reached

-- Each pair of the set that may be kept is kept, and names only pairs of the set.
abbrev pub IsClosed : Schema → Schema → Pairs → Type 0
IsClosed o n pairs =
    (i j : ℕ) → has_pair pairs i j ≡ true → (more : Pairs) → keeps o n more (o.shape_of i) (n.shape_of j) ≡ true
    → keeps o n pairs (o.shape_of i) (n.shape_of j) ≡ true

-- A pair is reached from the roots: it is in each such set that has these.
abbrev pub IsReached : Schema → Schema → ℕ → ℕ → ℕ → ℕ → Type 0
IsReached o n older newer i j = (pairs : Pairs) → has_pair pairs older newer ≡ true → IsClosed o n pairs → has_pair pairs i j ≡ true

-- A break is at a pair that is reached.
pub record IsReachedBreak (o n : Schema) (older newer : ℕ) (b : Break) : Type 0 where
  pub i : ℕ
  pub j : ℕ
  pub reached : IsReached o n older newer i j
  pub breaks : IsBreak o n b (o.shape_of i) (n.shape_of j)

-- One root is a group, and the other is none.
pub record AreOfOtherSorts (o n : Schema) (older newer : ℕ) (b : Break) : Type 0 where
  pub at_roots : b.rule ≡ rule.Roots
  pub is_older : b.older ≡ older
  pub is_newer : b.newer ≡ newer
  pub sorts : o.is_group older ≡ not (n.is_group newer)

-- What breaks the compatibility with the older schema in the newer's words.
abbrev pub BreaksFrom : Schema → Schema → ℕ → ℕ → Break → Type 0
BreaksFrom o n older newer b = AreOfOtherSorts o n older newer b ⊎ IsReachedBreak o n older newer b

-- What breaks the compatibility from two roots on, where fields are renamed.
abbrev pub IsBreakFrom : List Renaming → Root → Root → Break → Type 0
IsBreakFrom rs older newer b = BreaksFrom (renamed rs (schema_at older)) (schema_at newer) older.id newer.id b
