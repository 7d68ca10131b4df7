-- What the layout of a struct promises. (Cap'n Proto's language document, "Unions" and "Groups"; encoding document, "Structs")
use Rattle.std.specs.Prelude.{ℕ, zero, suc, ◌≡◌, ◌≢◌, ◌+◌, ◌*◌, ◌<◌, ◌≤◌, Bool, true, false, Option, Some, None, List, [], ◌∷◌, ◌++◌, All, AllPairs, MatchBool, slice_index_or}
use Rattle.capnp_source_layout.specs.declared.sections.DataSize.{DataSize}
use Rattle.capnp_source_layout.specs.declared.sections.DataSize.TheVariants as D
use Rattle.capnp_source_layout.specs.declared.slots.Slot.{Slot}
use Rattle.capnp_source_layout.specs.declared.structs.FieldSize.TheVariants as F
use Rattle.capnp_source_layout.specs.declared.structs.Layout.{Layout}
use Rattle.capnp_source_layout.specs.declared.structs.Scope.{Scope}
use Rattle.capnp_source_layout.specs.declared.structs.Scope.TheVariants as S
use Rattle.capnp_source_layout.specs.declared.structs.Step.{Step}
use Rattle.capnp_source_layout.specs.declared.structs.Step.TheVariants as T

-- The number of bits of a field in a data section.
abbrev pub bits_of : DataSize → ℕ
bits_of D.Bit = 1
bits_of D.Byte = 8
bits_of D.TwoBytes = 16
bits_of D.FourBytes = 32
bits_of D.EightBytes = 64

-- Slots in bits from the struct's start. The pointers come after the words of the data section.
abbrev pub no_slot : ℕ → Slot
no_slot scope = record { scope = scope; is_pointer = false; start = 0; end = 0; shared_by = None }

abbrev pub data_slot : ℕ → ℕ → ℕ → Slot
data_slot scope bits offset = record { scope = scope; is_pointer = false; start = offset * bits; end = offset * bits + bits; shared_by = None }

abbrev pub pointer_slot : ℕ → ℕ → ℕ → Slot
pointer_slot words scope index = record { scope = scope; is_pointer = true; start = (words + index) * 64; end = (words + index) * 64 + 64; shared_by = None }

-- The slot of a step. A void takes no bit, and neither does a union's ordinal beside the union's discriminant.
abbrev pub slot_of : ℕ → Step → ℕ → Slot
slot_of words (T.Field scope F.Void) offset = no_slot scope
slot_of words (T.Field scope (F.Data size)) offset = data_slot scope (bits_of size) offset
slot_of words (T.Field scope F.Pointer) offset = pointer_slot words scope offset
slot_of words (T.Discriminant union) offset = no_slot 0

-- The slots of the fields, in the order of their ordinals.
abbrev pub field_slots : ℕ → List Step → List ℕ → List Slot
field_slots words [] offsets = []
field_slots words (step ∷ steps) [] = []
field_slots words (step ∷ steps) (offset ∷ offsets) = slot_of words step offset ∷ field_slots words steps offsets

-- The slot of a union's discriminant: 16 bits in the scope that the union is in.
abbrev pub discriminant_slot : Scope → Option ℕ → List Slot
discriminant_slot (S.Union parent) (Some offset) = data_slot parent 16 offset ∷ []
discriminant_slot (S.Union parent) None = []
discriminant_slot S.Struct discriminant = []
discriminant_slot (S.Member union) discriminant = []

abbrev pub discriminant_slots : List Scope → List (Option ℕ) → List Slot
discriminant_slots [] discriminants = []
discriminant_slots (scope ∷ scopes) [] = []
discriminant_slots (scope ∷ scopes) (discriminant ∷ discriminants) = discriminant_slot scope discriminant ++ discriminant_slots scopes discriminants

-- All slots of a struct: those of its fields and of its unions' discriminants.
abbrev pub slots_of : List Scope → List Step → Layout → List Slot
slots_of scopes steps layout = field_slots layout.data_words steps layout.offsets.items ++ discriminant_slots scopes layout.discriminants.items

-- The union that a scope is a member of.
abbrev pub union_of : Scope → Option ℕ
union_of (S.Member union) = Some union
union_of S.Struct = None
union_of (S.Union parent) = None

abbrev pub parent_of : Scope → ℕ → ℕ
parent_of (S.Union parent) scope = parent
parent_of S.Struct scope = scope
parent_of (S.Member union) scope = scope

abbrev pub scope_at : List Scope → ℕ → Scope
scope_at scopes scope = slice_index_or scopes scope S.Struct

-- The scope around a scope: of a member of a union, the scope that the union is in.
abbrev pub around_in : List Scope → Option ℕ → ℕ → ℕ
around_in scopes None scope = scope
around_in scopes (Some union) scope = parent_of (scope_at scopes union) scope

abbrev pub union_at : List Scope → ℕ → Option ℕ
union_at scopes scope = union_of (scope_at scopes scope)

abbrev pub around : List Scope → ℕ → ℕ
around scopes scope = around_in scopes (union_at scopes scope) scope

-- The scope that a number of unions outward leads to.
abbrev pub outward : List Scope → ℕ → ℕ → ℕ
outward scopes zero scope = scope
outward scopes (suc unions) scope = outward scopes unions (around scopes scope)

-- Two scopes are in different members of one union, or are such members.
pub record AreAlternatives (scopes : List Scope) (a b : ℕ) : Type 0 where
  pub union : ℕ
  pub from_a : ℕ
  pub from_b : ℕ
  pub one : union_at scopes (outward scopes from_a a) ≡ Some union
  pub other : union_at scopes (outward scopes from_b b) ≡ Some union
  pub differ : outward scopes from_a a ≢ outward scopes from_b b

-- Two slots have a bit in common.
abbrev pub Overlap : Slot → Slot → Type 0
Overlap a b = (bit : ℕ) × (a.start ≤ bit) × (bit < a.end) × (b.start ≤ bit) × (bit < b.end)

-- A slot ends within its section.
abbrev pub IsInside : ℕ → ℕ → Slot → Type 0
IsInside words pointers slot = MatchBool slot.is_pointer (slot.end ≤ (words + pointers) * 64) (slot.end ≤ words * 64)

-- Slots that overlap are in different members of one union.
abbrev pub AreApart : List Scope → Slot → Slot → Type 0
AreApart scopes a b = Overlap a b → AreAlternatives scopes a.scope b.scope

-- Each field and each discriminant is in its section, and shares bits only with those of other members of a union.
pub record IsLaidOut (scopes : List Scope) (steps : List Step) (layout : Layout) : Type 0 where
  pub inside : All (IsInside layout.data_words layout.pointers) (slots_of scopes steps layout)
  pub apart : AllPairs (AreApart scopes) (slots_of scopes steps layout)
