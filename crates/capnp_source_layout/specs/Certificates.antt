-- How slots are checked: in an order, and in the places that the members of a union share.
use Rattle.std.specs.Prelude.{ℕ, ◌≡◌, ◌+◌, ◌<◌, ◌≤◌, ◌⊎◌, ◌++◌, Some, List, All, length, slice_index, slice_index_or}
use Rattle.capnp_source_layout.specs.declared.slots.Slot.{Slot}
use Rattle.capnp_source_layout.specs.declared.structs.Scope.{Scope}
use Rattle.capnp_source_layout.specs.Slots.{no_slot, union_at, around}

abbrev pub slot_at : List Slot → ℕ → Slot
slot_at slots n = slice_index_or slots n (no_slot 0)

-- A slot comes before another: its scope does, or it ends where the other begins or earlier.
abbrev pub Precedes : Slot → Slot → Type 0
Precedes a b = (a.start ≤ a.end) × ((a.scope < b.scope) ⊎ ((a.scope ≡ b.scope) × (a.end ≤ b.start)))

-- A list of slots by their numbers, each before the next.
abbrev pub AreInOrder : List Slot → List ℕ → Type 0
AreInOrder slots order = (k : ℕ) → k + 1 < length order → Precedes (slot_at slots (slice_index order k)) (slot_at slots (slice_index order (k + 1)))

-- Each number has a place in the list, so that no two share one.
abbrev pub AreRanks : List ℕ → List ℕ → Type 0
AreRanks order ranks = (n : ℕ) → n < length ranks → (slice_index ranks n < length order) × (slice_index order (slice_index ranks n) ≡ n)

-- A slot of a member of a union lies in a place that the members share.
pub record IsHeldBy (scopes : List Scope) (slot home : Slot) : Type 0 where
  pub union : ℕ
  pub is_member : union_at scopes slot.scope ≡ Some union
  pub is_shared : home.shared_by ≡ Some union
  pub is_around : home.scope ≡ around scopes slot.scope
  pub is_before : home.scope < slot.scope
  pub start : home.start ≤ slot.start
  pub end : slot.end ≤ home.end

-- A slot is the struct's own, or takes no bit, or lies in such a place.
abbrev pub IsHeld : List Scope → List Slot → Slot → Type 0
IsHeld scopes slots slot = (slot.scope ≡ 0) ⊎ (slot.end ≤ slot.start) ⊎ ((n : ℕ) × (n < length slots) × IsHeldBy scopes slot (slot_at slots n))

-- Slots that were checked.
pub record AreChecked (scopes : List Scope) (slots : List Slot) (numbers places : List ℕ) : Type 0 where
  pub order : AreInOrder slots numbers
  pub ranks : AreRanks numbers places
  pub all : length places ≡ length slots
  pub held : All (IsHeld scopes slots) slots

-- Slots that others were added to.
abbrev pub Extends : List Slot → List Slot → Type 0
Extends old new = (more : List Slot) × (new ≡ old ++ more)
