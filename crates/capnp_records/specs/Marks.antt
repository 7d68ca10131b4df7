-- Which bits and pointers are taken so far.
use Rattle.std.specs.Prelude.{ℕ, ◌≡◌, ◌+◌, ◌<◌, ◌≤◌, max, Bool, true, false, ◌&&◌, ◌==◌, nat_lt, nat_le, List, get_or}
use Rattle.std.specs.List.{list_any}
use Rattle.capnp_model.specs.Accepted.{Area, bit_area, pointer_area}
use Rattle.capnp_records.specs.declared.marks.Marks.{Marks}

-- The area has the pointer, or the bit, of a number.
abbrev pub has : Area → Bool → ℕ → Bool
has (bit_area a n) false k = nat_le a k && nat_lt k (a + n)
has (bit_area a n) true k = false
has (pointer_area i) false k = false
has (pointer_area i) true k = i == k

-- One of the areas has it.
abbrev pub covers : List Area → Bool → ℕ → Bool
covers xs pointer k = list_any (λ a. has a pointer k) xs

-- The mark of the pointer, or the bit, of a number.
abbrev pub mark_at : Marks → Bool → ℕ → ℕ
mark_at m false k = get_or m.bits.items k 0
mark_at m true k = get_or m.pointers.items k 0

-- No mark of the areas is above the highest.
abbrev pub AllowsAll : Marks → List Area → ℕ → Type 0
AllowsAll m xs most = (pointer : Bool) (k : ℕ) → covers xs pointer k ≡ true → mark_at m pointer k ≤ most

-- A mark of the areas is above it.
pub record HasMarkAbove (m : Marks) (xs : List Area) (most : ℕ) : Type 0 where
  pub pointer : Bool
  pub number : ℕ
  pub covered : covers xs pointer number ≡ true
  pub above : most < mark_at m pointer number

-- The areas are marked by at least the level, and nothing else is changed.
abbrev pub MarksAreas : Marks → Marks → List Area → ℕ → Type 0
MarksAreas old new xs level = (pointer : Bool) (k : ℕ) → mark_at new pointer k ≡ elim (covers xs pointer k) [ true ↦ max level (mark_at old pointer k) | false ↦ mark_at old pointer k ]

-- Marks of one kind in a row are at most the highest from a place up to another, or one is above it.
abbrev pub AllAtMost : List ℕ → ℕ → ℕ → ℕ → Type 0
AllAtMost marks first end most = (k : ℕ) → first ≤ k → k < end → get_or marks k 0 ≤ most

pub record OneAbove (marks : List ℕ) (first end most : ℕ) : Type 0 where
  pub place : ℕ
  pub behind : first ≤ place
  pub before : place < end
  pub above : most < get_or marks place 0

-- Marks in a row are at least the level from a place up to another, and else as they were.
pub record Raised (old new : List ℕ) (first end level : ℕ) : Type 0 where
  pub inside : (k : ℕ) → first ≤ k → k < end → get_or new k 0 ≡ max level (get_or old k 0)
  pub below : (k : ℕ) → k < first → get_or new k 0 ≡ get_or old k 0
  pub behind : (k : ℕ) → end ≤ k → get_or new k 0 ≡ get_or old k 0

-- The highest mark that a field may meet: a member may meet other members.
abbrev pub most_mark : Bool → ℕ
most_mark true = 1
most_mark false = 0

-- The mark of what a field takes.
abbrev pub level_mark : Bool → ℕ
level_mark true = 1
level_mark false = 2
