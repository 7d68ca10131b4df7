-- The pointers of a message that its root leads to.
use Rattle.std.specs.Prelude.{◌≡◌, ◌≢◌, ℕ, ◌+◌, ◌*◌, ◌<◌, ◌^◌, Bool, true, false, List, ◌++◌, AllPairs, Contains, sum_by, Some, None, Vec}
use Rattle.std.specs.declared.alloc.Global.{Global}
use Rattle.capnp_model.specs.Segments.{Segments, Place, root, after, word_at}
use Rattle.capnp_wire_objects.specs.declared.object.Object.{Object}
use Rattle.capnp_wire_objects.specs.declared.place.Place.{Place as Pointer}
use Rattle.capnp_wire_objects.specs.Places.{place_view, placed}
use Rattle.hagzimot_faults.specs.declared.steps.Step.{Step}
use Rattle.hagzimot_faults.specs.Located.{pointer_in, pointer_after}
use Rattle.hagzimot_explain.specs.declared.pointers.Pointers.{Pointers}
use Rattle.hagzimot_explain.specs.Rows.{value_of}
use Rattle.hagzimot_explain.specs.Parts.{object_there, words_of}

-- Steps lead from the root to the pointer at a place.
abbrev pub IsReached : Segments → Place → Type 0
IsReached s p = (steps : List Step) × (pointer_after s root steps ≡ Some p)

-- These are the pointers that are seen, each once if it is there.
pub record AreListed (seen : List (Vec Bool Global)) (ps : List Pointer) : Type 0 where
  pub seen_in : (p : Place) → value_of seen p ≡ Some true → Contains ps (placed p)
  pub in_seen : (p : Pointer) → Contains ps p → value_of seen (place_view p) ≢ Some false
  pub once : AllPairs (λ p q. p ≡ q → value_of seen (place_view p) ≡ None) ps

-- Pointers are added, each of which is as a test says, and all that are seen then are listed.
pub record Adds (P : Pointer → Type 0) (old new : List Pointer) (before seen : List (Vec Bool Global)) : Type 0 where
  pub more : List Pointer
  pub appends : new ≡ old ++ more
  pub each : (p : Pointer) → Contains more p → P p
  pub listed : AreListed seen new
  pub kept : (p : Place) → value_of seen p ≡ None → value_of before p ≡ None

-- The pointer is one of n in a row.
abbrev pub IsInRow : Place → ℕ → Pointer → Type 0
IsInRow first n p = (i : ℕ) × (i < n) × (p ≡ placed (after first i))

-- The pointer is one of k in each of n elements, which have d words of data.
abbrev pub IsInElements : Place → ℕ → ℕ → ℕ → Pointer → Type 0
IsInElements start n d k p = (e : ℕ) × (i : ℕ) × (e < n) × (i < k) × (p ≡ placed (after start (e * (d + k) + d + i)))

-- The pointer is one of an object's.
abbrev pub IsPointerOf : Object → Pointer → Type 0
IsPointerOf o p = (x : Step) × (pointer_in o x ≡ Some (place_view p))

-- The pointers of an object are among these.
abbrev pub HasPointersOf : Object → List Pointer → Type 0
HasPointersOf o ps = (x : Step) (q : Place) → pointer_in o x ≡ Some q → Contains ps (placed q)

-- The words that following a pointer costs: one, and those of its object.
abbrev pub step_cost : Segments → Pointer → ℕ
step_cost s p = words_of (object_there s (place_view p)) + 1

-- The pointers that the root leads to, each once if it is there: all of them, or some if following these costs more
-- words than are allowed.
pub record AreReached (s : Segments) (words : ℕ) (found : Pointers) : Type 0 where
  pub reached : (p : Pointer) → Contains found.places.items p → IsReached s (place_view p)
  pub once : AllPairs (λ p q. p ≡ q → p.segment < 2 ^ 32 → word_at s (place_view p) ≡ None) found.places.items
  pub all : found.is_cut ≡ false → (p : Place) → IsReached s p → Contains found.places.items (placed p)
  pub dear : found.is_cut ≡ true → words < sum_by (step_cost s) found.places.items
