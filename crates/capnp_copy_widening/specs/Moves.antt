-- Words and values that move within the segments of an arena.
use Rattle.std.specs.Prelude.{◌≡◌, ℕ, ◌+◌, ◌-◌, ◌*◌, ◌%◌, ◌^◌, ◌<◌, ◌≤◌, List, [], ◌∷◌, ◌++◌, Option, Some, None, Ok, true}
use Rattle.std.specs.Option.{is_some}
use Rattle.capnp_model.specs.Segments.{Segments, Place, words_at}
use Rattle.capnp_model.specs.Pointers.{Object, nothing, a_struct, a_list, a_capability, Found, found_at}
use Rattle.capnp_model.specs.Trees.{Tree, Trees, none, resized}
use Rattle.capnp_model.specs.Coverage.{Span, span, times_held}
use Rattle.capnp_wire_objects.specs.Places.{place_view}
use Rattle.capnp_wire_objects.specs.declared.place.Place as code
use Rattle.capnp_model_writes.specs.Rows.{IsRowOf}
use Rattle.capnp_model_writes.specs.Detached.{Detached, Moves, IsMovable}
use Rattle.capnp_model_writes.specs.NewObjects.{pointed, pointed_double_far}
use Rattle.capnp_model_writes.specs.Writes.{with_words}

-- The words at the first place are written at the second, where no word lies in both.
abbrev pub CopiesWords : Segments → Segments → Place → Place → ℕ → Type 0
CopiesWords s u from to n = (ws : List ℕ) → words_at s from n ≡ Some ws → ((q : Place) → times_held (span from n ∷ (span to n ∷ [])) q ≤ 1) → u ≡ with_words s to ws

-- The pads of two words for n pointers, `None` where the pointers take none.
abbrev pub pads_of : Option code.Place → ℕ → List Span
pads_of None k = []
pads_of (Some p) k = span (place_view p) (2 * k) ∷ []

-- The pads' words are there.
abbrev pub HasPads : Segments → Option code.Place → ℕ → Type 0
HasPads s None k = Unit {0}
HasPads s (Some p) k = (is_some (words_at s (place_view p) (2 * k)) ≡ true) × (p.position + 2 * k < 2 ^ 29)

-- A pointer takes no pad only in the segment of what it leads to.
abbrev pub HasPadIfFar : Option code.Place → ℕ → ℕ → Type 0
HasPadIfFar None i j = i ≡ j
HasPadIfFar (Some p) i j = Unit {0}

-- The offset of thirty bits with sign from a pointer at the first place to the second. (Encoding, "Structs")
abbrev pub offset_to : Place → Place → ℕ
offset_to p r = (r.position + 2 ^ 30 - (p.position + 1)) % 2 ^ 30

-- A pointer whose word is told with offset 0 is written, to an object in its segment or over a pad of two words.
abbrev pub pointed_at : Segments → Place → Place → Option code.Place → ℕ → Segments
pointed_at s p r None w = pointed s p (w + 4 * offset_to p r)
pointed_at s p r (Some pad) w = pointed_double_far s p (place_view pad) r w

-- Whatever value can move from the first place to the second moves there.
abbrev pub MovesValue : Segments → Segments → Place → Place → List Span → Type 0
MovesValue s u a b spare = (n w : ℕ) (f : Found) (t : Tree) → IsMovable n s a b spare w f t → Moves n s u a b spare t

-- Whatever object has a row of n pointers at the first place, and whatever object beside it has a
-- row of nulls at the second. The values move to the first of the nulls, and the pointer to the
-- first object leads there still.
abbrev pub MovesRow : Segments → Segments → Place → Place → ℕ → List Span → Type 0
MovesRow s u a b k pads =
    (n m : ℕ) (z : Segments) (p : Place) (f : Found) (o : Object) (v v' : Trees → Tree) (kids : Trees) (spare : List Span)
    → k ≤ m → IsRowOf n f.object a k v → IsRowOf n o b m v' → found_at s p ≡ Ok f → Detached n z s p (v kids) (pads ++ spare) o (v' (resized m none))
    → Detached n z u p (v (resized k none)) spare o (v' (resized m kids)) × (found_at u p ≡ Ok f)

-- Where a struct or a list begins.
abbrev pub start_of : Object → Option Place
start_of (a_struct p d k) = Some p
start_of (a_list p size n) = Some p
start_of nothing = None
start_of (a_capability i) = None

-- The pads from the ith on.
abbrev pub pad_from : Option code.Place → ℕ → Option code.Place
pad_from None i = None
pad_from (Some p) i = Some (record { segment = p.segment; position = p.position + 2 * i })

-- Its position can be told.
abbrev pub IsNearPad : Option code.Place → ℕ → Type 0
IsNearPad None i = Unit {0}
IsNearPad (Some p) i = p.position + 2 * i < 2 ^ 61

-- The segments of a pad and of what it leads to can be told.
abbrev pub AreNamed : Option code.Place → ℕ → Type 0
AreNamed None i = Unit {0}
AreNamed (Some p) i = (p.segment < 2 ^ 32) × (i < 2 ^ 32)
