-- The words that belong to a value. A pointer lies in the object that holds it, so it isn't counted apart from that object; `cover` of the model counts it twice.
use Rattle.std.specs.Prelude.{◌≡◌, ℕ, zero, suc, ◌+◌, ◌≤◌, List, [], ◌∷◌, ◌++◌, Some}
use Rattle.capnp_model.specs.Segments.{Segments, Place}
use Rattle.capnp_model.specs.Pointers.{Object, nothing, a_struct, a_list, a_capability, found_at}
use Rattle.capnp_model.specs.Trees.{Tree}
use Rattle.capnp_model.specs.Traversal.{list_kind, list_words, tree_of, tree_at}
use Rattle.capnp_model.specs.Coverage.{Span, span, pads_at, covered_object, covered_found, times_held}

-- What lies behind the pointer at a place, n levels deep: its pads, the object, and what lies behind the object's pointers.
unfoldable pub behind : ℕ → Segments → Place → List Span
behind zero s p = pads_at s p
behind (suc n) s p = pads_at s p ++ covered_found (covered_object s (behind n s)) (found_at s p)

-- How often the value at the first place takes the word at the second: its pointer, and what lies behind it.
abbrev pub footprint : ℕ → Segments → Place → Place → ℕ
footprint n s p q = times_held (span p 1 ∷ behind n s p) q

-- How often an object takes the word at a place: its own words, in which its pointers lie, and what
-- these lead to.
abbrev pub object_footprint : ℕ → Segments → Object → Place → ℕ
object_footprint n s o q = times_held (covered_object s (behind n s) o) q

-- The words of an object itself.
abbrev pub own_words : Object → List Span
own_words nothing = []
own_words (a_capability i) = []
own_words (a_struct p d k) = span p (d + k) ∷ []
own_words (a_list p size count) = span p (list_words (list_kind size) size count) ∷ []

-- The value at a place, read n levels deep, and no word of it is taken twice.
pub record Owns (n : ℕ) (s : Segments) (p : Place) (t : Tree) : Type 0 where
  pub means : tree_at n s p ≡ Some t
  pub apart : (q : Place) → footprint n s p q ≤ 1

-- The value of an object whose pointers are read n levels deep, and no word of it is taken twice.
pub record OwnsObject (n : ℕ) (s : Segments) (o : Object) (t : Tree) : Type 0 where
  pub means : tree_of s (tree_at n s) o ≡ Some t
  pub apart : (q : Place) → object_footprint n s o q ≤ 1
