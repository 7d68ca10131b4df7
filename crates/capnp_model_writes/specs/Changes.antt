-- What writing changes: one value becomes another, and nothing else.
use Rattle.std.specs.Prelude.{◌≡◌, ℕ, ◌+◌, ◌<◌, ◌≤◌, [], ◌∷◌, if◌then◌else◌, Some, Ok}
use Rattle.std.specs.Option.{is_some}
use Rattle.capnp_model.specs.Sections.{bits_at}
use Rattle.capnp_model.specs.Segments.{Segments, Place, place, word_at}
use Rattle.capnp_model.specs.Pointers.{Object, Found, found_at}
use Rattle.capnp_model.specs.Trees.{Tree}
use Rattle.capnp_model.specs.Traversal.{tree_of, tree_at}
use Rattle.capnp_model.specs.Coverage.{Grows, span, times_held}
use Rattle.capnp_model_writes.specs.Footprints.{footprint, object_footprint}

-- 1 where there is no word.
unfoldable pub absent : Segments → Place → ℕ
absent s q = if is_some (word_at s q) then 0 else 1

-- From the earlier segments to the later, what c counted is replaced by what d counts. All else
-- that was there is kept. d takes words of c and new ones. The words of c and the new ones that d
-- leaves are zero.
pub record Changes (s u : Segments) (c d : Place → ℕ) : Type 0 where
  pub grows : Grows s u
  pub kept : (q : Place) (w : ℕ) → word_at s q ≡ Some w → c q ≡ 0 → word_at u q ≡ Some w
  pub within : (q : Place) → d q ≤ c q + absent s q
  pub cleared : (q : Place) (w : ℕ) → word_at u q ≡ Some w → d q ≡ 0 → 0 < c q + absent s q → w ≡ 0

-- What c counts becomes zero, and nothing else changes.
abbrev pub Clears : Segments → Segments → (Place → ℕ) → Type 0
Clears s u c = Changes s u c (λ q. 0)

-- The value at a place becomes t, and nothing else changes.
pub record Replaces (n : ℕ) (s u : Segments) (p : Place) (t : Tree) : Type 0 where
  pub means : tree_at n u p ≡ Some t
  pub changes : Changes s u (footprint n s p) (footprint n u p)

-- The value of an object becomes t, and nothing else changes.
pub record ReplacesObject (n : ℕ) (s u : Segments) (o : Object) (t : Tree) : Type 0 where
  pub means : tree_of u (tree_at n u) o ≡ Some t
  pub changes : Changes s u (object_footprint n s o) (object_footprint n u o)

-- What belonged to an object is replaced by k words at a place, and nothing else changes.
abbrev pub TakesWords : ℕ → Segments → Segments → Object → Place → ℕ → Type 0
TakesWords n s u o p k = Changes s u (object_footprint n s o) (times_held (span p k ∷ []))

-- Every word that c doesn't count is zero.
abbrev pub ZeroBeside : Segments → (Place → ℕ) → Type 0
ZeroBeside s c = (q : Place) (w : ℕ) → word_at s q ≡ Some w → c q ≡ 0 → w ≡ 0

-- The pointer at a place leads to what was found, and its pads, where it has any, begin at this place.
pub record Leads (s : Segments) (p pad : Place) (f : Found) : Type 0 where
  pub found : found_at s p ≡ Ok f
  pub word : ℕ
  pub there : word_at s p ≡ Some word
  pub pad_is : pad ≡ place (bits_at 32 32 word) (bits_at 3 29 word)
