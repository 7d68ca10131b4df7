-- How many of an object's own words a canonical message keeps.
use Rattle.std.specs.Prelude.{◌≡◌, ℕ, zero, suc, max, ◌==◌, if◌then◌else◌, List, [], ◌∷◌}
use Rattle.capnp_model.specs.Sections.{needed_words}
use Rattle.capnp_model.specs.Segments.{Segments, Place, after}
use Rattle.capnp_wire_objects.specs.Inside.{section_at, words_there}

-- A word before n that are kept.
abbrev pub keeps : ℕ → ℕ → ℕ
keeps w zero = if w == 0 then 0 else 1
keeps w (suc n) = suc (suc n)

-- The words without zeros at the end.
abbrev pub kept : List ℕ → ℕ
kept [] = 0
kept (w ∷ ws) = keeps w (kept ws)

-- The most that is needed at n places, each so far from the next.
abbrev pub widest : (Place → ℕ) → Place → ℕ → ℕ → ℕ
widest needed p width zero = 0
widest needed p width (suc n) = max (needed p) (widest needed (after p width) width n)

-- The last of n words is no zero, where there is one: as data all of them are needed, as pointers
-- all are kept.
pub record NeedsAll (s : Segments) (p : Place) (n : ℕ) : Type 0 where
  pub needed : needed_words n (section_at s p n) ≡ n
  pub all_kept : kept (words_there s p n) ≡ n

-- A struct of n words and pointers can't do with fewer.
abbrev pub IsLeast : Segments → Place → ℕ → ℕ → Type 0
IsLeast s p d k = (needed_words d (section_at s p d) ≡ d) × (kept (words_there s (after p d) k) ≡ k)
