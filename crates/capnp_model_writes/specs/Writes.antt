-- Words written in place of others, and new words.
use Rattle.std.specs.Prelude.{ℕ, zero, suc, List, [], ◌∷◌, ◌++◌, length, replicate}
use Rattle.capnp_model.specs.Segments.{Segments, Place, place}

-- The words with others in place of as many from the kth on; past the last word nothing is written.
unfoldable pub spliced : ℕ → List ℕ → List ℕ → List ℕ
spliced k vs [] = []
spliced zero [] (x ∷ xs) = x ∷ xs
spliced zero (v ∷ vs) (x ∷ xs) = v ∷ spliced zero vs xs
spliced (suc k) vs (x ∷ xs) = x ∷ spliced k vs xs

-- The segments with words written in place of as many in the ith, from its kth word on.
abbrev pub spliced_in : Segments → ℕ → ℕ → List ℕ → Segments
spliced_in [] i k vs = []
spliced_in (xs ∷ s) zero k vs = spliced k vs xs ∷ s
spliced_in (xs ∷ s) (suc i) k vs = xs ∷ spliced_in s i k vs

-- The segments with these words from a place on, in place of as many that are there.
unfoldable pub with_words : Segments → Place → List ℕ → Segments
with_words s p vs = spliced_in s p.segment p.position vs

-- The segments with n words zero from a place on.
abbrev pub zeroed : Segments → Place → ℕ → Segments
zeroed s p n = with_words s p (replicate n 0)

-- The segments with n zero words behind the ith, which is a new one where there were exactly i.
unfoldable pub with_zeros : Segments → ℕ → ℕ → Segments
with_zeros [] i n = replicate n 0 ∷ []
with_zeros (xs ∷ s) zero n = (xs ++ replicate n 0) ∷ s
with_zeros (xs ∷ s) (suc i) n = xs ∷ with_zeros s i n

-- Where the ith segment ends, 0 of one that isn't there.
unfoldable pub segment_end : Segments → ℕ → ℕ
segment_end [] i = 0
segment_end (xs ∷ s) zero = length xs
segment_end (xs ∷ s) (suc i) = segment_end s i

-- Where the ith segment ends, as a place: new words of the segment begin there.
abbrev pub place_of_end : Segments → ℕ → Place
place_of_end s i = place i (segment_end s i)
