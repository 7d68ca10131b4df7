-- Where segments end.
use Rattle.std.proofs.Common.{◌≡◌, ℕ, zero, suc, ◌+◌, ◌<◌, ◌≤◌, List, [], ◌∷◌, length, Some, true, arith}
use Rattle.std.specs.List.{slice_get}
use Rattle.std.specs.Option.{is_some}
use Rattle.capnp_model.specs.Segments.{Segments, place, word_at}
use Rattle.capnp_model_writes.specs.Writes.{segment_end}
use Rattle.capnp_copy_arenas.specs.Allocations.{total_words}

pub get_short : (xs : List ℕ) (k : ℕ) → is_some (slice_get xs k) ≡ true → k < length xs
get_short [] k e = absurd cc
get_short (x ∷ xs) zero e = omega arith
get_short (x ∷ xs) (suc k) e = let l = get_short xs k e in omega (arith, l)

pub word_before_end : (s : Segments) (i k : ℕ) → is_some (word_at s (place i k)) ≡ true → k < segment_end s i
unfolding segment_end
word_before_end [] i k e = absurd cc
word_before_end (xs ∷ s) zero k e = get_short xs k e
word_before_end (xs ∷ s) (suc i) k e = word_before_end s i k e

pub end_within : (s : Segments) (i : ℕ) → segment_end s i ≤ total_words s
unfolding segment_end total_words
end_within [] i = omega arith
end_within (xs ∷ s) zero = omega arith
end_within (xs ∷ s) (suc i) = let l = end_within s i in omega (arith, l)
