-- Segments of used words can be written.
use Rattle.std.proofs.Common.{◌≡◌, refl, ◌≢◌, ◌↔◌, ℕ, zero, suc, ◌+◌, ◌*◌, ◌<◌, ◌≤◌, ◌^◌, List, [], ◌∷◌, length, map, slice_index_or, arith}
use Rattle.std.specs.List.{All}
use Rattle.std.proofs.lemmas.List.{length-map}
use Rattle.std.proofs.lemmas.List.Elements.{All-map}
use Rattle.capnp_model.specs.Segments.{Segments}
use Rattle.capnp_model_writes.specs.Writes.{with_zeros}
use Rattle.capnp_copy_arenas.specs.Allocations.{total_of, total_words, Allocates}
use Rattle.capnp_units.specs.declared.kinds.ErrorKind.{ErrorKind}
use Rattle.capnp_units.specs.declared.kinds.ErrorKind.TheVariants.{SizeOverflow}
use Rattle.capnp_stream.specs.Writing.{IsSegment, AreWritable}

each_at_most : {X : Type 0} (u : X → ℕ) (xs : List X) (k : ℕ) (d : X) → k < length xs → u (slice_index_or xs k d) ≤ total_of u xs
unfolding total_of
each_at_most u [] k d l = absurd (omega (arith, l))
each_at_most u (x ∷ xs) zero d l = omega arith
each_at_most u (x ∷ xs) (suc k) d l = omega (arith, each_at_most u xs k d (omega (arith, l)))

all_segments : {X : Type 0} (f : X → List ℕ) (u : X → ℕ) (xs : List X) → ((x : X) → length (f x) ≡ 8 * u x) → total_of u xs < 2 ^ 29 → All IsSegment (map f xs)
all_segments f u xs h t =
    All-map IsSegment f xs (λ k d l. let e = h (slice_index_or xs k d) in let m = each_at_most u xs k d l in (omega (arith, e), omega (arith, e, m, t)))

-- each is of so many words, together fewer than 2 ^ 29
pub writable : {X : Type 0} (f : X → List ℕ) (u : X → ℕ) (xs : List X) → ((x : X) → length (f x) ≡ 8 * u x) → 0 < length xs → length xs < 2 ^ 32 → total_of u xs < 2 ^ 29 → AreWritable (map f xs)
writable f u xs h some few t = record { some = omega (arith, some, length-map xs f); few = omega (arith, few, length-map xs f); words = all_segments f u xs h t }

-- the first word of a message
pub root_made : (s u : Segments) (i at : ℕ) → s ≡ [] → Allocates s u i at 1 → u ≡ (0 ∷ []) ∷ []
unfolding with_zeros
root_made [] u i at e a = a.now
root_made (x ∷ s) u i at e a = absurd cc

-- one word more than none is no word too many
pub not_too_many : (s : Segments) (k : ErrorKind) → s ≡ [] → ((k ≡ SizeOverflow) ↔ (2 ^ 29 ≤ total_words s + 1)) → k ≢ SizeOverflow
unfolding total_words
not_too_many [] k e f q = absurd (omega (arith, f.0 q))
not_too_many (x ∷ s) k e f q = absurd cc

-- no items where their count is none
pub no_items : {X : Type 0} (xs : List X) (n : ℕ) → n ≡ 0 → n ≡ length xs → xs ≡ []
no_items [] n z l = refl
no_items (x ∷ xs) n z l = absurd (omega (arith, z, l))
