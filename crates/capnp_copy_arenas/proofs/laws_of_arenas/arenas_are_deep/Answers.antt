use Rattle.std.proofs.Common.{◌≡◌, ℕ, ◌+◌, ◌*◌, [], ◌∷◌, length, map, take, refl, ap, arith}
use Rattle.capnp_model.specs.Segments.{Segments}
use Rattle.capnp_units.specs.Segments.{words_in}
use Rattle.capnp_model_writes.specs.Totals.{words_of_segments}
use Rattle.capnp_copy_arenas.specs.Allocations.{total_words}
use Rattle.capnp_copy_arenas.proofs.HeldWords.{used_length, total_is}
use Rattle.capnp_copy_arenas.proofs.laws_of_arenas.arenas_are_deep.Goals as goal

words_are_total : (s : Segments) → words_of_segments s ≡ total_words s
unfolding words_of_segments total_words
words_are_total [] = refl
words_are_total (xs ∷ s) = ap (λ (n : ℕ). length xs + n) (words_are_total s)

pub returns : goal.returns
returns g c =
    record {
      few = λ a.
          let total = total_is (λ h. take (8 * h.used) (g.L.Segment.SegmentBytes.bytes h.segment)) (λ h. h.used) (λ h. used_length h.used (g.L.Segment.SegmentBytes.bytes h.segment) h.inside) a.segments.items a.words a.sum in
          let same = words_are_total (words_in (map (λ h. take (8 * h.used) (g.L.Segment.SegmentBytes.bytes h.segment)) a.segments.items)) in
          omega (arith, total, same, a.few);
      deep = λ a. (2147483647, refl, omega arith);
    }
