use Rattle.std.proofs.Common.{ℕ, ◌*◌, ◌/◌, List, ◌∷◌, [], length, map, take, ap, sym, ◌∙◌, rules, ◌++◌}
use Rattle.capnp_units.specs.Segments.{words_in}
use Rattle.capnp_model.specs.Bytes.{words_in_bytes}
use Rattle.capnp_model_writes.specs.Writes.{with_words}
use Rattle.capnp_wire_objects.specs.Places.{place_view}
use Rattle.capnp_copy_arenas.specs.Allocations.{words_used}
use Rattle.capnp_copy_arenas.proofs.HeldWords.{used_length, written_of, there_of, written_back, one_word}
use Rattle.capnp_copy_arenas.proofs.Changed.{changed_number, kept_sum, kept_loans, kept_room}
use Rattle.capnp_copy_arenas.proofs.segments.BuilderArenaImplBuilderArena.write_word.Goals as goal

pub write_in_segment-requires-clause-there : goal.write_in_segment-requires-clause-there
write_in_segment-requires-clause-there g c = there_of (λ h. take (8 * h.used) (g.A.Segment.SegmentBytes.bytes h.segment)) (λ h. h.used) (λ h. used_length h.used (g.A.Segment.SegmentBytes.bytes h.segment) h.inside) c.args.self.now.segments.items c.as_mut_slice.result.now (place_view c.args.place) (1) _ c.requires c.as_mut_slice.ensures.value (search rules)

pub returns-clause-words : goal.returns-clause-words
returns-clause-words g c =
    let xs = c.args.self.now.segments.items in
    let ys = c.write_in_segment.new.all in
    let same = c.as_mut_slice.ensures.value in
    let back = written_back c.args.self.now.segments.len xs ys (sym (ap length same) ∙ c.as_mut_slice.ensures.len) (c.write_in_segment.ensures.len ∙ ap length same) in
    ap (λ zs. words_in (map (λ h. take (8 * h.used) (g.A.Segment.SegmentBytes.bytes h.segment)) zs)) back
    ∙ written_of (λ h. take (8 * h.used) (g.A.Segment.SegmentBytes.bytes h.segment)) (λ h. h.used) (λ h. used_length h.used (g.A.Segment.SegmentBytes.bytes h.segment) h.inside) xs ys (place_view c.args.place) (c.args.word ∷ []) (c.write_in_segment.ensures.words ∙ ap (λ zs. with_words (map (λ h. words_used h.used (g.A.Segment.SegmentBytes.bytes h.segment)) zs) (place_view c.args.place) (words_in_bytes (length c.to_le_bytes.result / 8) c.to_le_bytes.result)) same ∙ ap (with_words (map (λ h. words_used h.used (g.A.Segment.SegmentBytes.bytes h.segment)) xs) (place_view c.args.place)) (ap (λ (bs : List ℕ). words_in_bytes (length bs / 8) bs) c.to_le_bytes.ensures ∙ one_word c.args.word c.ranges.word.fits))

pub invariant_of-self : goal.invariant_of-self
invariant_of-self g c =
    let a = c.args.self.now in
    let same = c.as_mut_slice.ensures.value in
    let whole = c.as_mut_slice.ensures.len in
    let kept = c.write_in_segment.ensures.len in
    record {
      sum = kept_sum a.segments.len a.segments.items c.as_mut_slice.result.now c.write_in_segment.new.all same whole kept a.words a.sum c.write_in_segment.ensures.total;
      few = a.few;
      numbered = changed_number a.segments.len a.segments.items c.as_mut_slice.result.now c.write_in_segment.new.all same whole kept a.numbered;
    }

pub returns-clause-books : goal.returns-clause-books
returns-clause-books g c =
    let a = c.args.self.now in
    let loans = kept_loans a.segments.len a.segments.items c.as_mut_slice.result.now c.write_in_segment.new.all c.as_mut_slice.ensures.value c.as_mut_slice.ensures.len c.write_in_segment.ensures.len c.write_in_segment.ensures.loans in
    ap (λ (names : List ℕ). g.A.Allocator.place a.allocator ∷ (names ++ g.A.Allocator.loans a.allocator) ∷ []) loans

pub returns-clause-room : goal.returns-clause-room
returns-clause-room g c =
    let a = c.args.self.now in
    kept_room a.segments.len a.segments.items c.as_mut_slice.result.now c.write_in_segment.new.all c.as_mut_slice.ensures.value c.as_mut_slice.ensures.len c.write_in_segment.ensures.len c.write_in_segment.ensures.room
