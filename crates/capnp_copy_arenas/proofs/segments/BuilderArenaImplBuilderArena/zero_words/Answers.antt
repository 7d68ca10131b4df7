use Rattle.std.proofs.Common.{refl, ◌*◌, length, map, take, replicate, ap, sym, ◌∙◌, ℕ, ◌∷◌, [], ◌++◌, List}
use Rattle.capnp_units.specs.Segments.{words_in}
use Rattle.capnp_model_writes.specs.Writes.{with_words}
use Rattle.capnp_wire_objects.specs.Places.{place_view}
use Rattle.capnp_copy_arenas.specs.Allocations.{words_used}
use Rattle.capnp_copy_arenas.proofs.HeldWords.{used_length, written_of, there_of, written_back}
use Rattle.capnp_copy_arenas.proofs.Changed.{changed_number, kept_sum, kept_loans, kept_room}
use Rattle.capnp_copy_arenas.proofs.segments.BuilderArenaImplBuilderArena.zero_words.Goals as goal

pub zero_in_segment-requires : goal.zero_in_segment-requires
zero_in_segment-requires g c = record { there = there_of (λ h. take (8 * h.used) (g.A.Segment.SegmentBytes.bytes h.segment)) (λ h. h.used) (λ h. used_length h.used (g.A.Segment.SegmentBytes.bytes h.segment) h.inside) c.args.self.now.segments.items c.as_mut_slice.result.now (place_view c.args.place) (c.args.count) _ c.requires c.as_mut_slice.ensures.value (refl) }

pub returns-clause-words : goal.returns-clause-words
returns-clause-words g c =
    let xs = c.args.self.now.segments.items in
    let ys = c.zero_in_segment.new.all in
    let same = c.as_mut_slice.ensures.value in
    let back = written_back c.args.self.now.segments.len xs ys (sym (ap length same) ∙ c.as_mut_slice.ensures.len) (c.zero_in_segment.ensures.len ∙ ap length same) in
    ap (λ zs. words_in (map (λ h. take (8 * h.used) (g.A.Segment.SegmentBytes.bytes h.segment)) zs)) back
    ∙ written_of (λ h. take (8 * h.used) (g.A.Segment.SegmentBytes.bytes h.segment)) (λ h. h.used) (λ h. used_length h.used (g.A.Segment.SegmentBytes.bytes h.segment) h.inside) xs ys (place_view c.args.place) (replicate c.args.count 0) (c.zero_in_segment.ensures.words ∙ ap (λ zs. with_words (map (λ h. words_used h.used (g.A.Segment.SegmentBytes.bytes h.segment)) zs) (place_view c.args.place) (replicate c.args.count 0)) same)

pub invariant_of-self : goal.invariant_of-self
invariant_of-self g c =
    let a = c.args.self.now in
    let same = c.as_mut_slice.ensures.value in
    let whole = c.as_mut_slice.ensures.len in
    let kept = c.zero_in_segment.ensures.len in
    record {
      sum = kept_sum a.segments.len a.segments.items c.as_mut_slice.result.now c.zero_in_segment.new.all same whole kept a.words a.sum c.zero_in_segment.ensures.total;
      few = a.few;
      numbered = changed_number a.segments.len a.segments.items c.as_mut_slice.result.now c.zero_in_segment.new.all same whole kept a.numbered;
    }

pub returns-clause-books : goal.returns-clause-books
returns-clause-books g c =
    let a = c.args.self.now in
    let loans = kept_loans a.segments.len a.segments.items c.as_mut_slice.result.now c.zero_in_segment.new.all c.as_mut_slice.ensures.value c.as_mut_slice.ensures.len c.zero_in_segment.ensures.len c.zero_in_segment.ensures.loans in
    ap (λ (names : List ℕ). g.A.Allocator.place a.allocator ∷ (names ++ g.A.Allocator.loans a.allocator) ∷ []) loans

pub returns-clause-room : goal.returns-clause-room
returns-clause-room g c =
    let a = c.args.self.now in
    kept_room a.segments.len a.segments.items c.as_mut_slice.result.now c.zero_in_segment.new.all c.as_mut_slice.ensures.value c.as_mut_slice.ensures.len c.zero_in_segment.ensures.len c.zero_in_segment.ensures.room
