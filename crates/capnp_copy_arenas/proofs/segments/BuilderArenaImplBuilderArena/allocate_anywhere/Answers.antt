use Rattle.std.proofs.Common.{ℕ, ◌-◌, ◌*◌, ◌/◌, length, map, take, get_or, inl, inr, ap, sym, ◌∙◌, arith}
use Rattle.std.proofs.lemmas.List.{length-map}
use Rattle.capnp_units.specs.Segments.{whole_words}
use Rattle.capnp_model_writes.specs.Writes.{with_zeros, segment_end}
use Rattle.capnp_copy_arenas.specs.Allocations.{words_used}
use Rattle.capnp_copy_arenas.proofs.HeldWords.{both_ok, all_ok, all_err, no_last_room, if_err, end_past, used_length, total_is, allocates_of}
use Rattle.capnp_copy_arenas.proofs.lemmas.Refusals.{refuses_before}
use Rattle.capnp_copy_arenas.proofs.segments.BuilderArenaImplBuilderArena.allocate_anywhere.Goals as goal

pub returns-then-words-self-clause-kind : goal.returns-then-words-self-clause-kind
returns-then-words-self-clause-kind g c =
    let a = c.args.self.now in
    let t = total_is (λ h. take (8 * h.used) (g.A.Segment.SegmentBytes.bytes h.segment)) (λ h. h.used) (λ h. used_length h.used (g.A.Segment.SegmentBytes.bytes h.segment) h.inside) a.segments.items a.words a.sum in
    (λ e. omega (arith, t, c.if-words-self.true), λ e. c.from.ensures)

pub returns-in-Some-clause-ok : goal.returns-in-Some-clause-ok
returns-in-Some-clause-ok g c =
    let a = c.args.self.now in
    let e = c.in-Some.ensures.at in
    allocates_of (λ h. take (8 * h.used) (g.A.Segment.SegmentBytes.bytes h.segment)) (λ h. h.used) (λ h. used_length h.used (g.A.Segment.SegmentBytes.bytes h.segment) h.inside) a.segments.items _ _ _ c.args.words a.words (omega (arith, e.0)) e.1 c.in-Some.ensures.words a.sum (omega (arith, c.if-words-self.false))

pub returns-in-None-clause-ok : goal.returns-in-None-clause-ok
returns-in-None-clause-ok g c =
    let a = c.args.self.now in
    let same = c.in-None.ensures.none in
    both_ok c.use_in_new.result c.use_in_new.ensures.at c.use_in_new.ensures.words (λ p e w.
    allocates_of (λ h. take (8 * h.used) (g.A.Segment.SegmentBytes.bytes h.segment)) (λ h. h.used) (λ h. used_length h.used (g.A.Segment.SegmentBytes.bytes h.segment) h.inside) a.segments.items _ p.0 p.1 c.args.words a.words
    (omega (arith, e.0, ap length same))
    (e.1 ∙ sym (ap (λ (i : ℕ). segment_end (map (λ h. words_used h.used (g.A.Segment.SegmentBytes.bytes h.segment)) a.segments.items) i) (e.0 ∙ ap length same) ∙ end_past _ a.segments.items))
    (w ∙ ap (λ xs. with_zeros (map (λ h. words_used h.used (g.A.Segment.SegmentBytes.bytes h.segment)) xs) (length xs) c.args.words) same ∙ ap (λ (i : ℕ). with_zeros (map (λ h. words_used h.used (g.A.Segment.SegmentBytes.bytes h.segment)) a.segments.items) i c.args.words) (sym (e.0 ∙ ap length same)))
    a.sum (omega (arith, c.if-words-self.false)))

pub returns-in-None-clause-kind : goal.returns-in-None-clause-kind
returns-in-None-clause-kind g c =
    let a = c.args.self.now in
    let t = total_is (λ h. take (8 * h.used) (g.A.Segment.SegmentBytes.bytes h.segment)) (λ h. h.used) (λ h. used_length h.used (g.A.Segment.SegmentBytes.bytes h.segment) h.inside) a.segments.items a.words a.sum in
    if_err c.use_in_new.result c.use_in_new.ensures.kind (λ e ne. (λ is. absurd (ne is), λ l. absurd (omega (arith, t, c.if-words-self.false, l))))

pub returns-then-words-self-clause-full : goal.returns-then-words-self-clause-full
returns-then-words-self-clause-full g c =
    let a = c.args.self.now in
    let t = total_is (λ h. take (8 * h.used) (g.A.Segment.SegmentBytes.bytes h.segment)) (λ h. h.used) (λ h. used_length h.used (g.A.Segment.SegmentBytes.bytes h.segment) h.inside) a.segments.items a.words a.sum in
    λ h. omega (arith, t, c.if-words-self.true, h.2)

pub returns-in-Some-clause-last : goal.returns-in-Some-clause-last
returns-in-Some-clause-last g c =
    let n = length-map c.args.self.now.segments.items (λ h. take (8 * h.used) (g.A.Segment.SegmentBytes.bytes h.segment)) in
    inl (omega (arith, n, c.in-Some.ensures.at.0))

pub returns-in-None-clause-last : goal.returns-in-None-clause-last
returns-in-None-clause-last g c =
    let a = c.args.self.now in
    let n = length-map a.segments.items (λ h. take (8 * h.used) (g.A.Segment.SegmentBytes.bytes h.segment)) in
    let m = length-map (map (λ h. take (8 * h.used) (g.A.Segment.SegmentBytes.bytes h.segment)) a.segments.items) whole_words in
    let free = map (λ h. length (g.A.Segment.SegmentBytes.bytes h.segment) / 8 - h.used) a.segments.items in
    let same = ap (λ (i : ℕ). get_or free (i - 1) 0) n in
    all_ok c.use_in_new.result (λ p. inr (λ h. no_last_room (length a.segments.items) (get_or free (length a.segments.items - 1) 0) c.args.words c.in-None.ensures.full (omega (arith, h.0, n, m)) (omega (arith, h.1, same))))

pub returns-in-None-clause-full : goal.returns-in-None-clause-full
returns-in-None-clause-full g c =
    let a = c.args.self.now in
    let n = length-map a.segments.items (λ h. take (8 * h.used) (g.A.Segment.SegmentBytes.bytes h.segment)) in
    let m = length-map (map (λ h. take (8 * h.used) (g.A.Segment.SegmentBytes.bytes h.segment)) a.segments.items) whole_words in
    let free = map (λ h. length (g.A.Segment.SegmentBytes.bytes h.segment) / 8 - h.used) a.segments.items in
    let same = ap (λ (i : ℕ). get_or free (i - 1) 0) n in
    all_err c.use_in_new.result (λ h. no_last_room (length a.segments.items) (get_or free (length a.segments.items - 1) 0) c.args.words c.in-None.ensures.full (omega (arith, h.0, n, m)) (omega (arith, h.1, same)))

pub returns-then-words-self-clause-cause : goal.returns-then-words-self-clause-cause
returns-then-words-self-clause-cause g c =
    let a = c.args.self.now in
    let t = total_is (λ h. take (8 * h.used) (g.A.Segment.SegmentBytes.bytes h.segment)) (λ h. h.used) (λ h. used_length h.used (g.A.Segment.SegmentBytes.bytes h.segment) h.inside) a.segments.items a.words a.sum in
    inl (omega (arith, t, c.if-words-self.true))

pub returns-in-None-clause-cause : goal.returns-in-None-clause-cause
returns-in-None-clause-cause g c =
    if_err c.use_in_new.result c.use_in_new.ensures.cause (λ e r. inr (refuses_before c.use_in_last.new.self c.args.self.now c.args.words e.kind c.use_in_last.ensures.allocator c.use_in_last.ensures.capacity c.in-None.ensures.none r))
