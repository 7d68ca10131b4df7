use Rattle.std.proofs.Common.{ℕ, ◌-◌, ◌*◌, ◌/◌, length, map, take, get_or, arith}
use Rattle.capnp_units.specs.Segments.{whole_words}
use Rattle.std.proofs.lemmas.List.{length-map}
use Rattle.capnp_copy_arenas.proofs.HeldWords.{both_some, if_none, on_both, no_room, total_is, used_length, allocates_of}
use Rattle.capnp_copy_arenas.proofs.lemmas.Refusals.{refuses_before}
use Rattle.capnp_copy_arenas.proofs.segments.BuilderArenaImplBuilderArena.allocate.Goals as goal

pub returns-clause-some : goal.returns-clause-some
returns-clause-some g c =
    let a = c.args.self.now in
    let grown = c.use_in.ensures in
    both_some c.use_in.result grown.at grown.words (λ at e w. (
      omega (arith, e.0, length-map a.segments.items (λ h. take (8 * h.used) (g.A.Segment.SegmentBytes.bytes h.segment))),
      allocates_of (λ h. take (8 * h.used) (g.A.Segment.SegmentBytes.bytes h.segment)) (λ h. h.used) (λ h. used_length h.used (g.A.Segment.SegmentBytes.bytes h.segment) h.inside) a.segments.items _ c.args.segment at c.args.words a.words (omega (arith, e.0)) e.1 w a.sum (omega (arith, c.if-words-self.false)),
    ))

pub returns-clause-room : goal.returns-clause-room
returns-clause-room g c =
    let a = c.args.self.now in
    let t = total_is (λ h. take (8 * h.used) (g.A.Segment.SegmentBytes.bytes h.segment)) (λ h. h.used) (λ h. used_length h.used (g.A.Segment.SegmentBytes.bytes h.segment) h.inside) a.segments.items a.words a.sum in
    let n = length-map a.segments.items (λ h. take (8 * h.used) (g.A.Segment.SegmentBytes.bytes h.segment)) in
    let m = length-map (map (λ h. take (8 * h.used) (g.A.Segment.SegmentBytes.bytes h.segment)) a.segments.items) whole_words in
    on_both c.use_in.result c.use_in.ensures.at c.use_in.ensures.room (λ at e r. (omega (arith, e.0, n, m), r, omega (arith, t, c.if-words-self.false)))

pub returns-clause-full : goal.returns-clause-full
returns-clause-full g c =
    let a = c.args.self.now in
    let n = length-map a.segments.items (λ h. take (8 * h.used) (g.A.Segment.SegmentBytes.bytes h.segment)) in
    let m = length-map (map (λ h. take (8 * h.used) (g.A.Segment.SegmentBytes.bytes h.segment)) a.segments.items) whole_words in
    if_none c.use_in.result c.use_in.ensures.full (λ x h. no_room (length a.segments.items) c.args.segment (get_or (map (λ h. length (g.A.Segment.SegmentBytes.bytes h.segment) / 8 - h.used) a.segments.items) c.args.segment 0) c.args.words x (omega (arith, h.0, n, m)) h.1)

pub returns-then-words-self-clause-full : goal.returns-then-words-self-clause-full
returns-then-words-self-clause-full g c =
    let a = c.args.self.now in
    let t = total_is (λ h. take (8 * h.used) (g.A.Segment.SegmentBytes.bytes h.segment)) (λ h. h.used) (λ h. used_length h.used (g.A.Segment.SegmentBytes.bytes h.segment) h.inside) a.segments.items a.words a.sum in
    λ h. omega (arith, t, c.if-words-self.true, h.2)

pub returns-clause-unasked : goal.returns-clause-unasked
returns-clause-unasked g c =
    if_none c.use_in.result c.use_in.ensures.none (λ same n kind r. refuses_before c.use_in.new.self c.args.self.now n kind c.use_in.ensures.allocator c.use_in.ensures.capacity same r)
