use Rattle.std.proofs.Common.{min, ◌-◌, ◌^◌, ◌≡◌, ◌*◌, length, map, take, arith}
use Rattle.std.proofs.lemmas.List.{length-map}
use Rattle.capnp_copy_arenas.proofs.HeldWords.{used_length, total_is, counted}
use Rattle.capnp_copy_arenas.proofs.segments.BuilderArenaImplReaderArena.size_in_words.Goals as goal

pub returns : goal.returns
returns g c =
    let a = c.args.self.now in
    let n = length-map a.segments.items (λ h. take (8 * h.used) (g.A.Segment.SegmentBytes.bytes h.segment)) in
    let few : min (length (map (λ h. take (8 * h.used) (g.A.Segment.SegmentBytes.bytes h.segment)) a.segments.items)) (2 ^ 32) ≡ length (map (λ h. take (8 * h.used) (g.A.Segment.SegmentBytes.bytes h.segment)) a.segments.items) = omega (arith, n, a.numbered) in
    let total = counted (map (λ h. take (8 * h.used) (g.A.Segment.SegmentBytes.bytes h.segment)) a.segments.items) _ few in
    omega (arith, total, total_is (λ h. take (8 * h.used) (g.A.Segment.SegmentBytes.bytes h.segment)) (λ h. h.used) (λ h. used_length h.used (g.A.Segment.SegmentBytes.bytes h.segment) h.inside) a.segments.items a.words a.sum, a.few)
