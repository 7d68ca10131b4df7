use Rattle.std.proofs.Common.{◌*◌, take, arith}
use Rattle.std.proofs.lemmas.List.{length-take}
use Rattle.capnp_message.proofs.Written.{writable}
use Rattle.capnp_message.proofs.laws.built_segments_can_be_written.Goals as goal

pub returns : goal.returns
returns g c =
    let arena = c.args.message.now.memory.arena in
    let bytes = g.A.Segment.SegmentBytes.bytes in
    writable (λ h. take (8 * h.used) (bytes h.segment)) (λ h. h.used) arena.segments.items (λ h. omega (arith, h.inside, length-take (8 * h.used) (bytes h.segment))) c.requires arena.numbered (omega (arith, arena.sum, arena.few))
