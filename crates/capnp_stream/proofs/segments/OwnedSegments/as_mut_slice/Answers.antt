use Rattle.capnp_stream.specs.Lending.{with_segment_bytes}
use Rattle.capnp_stream.proofs.segments.OwnedSegments.as_mut_slice.Goals as goal

pub invariant_of-self-lent : goal.invariant_of-self-lent
invariant_of-self-lent c = λ w. ((with_segment_bytes c.args.self.now w).within, tt)
