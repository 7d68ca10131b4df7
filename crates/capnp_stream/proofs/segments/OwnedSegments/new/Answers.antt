use Rattle.std.proofs.Common.{arith, subst, sym, length}
use Rattle.std.specs.Prelude.{All}
use Rattle.capnp_stream.proofs.lemmas.WordLemmas.{IsWithin, ranges_from-within}
use Rattle.capnp_stream.proofs.segments.OwnedSegments.new.Goals as goal

pub invariant_of-result : goal.invariant_of-result
invariant_of-result c =
    let size = length c.args.bytes.items in
    record { within = subst (All (IsWithin size)) (sym c.to_segment_indices-indices.ensures) (ranges_from-within size 0 _ (omega arith)) }
