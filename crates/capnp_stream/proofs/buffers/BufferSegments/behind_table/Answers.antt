use Rattle.std.proofs.Common.{arith, ◌*◌, sym, subst, sum}
use Rattle.std.specs.Prelude.{All}
use Rattle.capnp_stream.specs.Segments.{lengths_of}
use Rattle.capnp_stream.proofs.lemmas.WordLemmas.{IsWithin, ranges_from-within}
use Rattle.capnp_stream.proofs.buffers.BufferSegments.behind_table.Goals as goal

pub invariant_of-result : goal.invariant_of-result
invariant_of-result g c =
    let ns = lengths_of c.args.table in
    let size = 8 * sum ns in
    let inside : All (IsWithin size) c.to_segment_indices.result.items = subst (All (IsWithin size)) (sym c.to_segment_indices.ensures) (ranges_from-within size 0 ns (omega arith)) in
    record { within = λ k e i. let p = inside k e i in (p.0, omega (arith, p.1, c.requires)) }
