use Rattle.std.proofs.Common.{arith, ◌≡◌, ◌++◌, ◌∷◌, [], ◌+◌, sym, ap, ◌∙◌, sum}
use Rattle.capnp_stream.specs.Flat.{table_lengths}
use Rattle.capnp_stream.specs.Segments.{lengths_of}
use Rattle.capnp_stream.proofs.FlatLemmas.{table-next, table-more}
use Rattle.capnp_stream.proofs.segments.SegmentLengthsBuilder.fill.Goals as goal

pub loop-id-preserved : goal.loop-id-preserved
loop-id-preserved c =
    let bytes = c.args.bytes.now in
    let id = c.loop-id.id in
    let n = c.length_in.result in
    let made : lengths_of c.push_within.new.self ≡ table_lengths (id + 1) bytes =
    c.push_within.ensures.pushed ∙ ap (λ l. l ++ n ∷ []) c.loop-id.invariant.made ∙ ap (λ k. table_lengths id bytes ++ k ∷ []) c.length_in.ensures.length ∙ sym (table-next id bytes (omega arith)) in
    record {
      made = made;
      room = omega (arith, c.push_within.ensures.room, c.loop-id.invariant.room);
      small = omega (arith, ap sum made, table-more id bytes (omega arith), ap sum c.loop-id.invariant.made, c.length_in.ensures.length, c.length_in.ensures.bound, c.loop-id.invariant.small);
    }
