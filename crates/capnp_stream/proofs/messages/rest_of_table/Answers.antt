use Rattle.std.proofs.Common.{arith, length, ap, ◌∙◌, sym, map, drop, ◌≡◌, ◌<◌, ◌+◌, ◌*◌, ◌^◌, ◌++◌, [], append-nil}
use Rattle.std.proofs.lemmas.List.{length-append, length-map}
use Rattle.std.specs.Int.{to_le_bytes, w64}
use Rattle.capnp_model.specs.Messages.{paired}
use Rattle.capnp_units.specs.Segments.{whole_words, words_in}
use Rattle.capnp_model.proofs.lemmas.Lists.{drop-all}
use Rattle.capnp_stream.proofs.lemmas.WriteLemmas.{table-step}
use Rattle.capnp_stream.proofs.messages.rest_of_table.Goals as goal

pub loop-id-preserved : goal.loop-id-preserved
loop-id-preserved g c =
    let segments = g.S.ReaderSegments.segments c.args.segments.now in
    let s = words_in segments in
    let id = c.loop-id.id in
    let table = c.loop-id.table.items in
    let word = c.length_of.result + 2 ^ 32 * c.length_of-in-loop-id.result in
    let inside : id < length s = omega (arith, c.loop-id-test.true, c.len.ensures, length-map segments whole_words) in
    let added : c.extend_from_slice.new.self.items ≡ table ++ to_le_bytes w64 word = c.in_ok-extend_from_slice.ensures.items ∙ ap (λ l. table ++ l) c.to_le_bytes.ensures in
    let numbers = c.length_of.ensures.length in
    let more = c.length_of-in-loop-id.ensures.length in
    record {
      whole = omega (arith, c.loop-id.invariant.whole, ap length added, length-append table (to_le_bytes w64 word));
      odd = omega (arith, c.loop-id.invariant.odd);
      made = table-step s id table c.extend_from_slice.new.self.items _ word inside c.loop-id.invariant.whole (omega (arith, c.length_of.ensures.bound, c.length_of-in-loop-id.ensures.bound)) (omega (arith, numbers, more)) added c.loop-id.invariant.made;
    }

pub returns-clause-words : goal.returns-clause-words
returns-clause-words g c =
    let segments = g.S.ReaderSegments.segments c.args.segments.now in
    let s = words_in segments in
    let none : drop c.loop-id.id s ≡ [] = drop-all s c.loop-id.id (omega (arith, c.loop-id-test.false, c.len.ensures, length-map segments whole_words)) in
    sym (append-nil (whole_words c.loop-id.table.items)) ∙ ap (λ l. whole_words c.loop-id.table.items ++ paired (map length l)) (sym none) ∙ c.loop-id.invariant.made
