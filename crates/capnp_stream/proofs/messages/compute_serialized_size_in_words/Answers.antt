use Rattle.std.proofs.Common.{arith, ◌≡◌, sum, ap, length, map, take}
use Rattle.std.proofs.lemmas.List.{length-map}
use Rattle.capnp_units.specs.Segments.{whole_words, words_in}
use Rattle.capnp_model.proofs.lemmas.Lists.{take-all}
use Rattle.capnp_stream.proofs.lemmas.WriteLemmas.{length-frame}
use Rattle.capnp_stream.proofs.messages.compute_serialized_size_in_words.Goals as goal

pub returns : goal.returns
returns g c =
    let segments = g.S.ReaderSegments.segments c.args.segments.now in
    let s = words_in segments in
    let count : length s ≡ length segments = length-map segments whole_words in
    let all : take c.loop-id.id s ≡ s = take-all s c.loop-id.id (omega (arith, count, c.len-in-loop-id.ensures, c.loop-id-test.false)) in
    omega (arith, length-frame s (omega (arith, count, c.requires.some)), c.loop-id.invariant.made, ap (λ l. sum (map length l)) all, count)
