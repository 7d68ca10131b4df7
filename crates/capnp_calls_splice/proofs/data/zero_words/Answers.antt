-- One word more.
use Rattle.std.proofs.Common.{ℕ, ◌<◌, [], length, get_or, sym, ◌∙◌, arith}
use Rattle.std.specs.Int.{from_le_bytes, w64}
use Rattle.std.proofs.lemmas.List.{length-map, map-set, get_or-map}
use Rattle.std.proofs.lemmas.List.Edits.{map_over_more}
use Rattle.capnp_wire_canonical.specs.Writes.{words_view}
use Rattle.capnp_calls_splice.proofs.data.zero_words.Goals as goal

pub loop-word-preserved : goal.loop-word-preserved
loop-word-preserved c =
    let l = c.loop-word in
    let i : ℕ = l.word-index in
    let x : ℕ = from_le_bytes w64 (get_or l.slice i []) in
    let inside : i < length l.slice = omega arith in
    let less : i < length (words_view c.args.slice.now) = omega (arith, length-map c.args.slice.now (from_le_bytes w64)) in
    map-set (from_le_bytes w64) l.slice i _ ∙ map_over_more (λ _. 0) (words_view c.args.slice.now) (words_view l.slice) i x less l.invariant (sym (get_or-map (from_le_bytes w64) l.slice i [] x inside))
