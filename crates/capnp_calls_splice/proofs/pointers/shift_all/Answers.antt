-- One pointer more.
use Rattle.std.proofs.Common.{◌≡◌, ℕ, ◌<◌, [], length, set, ap, sym, ◌∙◌, arith}
use Rattle.std.specs.Int.{from_le_bytes, w64}
use Rattle.std.proofs.lemmas.Nat.{from_le_bytes-to_le_bytes_8}
use Rattle.std.proofs.lemmas.List.{length-map, map-set, get_or-map}
use Rattle.std.proofs.lemmas.List.Edits.{map_over_more}
use Rattle.capnp_wire_canonical.specs.Writes.{words_view}
use Rattle.capnp_calls_splice.specs.Cells.{shifted}
use Rattle.capnp_calls_splice.proofs.pointers.shift_all.Goals as goal

pub loop-word-preserved : goal.loop-word-preserved
loop-word-preserved c =
    let l = c.loop-word in
    let f = from_le_bytes w64 in
    let i : ℕ = l.word-index in
    let x : ℕ = c.from_le_bytes.result in
    let inside : i < length l.slice = omega arith in
    let less : i < length (words_view c.args.slice.now) = omega (arith, length-map c.args.slice.now (from_le_bytes w64)) in
    let value : from_le_bytes w64 c.to_le_bytes.result ≡ shifted c.args.by x = ap (from_le_bytes w64) c.to_le_bytes.ensures ∙ from_le_bytes-to_le_bytes_8 c.with_shift.result c.with_shift.type_inv ∙ c.with_shift.ensures in
    map-set (from_le_bytes w64) l.slice i c.to_le_bytes.result ∙ ap (λ (k : ℕ). set (words_view l.slice) i k) value
    ∙ map_over_more (shifted c.args.by) (words_view c.args.slice.now) (words_view l.slice) i x less l.invariant (c.from_le_bytes.ensures ∙ sym (get_or-map (from_le_bytes w64) l.slice i [] x inside))
