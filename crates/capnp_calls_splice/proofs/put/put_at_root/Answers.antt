-- The root's struct stands behind its pointer.
use Rattle.std.proofs.Common.{◌≡◌, ℕ, ap, ◌∙◌, arith}
use Rattle.std.specs.Int.{from_le_bytes, w64}
use Rattle.std.proofs.lemmas.Nat.{from_le_bytes-to_le_bytes_8}
use Rattle.capnp_calls_splice.proofs.Putting.{root_put}
use Rattle.capnp_calls_splice.proofs.put.put_at_root.Goals as goal

pub returns-clause-spliced : goal.returns-clause-spliced
returns-clause-spliced c = λ t fits e.
    let v : ℕ = c.sized_pointer.result in
    let placed = c.in_ok-placed in
    let spells : from_le_bytes w64 c.to_le_bytes.result ≡ v = ap (from_le_bytes w64) c.to_le_bytes.ensures ∙ from_le_bytes-to_le_bytes_8 v c.sized_pointer.type_inv in
    root_put c.args.splice.now t c.in_ok-root.root c.from_le_bytes-word.result v c.args.count placed.placed c.to_le_bytes.result c.args.words.now c.put_in_cell.new.words c.deref.result.now fits e (omega arith) c.from_le_bytes-word.ensures c.in_ok-root.ensures.behind c.in_ok-root.ensures.some
    placed.ensures.within.0.inside placed.ensures.within.1 c.deref.ensures.value c.end_for-end.result c.end_for-end.ensures placed.ensures.changes c.sized_pointer.ensures spells
