-- The words behind the pointer are replaced.
use Rattle.std.proofs.Common.{◌≡◌, ℕ, ◌+◌, ◌-◌, List, ◌++◌, take, drop, set, refl, ap, sym, subst, ◌∙◌, arith}
use Rattle.std.specs.Int.{from_le_bytes, w64}
use Rattle.std.proofs.lemmas.Nat.{from_le_bytes-to_le_bytes_8}
use Rattle.capnp_wire_canonical.specs.Writes.{words_view, filled}
use Rattle.capnp_calls_splice.specs.Splices.{PutsIntoCell}
use Rattle.capnp_calls_splice.specs.Cells.{HasChanged}
use Rattle.capnp_calls_splice.specs.declared.area.Placed.{Placed}
use Rattle.capnp_calls_splice.specs.declared.splice.Put.TheVariants as puts
use Rattle.capnp_calls_splice.proofs.Putting.{blob_put}
use Rattle.capnp_calls_splice.proofs.put.put_blob.Goals as goal

pub returns-clause-changes : goal.returns-clause-changes
returns-clause-changes c = λ f cell ended st.
    let area = c.args.area in
    let b = c.args.blob.now in
    let i : ℕ = c.args.pointer in
    let slot = c.in_ok-slot.slot in
    let place = c.in_ok-slot.ensures.place in
    let now : ℕ = c.in_ok-now.now in
    let a : ℕ = slot.at + 1 in
    let m : ℕ = slot.end - (slot.at + 1) in
    let v : ℕ = c.bytes_pointer.result in
    let spells : from_le_bytes w64 c.to_le_bytes.result ≡ v = ap (from_le_bytes w64) c.to_le_bytes.ensures ∙ from_le_bytes-to_le_bytes_8 v c.bytes_pointer.type_inv in
    let within = c.in_ok-now.ensures.within in
    let after = set c.replace.new.words slot.at c.to_le_bytes.result in
    subst (λ (q : Placed). HasChanged (PutsIntoCell (puts.Blob i b)) area f cell q.data_words (filled q.count (take a after ++ (c.move_pointers.new.slice ++ drop m (drop a after))))) (sym c.stays.ensures)
    (blob_put b area f cell i slot.at slot.word v c.args.count now c.to_le_bytes.result c.in_ok-run.run' c.args.words.now c.replace.new.words c.move_pointers.new.slice a m (area.at + area.data_words) (slot.at - (area.at + area.data_words)) c.args.end
    st (omega arith) c.requires.own c.requires.inside c.requires.few (omega arith) (omega arith) place.0 (omega arith) (omega arith) refl (omega arith)
    c.in_ok-slot.ensures.word ended c.in_ok-run.ensures.behind
    (λ x l r e at long. c.in_ok-now.ensures.words x l r e at long ∙ ap (λ (ws : List (List ℕ)). x ++ (words_view ws ++ r)) c.deref.ensures.value)
    c.bytes_pointer.ensures spells c.move_pointers.ensures.moved)
