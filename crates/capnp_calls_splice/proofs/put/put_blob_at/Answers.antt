-- The list of pointers behind the pointer has the new list at the index.
use Rattle.std.proofs.Common.{ℕ, ◌+◌, ◌-◌, ◌++◌, take, drop, sym, refl, subst, ◌∙◌, arith}
use Rattle.capnp_wire_canonical.specs.Writes.{filled}
use Rattle.capnp_calls_splice.specs.Splices.{PutsIntoCell}
use Rattle.capnp_calls_splice.specs.Cells.{HasChanged}
use Rattle.capnp_calls_splice.specs.declared.area.Placed.{Placed}
use Rattle.capnp_calls_splice.specs.declared.splice.Put.TheVariants as puts
use Rattle.capnp_calls_splice.proofs.ListPutting.{blob_at_put}
use Rattle.capnp_calls_splice.proofs.put.put_blob_at.Goals as goal

pub returns-clause-changes : goal.returns-clause-changes
returns-clause-changes c = λ f cell ended st.
    let area = c.args.area in
    let b = c.args.blob.now in
    let i : ℕ = c.args.pointer in
    let k : ℕ = c.args.index in
    let slot = c.in_ok-slot.slot in
    let list = c.in_ok-list in
    let placed = c.in_ok-placed in
    let mid = c.put_blob.new.words in
    let a : ℕ = slot.at + 1 in
    let m : ℕ = slot.end - (slot.at + 1) in
    let within = placed.ensures.within.0 in
    let place = c.in_ok-slot.ensures.place in
    subst (λ (q : Placed). HasChanged (PutsIntoCell (puts.BlobAt i k b)) area f cell q.data_words (filled q.count (take a mid ++ (c.move_pointers.new.slice ++ drop m (drop a mid))))) (sym c.stays.ensures)
    (blob_at_put b area list.list f cell i k slot.at slot.word c.args.count placed.placed c.args.words.now mid c.move_pointers.new.slice a m st (omega arith) c.requires.own c.requires.inside c.requires.few within.few within.inside place.0 (omega arith) (omega arith)
    c.in_ok-slot.ensures.word (λ gap t fits near e. let r = list.ensures.behind gap t fits near e in (r.0, r.1 ∙ (omega arith))) list.ensures.within.1 c.args.end c.end_before-own.result ended m refl c.end_before-own.ensures.tells placed.ensures.changes c.move_pointers.ensures.moved)
