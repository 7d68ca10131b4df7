-- The list behind the pointer has the number at the index.
use Rattle.std.proofs.Common.{ℕ, ◌+◌, ◌-◌, ◌++◌, take, drop, sym, subst, ◌∙◌, arith}
use Rattle.capnp_wire_canonical.specs.Writes.{filled}
use Rattle.capnp_calls_splice.specs.Splices.{PutsIntoCell}
use Rattle.capnp_calls_splice.specs.Cells.{HasChanged}
use Rattle.capnp_calls_splice.specs.declared.area.Placed.{Placed}
use Rattle.capnp_calls_splice.specs.declared.splice.Put.TheVariants as puts
use Rattle.capnp_calls_splice.proofs.ListPutting.{number_at_put}
use Rattle.capnp_calls_splice.proofs.put.put_number_at.Goals as goal

pub returns-clause-changes : goal.returns-clause-changes
returns-clause-changes c = λ f cell st.
    let area = c.args.area in
    let p = c.args.set in
    let i : ℕ = c.args.pointer in
    let k : ℕ = c.args.index in
    let xs = c.args.words.now in
    let slot = c.in_ok-slot.slot in
    let place = c.in_ok-slot.ensures.place in
    let run = c.in_ok-run.run' in
    let m : ℕ = run.start + run.len - run.start in
    subst (λ (q : Placed). HasChanged (PutsIntoCell (puts.NumberAt i k p)) area f cell q.data_words (filled q.count (take run.start xs ++ (c.put.new.slice ++ drop m (drop run.start xs))))) (sym c.stays.ensures)
    (number_at_put p area f cell i k slot.at slot.word c.args.count m run xs c.put.new.slice st (omega arith) c.requires.own c.requires.inside c.requires.few place.0 c.in_ok-slot.ensures.word
    (λ gap t fits near e. let r = c.in_ok-run.ensures.behind gap t fits near e in (r.0, r.1 ∙ (omega arith), r.2))
    (λ gap t fits near e plain. c.is_element.ensures gap t fits near e plain c.if-not-is_element.false) (omega arith) c.put.ensures.words c.put.ensures.len)
