-- The struct behind the pointer stands among the words.
use Rattle.std.proofs.Common.{◌≡◌, ℕ, ◌+◌, ◌-◌, List, ◌∷◌, ◌++◌, take, drop, set, get_or, [], refl, ap, sym, subst, ◌∙◌, arith}
use Rattle.std.specs.Int.{from_le_bytes, w64}
use Rattle.std.proofs.lemmas.Nat.{from_le_bytes-to_le_bytes_8}
use Rattle.capnp_wire_canonical.specs.Writes.{filled}
use Rattle.capnp_calls_splice.specs.Cells.{HasPut}
use Rattle.capnp_calls_splice.specs.declared.area.Placed.{Placed}
use Rattle.capnp_calls_splice.specs.declared.splice.Hop.{Hop}
use Rattle.capnp_calls_splice.specs.declared.splice.Hop.TheVariants as hops
use Rattle.capnp_calls_splice.proofs.Putting.{pointer_put, group_put}
use Rattle.capnp_calls_splice.proofs.ElementPutting.{element_put}
use Rattle.capnp_calls_splice.proofs.put.+put_in_cell.Goals as goal

pub returns-in_ok-placed-in-Pointer-clause-changes : goal.returns-in_ok-placed-in-Pointer-clause-changes
returns-in_ok-placed-in-Pointer-clause-changes t c = λ f cell ended st.
    let area = c.args.area in
    let i : ℕ = c.in-Pointer.pointer in
    let rest : List Hop = c.in-Some.rest.now in
    let slot = c.in_ok-slot-in-Pointer.slot in
    let place = c.in_ok-slot-in-Pointer.ensures.place in
    let child = c.in_ok-child-in-Pointer in
    let q = c.in_ok-placed-in-Pointer.placed in
    let put = c.in_ok-placed-in-Pointer.ensures in
    let ys = c.move_pointers.new.slice in
    let a : ℕ = slot.at + 1 in
    let m : ℕ = slot.end - (slot.at + 1) in
    let v : ℕ = c.sized_pointer-word.result in
    let spells : from_le_bytes w64 c.to_le_bytes.result ≡ v = ap (from_le_bytes w64) c.to_le_bytes.ensures ∙ from_le_bytes-to_le_bytes_8 v c.sized_pointer-word.type_inv in
    let after = set c.put_in_cell.new.words slot.at c.to_le_bytes.result in
    let split : c.args.hops.now ≡ hops.Pointer i ∷ rest = c.in-Some.ensures ∙ ap (λ (h : Hop). h ∷ rest) c.in-Pointer.is in
    subst (λ (way : List Hop). HasPut c.args.put.now way area f cell c.stays.result.data_words (filled c.stays.result.count (take a after ++ (ys ++ drop m (drop a after))))) (sym split)
    (subst (λ (r : Placed). HasPut c.args.put.now (hops.Pointer i ∷ rest) area f cell r.data_words (filled r.count (take a after ++ (ys ++ drop m (drop a after))))) (sym c.stays.ensures)
    (pointer_put c.args.put.now rest area child.child f cell i slot.at slot.word v c.args.count q c.to_le_bytes.result c.args.words.now c.put_in_cell.new.words ys a m st (omega arith) c.requires.own c.requires.inside c.requires.few put.within.0.few put.within.0.inside put.within.1
    place.0 (omega arith) (omega arith) c.in_ok-slot-in-Pointer.ensures.word (λ gap u fits near e. let r = child.ensures.behind gap u fits near e in (r.0, r.1 ∙ (omega arith))) child.ensures.some c.args.end c.end_before-own.result ended m refl c.end_before-own.ensures.tells put.changes c.sized_pointer-word.ensures spells c.move_pointers.ensures.moved))

pub returns-else-placed-list-clause-changes : goal.returns-else-placed-list-clause-changes
returns-else-placed-list-clause-changes t c = λ f cell ended st.
    let area = c.args.area in
    let i : ℕ = c.in-Element.pointer in
    let j : ℕ = c.in-Element.index in
    let rest : List Hop = c.in-Some.rest.now in
    let slot = c.in_ok-slot-in-Element.slot in
    let place = c.in_ok-slot-in-Element.ensures.place in
    let q = c.in_ok-placed-in-Element.placed in
    let put = c.in_ok-placed-in-Element.ensures in
    let after = c.move_elements.new.words in
    let ys = c.move_pointers-in-Element.new.slice in
    let a : ℕ = slot.at + 1 in
    let m : ℕ = slot.end - (slot.at + 1) in
    let split : c.args.hops.now ≡ hops.Element i j ∷ rest = c.in-Some.ensures ∙ ap (λ (h : Hop). h ∷ rest) c.in-Element.is in
    subst (λ (way : List Hop). HasPut c.args.put.now way area f cell c.stays-in-Element.result.data_words (filled c.stays-in-Element.result.count (take a after ++ (ys ++ drop m (drop a after))))) (sym split)
    (subst (λ (r : Placed). HasPut c.args.put.now (hops.Element i j ∷ rest) area f cell r.data_words (filled r.count (take a after ++ (ys ++ drop m (drop a after))))) (sym c.stays-in-Element.ensures)
    (element_put c.args.put.now rest area c.in_ok-element-in-Element.element c.in_ok-list-in-Element.list f cell i j slot.word c.args.count q c.args.words.now c.put_in_cell-in-Element.new.words after ys a m st (omega arith)
    c.requires.own c.requires.inside c.requires.few put.within.0.few put.within.0.inside (grind arith) c.move_elements.ensures.len (omega arith) (omega arith)
    (c.in_ok-slot-in-Element.ensures.word ∙ ap (λ (k : ℕ). from_le_bytes w64 (get_or c.args.words.now k [])) place.0)
    (λ gap u x r fits near e spelled at. let is = c.in_ok-list-in-Element.ensures.behind gap u x r fits near e spelled (at ∙ (omega arith)) in (is.0, is.1 ∙ (omega arith)))
    c.in_ok-element-in-Element.ensures.place c.args.end c.end_before-after.result c.end_of_element-own.result ended m refl c.end_before-after.ensures.tells c.end_of_element-own.ensures.tells put.changes c.move_elements.ensures.moved c.move_pointers-in-Element.ensures.moved))

pub returns-in-Group-clause-changes : goal.returns-in-Group-clause-changes
returns-in-Group-clause-changes t c =
    let again = c.put_in_cell-in-Group in
    let rest : List Hop = c.in-Some.rest.now in
    let split : c.args.hops.now ≡ hops.Group ∷ rest = c.in-Some.ensures ∙ ap (λ (h : Hop). h ∷ rest) c.in-Group.is in
    group_put c.args.put.now c.args.hops.now rest c.args.area c.args.end c.args.count c.args.words.now again.new.words again.result split again.ensures.changes
