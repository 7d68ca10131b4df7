use Rattle.std.proofs.Common.{◌≡◌, ◌+◌, ◌*◌, ◌<◌, ◌≤◌, ℕ, suc, true, Option, refl, ap, sym, ◌∙◌, subst, rules, arith}
use Rattle.std.specs.Option.{is_some}
use Rattle.capnp_model.specs.Segments.{Place, after, words_at}
use Rattle.capnp_units.specs.Segments.{words_in}
use Rattle.capnp_units.specs.Sizes.{size_number}
use Rattle.capnp_wire_objects.specs.Places.{place_view}
use Rattle.capnp_wire_objects.specs.declared.place.Place as code
use Rattle.capnp_copy_arenas.proofs.lemmas.RoomLaws.{still_some, sizes_grow}
use Rattle.capnp_copy_arenas.proofs.lemmas.Taken.{same_total}
use Rattle.capnp_copy_arenas.proofs.lemmas.Parts.{section_there}
use Rattle.capnp_copy_widening.specs.Moves.{HasPads, pads_of, pad_from, MovesValue}
use Rattle.capnp_copy_widening.specs.MovedElements.{least_pointers, struct_begin}
use Rattle.capnp_copy_widening.proofs.lemmas.Standing.{pads_stay}
use Rattle.capnp_copy_widening.proofs.MovedRows.{one_pad}
use Rattle.capnp_copy_widening.proofs.MovedLists.{struct_there, pointers_begin}
use Rattle.capnp_copy_widening.proofs.SpreadPointers.{PointersSoFar, pointers_none, pointers_next, one_pointer, fills_pointers}
use Rattle.capnp_copy_widening.proofs.elements.move_each_pointer.Goals as goal

pub loop-i-init : goal.loop-i-init
loop-i-init g c =
    (pointers_none (words_in (g.A.ReaderArena.segments c.args.arena.now)) (place_view c.args.old.start) (place_view c.args.new.start) c.args.new.claimed c.args.new.data_words c.args.new.pointers c.args.old.count c.args.pads, refl, refl)

pub move_pointer-requires-clause-from : goal.move_pointer-requires-clause-from
move_pointer-requires-clause-from g c =
    let s = words_in (g.A.ReaderArena.segments c.args.arena.now) in
    let u = words_in (g.A.ReaderArena.segments c.loop-i.arena) in
    let next : c.loop-i.i < c.args.old.count = search rules in
    still_some s u (after (place_view c.args.old.start) c.loop-i.i) 1 (sizes_grow s u c.loop-i.invariant.1) (section_there s (place_view c.args.old.start) c.loop-i.i 1 c.args.old.count (omega (arith, next)) c.requires.there.0)

pub move_pointer-requires-clause-to : goal.move_pointer-requires-clause-to
move_pointer-requires-clause-to g c =
    let s = words_in (g.A.ReaderArena.segments c.args.arena.now) in
    let u = words_in (g.A.ReaderArena.segments c.loop-i.arena) in
    let next : c.loop-i.i < c.args.new.count = let l : c.loop-i.i < c.args.old.count = search rules in omega (arith, l, c.requires.wider.as_many) in
    let here = struct_there s u (place_view c.args.new.start) c.args.new.data_words c.args.new.pointers c.args.new.count c.loop-i.i next c.loop-i.invariant.1 c.requires.wider.there.0 in
    let one = one_pointer (size_number c.args.old.size) c.args.old.pointers c.requires.pointers in
    let there = section_there u (struct_begin c.args.new c.loop-i.i) c.args.new.data_words 1 (c.args.new.data_words + c.args.new.pointers) (omega (arith, one, c.requires.wider.wide.1)) here in
    subst (λ (q : Place). is_some (words_at u q 1) ≡ true) (sym (pointers_begin c.args.new c.loop-i.i c.element_of.result c.pointers_of-to.result c.pointers_of-to.ensures c.element_of.ensures.start c.element_of.ensures.size.0)) there

pub move_pointer-requires-clause-pad : goal.move_pointer-requires-clause-pad
move_pointer-requires-clause-pad g c =
    let s = words_in (g.A.ReaderArena.segments c.args.arena.now) in
    let u = words_in (g.A.ReaderArena.segments c.loop-i.arena) in
    let next : c.loop-i.i < c.args.old.count = search rules in
    let one = one_pointer (size_number c.args.old.size) c.args.old.pointers c.requires.pointers in
    let each : c.args.old.count * least_pointers c.args.old ≡ c.args.old.count = ap (λ (x : ℕ). c.args.old.count * x) one ∙ omega arith in
    let all : HasPads s c.args.pads c.args.old.count = subst (λ (k : ℕ). HasPads s c.args.pads k) each c.requires.pads in
    subst (λ (o : Option code.Place). HasPads u o 1) (sym c.pad_at.ensures) (one_pad u c.args.pads c.args.old.count c.loop-i.i next (pads_stay s u c.args.pads c.args.old.count (sizes_grow s u c.loop-i.invariant.1) all))

pub move_pointer-requires-clause-few : goal.move_pointer-requires-clause-few
move_pointer-requires-clause-few g c =
    let s = words_in (g.A.ReaderArena.segments c.args.arena.now) in
    let u = words_in (g.A.ReaderArena.segments c.loop-i.arena) in
    omega (arith, same_total s u c.loop-i.invariant.1, c.requires.few)

pub loop-i-preserved : goal.loop-i-preserved
loop-i-preserved g c =
    let s = words_in (g.A.ReaderArena.segments c.args.arena.now) in
    let u = words_in (g.A.ReaderArena.segments c.loop-i.arena) in
    let w = words_in (g.A.ReaderArena.segments c.move_pointer.new.arena) in
    let next : c.loop-i.i < c.args.old.count = search rules in
    let one : suc c.loop-i.i ≡ c.loop-i.i + 1 = omega arith in
    let least = one_pointer (size_number c.args.old.size) c.args.old.pointers c.requires.pointers in
    let lk : 1 ≤ c.args.new.pointers = omega (arith, least, c.requires.wider.wide.1) in
    let at = pointers_begin c.args.new c.loop-i.i c.element_of.result c.pointers_of-to.result c.pointers_of-to.ensures c.element_of.ensures.start c.element_of.ensures.size.0 in
    let m1 : MovesValue u w (after (place_view c.args.old.start) c.loop-i.i) (place_view c.pointers_of-to.result) (pads_of (pad_from c.args.pads c.loop-i.i) 1) = subst (λ (o : Option code.Place). MovesValue u w (after (place_view c.args.old.start) c.loop-i.i) (place_view c.pointers_of-to.result) (pads_of o 1)) c.pad_at.ensures c.move_pointer.ensures.value in
    let m2 : MovesValue u w (after (place_view c.args.old.start) c.loop-i.i) (after (struct_begin c.args.new c.loop-i.i) c.args.new.data_words) (pads_of (pad_from c.args.pads c.loop-i.i) 1) = subst (λ (q : Place). MovesValue u w (after (place_view c.args.old.start) c.loop-i.i) q (pads_of (pad_from c.args.pads c.loop-i.i) 1)) at m1 in
    let row = pointers_next s u w (place_view c.args.old.start) (place_view c.args.new.start) c.args.new.claimed c.args.new.data_words c.args.new.pointers c.args.old.count c.args.pads c.loop-i.i next lk c.loop-i.invariant.0 m2 in
    (subst (λ (i : ℕ). PointersSoFar s w (place_view c.args.old.start) (place_view c.args.new.start) c.args.new.claimed c.args.new.data_words c.args.new.pointers c.args.old.count c.args.pads i) one row, c.move_pointer.ensures.sizes ∙ c.loop-i.invariant.1, c.move_pointer.ensures.books ∙ c.loop-i.invariant.2)

pub returns-clause-fills : goal.returns-clause-fills
returns-clause-fills g c =
    let s = words_in (g.A.ReaderArena.segments c.args.arena.now) in
    let u = words_in (g.A.ReaderArena.segments c.loop-i.arena) in
    let all : c.loop-i.i ≡ c.args.old.count = search rules in
    let done = subst (λ (i : ℕ). PointersSoFar s u (place_view c.args.old.start) (place_view c.args.new.start) c.args.new.claimed c.args.new.data_words c.args.new.pointers c.args.old.count c.args.pads i) all c.loop-i.invariant.0 in
    fills_pointers s u c.args.old c.args.new c.args.pads c.requires.pointers c.requires.counted c.requires.wider.of_structs c.requires.wider.as_many c.requires.wider.wide.1 done
