use Rattle.std.proofs.Common.{◌≡◌, ◌+◌, ◌*◌, ◌<◌, ◌≤◌, ℕ, suc, true, Option, refl, sym, ◌∙◌, subst, rules, arith}
use Rattle.std.specs.Option.{is_some}
use Rattle.capnp_model.specs.Segments.{Place, after, words_at}
use Rattle.capnp_units.specs.Segments.{words_in}
use Rattle.capnp_units.specs.Sizes.{size_number}
use Rattle.capnp_wire_objects.specs.Places.{place_view}
use Rattle.capnp_wire_objects.specs.declared.place.Place as code
use Rattle.capnp_copy_arenas.proofs.lemmas.RoomLaws.{sizes_grow}
use Rattle.capnp_copy_arenas.proofs.lemmas.Taken.{same_total}
use Rattle.capnp_copy_widening.specs.Moves.{HasPads}
use Rattle.capnp_copy_widening.proofs.lemmas.Standing.{pads_stay, within_total}
use Rattle.capnp_copy_widening.proofs.MovedLists.{ElementsSoFar, elements_none, elements_next, some_pads, struct_there, next_fits}
use Rattle.capnp_copy_widening.proofs.FilledLists.{fills_structs, struct_words, struct_pointers}
use Rattle.capnp_copy_widening.proofs.elements.move_elements.Goals as goal

pub loop-i-init : goal.loop-i-init
loop-i-init g c =
    (elements_none (words_in (g.A.ReaderArena.segments c.args.arena.now)) (place_view c.args.old.start) (place_view c.args.new.start) c.args.old.claimed c.args.old.data_words c.args.old.pointers c.args.new.claimed c.args.new.data_words c.args.new.pointers c.args.old.count c.args.pads, refl, refl)

pub overflow_mul-i : goal.overflow_mul-i
overflow_mul-i g c =
    let s = words_in (g.A.ReaderArena.segments c.args.arena.now) in
    let next : c.loop-i.i < c.args.old.count = search rules in
    let l = within_total s (after (place_view c.args.old.start) 1) (c.args.old.count * (c.args.old.data_words + c.args.old.pointers)) c.requires.there.0 in
    let fits = next_fits c.args.old.data_words c.args.old.pointers c.loop-i.i c.args.old.count next in
    omega (arith, l, fits, c.requires.few)

pub move_element-requires-clause-from : goal.move_element-requires-clause-from
move_element-requires-clause-from g c =
    let s = words_in (g.A.ReaderArena.segments c.args.arena.now) in
    let u = words_in (g.A.ReaderArena.segments c.loop-i.arena) in
    let next : c.loop-i.i < c.args.old.count = search rules in
    let here = struct_there s u (place_view c.args.old.start) c.args.old.data_words c.args.old.pointers c.args.old.count c.loop-i.i next c.loop-i.invariant.1 c.requires.there.0 in
    let total : c.args.old.data_words + c.args.old.pointers ≡ c.element_of-from.result.data_words + c.element_of-from.result.pointers = let e = c.element_of-from.ensures.size in omega (arith, e.0, e.1) in
    subst (λ (q : Place). is_some (words_at u q (c.element_of-from.result.data_words + c.element_of-from.result.pointers)) ≡ true) (sym c.element_of-from.ensures.start) (subst (λ (w : ℕ). is_some (words_at u (after (after (place_view c.args.old.start) 1) (c.loop-i.i * (c.args.old.data_words + c.args.old.pointers))) w) ≡ true) total here)

pub move_element-requires-clause-to : goal.move_element-requires-clause-to
move_element-requires-clause-to g c =
    let s = words_in (g.A.ReaderArena.segments c.args.arena.now) in
    let u = words_in (g.A.ReaderArena.segments c.loop-i.arena) in
    let next : c.loop-i.i < c.args.new.count = let l : c.loop-i.i < c.args.old.count = search rules in omega (arith, l, c.requires.wider.as_many) in
    let here = struct_there s u (place_view c.args.new.start) c.args.new.data_words c.args.new.pointers c.args.new.count c.loop-i.i next c.loop-i.invariant.1 c.requires.wider.there.0 in
    let total : c.args.new.data_words + c.args.new.pointers ≡ c.element_of-to.result.data_words + c.element_of-to.result.pointers = let e = c.element_of-to.ensures.size in omega (arith, e.0, e.1) in
    subst (λ (q : Place). is_some (words_at u q (c.element_of-to.result.data_words + c.element_of-to.result.pointers)) ≡ true) (sym c.element_of-to.ensures.start) (subst (λ (w : ℕ). is_some (words_at u (after (after (place_view c.args.new.start) 1) (c.loop-i.i * (c.args.new.data_words + c.args.new.pointers))) w) ≡ true) total here)

pub move_element-requires-clause-pads : goal.move_element-requires-clause-pads
move_element-requires-clause-pads g c =
    let s = words_in (g.A.ReaderArena.segments c.args.arena.now) in
    let u = words_in (g.A.ReaderArena.segments c.loop-i.arena) in
    let next : c.loop-i.i < c.args.old.count = search rules in
    let pointers = struct_pointers (size_number c.args.old.size) c.args.old.pointers c.requires.structs in
    let all : HasPads s c.args.pads (c.args.old.count * c.args.old.pointers) = subst (λ (k : ℕ). HasPads s c.args.pads (c.args.old.count * k)) pointers c.requires.pads in
    let here = some_pads u c.args.pads c.args.old.count c.args.old.pointers c.loop-i.i next (pads_stay s u c.args.pads (c.args.old.count * c.args.old.pointers) (sizes_grow s u c.loop-i.invariant.1) all) in
    subst (λ (k : ℕ). HasPads u c.pad_at.result k) (sym c.element_of-from.ensures.size.1) (subst (λ (o : Option code.Place). HasPads u o c.args.old.pointers) (sym c.pad_at.ensures) here)

pub move_element-requires-clause-few : goal.move_element-requires-clause-few
move_element-requires-clause-few g c =
    let s = words_in (g.A.ReaderArena.segments c.args.arena.now) in
    let u = words_in (g.A.ReaderArena.segments c.loop-i.arena) in
    omega (arith, same_total s u c.loop-i.invariant.1, c.requires.few)

pub loop-i-preserved : goal.loop-i-preserved
loop-i-preserved g c =
    let s = words_in (g.A.ReaderArena.segments c.args.arena.now) in
    let u = words_in (g.A.ReaderArena.segments c.loop-i.arena) in
    let w = words_in (g.A.ReaderArena.segments c.move_element.new.arena) in
    let next : c.loop-i.i < c.args.old.count = search rules in
    let words = struct_words (size_number c.args.old.size) c.args.old.data_words c.requires.structs in
    let pointers = struct_pointers (size_number c.args.old.size) c.args.old.pointers c.requires.structs in
    let ld : c.args.old.data_words ≤ c.args.new.data_words = omega (arith, c.requires.wider.wide.0, words) in
    let lk : c.args.old.pointers ≤ c.args.new.pointers = omega (arith, c.requires.wider.wide.1, pointers) in
    let one : suc c.loop-i.i ≡ c.loop-i.i + 1 = omega arith in
    let from = c.element_of-from in
    let to = c.element_of-to in
    let row = elements_next s u w c.args.old c.args.new c.element_of-from.result c.element_of-to.result c.args.pads c.pad_at.result c.loop-i.i next ld lk c.element_of-from.ensures.start c.element_of-from.ensures.size.0 c.element_of-from.ensures.size.1 c.element_of-to.ensures.start c.element_of-to.ensures.size.0 c.pad_at.ensures c.loop-i.invariant.0 c.move_element.ensures.moves in
    (subst (λ (i : ℕ). ElementsSoFar s w (place_view c.args.old.start) (place_view c.args.new.start) c.args.old.claimed c.args.old.data_words c.args.old.pointers c.args.new.claimed c.args.new.data_words c.args.new.pointers c.args.old.count c.args.pads i) one row, c.move_element.ensures.sizes ∙ c.loop-i.invariant.1, c.move_element.ensures.books ∙ c.loop-i.invariant.2)

pub returns-clause-fills : goal.returns-clause-fills
returns-clause-fills g c =
    let s = words_in (g.A.ReaderArena.segments c.args.arena.now) in
    let u = words_in (g.A.ReaderArena.segments c.loop-i.arena) in
    let all : c.loop-i.i ≡ c.args.old.count = search rules in
    let done = subst (λ (i : ℕ). ElementsSoFar s u (place_view c.args.old.start) (place_view c.args.new.start) c.args.old.claimed c.args.old.data_words c.args.old.pointers c.args.new.claimed c.args.new.data_words c.args.new.pointers c.args.old.count c.args.pads i) all c.loop-i.invariant.0 in
    fills_structs s u c.args.old c.args.new c.args.pads c.requires.structs c.requires.wider.of_structs c.requires.wider.as_many c.requires.wider.wide.0 c.requires.wider.wide.1 done
