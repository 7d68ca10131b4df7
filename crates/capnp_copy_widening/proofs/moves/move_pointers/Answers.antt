use Rattle.std.proofs.Common.{◌≡◌, ◌+◌, ◌<◌, ℕ, suc, Option, refl, sym, ◌∙◌, subst, rules, arith}
use Rattle.capnp_model.specs.Segments.{after}
use Rattle.capnp_units.specs.Segments.{words_in}
use Rattle.capnp_wire_objects.specs.Places.{place_view}
use Rattle.capnp_wire_objects.specs.declared.place.Place as code
use Rattle.capnp_copy_arenas.proofs.lemmas.RoomLaws.{still_some, sizes_grow}
use Rattle.capnp_copy_arenas.proofs.lemmas.Taken.{same_total}
use Rattle.capnp_copy_arenas.proofs.lemmas.Parts.{section_there}
use Rattle.capnp_copy_widening.specs.Moves.{HasPads, pads_of, pad_from, MovesValue}
use Rattle.capnp_copy_widening.proofs.lemmas.Standing.{pads_stay}
use Rattle.capnp_copy_widening.proofs.MovedRows.{RowSoFar, row_none, row_next, row_all, one_pad}
use Rattle.capnp_copy_widening.proofs.moves.move_pointers.Goals as goal

pub loop-i-init : goal.loop-i-init
loop-i-init g c = (row_none (words_in (g.A.ReaderArena.segments c.args.arena.now)) (place_view c.args.from) (place_view c.args.to) c.args.count c.args.pads, refl, refl)

pub move_pointer-requires-clause-from : goal.move_pointer-requires-clause-from
move_pointer-requires-clause-from g c =
    let s = words_in (g.A.ReaderArena.segments c.args.arena.now) in
    let u = words_in (g.A.ReaderArena.segments c.loop-i.arena) in
    let next : c.loop-i.i < c.args.count = search rules in
    still_some s u (after (place_view c.args.from) c.loop-i.i) 1 (sizes_grow s u c.loop-i.invariant.1) (section_there s (place_view c.args.from) c.loop-i.i 1 c.args.count (omega (arith, next)) c.requires.from)

pub move_pointer-requires-clause-to : goal.move_pointer-requires-clause-to
move_pointer-requires-clause-to g c =
    let s = words_in (g.A.ReaderArena.segments c.args.arena.now) in
    let u = words_in (g.A.ReaderArena.segments c.loop-i.arena) in
    let next : c.loop-i.i < c.args.count = search rules in
    still_some s u (after (place_view c.args.to) c.loop-i.i) 1 (sizes_grow s u c.loop-i.invariant.1) (section_there s (place_view c.args.to) c.loop-i.i 1 c.args.count (omega (arith, next)) c.requires.to)

pub move_pointer-requires-clause-pad : goal.move_pointer-requires-clause-pad
move_pointer-requires-clause-pad g c =
    let s = words_in (g.A.ReaderArena.segments c.args.arena.now) in
    let u = words_in (g.A.ReaderArena.segments c.loop-i.arena) in
    let next : c.loop-i.i < c.args.count = search rules in
    subst (λ (o : Option code.Place). HasPads u o 1) (sym c.pad_at.ensures) (one_pad u c.args.pads c.args.count c.loop-i.i next (pads_stay s u c.args.pads c.args.count (sizes_grow s u c.loop-i.invariant.1) c.requires.pads))

pub move_pointer-requires-clause-few : goal.move_pointer-requires-clause-few
move_pointer-requires-clause-few g c =
    let s = words_in (g.A.ReaderArena.segments c.args.arena.now) in
    let u = words_in (g.A.ReaderArena.segments c.loop-i.arena) in
    omega (arith, same_total s u c.loop-i.invariant.1, c.requires.few)

pub loop-i-preserved : goal.loop-i-preserved
loop-i-preserved g c =
    let s = words_in (g.A.ReaderArena.segments c.args.arena.now) in
    let u = words_in (g.A.ReaderArena.segments c.loop-i.arena) in
    let w = words_in (g.A.ReaderArena.segments c.move_pointer.new.arena) in
    let next : c.loop-i.i < c.args.count = search rules in
    let one : suc c.loop-i.i ≡ c.loop-i.i + 1 = omega arith in
    let a = place_view c.args.from in
    let b = place_view c.args.to in
    let moved : MovesValue u w (after (place_view c.args.from) c.loop-i.i) (after (place_view c.args.to) c.loop-i.i) (pads_of (pad_from c.args.pads c.loop-i.i) 1) = subst (λ (o : Option code.Place). MovesValue u w (after (place_view c.args.from) c.loop-i.i) (after (place_view c.args.to) c.loop-i.i) (pads_of o 1)) c.pad_at.ensures c.move_pointer.ensures.value in
    let row = row_next s u w (place_view c.args.from) (place_view c.args.to) c.args.count c.args.pads c.loop-i.i next c.loop-i.invariant.0 moved in
    (subst (λ (i : ℕ). RowSoFar s w (place_view c.args.from) (place_view c.args.to) c.args.count c.args.pads i) one row, c.move_pointer.ensures.sizes ∙ c.loop-i.invariant.1, c.move_pointer.ensures.books ∙ c.loop-i.invariant.2)

pub returns-clause-row : goal.returns-clause-row
returns-clause-row g c =
    let s = words_in (g.A.ReaderArena.segments c.args.arena.now) in
    let u = words_in (g.A.ReaderArena.segments c.loop-i.arena) in
    let all : c.loop-i.i ≡ c.args.count = search rules in
    row_all s u (place_view c.args.from) (place_view c.args.to) c.args.count c.args.pads (subst (λ (i : ℕ). RowSoFar s u (place_view c.args.from) (place_view c.args.to) c.args.count c.args.pads i) all c.loop-i.invariant.0)
