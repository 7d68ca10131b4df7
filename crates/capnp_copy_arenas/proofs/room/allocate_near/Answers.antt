use Rattle.std.proofs.Common.{arith, ◌+◌}
use Rattle.capnp_units.specs.Segments.{words_in}
use Rattle.capnp_copy_arenas.proofs.lemmas.Ends.{word_before_end, end_within}
use Rattle.capnp_copy_arenas.proofs.room.allocate_near.Goals as goal

pub overflow_add-offset : goal.overflow_add-offset
overflow_add-offset g c =
    let s = words_in (g.A.ReaderArena.segments c.args.arena.now) in
    let a = c.in-Some.ensures.some.1 in
    omega (arith, word_before_end s c.args.slot.segment c.args.slot.position c.requires.there, end_within s c.args.slot.segment, a.few)

pub overflow_sub-offset : goal.overflow_sub-offset
overflow_sub-offset g c =
    let s = words_in (g.A.ReaderArena.segments c.args.arena.now) in
    let a = c.in-Some.ensures.some.1 in
    omega (arith, word_before_end s c.args.slot.segment c.args.slot.position c.requires.there, a.end)

pub returns-in-Some-clause-ok : goal.returns-in-Some-clause-ok
returns-in-Some-clause-ok g c =
    let s = words_in (g.A.ReaderArena.segments c.args.arena.now) in
    let a = c.in-Some.ensures.some.1 in
    let l = word_before_end s c.args.slot.segment c.args.slot.position c.requires.there in
    (omega (arith, c.if-words-eq0.false), record { among = a.among; end = omega (arith, l, a.end); few = a.few; now = a.now })
