use Rattle.std.proofs.Common.{◌≡◌, ◌<◌, refl, ◌∙◌, rules, arith}
use Rattle.capnp_units.specs.Segments.{words_in}
use Rattle.capnp_wire_objects.specs.Places.{place_view}
use Rattle.capnp_copy_values.proofs.TakenContent.{rest_begun, rest_next, rest_ended}
use Rattle.capnp_copy_values.proofs.contents.clear_rest.Goals as goal

pub loop-i-init : goal.loop-i-init
loop-i-init g c =
    let s = words_in (g.A.ReaderArena.segments c.args.arena.now) in
    (rest_begun s (place_view c.args.object.start) c.args.object.data_words c.args.object.pointers c.args.kept c.requires.few, omega arith, refl, refl, refl)

pub loop-i-preserved : goal.loop-i-preserved
loop-i-preserved g c =
    let s = words_in (g.A.ReaderArena.segments c.args.arena.now) in
    let u = words_in (g.A.ReaderArena.segments c.loop-i.arena) in
    let v = words_in (g.A.ReaderArena.segments c.clear.new.arena) in
    let i = c.loop-i.invariant in
    let low = i.1 in
    let next : c.loop-i.i < c.args.object.pointers = search rules in
    (rest_next s u v (place_view c.args.object.start) c.args.object.data_words c.args.object.pointers c.args.kept c.loop-i.i low next i.0 c.clear.ensures.clears, omega (arith, low), c.clear.ensures.sizes ∙ i.2, c.clear.ensures.books ∙ i.3, c.clear.ensures.room ∙ i.4)

pub returns-clause-rest : goal.returns-clause-rest
returns-clause-rest g c =
    let s = words_in (g.A.ReaderArena.segments c.args.arena.now) in
    let u = words_in (g.A.ReaderArena.segments c.loop-i.arena) in
    let all : c.loop-i.i ≡ c.args.object.pointers = search rules in
    rest_ended s u (place_view c.args.object.start) c.args.object.data_words c.args.object.pointers c.args.kept c.loop-i.i all c.loop-i.invariant.0
