use Rattle.std.proofs.Common.{◌/◌, sym, ◌∙◌, arith, rules}
use Rattle.capnp_units.specs.Segments.{words_in}
use Rattle.capnp_wire_objects.specs.Places.{place_view}
use Rattle.capnp_copy_arenas.proofs.lemmas.FieldLaws.{get_field, no_word}
use Rattle.capnp_copy_arenas.proofs.fields.get_bits.Goals as goal

pub returns-in-Some : goal.returns-in-Some
returns-in-Some g c = λ n section kids o.
    let i = c.requires.inside in
    c.bits_in.ensures ∙ get_field n (words_in (g.A.ReaderArena.segments c.args.arena.now)) (place_view c.args.object.start) c.args.object.data_words c.args.object.pointers c.args.at c.args.width c.in-Some.word section kids (sym c.in-Some.ensures.word) i.0 i.1 i.2 o

pub returns-in-None : goal.returns-in-None
returns-in-None g c = λ n section kids o.
    let i = c.requires.inside in
    absurd (no_word n (words_in (g.A.ReaderArena.segments c.args.arena.now)) (place_view c.args.object.start) c.args.object.data_words c.args.object.pointers (c.args.at / 64) c.args.object.data_words section kids (omega (arith, i.0, i.2)) o (search rules))
