use Rattle.std.proofs.Common.{ℕ, ◌/◌, [], ◌∷◌, ap, sym, ◌∙◌, subst, arith, rules, length, map}
use Rattle.capnp_model.specs.Sections.{with_bits}
use Rattle.capnp_model.specs.Segments.{Segments, after}
use Rattle.capnp_model.specs.Pointers.{a_struct}
use Rattle.capnp_model.specs.Trees.{structure}
use Rattle.capnp_units.specs.Segments.{words_in}
use Rattle.capnp_wire_objects.specs.Places.{place_view}
use Rattle.capnp_model_writes.specs.Changes.{ReplacesObject}
use Rattle.capnp_model_writes.specs.Writes.{with_words}
use Rattle.capnp_copy_arenas.proofs.lemmas.FieldLaws.{set_field, no_word, no_word_there}
use Rattle.capnp_copy_arenas.proofs.lemmas.ZeroedWords.{written_sizes}
use Rattle.capnp_copy_arenas.proofs.fields.set_bits.Goals as goal

pub returns-in-Some-clause-sets : goal.returns-in-Some-clause-sets
returns-in-Some-clause-sets g c = λ n section kids o.
    let p = place_view c.args.object.start in
    let s = words_in (g.A.ReaderArena.segments c.args.arena.now) in
    let i = c.requires.inside in
    let now = c.write_word.ensures.words ∙ ap (λ (v : ℕ). with_words s (after p (c.args.at / 64)) (v ∷ [])) c.word_with-word.ensures.bits in
    subst (λ (u : Segments). ReplacesObject n s u (a_struct p c.args.object.data_words c.args.object.pointers) (structure c.args.object.data_words (with_bits c.args.at c.args.width c.args.value section) kids)) (sym now)
    (set_field n s p c.args.object.data_words c.args.object.pointers c.args.at c.args.width c.args.value c.in-Some.word section kids (sym c.in-Some.ensures.word) c.word_with-word.ensures.word i.0 i.1 i.2 c.requires.fits o)

pub returns-in-Some-clause-word : goal.returns-in-Some-clause-word
returns-in-Some-clause-word g c = (c.word_with-word.result, c.write_word.ensures.words)

pub returns-in_default-clause-word : goal.returns-in_default-clause-word
returns-in_default-clause-word g c =
    let s = words_in (g.A.ReaderArena.segments c.args.arena.now) in
    let p = place_view c.args.object.start in
    let i = c.requires.inside in
    absurd (no_word_there s p (c.args.at / 64) c.args.object.data_words (omega (arith, i.0, i.2)) c.requires.there (search rules))

pub returns-in_default-clause-sets : goal.returns-in_default-clause-sets
returns-in_default-clause-sets g c = λ n section kids o.
    let i = c.requires.inside in
    absurd (no_word n (words_in (g.A.ReaderArena.segments c.args.arena.now)) (place_view c.args.object.start) c.args.object.data_words c.args.object.pointers (c.args.at / 64) c.args.object.data_words section kids (omega (arith, i.0, i.2)) o (search rules))

pub returns-in-Some-clause-sizes : goal.returns-in-Some-clause-sizes
returns-in-Some-clause-sizes g c = ap (λ (x : Segments). map length x) c.write_word.ensures.words ∙ written_sizes (words_in (g.A.ReaderArena.segments c.args.arena.now)) (after (place_view c.args.object.start) (c.args.at / 64)) (c.word_with-word.result ∷ [])
