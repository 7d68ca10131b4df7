use Rattle.std.proofs.Common.{◌≡◌, ℕ, [], ◌∷◌, None, ap, sym, ◌∙◌, subst, arith, rules, length, map}
use Rattle.std.specs.Option.{is_some}
use Rattle.capnp_model.specs.Sections.{with_bits}
use Rattle.capnp_model.specs.Segments.{Segments, Place, word_at}
use Rattle.capnp_model.specs.Pointers.{a_struct}
use Rattle.capnp_model.specs.Trees.{structure}
use Rattle.capnp_model.proofs.lemmas.Locality.{word_is}
use Rattle.capnp_units.specs.Segments.{words_in}
use Rattle.capnp_wire_objects.specs.Places.{place_view}
use Rattle.capnp_model_writes.specs.Changes.{ReplacesObject}
use Rattle.capnp_model_writes.specs.Writes.{with_words}
use Rattle.capnp_model_writes.proofs.lemmas.Rows.{after_none}
use Rattle.capnp_copy_arenas.proofs.lemmas.FieldLaws.{set_field, no_word}
use Rattle.capnp_copy_arenas.proofs.lemmas.ZeroedWords.{written_sizes}
use Rattle.capnp_layout_builders.proofs.fronts.set_struct_front.Goals as goal

pub write_word-requires : goal.write_word-requires
write_word-requires g c = ap is_some (word_is (words_in (g.A.ReaderArena.segments c.args.arena.now)) (place_view c.args.object.start) c.in-Some.word (sym c.in-Some.ensures.word))

pub returns-in-Some-clause-sets : goal.returns-in-Some-clause-sets
returns-in-Some-clause-sets g c = λ n section kids o.
    let p = place_view c.args.object.start in
    let d = c.args.object.data_words in
    let k = c.args.object.pointers in
    let w = c.args.width in
    let v = c.args.value in
    let s = words_in (g.A.ReaderArena.segments c.args.arena.now) in
    let i = c.requires.inside in
    let now = c.write_word.ensures.words ∙ ap (λ (x : ℕ). with_words s p (x ∷ [])) c.word_with-word.ensures.bits in
    let there = ap (word_at s) (after_none p) ∙ sym c.in-Some.ensures.word in
    let put = set_field n s p d k 0 w v c.in-Some.word section kids there c.word_with-word.ensures.word i.0 i.1 i.2 c.requires.fits o in
    subst (λ (u : Segments). ReplacesObject n s u (a_struct p d k) (structure d (with_bits 0 w v section) kids)) (sym now)
    (subst (λ (q : Place). ReplacesObject n s (with_words s q (with_bits 0 w v c.in-Some.word ∷ [])) (a_struct p d k) (structure d (with_bits 0 w v section) kids)) (after_none p) put)

pub returns-in_default-clause-sets : goal.returns-in_default-clause-sets
returns-in_default-clause-sets g c = λ n section kids o.
    let p = place_view c.args.object.start in
    let s = words_in (g.A.ReaderArena.segments c.args.arena.now) in
    let i = c.requires.inside in
    let none : word_at s p ≡ None = search rules in
    absurd (no_word n s p c.args.object.data_words c.args.object.pointers 0 c.args.object.data_words section kids (omega (arith, i.0, i.2)) o (ap (word_at s) (after_none p) ∙ none))

pub returns-in-Some-clause-sizes : goal.returns-in-Some-clause-sizes
returns-in-Some-clause-sizes g c = ap (λ (x : Segments). map length x) c.write_word.ensures.words ∙ written_sizes (words_in (g.A.ReaderArena.segments c.args.arena.now)) (place_view c.args.object.start) (c.word_with-word.result ∷ [])
