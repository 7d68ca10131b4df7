use Rattle.std.proofs.Common.{◌*◌, ◌/◌, ◌%◌, ◌<◌, ◌^◌, ℕ, [], ◌∷◌, ap, sym, ◌∙◌, subst, rules, length, map}
use Rattle.std.specs.Option.{is_some}
use Rattle.capnp_model.specs.Sections.{number_of, with_bits}
use Rattle.capnp_model.specs.Segments.{Segments, after}
use Rattle.capnp_model.specs.Pointers.{a_list}
use Rattle.capnp_model.specs.Trees.{plain_list}
use Rattle.capnp_model.proofs.lemmas.Locality.{word_is}
use Rattle.capnp_model.proofs.lemmas.Numbers.{number_of_lt}
use Rattle.capnp_units.specs.Segments.{words_in}
use Rattle.capnp_wire_objects.specs.Places.{place_view}
use Rattle.capnp_model_writes.specs.Changes.{ReplacesObject}
use Rattle.capnp_model_writes.specs.Writes.{with_words}
use Rattle.capnp_copy_arenas.proofs.ByteSets.{none_set, part_set, no_part}
use Rattle.capnp_copy_arenas.proofs.lemmas.ZeroedWords.{written_sizes}
use Rattle.capnp_copy_arenas.proofs.bytes.set_in_word.Goals as goal

pub returns-then-is_empty-clause-sets : goal.returns-then-is_empty-clause-sets
returns-then-is_empty-clause-sets g c = λ n m section l o.
    let s = words_in (g.A.ReaderArena.segments c.args.arena.now) in
    none_set n s (place_view c.args.start) m c.args.at section c.args.bytes.now (search rules) o

pub word_with-word-requires-clause-fits : goal.word_with-word-requires-clause-fits
word_with-word-requires-clause-fits g c = subst (λ (k : ℕ). k < 2 ^ (8 * length c.args.bytes.now)) (sym c.number_in_bytes.ensures) (number_of_lt 8 c.args.bytes.now)

pub write_word-requires : goal.write_word-requires
write_word-requires g c =
    ap is_some (word_is (words_in (g.A.ReaderArena.segments c.args.arena.now)) (after (place_view c.args.start) (c.args.at / 8)) c.in-Some.word (sym c.in-Some.ensures.word))

pub returns-in-Some-clause-sets : goal.returns-in-Some-clause-sets
returns-in-Some-clause-sets g c = λ n m section l o.
    let s = words_in (g.A.ReaderArena.segments c.args.arena.now) in
    let p = place_view c.args.start in
    let at : ℕ = c.args.at in
    let bytes = c.args.bytes.now in
    let some : 0 < length bytes = search rules in
    let bits = c.word_with-word.ensures.bits ∙ ap (λ (v : ℕ). with_bits (8 * (at % 8)) (8 * length bytes) v c.in-Some.word) c.number_in_bytes.ensures in
    let now = c.write_word.ensures.words ∙ ap (λ (v : ℕ). with_words s (after p (at / 8)) (v ∷ [])) bits in
    let all = part_set n s p m at c.in-Some.word section bytes (sym c.in-Some.ensures.word) c.word_with-word.ensures.word l c.requires.one_word some o in
    subst (λ (u : Segments). ReplacesObject n s u (a_list p 2 m) (plain_list 2 m (with_bits (8 * at) (8 * length bytes) (number_of 8 bytes) section))) (sym now) all

pub returns-in-Some-clause-sizes : goal.returns-in-Some-clause-sizes
returns-in-Some-clause-sizes g c =
    ap (λ (x : Segments). map length x) c.write_word.ensures.words ∙ written_sizes (words_in (g.A.ReaderArena.segments c.args.arena.now)) (after (place_view c.args.start) (c.args.at / 8)) (c.word_with-word.result ∷ [])

pub returns-in_default-clause-sets : goal.returns-in_default-clause-sets
returns-in_default-clause-sets g c = λ n m section l o.
    let s = words_in (g.A.ReaderArena.segments c.args.arena.now) in
    let some : 0 < length c.args.bytes.now = search rules in
    absurd (no_part n s (place_view c.args.start) m c.args.at (length c.args.bytes.now) section l some o (search rules))
