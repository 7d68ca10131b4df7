use Rattle.std.proofs.Common.{◌≡◌, ◌+◌, ◌*◌, ◌/◌, ◌%◌, ◌<◌, ◌^◌, ℕ, [], ◌∷◌, ap, sym, ◌∙◌, subst, arith, rules, length, map}
use Rattle.std.specs.Option.{is_some}
use Rattle.capnp_model.specs.Sections.{with_bits}
use Rattle.capnp_model.specs.Segments.{Segments, after}
use Rattle.capnp_model.specs.Pointers.{a_list}
use Rattle.capnp_model.specs.Trees.{plain_list, size_bits}
use Rattle.capnp_units.specs.Segments.{words_in}
use Rattle.capnp_units.specs.Sizes.{size_number}
use Rattle.capnp_wire_objects.specs.Places.{place_view}
use Rattle.capnp_model_writes.specs.Changes.{ReplacesObject}
use Rattle.capnp_model_writes.specs.Writes.{with_words}
use Rattle.capnp_model.proofs.lemmas.Locality.{word_is}
use Rattle.capnp_model.proofs.lemmas.PointerWords.{list_kind_small}
use Rattle.capnp_copy_arenas.proofs.lemmas.ElementLaws.{set_plain, no_plain_word, same_list}
use Rattle.capnp_copy_arenas.proofs.lemmas.ZeroedWords.{written_sizes}
use Rattle.capnp_copy_arenas.proofs.elements.set_element.Goals as goal

pub returns-then-width-eq0-clause-sets : goal.returns-then-width-eq0-clause-sets
returns-then-width-eq0-clause-sets g c = λ n section o.
    let size : ℕ = size_number c.args.list.size in
    let none : c.args.width ≡ 0 = search rules in
    let s = words_in (g.A.ReaderArena.segments c.args.arena.now) in
    let p = place_view c.args.list.start in
    let fits : c.args.value < 2 ^ 0 = subst (λ (w : ℕ). c.args.value < 2 ^ w) none c.requires.fits in
    subst (λ (w : ℕ). ReplacesObject n s s (a_list p size c.args.list.count) (plain_list size c.args.list.count (with_bits (size_bits size * c.args.index) w c.args.value section))) (sym none)
    (same_list n s p size c.args.list.count (size_bits size * c.args.index) c.args.value section fits o)

pub write_word-requires : goal.write_word-requires
write_word-requires g c =
    let p = place_view c.args.list.start in
    ap is_some (word_is (words_in (g.A.ReaderArena.segments c.args.arena.now)) (after p (c.bit_of_element-at.result / 64)) c.in-Some.word (sym c.in-Some.ensures.word))

pub returns-in-Some-clause-sets : goal.returns-in-Some-clause-sets
returns-in-Some-clause-sets g c = λ n section o.
    let x = c.bit_of_element-at.ensures in
    let at : ℕ = c.bit_of_element-at.result in
    let size : ℕ = size_number c.args.list.size in
    let some : 0 < c.args.width = search rules in
    let s = words_in (g.A.ReaderArena.segments c.args.arena.now) in
    let p = place_view c.args.list.start in
    let now = c.write_word.ensures.words ∙ ap (λ (v : ℕ). with_words s (after p (at / 64)) (v ∷ [])) c.word_with-word.ensures.bits in
    let all = set_plain n s p size c.args.list.count at c.args.width c.args.value c.in-Some.word section (list_kind_small size c.requires.inside.2) (sym c.in-Some.ensures.word) c.word_with-word.ensures.word x.far x.one_word some c.requires.fits o in
    subst (λ (u : Segments). ReplacesObject n s u (a_list p size c.args.list.count) (plain_list size c.args.list.count (with_bits (size_bits size * c.args.index) c.args.width c.args.value section))) (sym now)
    (subst (λ (m : ℕ). ReplacesObject n s (with_words s (after p (at / 64)) (with_bits (at % 64) c.args.width c.args.value c.in-Some.word ∷ [])) (a_list p size c.args.list.count) (plain_list size c.args.list.count (with_bits m c.args.width c.args.value section))) x.at all)

pub returns-in_default-clause-sets : goal.returns-in_default-clause-sets
returns-in_default-clause-sets g c = λ n section o.
    let x = c.bit_of_element-at.ensures in
    let size : ℕ = size_number c.args.list.size in
    let some : 0 < c.args.width = search rules in
    absurd (no_plain_word n (words_in (g.A.ReaderArena.segments c.args.arena.now)) (place_view c.args.list.start) size c.args.list.count (c.bit_of_element-at.result / 64) section (list_kind_small size c.requires.inside.2) (omega (arith, x.far, some)) o (search rules))

pub returns-in-Some-clause-sizes : goal.returns-in-Some-clause-sizes
returns-in-Some-clause-sizes g c = ap (λ (x : Segments). map length x) c.write_word.ensures.words ∙ written_sizes (words_in (g.A.ReaderArena.segments c.args.arena.now)) (after (place_view c.args.list.start) (c.bit_of_element-at.result / 64)) (c.word_with-word.result ∷ [])
