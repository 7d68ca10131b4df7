use Rattle.std.proofs.Common.{◌≡◌, ◌+◌, ◌<◌, ◌≤◌, ◌^◌, ℕ, suc, [], ◌∷◌, length, map, true, refl, ap, sym, ◌∙◌, subst, rules, arith}
use Rattle.std.specs.Option.{is_some}
use Rattle.capnp_model.specs.Segments.{Segments, Place, words_at}
use Rattle.capnp_units.specs.Segments.{words_in}
use Rattle.capnp_units.specs.Sizes.{size_number}
use Rattle.capnp_wire_objects.specs.Places.{place_view}
use Rattle.capnp_model_writes.specs.Writes.{with_words}
use Rattle.capnp_copy_arenas.proofs.lemmas.ZeroedWords.{written_sizes}
use Rattle.capnp_copy_arenas.proofs.lemmas.Parts.{front_there}
use Rattle.capnp_copy_widening.specs.MovedElements.{struct_begin}
use Rattle.capnp_copy_widening.proofs.MovedLists.{struct_there}
use Rattle.capnp_copy_widening.proofs.lemmas.CopiedNumbers.{NumbersSoFar, numbers_none, numbers_next, one_data_word, plain_bits, fills_numbers}
use Rattle.capnp_copy_widening.proofs.elements.copy_numbers.Goals as goal

pub loop-i-init : goal.loop-i-init
loop-i-init g c =
    (numbers_none (words_in (g.A.ReaderArena.segments c.args.arena.now)) (place_view c.args.old.start) (place_view c.args.new.start) (size_number c.args.old.size) c.args.new.claimed c.args.new.data_words c.args.new.pointers c.args.old.count, refl, refl)

pub write_word-requires : goal.write_word-requires
write_word-requires g c =
    let s = words_in (g.A.ReaderArena.segments c.args.arena.now) in
    let u = words_in (g.A.ReaderArena.segments c.loop-i.arena) in
    let next : c.loop-i.i < c.args.new.count = let l : c.loop-i.i < c.args.old.count = search rules in omega (arith, l, c.requires.wider.as_many) in
    let here = struct_there s u (place_view c.args.new.start) c.args.new.data_words c.args.new.pointers c.args.new.count c.loop-i.i next c.loop-i.invariant.1 c.requires.wider.there.0 in
    let one = one_data_word (size_number c.args.old.size) c.args.old.data_words c.requires.numbers.0 c.requires.numbers.1 in
    let first = front_there u (struct_begin c.args.new c.loop-i.i) 1 (c.args.new.data_words + c.args.new.pointers) (omega (arith, one, c.requires.wider.wide.0)) here in
    subst (λ (q : Place). is_some (words_at u q 1) ≡ true) (sym c.element_of.ensures.start) first

pub loop-i-preserved : goal.loop-i-preserved
loop-i-preserved g c =
    let s = words_in (g.A.ReaderArena.segments c.args.arena.now) in
    let u = words_in (g.A.ReaderArena.segments c.loop-i.arena) in
    let w = words_in (g.A.ReaderArena.segments c.write_word.new.self) in
    let next : c.loop-i.i < c.args.old.count = search rules in
    let up : suc c.loop-i.i ≡ c.loop-i.i + 1 = omega arith in
    let one = one_data_word (size_number c.args.old.size) c.args.old.data_words c.requires.numbers.0 c.requires.numbers.1 in
    let ld : 1 ≤ c.args.new.data_words = omega (arith, one, c.requires.wider.wide.0) in
    let small : c.get_element-number.result < 2 ^ 64 = search rules in
    let wide = c.data_bits_per_element.ensures ∙ plain_bits (size_number c.args.old.size) c.requires.numbers.1 in
    let now : w ≡ with_words u (struct_begin c.args.new c.loop-i.i) (c.get_element-number.result ∷ []) = c.write_word.ensures.words ∙ ap (λ (q : Place). with_words u q (c.get_element-number.result ∷ [])) c.element_of.ensures.start in
    let row = numbers_next s u w c.args.old (place_view c.args.new.start) c.args.new.claimed c.args.new.data_words c.args.new.pointers c.loop-i.i c.get_element-number.result c.data_bits_per_element.result next ld small wide c.get_element-number.ensures now c.loop-i.invariant.0 in (
      subst (λ (i : ℕ). NumbersSoFar s w (place_view c.args.old.start) (place_view c.args.new.start) (size_number c.args.old.size) c.args.new.claimed c.args.new.data_words c.args.new.pointers c.args.old.count i) up row,
      ap (λ (x : Segments). map length x) c.write_word.ensures.words ∙ written_sizes u (place_view c.element_of.result.start) (c.get_element-number.result ∷ []) ∙ c.loop-i.invariant.1,
      c.write_word.ensures.books ∙ c.loop-i.invariant.2,
    )

pub returns-clause-fills : goal.returns-clause-fills
returns-clause-fills g c =
    let s = words_in (g.A.ReaderArena.segments c.args.arena.now) in
    let u = words_in (g.A.ReaderArena.segments c.loop-i.arena) in
    let all : c.loop-i.i ≡ c.args.old.count = search rules in
    let done = subst (λ (i : ℕ). NumbersSoFar s u (place_view c.args.old.start) (place_view c.args.new.start) (size_number c.args.old.size) c.args.new.claimed c.args.new.data_words c.args.new.pointers c.args.old.count i) all c.loop-i.invariant.0 in
    fills_numbers s u c.args.old c.args.new c.requires.numbers.0 c.requires.numbers.1 c.requires.counted c.requires.wider.of_structs c.requires.wider.as_many c.requires.wider.wide.0 done
