use Rattle.std.proofs.Common.{◌≡◌, ◌+◌, ◌*◌, ◌/◌, ◌<◌, ℕ, ap, sym, ◌∙◌, arith, rules}
use Rattle.capnp_model.specs.Sections.{bits_at}
use Rattle.capnp_units.specs.Segments.{words_in}
use Rattle.capnp_units.specs.Sizes.{size_number}
use Rattle.capnp_wire_objects.specs.Places.{place_view}
use Rattle.capnp_model.proofs.lemmas.PointerWords.{list_kind_small}
use Rattle.capnp_copy_arenas.proofs.lemmas.ElementLaws.{get_plain, no_plain_word}
use Rattle.capnp_copy_arenas.proofs.elements.get_element.Goals as goal

pub returns-in-Some : goal.returns-in-Some
returns-in-Some g c = λ n section o.
    let x = c.bit_of_element-at.ensures in
    let size : ℕ = size_number c.args.list.size in
    let some : 0 < c.args.width = search rules in
    c.bits_in.ensures
    ∙ get_plain n (words_in (g.A.ReaderArena.segments c.args.arena.now)) (place_view c.args.list.start) size c.args.list.count c.bit_of_element-at.result c.args.width c.in-Some.word section (list_kind_small size c.requires.inside.2) (sym c.in-Some.ensures.word) x.far x.one_word some o
    ∙ ap (λ (m : ℕ). bits_at m c.args.width section) x.at

pub returns-in-None : goal.returns-in-None
returns-in-None g c = λ n section o.
    let x = c.bit_of_element-at.ensures in
    let size : ℕ = size_number c.args.list.size in
    let some : 0 < c.args.width = search rules in
    absurd (no_plain_word n (words_in (g.A.ReaderArena.segments c.args.arena.now)) (place_view c.args.list.start) size c.args.list.count (c.bit_of_element-at.result / 64) section (list_kind_small size c.requires.inside.2) (omega (arith, x.far, some)) o (search rules))
