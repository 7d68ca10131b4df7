-- By a struct's data, or a plain element.
use Rattle.std.proofs.Common.{◌≡◌, ◌+◌, ◌*◌, ◌<◌, ℕ, refl, ap, sym, ◌∙◌, arith, rules}
use Rattle.std.specs.Prelude.{◌≢◌}
use Rattle.capnp_model.specs.Sections.{bits_at}
use Rattle.capnp_model.specs.Trees.{size_bits}
use Rattle.capnp_units.specs.Segments.{words_in}
use Rattle.capnp_units.specs.Sizes.{size_number}
use Rattle.capnp_units.proofs.lemmas.Sizes.{composite_by_number}
use Rattle.capnp_copy_arenas.proofs.lemmas.ElementLaws.{no_bits}
use Rattle.capnp_layout_builders.proofs.lemmas.Fronts.{composite_element}
use Rattle.capnp_layout_builders.proofs.ElementFronts.{numbers_alone, struct_owned}
use Rattle.capnp_layout_builders.proofs.fronts.get_front.Goals as goal

pub returns-then-width-eq0 : goal.returns-then-width-eq0
returns-then-width-eq0 g c =
    let none : c.args.width ≡ 0 = search rules in
    record {
      plain = λ lt n section o. sym (ap (λ (w : ℕ). bits_at (size_bits (size_number c.args.list.size) * c.args.index) w section) none ∙ no_bits (size_bits (size_number c.args.list.size) * c.args.index) section);
      pointers = λ six. refl;
      structs = λ seven n section kids es count is owns. sym (ap (λ (w : ℕ). bits_at 0 w section) none ∙ no_bits 0 section);
    }

pub struct_of-requires : goal.struct_of-requires
struct_of-requires g c = composite_element c.args.list c.args.index (ap size_number c.in-InlineComposite.is) c.requires.inside.near c.requires.inside.inside

pub get_bits-requires : goal.get_bits-requires
get_bits-requires g c =
    let some : 0 < c.args.width = search rules in
    let at = c.struct_of.ensures in
    let wide = c.requires.inside.wide in
    let few = c.requires.few in
    let words = at.data_words in
    let near = at.near in
    record { near = omega (arith, near); inside = (omega (arith, wide, words), omega (arith, few), some) }

pub returns-in-InlineComposite : goal.returns-in-InlineComposite
returns-in-InlineComposite g c =
    let s = words_in (g.A.ReaderArena.segments c.args.arena.now) in
    let seven : size_number c.args.list.size ≡ 7 = ap size_number c.in-InlineComposite.is in
    record {
      plain = λ lt. absurd (omega (arith, lt, seven));
      pointers = λ six. absurd (omega (arith, six, seven));
      structs = λ e n section kids es count is owns. c.get_bits.ensures n section kids (struct_owned s c.args.list c.args.index c.struct_of.result seven c.requires.inside.inside c.struct_of.ensures n section kids es count is owns);
    }

pub get_element-requires : goal.get_element-requires
get_element-requires g c =
    let some : 0 < c.args.width = search rules in
    let near = c.requires.inside.near in
    let x = numbers_alone c.args.list.size c.args.list.data_words c.args.width c.in_default.not-InlineComposite some c.requires.inside.wide in
    record { near = omega (arith, near); inside = (c.requires.inside.inside, x.0, x.1) }

pub returns-in_default : goal.returns-in_default
returns-in_default g c =
    let some : 0 < c.args.width = search rules in
    let other : size_number c.args.list.size ≢ 7 = λ e. c.in_default.not-InlineComposite (composite_by_number c.args.list.size e) in
    let x = numbers_alone c.args.list.size c.args.list.data_words c.args.width c.in_default.not-InlineComposite some c.requires.inside.wide in
    record {
      plain = λ lt. c.get_element.ensures;
      pointers = λ six. absurd (let less = x.1 in omega (arith, six, less));
      structs = λ e. absurd (other e);
    }
