-- Into a struct's data, or a plain element.
use Rattle.std.proofs.Common.{◌≡◌, ◌+◌, ◌*◌, ◌^◌, ◌<◌, ℕ, refl, ap, sym, ◌∙◌, subst, arith, rules}
use Rattle.std.specs.Prelude.{◌≢◌}
use Rattle.capnp_model.specs.Sections.{with_bits}
use Rattle.capnp_model.specs.Trees.{Elements, plain_list, struct_list, size_bits}
use Rattle.capnp_units.specs.Segments.{words_in}
use Rattle.capnp_units.specs.Sizes.{size_number}
use Rattle.capnp_units.proofs.lemmas.Sizes.{composite_by_number}
use Rattle.capnp_wire_objects.specs.Places.{place_view}
use Rattle.capnp_model.specs.Pointers.{a_list}
use Rattle.capnp_model_writes.specs.Changes.{ReplacesObject}
use Rattle.capnp_model_writes.specs.Elements.{with_element}
use Rattle.capnp_model_writes.specs.Footprints.{object_footprint}
use Rattle.capnp_model_writes.proofs.lemmas.Algebra.{changes_nothing}
use Rattle.capnp_copy_arenas.specs.Lists.{object_of_list}
use Rattle.capnp_copy_arenas.proofs.lemmas.ElementLaws.{none_written, same_list}
use Rattle.capnp_layout_builders.proofs.lemmas.Fronts.{composite_element}
use Rattle.capnp_layout_builders.proofs.ElementFronts.{numbers_alone, element_same, struct_owned, struct_replaced}
use Rattle.capnp_layout_builders.proofs.fronts.set_front.Goals as goal

pub returns-then-width-eq0-clause-sets : goal.returns-then-width-eq0-clause-sets
returns-then-width-eq0-clause-sets g c =
    let l = c.args.list in
    let s = words_in (g.A.ReaderArena.segments c.args.arena.now) in
    let size : ℕ = size_number l.size in
    let p = place_view l.start in
    let none : c.args.width ≡ 0 = search rules in
    let fits : c.args.value < 2 ^ 0 = subst (λ (w : ℕ). c.args.value < 2 ^ w) none c.requires.fits in
    record {
      plain = λ lt n section o. subst (λ (w : ℕ). ReplacesObject n s s (a_list p size l.count) (plain_list size l.count (with_bits (size_bits size * c.args.index) w c.args.value section))) (sym none)
          (same_list n s p size l.count (size_bits size * c.args.index) c.args.value section fits o);
      pointers = λ six. refl;
      structs = λ seven n section kids es count is owns.
          (let same : with_bits 0 c.args.width c.args.value section ≡ section = ap (λ (w : ℕ). with_bits 0 w c.args.value section) none ∙ none_written 0 c.args.value section fits in
          let all : with_element es c.args.index (with_bits 0 c.args.width c.args.value section) kids ≡ es = ap (λ (x : ℕ). with_element es c.args.index x kids) same ∙ element_same l.data_words c.args.index section kids es is in
          subst (λ (ys : Elements). ReplacesObject n s s (object_of_list l) (struct_list l.data_words l.pointers ys)) (sym all) (record { means = owns.means; changes = changes_nothing s (object_footprint n s (object_of_list l)) }));
    }

pub struct_of-requires : goal.struct_of-requires
struct_of-requires g c = composite_element c.args.list c.args.index (ap size_number c.in-InlineComposite.is) c.requires.inside.near c.requires.inside.inside

pub set_struct_front-requires : goal.set_struct_front-requires
set_struct_front-requires g c =
    let some : 0 < c.args.width = search rules in
    let at = c.struct_of.ensures in
    let wide = c.requires.inside.wide in
    let few = c.requires.few in
    let words = at.data_words in
    record { inside = (omega (arith, wide, words), omega (arith, few), some); fits = c.requires.fits }

pub returns-in-InlineComposite-clause-sets : goal.returns-in-InlineComposite-clause-sets
returns-in-InlineComposite-clause-sets g c =
    let l = c.args.list in
    let s = words_in (g.A.ReaderArena.segments c.args.arena.now) in
    let u = words_in (g.A.ReaderArena.segments c.set_struct_front.new.arena) in
    let i = c.args.index in
    let p = c.struct_of.result in
    let inside = c.requires.inside.inside in
    let at = c.struct_of.ensures in
    let seven : size_number l.size ≡ 7 = ap size_number c.in-InlineComposite.is in
    record {
      plain = λ lt. absurd (omega (arith, lt, seven));
      pointers = λ six. absurd (omega (arith, six, seven));
      structs = λ e n section kids es count is owns. struct_replaced s l i p seven inside at n section kids es count is owns u (with_bits 0 c.args.width c.args.value section) (c.set_struct_front.ensures.sets n section kids (struct_owned s l i p seven inside at n section kids es count is owns));
    }

pub set_element-requires : goal.set_element-requires
set_element-requires g c =
    let some : 0 < c.args.width = search rules in
    let near = c.requires.inside.near in
    let x = numbers_alone c.args.list.size c.args.list.data_words c.args.width c.in_default.not-InlineComposite some c.requires.inside.wide in
    record { near = omega (arith, near); inside = (c.requires.inside.inside, x.0, x.1); fits = c.requires.fits }

pub returns-in_default-clause-sets : goal.returns-in_default-clause-sets
returns-in_default-clause-sets g c =
    let some : 0 < c.args.width = search rules in
    let other : size_number c.args.list.size ≢ 7 = λ e. c.in_default.not-InlineComposite (composite_by_number c.args.list.size e) in
    let x = numbers_alone c.args.list.size c.args.list.data_words c.args.width c.in_default.not-InlineComposite some c.requires.inside.wide in
    record {
      plain = λ lt. c.set_element.ensures.sets;
      pointers = λ six. absurd (let less = x.1 in omega (arith, six, less));
      structs = λ e. absurd (other e);
    }
