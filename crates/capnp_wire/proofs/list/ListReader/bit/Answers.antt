-- The bit is the first of the element.
use Rattle.std.proofs.Common.{◌≡◌, ℕ, ◌*◌, rules, eqb, refl, ap, ◌∙◌, sym}
use denote.Enum.Bare.{same_true}
use Rattle.capnp_model.specs.Sections.{number_of}
use Rattle.capnp_model.specs.Readings.{field_bits, just_bits}
use Rattle.capnp_units.specs.declared.sizes.ElementSize.{ElementSize}
use Rattle.capnp_units.specs.declared.sizes.ElementSize.TheVariants.{Bit}
use Rattle.capnp_units.specs.contracts.sizes.ElementSize.{the_type}
use Rattle.capnp_wire_objects.specs.Places.{place_view}
use Rattle.capnp_units.specs.Sizes.{size_number}
use Rattle.capnp_wire.specs.Elements.{step_bits, element_bits}
use Rattle.capnp_wire.specs.Views.{StructView, ground_of, seen_list, element_number, list_view}
use Rattle.capnp_wire.proofs.Elements.{element_field, bit_element}
use Rattle.capnp_wire.proofs.list.ListReader.bit.Goals as goal

pub returns-then-eq : goal.returns-then-eq
returns-then-eq g c =
    let r = c.args.self.now in
    let is : r.size ≡ Bit = same_true the_type (search rules) _ _ (sym c.if-eq.ensures) in
    let all : ℕ = number_of 8 r.bytes.now in
    let at : ElementSize → ℕ = λ size. element_number (list_view (ground_of g.A.ReaderArena.segments r.backing) size r.count all (place_view r.start) r.data_words r.pointers r.levels) c.args.index 1 in
    c.bit_of.ensures ∙ ap (λ (n : ℕ). eqb n 1) (bit_element c.args.index r.count all c.requires ∙ sym (ap at is))

pub returns : goal.returns
returns g c =
    let l = seen_list g.A.ReaderArena.segments c.args.self.now in
    let size = size_number l.size in
    c.get_bool_field.ensures
    ∙ ap (λ (s : StructView). eqb (field_bits (just_bits s.bits) (s.section) 0 1) 1) c.get_struct_element.ensures
    ∙ ap (λ (n : ℕ). eqb n 1) (element_field 0 (step_bits size l.data_words l.pointers * c.args.index) (element_bits size l.data_words) 1 l.section refl)
