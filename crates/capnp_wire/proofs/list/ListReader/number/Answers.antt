-- The number is the first field of the element.
use Rattle.std.proofs.Common.{ℕ, ◌*◌, ap, ◌∙◌, arith}
use Rattle.capnp_model.specs.Readings.{field_bits, just_bits}
use Rattle.capnp_units.specs.Sizes.{size_number}
use Rattle.capnp_wire.specs.Elements.{step_bits, element_bits}
use Rattle.capnp_wire.specs.Views.{StructView, seen_list}
use Rattle.capnp_wire.proofs.Elements.{element_field}
use Rattle.capnp_wire.proofs.list.ListReader.number.Goals as goal

pub returns : goal.returns
returns g c =
    let l = seen_list g.A.ReaderArena.segments c.args.self.now in
    let bytes : ℕ = g.T.Primitive.BYTES in
    let size = size_number l.size in
    c.get_data_field.ensures
    ∙ ap (λ (s : StructView). g.T.Primitive.from_bits (field_bits (just_bits s.bits) s.section (8 * (bytes * 0)) (8 * bytes))) c.get_struct_element.ensures
    ∙ ap g.T.Primitive.from_bits (element_field (8 * (bytes * 0)) (step_bits size l.data_words l.pointers * c.args.index) (element_bits size l.data_words) (8 * bytes) l.section (omega arith))
