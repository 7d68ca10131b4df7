-- The mask is laid over the bits of the field.
use Rattle.std.proofs.Common.{◌*◌, length}
use Rattle.capnp_model.specs.Sections.{number_of}
use Rattle.capnp_wire.proofs.Fields.{field_masked}
use Rattle.capnp_wire.proofs.structs.StructReader.get_data_field_mask.Goals as goal

pub returns : goal.returns
returns g c =
    let width = g.T.Primitive.BYTES in
    let bytes = c.args.self.now.section.now in
    field_masked g.T.Primitive.bits g.T.Primitive.from_bits (8 * width) (8 * (width * c.args.offset)) (8 * length bytes) (number_of 8 bytes) (g.T.Mask.mask_bits c.args.mask)
    c.get_data_field.result c.mask.result g.met.T.Primitive.same_bits c.get_data_field.ensures c.mask.ensures.value
