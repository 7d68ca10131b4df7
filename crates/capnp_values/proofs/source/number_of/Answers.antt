use Rattle.std.proofs.Common.{◌*◌, ap, ◌∙◌}
use Rattle.capnp_wire.specs.Views.{seen_struct}
use Rattle.capnp_values.specs.Sources.{masked_bits}
use Rattle.capnp_values.proofs.Bits.{masked_bits-lt}
use Rattle.capnp_values.proofs.source.number_of.Goals as goal

pub returns : goal.returns
returns g c =
    let v = seen_struct g.A.ReaderArena.segments c.args.reader.now in
    let at = 8 * (g.T.Primitive.BYTES * c.args.offset) in
    let width = 8 * g.T.Primitive.BYTES in
    let mask = g.T.Mask.mask_bits c.args.mask in
    ap g.T.Primitive.bits c.get_data_field_mask.ensures ∙ g.met.T.Primitive.same_bits (masked_bits v at width mask) (masked_bits-lt v at width mask c.requires)
