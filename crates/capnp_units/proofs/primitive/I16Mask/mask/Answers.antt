use Rattle.std.specs.Int.{w16}
use Rattle.capnp_units.proofs.SignedMasks.{own_bits, own_number, number_masked, bits_masked, masked_twice}
use Rattle.capnp_units.proofs.primitive.I16Mask.mask.Goals as goal

pub returns : goal.returns
returns g =
    let value = own_bits w16 _ _ g.ranges.value g.cast_unsigned.ensures in
    let mask = own_bits w16 _ _ g.ranges.mask g.cast_unsigned-2.ensures in
    let number = own_number w16 _ _ g.mask.type_inv g.cast_signed.ensures in
    record {
      value = number_masked w16 g.args.value g.args.mask _ _ _ _ value mask g.mask.ensures.value number;
      bits = bits_masked w16 g.args.value g.args.mask _ _ _ _ g.mask.type_inv value mask g.mask.ensures.value number;
      twice = masked_twice w16 g.args.value g.args.mask _ _ _ _ g.ranges.value g.mask.type_inv value mask g.mask.ensures.twice number;
    }
