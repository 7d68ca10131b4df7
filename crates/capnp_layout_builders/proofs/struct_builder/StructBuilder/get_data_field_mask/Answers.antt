use Rattle.std.proofs.Common.{◌≡◌, ◌∙◌, ◌*◌, ◌<◌, ◌^◌, ℕ, ap, rules, bit_xor}
use Rattle.capnp_model.specs.Sections.{bits_at}
use Rattle.capnp_model.proofs.lemmas.Bits.{bits_at-lt}
use Rattle.capnp_layout_builders.proofs.struct_builder.StructBuilder.get_data_field_mask.Goals as goal

pub returns : goal.returns
returns g c = λ n section kids o.
    let b = g.T.Primitive.BYTES in
    let bits = bits_at (8 * (b * c.args.offset)) (8 * b) section in
    let small : bits < 2 ^ (8 * b) = bits_at-lt (8 * (b * c.args.offset)) (8 * b) section in
    let same : g.T.Primitive.bits (g.T.Primitive.from_bits bits) ≡ bits = search rules in
    c.mask.ensures.value ∙ ap (λ (m : ℕ). g.T.Primitive.from_bits (bit_xor m (g.T.Mask.mask_bits c.args.mask))) (ap g.T.Primitive.bits (c.get_data_field.ensures n section kids o) ∙ same)
