use Rattle.std.proofs.Common.{◌≡◌, ℕ, ◌*◌, ap, ◌∙◌, rules}
use Rattle.capnp_model.specs.Sections.{bits_at}
use Rattle.capnp_copy_arenas.proofs.lemmas.FieldLaws.{bits_again}
use Rattle.capnp_layout_builders.proofs.struct_builder.StructBuilder.get_data_field.Goals as goal

pub returns : goal.returns
returns g c = λ n section kids o.
    let b = g.T.Primitive.BYTES in
    let e : c.get_bits-bits.result ≡ bits_at (8 * (b * c.args.offset)) (8 * b) section = c.get_bits-bits.ensures n section kids o ∙ (search rules) in
    c.number_in.ensures ∙ ap (λ (m : ℕ). g.T.Primitive.from_bits (bits_at 0 (8 * b) m)) e ∙ ap g.T.Primitive.from_bits (bits_again (8 * (b * c.args.offset)) (8 * b) section)
