use Rattle.std.proofs.Common.{◌∙◌, ap, Bool, not}
use Rattle.std.specs.Bool.{beq}
use Rattle.capnp_model.specs.Sections.{bits_at}
use Rattle.capnp_copy_arenas.proofs.lemmas.FieldLaws.{masked_back}
use Rattle.capnp_model.proofs.lemmas.Bits.{bits_at-lt}
use Rattle.capnp_layout_builders.proofs.struct_builder.StructBuilder.get_bool_field_mask.Goals as goal

pub returns : goal.returns
returns g c = λ n section kids o. ap (λ (b : Bool). not (beq b c.args.mask)) (c.get_bool_field.ensures n section kids o) ∙ masked_back (bits_at c.args.offset 1 section) c.args.mask (bits_at-lt c.args.offset 1 section)
