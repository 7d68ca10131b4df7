use Rattle.capnp_copy_arenas.proofs.lemmas.FieldLaws.{sets_alike, masked_bit}
use Rattle.capnp_layout_builders.proofs.struct_builder.StructBuilder.set_bool_field_mask.Goals as goal

pub returns-clause-sets : goal.returns-clause-sets
returns-clause-sets g c = sets_alike _ _ c.args.self.now.place _ _ _ _ (masked_bit c.args.value c.args.mask) c.set_bool_field.ensures.sets
