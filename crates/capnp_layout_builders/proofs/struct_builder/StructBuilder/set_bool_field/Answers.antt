use Rattle.capnp_copy_arenas.proofs.lemmas.FieldLaws.{sets_alike}
use Rattle.capnp_layout_builders.proofs.struct_builder.StructBuilder.set_bool_field.Goals as goal

pub returns-clause-sets : goal.returns-clause-sets
returns-clause-sets g c = sets_alike _ _ c.args.self.now.place _ _ _ _ c.bit_of-bit.ensures c.set_bits.ensures.sets
