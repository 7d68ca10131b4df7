use Rattle.capnp_units.specs.Segments.{words_in}
use Rattle.capnp_layout_builders.proofs.ElementsThere.{struct_there}
use Rattle.capnp_layout_builders.proofs.list_builder.ListBuilder.get_struct_element.Goals as goal

pub returns-clause-there : goal.returns-clause-there
returns-clause-there g c = λ whole. struct_there (words_in (g.A.ReaderArena.segments c.args.self.memory.now.arena)) c.args.self.place c.args.index c.struct_of-place.result c.requires c.struct_of-place.ensures whole
