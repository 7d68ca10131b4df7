use Rattle.capnp_wire_objects.specs.Places.{place_view}
use Rattle.capnp_message.proofs.Slots.{struct_made_there}
use Rattle.capnp_message.proofs.placed.init_struct_at.Goals as goal

pub returns-clause-there : goal.returns-clause-there
returns-clause-there g c =
    struct_made_there (g.A.ReaderArena.segments c.args.memory.now.arena) (g.A.ReaderArena.segments c.init_struct.new.arena) (place_view c.args.place) c.init_struct.result c.requires.there c.init_struct.ensures.object c.init_struct.ensures.refused
