use Rattle.capnp_units.specs.Segments.{words_in}
use Rattle.capnp_wire_objects.specs.Places.{place_view}
use Rattle.capnp_message.proofs.Slots.{struct_got_there}
use Rattle.capnp_message.proofs.placed.get_struct_at.Goals as goal

pub returns-clause-there : goal.returns-clause-there
returns-clause-there g c =
    struct_got_there (words_in (g.A.ReaderArena.segments c.args.memory.now.arena)) (words_in (g.A.ReaderArena.segments c.struct_or_default.new.arena)) (place_view c.args.place) c.args.size c.struct_or_default.result c.requires.there c.struct_or_default.ensures.got c.struct_or_default.ensures.refused
