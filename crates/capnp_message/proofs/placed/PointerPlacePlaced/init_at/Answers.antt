use Rattle.capnp_units.specs.Segments.{words_in}
use Rattle.capnp_wire_objects.specs.Places.{place_view}
use Rattle.capnp_copy_arenas.proofs.lemmas.RoomLaws.{words_stay}
use Rattle.capnp_message.proofs.placed.PointerPlacePlaced.init_at.Goals as goal

pub returns-clause-there : goal.returns-clause-there
returns-clause-there g c =
    words_stay (words_in (g.A.ReaderArena.segments c.args.memory.now.arena)) (words_in (g.A.ReaderArena.segments c.clear.new.arena)) (place_view c.args.place) 1 c.clear.ensures.sizes c.requires.there
