use Rattle.capnp_units.specs.Segments.{words_in}
use Rattle.capnp_wire_objects.specs.Places.{place_view}
use Rattle.capnp_copy_arenas.proofs.lemmas.RoomLaws.{words_stay}
use Rattle.capnp_schema_values.proofs.any_pointer.Builder.clear.Goals as goal

pub returns-clause-ready : goal.returns-clause-ready
returns-clause-ready g c =
    let old = c.args.self.now in
    record { word = words_stay (words_in (g.A.ReaderArena.segments old.memory.now.arena)) (words_in (g.A.ReaderArena.segments c.clear.new.arena)) (place_view old.place) 1 c.clear.ensures.sizes c.requires.ready.word; near = c.requires.ready.near }
