use Rattle.std.proofs.Common.{rules}
use Rattle.capnp_units.specs.Segments.{words_in}
use Rattle.capnp_wire_objects.specs.Places.{place_view}
use Rattle.capnp_layout_builders.specs.Making.{state_of}
use Rattle.capnp_message.proofs.Blobs.{text_made}
use Rattle.capnp_message.proofs.Slots.{leads_there}
use Rattle.capnp_message.proofs.placed.TextPlacePlaced.init_at.Goals as goal

pub returns-clause-made : goal.returns-clause-made
returns-clause-made g c =
    let at = state_of g.A.ReaderArena.segments g.A.BuilderArena.room g.A.BuilderArena.books in
    let text = c.in_ok-memory.field-0 in
    let made = text_made (at c.args.memory.now) (at text.memory.now) c.args.place c.args.length text.place c.in_ok-memory.ensures.made.0 in
    search rules

pub returns-clause-there : goal.returns-clause-there
returns-clause-there g c =
    let text = c.in_ok-memory.field-0 in
    let there = leads_there (words_in (g.A.ReaderArena.segments text.memory.now.arena)) (place_view c.args.place) _ c.in_ok-memory.ensures.made.0.0.1 in
    search rules
