use Rattle.std.proofs.Common.{arith, rules, ◌≡◌, ◌*◌}
use Rattle.capnp_model.specs.Sections.{words_for}
use Rattle.capnp_units.specs.Segments.{words_in}
use Rattle.capnp_units.specs.Sizes.{size_number, data_bits}
use Rattle.capnp_wire_objects.specs.Places.{place_view}
use Rattle.capnp_copy_arenas.proofs.ClearedObjects.{after_plain}
use Rattle.capnp_copy_arenas.proofs.clear.clear_plain.Goals as goal

pub returns-clause-clears : goal.returns-clause-clears
returns-clause-clears g c =
    let s = words_in (g.A.ReaderArena.segments c.args.arena.now) in
    after_plain s (words_in (g.A.ReaderArena.segments c.zero_there.new.arena)) (place_view c.args.start) (size_number c.args.size) c.args.count _ c.requires c.words_of_elements-words.ensures.words c.zero_there.ensures.words
