use Rattle.std.proofs.Common.{◌≡◌, ◌≤◌, map, length}
use Rattle.capnp_units.specs.Segments.{words_in}
use Rattle.capnp_wire_objects.specs.Places.{place_view}
use Rattle.capnp_copy_values.proofs.TakenContent.{RestSoFar}
use Rattle.capnp_copy_values.proofs.contents.clear_rest.Given as goal

-- those up to the ith are null
abbrev pub invariant-loop-i : goal.invariant-loop-i
invariant-loop-i g l =
    let s = words_in (g.A.ReaderArena.segments l.fn.arena) in
    let u = words_in (g.A.ReaderArena.segments l.arena) in
    RestSoFar s u (place_view l.object.start) l.object.data_words l.object.pointers l.kept l.i × (l.kept ≤ l.i) × (map length u ≡ map length s) × (g.A.BuilderArena.books l.arena ≡ g.A.BuilderArena.books l.fn.arena) × (g.A.BuilderArena.room l.arena ≡ g.A.BuilderArena.room l.fn.arena)
