use Rattle.std.proofs.Common.{◌≡◌, length, map}
use Rattle.capnp_units.specs.Segments.{words_in}
use Rattle.capnp_wire_objects.specs.Places.{place_view}
use Rattle.capnp_copy_widening.proofs.SpreadPointers.{PointersSoFar}
use Rattle.capnp_copy_widening.proofs.elements.move_each_pointer.Given as goal

-- the first i moved
abbrev pub invariant-loop-i : goal.invariant-loop-i
invariant-loop-i g l =
    let s = words_in (g.A.ReaderArena.segments l.fn.arena) in
    let u = words_in (g.A.ReaderArena.segments l.arena) in
    PointersSoFar s u (place_view l.fn.old.start) (place_view l.fn.new.start) l.fn.new.claimed l.fn.new.data_words l.fn.new.pointers l.fn.old.count l.fn.pads l.i × (map length u ≡ map length s) × (g.A.BuilderArena.books l.arena ≡ g.A.BuilderArena.books l.fn.arena)
