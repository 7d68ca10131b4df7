use Rattle.std.proofs.Common.{◌≡◌, length, map}
use Rattle.capnp_units.specs.Segments.{words_in}
use Rattle.capnp_units.specs.Sizes.{size_number}
use Rattle.capnp_wire_objects.specs.Places.{place_view}
use Rattle.capnp_copy_widening.proofs.lemmas.CopiedNumbers.{NumbersSoFar}
use Rattle.capnp_copy_widening.proofs.elements.copy_numbers.Given as goal

-- the first i written
abbrev pub invariant-loop-i : goal.invariant-loop-i
invariant-loop-i g l =
    let s = words_in (g.A.ReaderArena.segments l.fn.arena) in
    let u = words_in (g.A.ReaderArena.segments l.arena) in
    NumbersSoFar s u (place_view l.fn.old.start) (place_view l.fn.new.start) (size_number l.fn.old.size) l.fn.new.claimed l.fn.new.data_words l.fn.new.pointers l.fn.old.count l.i × (map length u ≡ map length s) × (g.A.BuilderArena.books l.arena ≡ g.A.BuilderArena.books l.fn.arena)
