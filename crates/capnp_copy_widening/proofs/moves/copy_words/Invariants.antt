use Rattle.std.proofs.Common.{◌≡◌, length, map}
use Rattle.capnp_units.specs.Segments.{words_in}
use Rattle.capnp_wire_objects.specs.Places.{place_view}
use Rattle.capnp_copy_widening.proofs.Copied.{CopiedSoFar}
use Rattle.capnp_copy_widening.proofs.moves.copy_words.Given as goal

-- the first i are copied
abbrev pub invariant-loop-i : goal.invariant-loop-i
invariant-loop-i g l =
    let s = words_in (g.A.ReaderArena.segments l.fn.arena) in
    let u = words_in (g.A.ReaderArena.segments l.arena) in
    CopiedSoFar s u (place_view l.fn.from) (place_view l.fn.to) l.fn.count l.i × (map length u ≡ map length s) × (g.A.BuilderArena.books l.arena ≡ g.A.BuilderArena.books l.fn.arena)
