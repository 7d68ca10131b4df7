-- A pointer's word becomes zero before what it names is cleared, so fewer words are left that aren't zero; within one value each calls the next.
use Rattle.std.proofs.Common.{◌≡◌, ◌+◌, ◌*◌, ◌≤◌, ℕ, length, map}
use Rattle.capnp_units.specs.Segments.{words_in}
use Rattle.capnp_wire_objects.specs.Places.{place_view}
use Rattle.capnp_copy_arenas.specs.Clearing.{nonzero_words}
use Rattle.capnp_copy_arenas.proofs.ClearedKids.{KidsSoFar}
use Rattle.capnp_copy_arenas.proofs.ClearedElements.{ElementsSoFar}
use Rattle.capnp_copy_arenas.proofs.clear.+clear.Given as goal

abbrev pub decreases-clear : goal.decreases-clear
decreases-clear g l = 8 * nonzero_words (words_in (g.A.ReaderArena.segments l.arena.now)) + 1

abbrev pub decreases-clear_there : goal.decreases-clear_there
decreases-clear_there g l = 8 * nonzero_words (words_in (g.A.ReaderArena.segments l.arena.now))

abbrev pub decreases-clear_object : goal.decreases-clear_object
decreases-clear_object g l = 8 * nonzero_words (words_in (g.A.ReaderArena.segments l.arena.now)) + 5

abbrev pub decreases-clear_list : goal.decreases-clear_list
decreases-clear_list g l = 8 * nonzero_words (words_in (g.A.ReaderArena.segments l.arena.now)) + 4

abbrev pub decreases-clear_elements : goal.decreases-clear_elements
decreases-clear_elements g l = 8 * nonzero_words (words_in (g.A.ReaderArena.segments l.arena.now)) + 3

abbrev pub decreases-clear_kids : goal.decreases-clear_kids
decreases-clear_kids g l = 8 * nonzero_words (words_in (g.A.ReaderArena.segments l.arena.now)) + 2

-- the children of the first i are null
abbrev pub invariant-clear_elements-loop-i : goal.invariant-clear_elements-loop-i
invariant-clear_elements-loop-i g l =
    let s = words_in (g.A.ReaderArena.segments l.fn.arena) in
    let u = words_in (g.A.ReaderArena.segments l.arena) in
    ElementsSoFar s u (place_view l.fn.start) l.fn.words l.data_words l.pointers l.i × (map length u ≡ map length s) × (nonzero_words u ≤ nonzero_words s) × (g.A.BuilderArena.books l.arena ≡ g.A.BuilderArena.books l.fn.arena) × (g.A.BuilderArena.room l.arena ≡ g.A.BuilderArena.room l.fn.arena)

-- the first i are null
abbrev pub invariant-clear_kids-loop-i : goal.invariant-clear_kids-loop-i
invariant-clear_kids-loop-i g l =
    let s = words_in (g.A.ReaderArena.segments l.fn.arena) in
    let u = words_in (g.A.ReaderArena.segments l.arena) in
    KidsSoFar s u (place_view l.start) l.data_words l.pointers l.i × (map length u ≡ map length s) × (nonzero_words u ≤ nonzero_words s) × (g.A.BuilderArena.books l.arena ≡ g.A.BuilderArena.books l.fn.arena) × (g.A.BuilderArena.room l.arena ≡ g.A.BuilderArena.room l.fn.arena)
