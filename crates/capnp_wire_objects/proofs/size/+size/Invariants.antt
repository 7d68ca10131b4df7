-- A value takes a level less than what it stands in, and within a level each calls the next.
use Rattle.std.proofs.Common.{ℕ, ◌+◌, ◌-◌, ◌*◌, List, drop}
use Rattle.capnp_model.specs.Segments.{after}
use Rattle.capnp_model.specs.Sizes.{each_object_words, element_object_words, each_capability_count, element_capability_count}
use Rattle.capnp_model.specs.Traversal.{tree_at, each, each_element}
use Rattle.capnp_model.specs.Coverage.{from_each, from_elements}
use Rattle.capnp_model.specs.Visits.{visits}
use Rattle.capnp_units.specs.Segments.{words_in}
use Rattle.capnp_wire_objects.specs.Places.{place_view}
use Rattle.capnp_wire_objects.proofs.lemmas.Walks.{SoFar}
use Rattle.capnp_wire_objects.proofs.size.+size.Given as goal

abbrev pub decreases-size_inside : goal.decreases-size_inside
decreases-size_inside g l = 4 * l.levels + 3

abbrev pub decreases-size_of_structs : goal.decreases-size_of_structs
decreases-size_of_structs g l = 4 * l.levels + 2

abbrev pub decreases-size_of_row : goal.decreases-size_of_row
decreases-size_of_row g l = 4 * l.levels + 1

abbrev pub decreases-size_at : goal.decreases-size_at
decreases-size_at g l = 4 * l.levels

-- the first i are read, and paid
abbrev pub invariant-size_of_row-loop-i : goal.invariant-size_of_row-loop-i
invariant-size_of_row-loop-i g l =
    let s = words_in (g.A.ReaderArena.segments l.arena) in
    let p = place_view l.first in
    SoFar each_object_words each_capability_count (each (tree_at l.levels s) p l.count) (each (tree_at l.levels s) (after p l.i) (l.count - l.i)) (from_each (visits l.levels s) p l.count) (from_each (visits l.levels s) (after p l.i) (l.count - l.i)) l.fn.limiter l.limiter l.size

abbrev pub invariant-size_of_structs-loop-i : goal.invariant-size_of_structs-loop-i
invariant-size_of_structs-loop-i g l =
    let s = words_in (g.A.ReaderArena.segments l.arena) in
    let p = place_view l.start in
    let d = l.data_words in
    let k = l.pointers in
    let rest = l.count - l.i in
    (ws : List ℕ) → SoFar (element_object_words d) element_capability_count (each_element (tree_at l.levels s) p ws d k l.count) (each_element (tree_at l.levels s) (after p (l.i * (d + k))) (drop (l.i * (d + k)) ws) d k rest)
    (from_elements (visits l.levels s) p d k l.count) (from_elements (visits l.levels s) (after p (l.i * (d + k))) d k rest) l.fn.limiter l.limiter l.size
