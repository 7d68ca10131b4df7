-- The pointers so far are shifted.
use Rattle.std.proofs.Common.{◌≡◌, ◌++◌, map, take, drop}
use Rattle.capnp_wire_canonical.specs.Writes.{words_view}
use Rattle.capnp_calls_splice.specs.Cells.{shifted}
use Rattle.capnp_calls_splice.proofs.pointers.shift_all.Given as goal

abbrev pub invariant-loop-word : goal.invariant-loop-word
invariant-loop-word l =
    words_view l.slice ≡ map (shifted l.by) (take l.word-index (words_view l.fn.slice)) ++ drop l.word-index (words_view l.fn.slice)
