-- What is left to shift are the elements from the next one on.
use Rattle.std.proofs.Common.{◌≡◌, ℕ, ◌+◌, ◌*◌, ◌++◌, length, take, drop}
use Rattle.capnp_wire_canonical.specs.Writes.{words_view}
use Rattle.capnp_calls_splice.proofs.ElementShifts.{shift_cells}
use Rattle.capnp_calls_splice.proofs.elements.move_cells.Given as goal

abbrev pub invariant-loop-i : goal.invariant-loop-i
invariant-loop-i l = record {
  long : length l.slice ≡ length l.fn.slice;
  left : (r : ℕ) → l.i + r ≡ l.fn.count → shift_cells l.by l.fn.list.data_words l.fn.list.pointers l.fn.count (words_view l.fn.slice)
      ≡ take (l.i * (l.fn.list.data_words + l.fn.list.pointers)) (words_view l.slice) ++ shift_cells l.by l.fn.list.data_words l.fn.list.pointers r (drop (l.i * (l.fn.list.data_words + l.fn.list.pointers)) (words_view l.slice));
}
