-- The pointers of the elements so far tell no distance.
use Rattle.std.proofs.Common.{◌≡◌, ℕ}
use Rattle.capnp_model.specs.Trees.{Elements, element_count}
use Rattle.capnp_calls_splice.specs.Cells.{AreCells}
use Rattle.capnp_calls_splice.proofs.ElementTargets.{IsRest}
use Rattle.capnp_calls_splice.proofs.elements.end_before_cells.Given as goal

abbrev pub invariant-loop-i : goal.invariant-loop-i
invariant-loop-i l = (m : ℕ) (es : Elements) → element_count es ≡ l.fn.count → AreCells m l.fn.list.data_words l.fn.list.pointers es l.fn.slice → IsRest l.i m l.fn.list.data_words l.fn.list.pointers es l.fn.slice
