-- The pointers so far tell no distance.
use Rattle.std.proofs.Common.{ℕ, drop}
use Rattle.capnp_model.specs.Trees.{Trees}
use Rattle.capnp_wire_canonical.specs.Writes.{words_view}
use Rattle.capnp_calls_splice.specs.Cells.{AreLinks}
use Rattle.capnp_calls_splice.proofs.Targets.{IsRest}
use Rattle.capnp_calls_splice.proofs.pointers.first_target.Given as goal

abbrev pub invariant-loop-i : goal.invariant-loop-i
invariant-loop-i l = (n m : ℕ) (ts : Trees) → AreLinks n m ts l.fn.slice → IsRest l.i (drop l.i (words_view l.fn.slice)) n m ts
