use Rattle.capnp_calls_versions.proofs.AllKept.{Walked}
use Rattle.capnp_calls_versions.proofs.compatible.first_broken.Given as goal

abbrev pub invariant-loop-i : goal.invariant-loop-i
invariant-loop-i l = Walked l.fn.versions l.fn.levels l.fn.older l.fn.newer l.i l.reached
