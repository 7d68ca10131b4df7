use Rattle.capnp_calls_versions.proofs.AllBroken.{Told}
use Rattle.capnp_calls_versions.proofs.all_breaks.all_broken.Given as goal

abbrev pub invariant-loop-i : goal.invariant-loop-i
invariant-loop-i l = Told l.fn.versions l.fn.levels l.fn.older l.fn.newer l.i l.reached l.breaks.items
