use Rattle.capnp_calls_versions.proofs.AllBroken.{Adding}
use Rattle.capnp_calls_versions.proofs.reached.Reached.reach_all.Given as goal

abbrev pub invariant-loop-k : goal.invariant-loop-k
invariant-loop-k l = Adding l.fn.self l.fn.others l.self l.k
