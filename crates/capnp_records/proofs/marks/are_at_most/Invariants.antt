use Rattle.capnp_records.specs.Marks.{AllAtMost}
use Rattle.capnp_records.proofs.marks.are_at_most.Given as goal

abbrev pub invariant-loop-k : goal.invariant-loop-k
invariant-loop-k l = AllAtMost l.fn.marks l.fn.first l.k l.fn.most
