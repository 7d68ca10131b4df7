use Rattle.std.proofs.Common.{◌≤◌, vec_len}
use Rattle.capnp_records.specs.Marks.{Raised}
use Rattle.capnp_records.proofs.marks.raise.Given as goal

abbrev pub invariant-loop-k : goal.invariant-loop-k
invariant-loop-k l = record {
  raised : Raised l.fn.marks.items l.marks.items l.fn.first l.k l.fn.level;
  long : l.fn.end ≤ vec_len l.marks;
}
