-- those so far are placed
use Rattle.std.proofs.Common.{◌<◌, ◌≤◌, All, length}
use Rattle.capnp_source_compile.proofs.compile.placed.Given as goal

abbrev pub invariant-loop-problem : goal.invariant-loop-problem
invariant-loop-problem l = record {
  few : length l.all.items ≤ 100;
  inside : 0 < l.fn.count → All (λ p. p.file < l.fn.count) l.all.items;
  spans : All (λ p. p.start ≤ p.end) l.all.items;
}
