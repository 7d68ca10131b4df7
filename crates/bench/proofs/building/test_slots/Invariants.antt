-- What is borrowed stays as it was.
use Rattle.std.proofs.Common.{◌≡◌}
use Rattle.bench.proofs.building.test_slots.Given as goal

abbrev pub invariant-loop-i : goal.invariant-loop-i
invariant-loop-i g l = g.A.BuilderArena.books l.memory.arena ≡ g.A.BuilderArena.books l.fn.memory.arena
