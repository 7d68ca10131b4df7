-- What is borrowed stays as it was.
use Rattle.std.proofs.Common.{◌≡◌}
use Rattle.bench.proofs.cars_building.build_in.Given as goal

abbrev pub invariant-loop-car : goal.invariant-loop-car
invariant-loop-car g l = g.A.BuilderArena.books l.memory.arena ≡ g.A.BuilderArena.books l.fn.memory.arena
