-- What is borrowed stays as it was.
use Rattle.std.proofs.Common.{◌≡◌}
use Rattle.cases_builders.proofs.ways.place_at.Given as goal

abbrev pub invariant-loop-step : goal.invariant-loop-step
invariant-loop-step g l = g.A.BuilderArena.books l.memory.arena ≡ g.A.BuilderArena.books l.fn.memory.arena
