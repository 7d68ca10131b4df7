-- What is borrowed stays as it was.
use Rattle.std.proofs.Common.{◌≡◌}
use Rattle.cases_builders.proofs.layouts.exhaust.Given as goal

abbrev pub invariant-loop : goal.invariant-loop
invariant-loop g l = g.A.BuilderArena.books l.memory.arena ≡ g.A.BuilderArena.books l.fn.memory.arena
