-- What is borrowed stays as it was.
use Rattle.std.proofs.Common.{◌≡◌}
use Rattle.cases_builders.proofs.layouts.lay.Given as goal

abbrev pub invariant-loop-bytes : goal.invariant-loop-bytes
invariant-loop-bytes g l = g.A.BuilderArena.books l.memory.arena ≡ g.A.BuilderArena.books l.fn.memory.arena
