-- What is borrowed stays as it was.
use Rattle.std.proofs.Common.{◌≡◌}
use Rattle.cases_builders.proofs.scripts.play.Given as goal

abbrev pub invariant-loop-number : goal.invariant-loop-number
invariant-loop-number g l = (g.A.BuilderArena.books l.first.arena ≡ g.A.BuilderArena.books l.fn.first.arena) × (g.B.BuilderArena.books l.second.arena ≡ g.B.BuilderArena.books l.fn.second.arena)
