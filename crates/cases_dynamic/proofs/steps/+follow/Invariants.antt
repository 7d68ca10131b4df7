-- Each step takes a word of the path.
use Rattle.std.proofs.Common.{length}
use Rattle.cases_dynamic.proofs.steps.+follow.Given as goal

abbrev pub decreases-follow : goal.decreases-follow
decreases-follow g l = length l.path.now
