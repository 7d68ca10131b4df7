use Rattle.std.proofs.Common.{length}
use Rattle.hagzimot_schemas.proofs.forms.behind_comments.Given as goal

abbrev pub decreases-loop-rest : goal.decreases-loop-rest
decreases-loop-rest l = length l.rest
