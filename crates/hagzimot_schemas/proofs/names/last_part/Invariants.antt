-- the last part is that of what is left behind the last point
use Rattle.std.proofs.Common.{◌≡◌, length}
use Rattle.hagzimot_schemas.specs.Roots.{last_from, last_part}
use Rattle.hagzimot_schemas.proofs.names.last_part.Given as goal

abbrev pub invariant-loop-left : goal.invariant-loop-left
invariant-loop-left l = last_from l.last l.left ≡ last_part l.fn.path

abbrev pub decreases-loop-left : goal.decreases-loop-left
decreases-loop-left l = length l.left
