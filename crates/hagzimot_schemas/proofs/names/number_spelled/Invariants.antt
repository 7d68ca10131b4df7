-- the number behind those digits that were read
use Rattle.std.proofs.Common.{◌≡◌, length}
use Rattle.hagzimot_schemas.specs.Roots.{number_from, number_spelled}
use Rattle.hagzimot_schemas.proofs.names.number_spelled.Given as goal

abbrev pub invariant-loop-left : goal.invariant-loop-left
invariant-loop-left l = number_from l.fn.base l.number l.left ≡ number_spelled l.fn.base l.fn.digits

abbrev pub decreases-loop-left : goal.decreases-loop-left
decreases-loop-left l = length l.left
