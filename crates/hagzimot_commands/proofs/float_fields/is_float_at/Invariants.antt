-- the steps in front of the end are left
use Rattle.std.proofs.Common.{◌≤◌, length}
use Rattle.hagzimot_commands.proofs.float_fields.is_float_at.Given as goal

abbrev pub invariant-loop-end : goal.invariant-loop-end
invariant-loop-end l = l.end ≤ length l.fn.path

abbrev pub decreases-loop-end : goal.decreases-loop-end
decreases-loop-end l = l.end
