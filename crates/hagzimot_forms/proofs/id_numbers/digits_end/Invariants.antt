use Rattle.std.proofs.Common.{◌≡◌, length}
use Rattle.hagzimot_forms.specs.Ids.{digits_end}
use Rattle.hagzimot_forms.proofs.id_numbers.digits_end.Given as goal

abbrev pub invariant-loop-bytes : goal.invariant-loop-bytes
invariant-loop-bytes l = digits_end l.bytes ≡ digits_end l.fn.bytes

abbrev pub decreases-loop-bytes : goal.decreases-loop-bytes
decreases-loop-bytes l = length l.bytes
