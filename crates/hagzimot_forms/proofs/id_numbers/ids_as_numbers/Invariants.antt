use Rattle.std.proofs.Common.{◌≡◌, ◌++◌, length}
use Rattle.hagzimot_forms.specs.Ids.{numbers_from, ids_as_numbers}
use Rattle.hagzimot_forms.proofs.id_numbers.ids_as_numbers.Given as goal

abbrev pub invariant-loop-rest : goal.invariant-loop-rest
invariant-loop-rest l = l.told.items ++ numbers_from l.place l.rest ≡ ids_as_numbers l.fn.bytes

abbrev pub decreases-loop-rest : goal.decreases-loop-rest
decreases-loop-rest l = length l.rest
