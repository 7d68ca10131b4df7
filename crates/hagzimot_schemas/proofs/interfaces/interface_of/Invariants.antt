-- what is left decides
use Rattle.std.proofs.Common.{◌≡◌, length}
use Rattle.hagzimot_schemas.specs.Interfaces.{interface_of}
use Rattle.hagzimot_schemas.proofs.interfaces.interface_of.Given as goal

abbrev pub invariant-loop-left : goal.invariant-loop-left
invariant-loop-left l = interface_of l.left l.node l.index ≡ interface_of l.fn.fields l.node l.index

abbrev pub decreases-loop-left : goal.decreases-loop-left
decreases-loop-left l = length l.left
