-- what is left decides
use Rattle.std.proofs.Common.{◌≡◌, map, length}
use Rattle.capnp_model.specs.Partners.{partner_name}
use Rattle.capnp_calls_versions.specs.Renamed.{renamings_of, renaming_of}
use Rattle.hagzimot_schemas.proofs.interfaces.newer_name.Given as goal

abbrev pub invariant-loop-left : goal.invariant-loop-left
invariant-loop-left l = partner_name (map renaming_of l.left) l.node l.name ≡ partner_name (renamings_of l.renamings) l.node l.name

abbrev pub decreases-loop-left : goal.decreases-loop-left
decreases-loop-left l = length l.left
