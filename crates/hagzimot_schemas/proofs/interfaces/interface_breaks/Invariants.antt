-- the pairs so far are told
use Rattle.std.proofs.Common.{◌≡◌, take}
use Rattle.std.specs.List.{flat_map}
use Rattle.capnp_calls_versions.specs.Renamed.{renamings_of}
use Rattle.hagzimot_schemas.specs.Interfaces.{changes_of}
use Rattle.hagzimot_schemas.proofs.interfaces.interface_breaks.Given as goal

abbrev pub invariant-loop-pair : goal.invariant-loop-pair
invariant-loop-pair l = l.found.items ≡ flat_map (changes_of (renamings_of l.renamings) l.older l.newer) (take l.pair-index l.pair-items)
