-- the fields so far are told
use Rattle.std.proofs.Common.{◌≡◌, ◌++◌, take}
use Rattle.std.specs.List.{filter_map, enumerate_from}
use Rattle.capnp_calls_versions.specs.Renamed.{renamings_of}
use Rattle.hagzimot_schemas.specs.Interfaces.{change}
use Rattle.hagzimot_schemas.specs.Nodes.{fields_of_body}
use Rattle.hagzimot_schemas.proofs.interfaces.push_changes.Given as goal

abbrev pub invariant-loop-index : goal.invariant-loop-index
invariant-loop-index l = l.found.items ≡ l.initial.found.items ++ filter_map (change (renamings_of l.renamings) l.older l.newer l.old l.new) (take l.index (enumerate_from 0 (fields_of_body l.old.body)))
