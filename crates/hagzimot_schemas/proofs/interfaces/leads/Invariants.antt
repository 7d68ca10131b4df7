-- the fields so far lead to these
use Rattle.std.proofs.Common.{◌≡◌, take}
use Rattle.std.specs.List.{filter_map}
use Rattle.capnp_calls_versions.specs.Renamed.{renamings_of}
use Rattle.hagzimot_schemas.specs.Interfaces.{lead}
use Rattle.hagzimot_schemas.specs.Nodes.{fields_of_body}
use Rattle.hagzimot_schemas.proofs.interfaces.leads.Given as goal

abbrev pub invariant-loop-field : goal.invariant-loop-field
invariant-loop-field l = l.leads.items ≡ filter_map (lead (renamings_of l.renamings) l.old l.new) (take l.field-index (fields_of_body l.old.body))
