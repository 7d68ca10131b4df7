use Rattle.std.proofs.Common.{◌≡◌, ◌++◌, map, take}
use Rattle.std.specs.List.{flat_map}
use Rattle.capnp_model.specs.Accepted.{groups_of_field}
use Rattle.capnp_records.specs.NodeViews.{field_of}
use Rattle.capnp_records.proofs.parts.push_groups.Given as goal

abbrev pub invariant-loop-field : goal.invariant-loop-field
invariant-loop-field l = l.groups.items ≡ l.fn.groups.items ++ flat_map (λ f. groups_of_field f.kind) (map field_of (take l.field-index l.fields))
