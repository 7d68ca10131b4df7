use Rattle.std.proofs.Common.{◌≡◌, ◌++◌, map, take}
use Rattle.std.specs.List.{flat_map}
use Rattle.capnp_model.specs.Accepted.{slot_types}
use Rattle.capnp_records.specs.NodeViews.{type_record_of, field_of}
use Rattle.capnp_records.proofs.parts.push_slot_types.Given as goal

abbrev pub invariant-loop-field : goal.invariant-loop-field
invariant-loop-field l = map type_record_of l.types.items ≡ map type_record_of l.fn.types.items ++ flat_map (λ f. slot_types f.kind) (map field_of (take l.field-index l.fields))
