use Rattle.std.proofs.Common.{◌≡◌, ◌++◌, map, take}
use Rattle.capnp_records.specs.NodeViews.{field_of}
use Rattle.capnp_records.proofs.parts.push_field_names.Given as goal

abbrev pub invariant-loop-field : goal.invariant-loop-field
invariant-loop-field l = map (λ s. s.now) l.names.items ≡ map (λ s. s.now) l.fn.names.items ++ map (λ f. f.name) (map field_of (take l.field-index l.fields))
