use Rattle.std.proofs.Common.{◌≡◌, ◌++◌, map, take, filter_map}
use Rattle.capnp_records.specs.NodeViews.{field_of}
use Rattle.capnp_records.proofs.unions.push_members.Given as goal

abbrev pub invariant-loop-field : goal.invariant-loop-field
invariant-loop-field l = l.members.items ≡ l.fn.members.items ++ filter_map (λ f. f.member) (map field_of (take l.field-index l.fields))
