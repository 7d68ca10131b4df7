use Rattle.std.proofs.Common.{◌≡◌, min, map, take, is_some}
use Rattle.std.specs.List.{count_by}
use Rattle.capnp_records.specs.NodeViews.{field_of}
use Rattle.capnp_relay_files.proofs.nodes.members_among.Given as goal

abbrev pub invariant-loop-field : goal.invariant-loop-field
invariant-loop-field l = l.count ≡ min (count_by (λ f. is_some f.member) (map field_of (take l.field-index l.fields))) 65535
