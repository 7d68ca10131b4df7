use Rattle.std.proofs.Common.{◌≡◌, ◌++◌, map, drop}
use Rattle.capnp_records.specs.NodeViews.{field_of}
use Rattle.capnp_records.specs.Tables.{named_from}
use Rattle.capnp_records.proofs.by_name.named_places.Given as goal

-- with the rest they are all
abbrev pub invariant-loop-i : goal.invariant-loop-i
invariant-loop-i l = map (λ n. (n.0.now, n.1)) l.named.items ++ named_from l.i (map field_of (drop l.i l.fn.fields)) ≡ named_from 0 (map field_of l.fn.fields)
