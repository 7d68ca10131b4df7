use Rattle.std.proofs.Common.{◌≡◌, ◌++◌, map, drop}
use Rattle.capnp_records.specs.NodeViews.{field_of}
use Rattle.capnp_records.specs.Tables.{others_from}
use Rattle.capnp_records.proofs.tables.others_of.Given as goal

-- with the rest they are all
abbrev pub invariant-loop-i : goal.invariant-loop-i
invariant-loop-i l = l.others.items ++ others_from l.i (map field_of (drop l.i l.fn.fields)) ≡ others_from 0 (map field_of l.fn.fields)
