use Rattle.std.proofs.Common.{◌≡◌, map, take, drop}
use Rattle.capnp_model.specs.Accepted.{is_kept_by, first_break_from, first_break}
use Rattle.capnp_records.specs.NodeViews.{node_of}
use Rattle.capnp_records.proofs.check.first_break.Given as goal

-- the rest decides
abbrev pub invariant-loop-i : goal.invariant-loop-i
invariant-loop-i l = first_break_from (λ earlier n. is_kept_by (map node_of l.fn.nodes.records.now) earlier n l.fn.rule) (map node_of (take l.i l.fn.nodes.records.now)) l.i (map node_of (drop l.i l.fn.nodes.records.now)) ≡ first_break (map node_of l.fn.nodes.records.now) l.fn.rule
