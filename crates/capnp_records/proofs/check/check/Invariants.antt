use Rattle.std.proofs.Common.{◌≡◌, ◌-◌, map}
use Rattle.capnp_model.specs.Accepted.{first_fault_from, fault_of}
use Rattle.capnp_records.specs.NodeViews.{node_of}
use Rattle.capnp_records.proofs.check.check.Given as goal

-- the rules that are left decide
abbrev pub invariant-loop-rule : goal.invariant-loop-rule
invariant-loop-rule l = first_fault_from (map node_of l.fn.nodes.records.now) l.rule (13 - l.rule) ≡ fault_of (map node_of l.fn.nodes.records.now)
