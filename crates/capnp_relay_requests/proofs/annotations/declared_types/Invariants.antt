use Rattle.std.proofs.Common.{◌≡◌, ◌-◌, ◌≤◌, ℕ, nat_eq, option_map}
use Rattle.std.specs.HashMap.{get}
use Rattle.capnp_records.specs.NodeViews.{type_record_of}
use Rattle.capnp_wire.specs.Views.{seen_list}
use Rattle.capnp_relay_requests.specs.Annotations.{declared_from}
use Rattle.capnp_relay_requests.proofs.annotations.declared_types.Given as goal

-- those of the nodes from the place on are known
abbrev pub invariant-loop-left : goal.invariant-loop-left
invariant-loop-left g l =
    let v = seen_list g.A.ReaderArena.segments l.fn.nodes in
    record {
      inside : l.left ≤ v.count;
      types : (id : ℕ) → option_map type_record_of (get nat_eq l.types id) ≡ declared_from v id l.left (v.count - l.left);
    }

abbrev pub decreases-loop-left : goal.decreases-loop-left
decreases-loop-left g l = l.left
