use Rattle.std.proofs.Common.{◌≤◌, ◌-◌, ℕ, nat_eq, Option, option_map, ◌∙◌, ap, arith}
use Rattle.std.specs.HashMap.{get}
use Rattle.capnp_model.specs.Schemas.{TypeRecord}
use Rattle.capnp_records.specs.NodeViews.{type_record_of}
use Rattle.capnp_wire.specs.Views.{StructView, seen_list}
use Rattle.capnp_relay_requests.specs.Annotations.{declared_or}
use Rattle.capnp_relay_requests.proofs.Declared.{one_back}
use Rattle.capnp_relay_requests.proofs.annotations.declared_types.Goals as goal

lower : (left n : ℕ) → left ≤ n → left - 1 ≤ n
lower left n inside = omega (arith, inside)

pub loop-left-preserved : goal.loop-left-preserved
loop-left-preserved g c =
    let l = seen_list g.A.ReaderArena.segments c.args.nodes.now in
    record {
      inside = lower c.loop-left.left l.count c.loop-left.invariant.inside;
      types = λ id.
          let was : Option TypeRecord = option_map type_record_of (get nat_eq c.loop-left.types id) in
          one_back l id c.loop-left.left was (option_map type_record_of (get nat_eq c.declare.new.types id))
          c.loop-left-test.true c.loop-left.invariant.inside (c.loop-left.invariant.types id)
          (c.in_ok-declare.ensures id ∙ ap (λ (v : StructView). declared_or id v was) c.get_struct_element-node.ensures);
    }
