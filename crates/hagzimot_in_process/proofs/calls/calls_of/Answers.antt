use Rattle.std.proofs.Common.{arith, ap, length}
use Rattle.std.specs.Vec.Iter.{into_iter_items}
use Rattle.hagzimot_in_process.proofs.Made.{none_made, made_next}
use Rattle.hagzimot_in_process.proofs.calls.calls_of.Goals as goal

pub loop-path-init : goal.loop-path-init
loop-path-init c =
    let rest = c.into_iter-path-iterator.ensures.into_iter_gives.0 in
    let count = c.into_iter-path-iterator.ensures.into_iter_gives.1 in record {
      made = none_made c.args.parts.items (into_iter_items c.into_iter-path-iterator.result) c.new-calls.result.items rest c.new-calls.ensures.items;
      count = omega (arith, count, c.args.parts.ok.0, ap length rest);
    }

pub loop-path-preserved : goal.loop-path-preserved
loop-path-preserved c =
    let steps = c.in-Some.ensures.steps in
    let count = c.loop-path.invariant.count in record {
      made = made_next c.args.parts.items (into_iter_items c.loop-path.path-iterator) (into_iter_items c.next.new.self) c.loop-path.calls.items c.push.new.self.items (c.in-Some.path, c.in-Some.verb, c.in-Some.value) c.in-Ok.call c.loop-path.invariant.made steps.0 c.in-Ok.ensures.call c.in-Ok-push.ensures.items;
      count = omega (arith, steps.1, count, ap length steps.0);
    }
