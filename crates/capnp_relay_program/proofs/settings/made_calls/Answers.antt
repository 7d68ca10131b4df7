use Rattle.std.proofs.Common.{rules, arith, ◌≡◌, ◌∙◌, ap, map, sym, length, [], Ok}
use Rattle.std.specs.Vec.Iter.{into_iter_items}
use Rattle.capnp_calls.specs.CallViews.{call_view, call_from}
use Rattle.capnp_relay_files.specs.CallViews.{parts_of}
use Rattle.capnp_relay_program.specs.Calls.{calls_from}
use Rattle.capnp_relay_program.proofs.MadeCalls.{left_of, made_next, none_made}
use Rattle.capnp_relay_program.proofs.settings.made_calls.Goals as goal

pub loop-path-init : goal.loop-path-init
loop-path-init c =
    let rest = c.into_iter-path-iterator.ensures.into_iter_gives.0 in
    let count = c.into_iter-path-iterator.ensures.into_iter_gives.1 in record {
      left = none_made (map parts_of c.args.parts.items)
          ∙ ap (λ cs. left_of (map call_view cs) (map parts_of c.args.parts.items)) (sym c.new-calls.ensures.items)
          ∙ ap (λ xs. left_of (map call_view c.new-calls.result.items) (map parts_of xs)) (sym rest);
      count = omega (arith, count, c.args.parts.ok.0, ap length rest);
    }

pub loop-path-preserved : goal.loop-path-preserved
loop-path-preserved c =
    let steps = c.in-Some.ensures.steps in
    let count = c.loop-path.invariant.count in record {
      left = made_next (calls_from 1 (map parts_of c.args.parts.items)) c.loop-path.calls.items c.in-Ok.call (c.in-Some.path, c.in-Some.verb, c.in-Some.value) (into_iter_items c.loop-path.path-iterator) (into_iter_items c.next.new.self) c.push.new.self.items c.loop-path.invariant.left steps.0 c.in-Ok.ensures.call c.in_ok-push-in-Ok.ensures.items;
      count = omega (arith, steps.1, count, ap length steps.0);
    }
