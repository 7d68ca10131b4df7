-- the nodes and the calls so far are kept
use Rattle.std.proofs.Common.{◌≡◌, map, take, option_map}
use Rattle.capnp_calls.specs.CallViews.{call_view}
use Rattle.hagzimot_commands.specs.FloatReplies.{fields_placed, holder_placed, reply_at}
use Rattle.hagzimot_commands.proofs.float_replies.FloatReplies.new.Given as goal

abbrev pub invariant-loop-node : goal.invariant-loop-node
invariant-loop-node l = map holder_placed l.holders.items ≡ map fields_placed (take l.node-index l.nodes)

abbrev pub invariant-loop-call : goal.invariant-loop-call
invariant-loop-call l = map (option_map (λ p. p.at)) l.places.items ≡ map (λ c. reply_at l.nodes l.root (call_view c)) (take l.call-index l.calls)
