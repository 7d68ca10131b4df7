use Rattle.std.proofs.Common.{rules}
use Rattle.capnp_relay_bindings.specs.Scopes.{declared_at}
use Rattle.capnp_relay_bindings.proofs.Around.{ends_at_none, ends_at_file, ends_at_last, goes_on}
use Rattle.capnp_relay_bindings.proofs.scopes.Scopes.around.Goals as goal

pub returns-in_default : goal.returns-in_default
returns-in_default c = ends_at_none (declared_at c.args.self.now) c.loop-left.at c.loop-left.left c.loop-left.scopes.items _ c.loop-left-test.true (search rules) c.loop-left.invariant

pub returns-then-node : goal.returns-then-node
returns-then-node c = ends_at_file (declared_at c.args.self.now) c.loop-left.at c.loop-left.left c.in-Some.node.now c.loop-left.scopes.items _ c.loop-left-test.true (search rules) c.if-node.true c.loop-left.invariant

pub loop-left-preserved : goal.loop-left-preserved
loop-left-preserved c = rw c.in_ok-push.ensures.items (goes_on (declared_at c.args.self.now) c.loop-left.at c.loop-left.left c.in-Some.node.now c.loop-left.scopes.items _ c.loop-left-test.true (search rules) c.if-node.false c.loop-left.invariant)

pub returns : goal.returns
returns c = ends_at_last (declared_at c.args.self.now) c.loop-left.at c.loop-left.left c.loop-left.scopes.items _ (search rules) c.loop-left.invariant
