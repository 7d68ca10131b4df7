-- the scopes with those that are left behind them are the whole
use Rattle.std.proofs.Common.{◌≡◌, ◌++◌}
use Rattle.capnp_relay_bindings.specs.Scopes.{declared_at, scopes_around}
use Rattle.capnp_relay_bindings.proofs.scopes.Scopes.around.Given as goal

abbrev pub invariant-loop-left : goal.invariant-loop-left
invariant-loop-left l = l.scopes.items ++ scopes_around l.left (declared_at l.self) l.at ≡ scopes_around 64 (declared_at l.self) l.fn.id

abbrev pub decreases-loop-left : goal.decreases-loop-left
decreases-loop-left l = l.left
