-- So many were counted.
use Rattle.capnp_units.specs.Limits.{Spends, Follows}
use Rattle.capnp_wire_canonical.proofs.follow.follow_nulls.Given as goal

abbrev pub invariant-loop-i : goal.invariant-loop-i
invariant-loop-i l = record {
  followed : Follows l.fn.limiter l.limiter l._i;
  granted : Spends l.fn.limiter l.limiter 0;
}
