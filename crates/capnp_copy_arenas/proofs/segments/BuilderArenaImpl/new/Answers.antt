use Rattle.std.proofs.Common.{length, ap, arith}
use Rattle.capnp_copy_arenas.proofs.HeldWords.{total_none}
use Rattle.capnp_copy_arenas.proofs.segments.BuilderArenaImpl.new.Goals as goal

pub invariant_of-result : goal.invariant_of-result
invariant_of-result g c = record { sum = total_none (λ h. h.used) c.new.result.items c.new.ensures.items; few = omega arith; numbered = omega (arith, ap length c.new.ensures.items) }
