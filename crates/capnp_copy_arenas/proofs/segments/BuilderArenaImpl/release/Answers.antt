use Rattle.std.proofs.Common.{arith}
use Rattle.capnp_copy_arenas.proofs.HeldWords.{total_popped}
use Rattle.capnp_copy_arenas.proofs.segments.BuilderArenaImpl.release.Goals as goal

pub overflow_sub-self : goal.overflow_sub-self
overflow_sub-self g c = omega (arith, c.loop-held.self.sum, total_popped (λ h. h.used) c.loop-held.self.segments.items c.pop.new.self.items c.in-Some.held c.in-Some.ensures.items)
