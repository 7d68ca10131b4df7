use Rattle.std.proofs.Common.{refl}
use Rattle.capnp_message.proofs.Lent.{few_loans}
use Rattle.capnp_message.proofs.scoped.with_message.Goals as goal

pub into_allocator-heap-requires : goal.into_allocator-heap-requires
into_allocator-heap-requires g c = few_loans c.build-result.new.arg2.memory.arena.segments.items

pub returns : goal.returns
returns g c = (c.new_default-message.result, c.build-result.new.arg2, c.new_default-message.ensures.empty, record { shown = _; shows = refl; left = _; met = c.build-result.ensures; leaves = refl })
