use Rattle.cases_devices.proofs.Lent.{nothing_lent}
use Rattle.cases_devices.proofs.writings.end.Goals as goal

pub into_allocator-requires : goal.into_allocator-requires
into_allocator-requires c = nothing_lent c.args.builder.memory.arena.segments.items
