use Rattle.cases_dynamic.proofs.Lent.{nothing_lent}
use Rattle.cases_dynamic.proofs.messages.end_heap.Goals as goal

pub into_allocator-requires : goal.into_allocator-requires
into_allocator-requires c = nothing_lent c.args.arena.segments.items
