-- The list is read in place of the pointer.
use Rattle.std.proofs.Common.{subst}
use Rattle.capnp_wire.specs.Views.{PointerView, seen_list}
use Rattle.capnp_wire.specs.Reads.{GetGives, read_list}
use Rattle.capnp_wire.proofs.pointer.PointerReader.get_list.Goals as goal

pub returns-in-None-clause-list : goal.returns-in-None-clause-list
returns-in-None-clause-list g c = rw c.in-None.is c.list_here.ensures.list

pub returns-in-Some-clause-list : goal.returns-in-Some-clause-list
returns-in-Some-clause-list g c =
    subst (λ (p : PointerView). GetGives (seen_list g.A.ReaderArena.segments) (read_list p.basis p.levels c.args.expected) p c.args.limiter.now c.list_here-in-Some.result c.list_here-in-Some.new.limiter)
    c.with_default.ensures c.list_here-in-Some.ensures.list
