-- Each visit that is paid is one of a walk.
use Rattle.std.proofs.Common.{arith}
use Rattle.capnp_wire_canonical.proofs.lemmas.FewFollowed.{begun_few, stopped_few}
use Rattle.capnp_wire_canonical.proofs.laws.copies_follow_few.Goals as goal

pub returns : goal.returns
returns c = record {
  begun = λ n s p path rest paid is cost. begun_few n s p path rest paid is cost;
  stopped = λ n s p before last behind paid is cost. let few = stopped_few n s p before last behind paid is cost in omega arith;
}
