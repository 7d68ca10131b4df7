use Rattle.std.proofs.Common.{suc, arith}
use Rattle.capnp_model.specs.Segments.{root}
use Rattle.capnp_model_writes.proofs.lemmas.Lift.{replaced_owned}
use Rattle.capnp_model_writes.proofs.lemmas.Levels.{owned_more}
use Rattle.capnp_message.proofs.NullRoot.{null_root}
use Rattle.capnp_message.proofs.laws.roots_that_are_built.Goals as goal

pub returns : goal.returns
returns c = record {
  null = null_root;
  set = λ n s u t v o b. replaced_owned (suc n) s u root t v (owned_more n (suc n) s root t (omega arith) o) (b n t o);
}
