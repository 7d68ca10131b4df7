use Rattle.std.proofs.Common.{◌+◌, arith}
use Rattle.capnp_model_writes.proofs.lemmas.Levels.{owned_more}
use Rattle.capnp_copy_values.proofs.lemmas.Filling.{value_stands}
use Rattle.capnp_copy_values.proofs.laws.values_after_copies.Goals as goal

pub returns : goal.returns
returns c = record {
  copied = λ levels n s u p t v b o. b (n + levels) t (omega arith) (owned_more n (n + levels) s p t (omega arith) o);
  refused = λ n s u p t g o. value_stands n s u p t o g;
}
