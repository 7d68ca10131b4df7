use Rattle.capnp_model.proofs.lemmas.Visits.{values_tell, rows_tell, faults_of_visits}
use Rattle.capnp_model.proofs.laws.values_on_walks.Goals as goal

pub returns : goal.returns
returns c = record { cost = λ n s p t e. (values_tell n s p t e).0; count = λ n s p t e. (values_tell n s p t e).1; row_cost = λ n s p k ts e. (rows_tell n s p k ts e).0; row_count = λ n s p k ts e. (rows_tell n s p k ts e).1; faults = faults_of_visits }
