use Rattle.capnp_model.specs.Segments.{place}
use Rattle.capnp_model_writes.specs.Footprints.{footprint}
use Rattle.capnp_model_writes.specs.Writes.{with_zeros, segment_end}
use Rattle.capnp_model_writes.proofs.lemmas.Lift.{replaced_then, replaced_owned}
use Rattle.capnp_model_writes.proofs.lemmas.Algebra.{still_zero}
use Rattle.capnp_model_writes.proofs.lemmas.Growing.{zeros_extend}
use Rattle.capnp_model_writes.proofs.lemmas.Levels.{replaced_by_itself, grown_owned}
use Rattle.capnp_model_writes.proofs.laws.changes_of_values.Goals as goal

pub returns : goal.returns
returns c =
    record {
      none = replaced_by_itself;
      again = replaced_then;
      owned = replaced_owned;
      zeros = λ n s u p v r z. still_zero s u (footprint n s p) (footprint n u p) r.changes z;
      grown = λ n s p t i k l o. grown_owned n s (with_zeros s i k) p (place i (segment_end s i)) k t o (zeros_extend s i k l);
    }
