use Rattle.capnp_model.proofs.lemmas.CanonicalTests.{canonical_test, test_canonical}
use Rattle.capnp_model.proofs.lemmas.CanonicalCopies.{begins_canonical}
use Rattle.capnp_model.proofs.laws.canonical_tests_at_places.Goals as goal

pub returns : goal.returns
returns c = record { holds = canonical_test; stands = test_canonical; begins = begins_canonical }
