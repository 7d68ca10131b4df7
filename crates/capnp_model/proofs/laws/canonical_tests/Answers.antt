use Rattle.capnp_model.proofs.lemmas.CanonicalTests.{message_test, test_message}
use Rattle.capnp_model.proofs.lemmas.CanonicalCopies.{copy_is_canonical}
use Rattle.capnp_model.proofs.laws.canonical_tests.Goals as goal

pub returns : goal.returns
returns c = record { holds_of = message_test; message = test_message; copy = copy_is_canonical }
