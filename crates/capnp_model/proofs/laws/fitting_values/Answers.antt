use Rattle.capnp_model.proofs.lemmas.FittingValues.{FitEach-with_child, Fits-widened, words_fit, bytes_fit, zeros_fit}
use Rattle.capnp_model.proofs.laws.fitting_values.Goals as goal

pub returns : goal.returns
returns c = record { child = FitEach-with_child; widened = Fits-widened; words = words_fit; bytes = bytes_fit; zeros = zeros_fit }
