use Rattle.capnp_model.proofs.lemmas.MessagePrefixes.{framed_in_slice, slice_framed}
use Rattle.capnp_model.proofs.laws.texts_in_slices.Goals as goal

pub returns : goal.returns
returns c = record { in_slice = framed_in_slice; of_slice = slice_framed }
