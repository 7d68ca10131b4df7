use Rattle.capnp_model.proofs.lemmas.MessagePrefixes.{one_framed_text, one_packed_text}
use Rattle.capnp_model.proofs.laws.texts_by_their_fronts.Goals as goal

pub returns : goal.returns
returns c = record { framed = one_framed_text; packed = one_packed_text }
