use Rattle.hagzimot_salvage.proofs.Whole.{cut_joined, cut_kept, cut_whole}
use Rattle.hagzimot_salvage.proofs.laws.pieces_of_streams.Goals as goal

pub returns : goal.returns
returns c = record { all = cut_joined; kept = cut_kept c.texts_of_messages.ensures.framed_front; whole = cut_whole }
