use Rattle.hagzimot_salvage.proofs.Adjacent.{not_settled}
use Rattle.hagzimot_salvage.proofs.frames.settled_len.Goals as goal

pub returns-in_default-clause-none : goal.returns-in_default-clause-none
returns-in_default-clause-none c = not_settled c.args.limits c.args.bytes.now c.in_default.ensures.none
