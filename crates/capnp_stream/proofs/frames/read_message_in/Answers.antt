use Rattle.std.proofs.Common.{refl}
use Rattle.capnp_stream.proofs.ReadLemmas.{reads-none}
use Rattle.capnp_stream.proofs.frames.read_message_in.Goals as goal

pub returns-in-None : goal.returns-in-None
returns-in-None g c =
    let end = rw c.in-None.is at c.in_ok-message.ensures.none in
    rw c.from.ensures (reads-none g.F.MessageForm.reader g.met.F.MessageForm.fronts g.F.MessageForm.faults c.args.limit _ _ _ _ _ refl end.0 end.1 c.in_ok-message.ensures.count)
