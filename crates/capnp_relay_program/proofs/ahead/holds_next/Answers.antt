use Rattle.capnp_relay_program.proofs.Tables.{message_is_told}
use Rattle.capnp_relay_program.proofs.ahead.holds_next.Goals as goal

pub returns-in-Some : goal.returns-in-Some
returns-in-Some g c = λ holds limit. message_is_told g.F.MessageForm.reader limit c.args.bytes.now c.in-Some.first c.in-Some.behind.now c.in-Some.ensures (c.holds_behind.ensures holds limit)
