-- a member has the next number
use Rattle.capnp_source_rules.proofs.Numbers.{numbered}
use Rattle.capnp_source_rules.proofs.rules.next_after.Goals as goal

pub returns : goal.returns
returns c = numbered c.args.field.now c.args.next c.if-field.false c.if-field-next.false
