use Rattle.capnp_relay_streams.proofs.relay.relay_calls.Goals as goal

pub returns-then-options : goal.returns-then-options
returns-then-options g c = record { run = rw c.if-options.true c.answer_in_forms.ensures.run; pauses = rw c.if-options.true c.answer_in_forms.ensures.pauses; zeros = c.answer_in_forms.ensures.zeros }

pub returns : goal.returns
returns g c = record { run = rw c.if-options.false c.answer_in_forms-2.ensures.run; pauses = rw c.if-options.false c.answer_in_forms-2.ensures.pauses; zeros = c.answer_in_forms-2.ensures.zeros }
