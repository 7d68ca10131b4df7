use Rattle.hagzimot_c.proofs.Texts.{lent_text, not_shown}
use Rattle.hagzimot_c.proofs.kinds.text_into.Goals as goal

pub returns-in-Ok-clause-text : goal.returns-in-Ok-clause-text
returns-in-Ok-clause-text c _ =
    (lent_text c.args.relay.now c.args.input.now c.show.new.self.out.items c.output.result.now c.copy_out.new.out c.copy_out.new.len c.in-Ok.ensures.text c.output.ensures c.copy_out.ensures.lent, c.copy_out.ensures.fits c.if-copy_out.true)

pub returns-in-Ok-2-clause-room : goal.returns-in-Ok-2-clause-room
returns-in-Ok-2-clause-room c _ =
    lent_text c.args.relay.now c.args.input.now c.show.new.self.out.items c.output.result.now c.copy_out.new.out c.copy_out.new.len c.in-Ok-2.ensures.text c.output.ensures c.copy_out.ensures.lent

pub returns-in-Err-clause-refused : goal.returns-in-Err-clause-refused
returns-in-Err-clause-refused c _ _ =
    not_shown c.args.relay.now c.args.input.now c.in-Err.fault c.show_status.result c.in-Err.ensures.fault c.show_status.ensures
