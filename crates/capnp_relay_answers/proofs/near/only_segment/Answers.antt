use Rattle.std.proofs.Common.{sym, ◌∙◌}
use Rattle.capnp_relay_answers.proofs.Alone.{only_there}
use Rattle.capnp_relay_answers.proofs.near.only_segment.Goals as goal

pub returns : goal.returns
returns g c =
    only_there (g.M.ReaderArena.segments c.args.message.now) c.get_segment-2.result c.get_segment.result c.get_segment.ensures (sym c.is_some.ensures ∙ c.if-is_some.false) c.get_segment-2.ensures
