use Rattle.std.proofs.Common.{ap, ◌∙◌}
use Rattle.capnp_model.specs.Readings.{is_list_of}
use Rattle.capnp_values_queries.specs.Types.{ty_of}
use Rattle.capnp_calls.specs.Messages.{tree_of_message}
use Rattle.capnp_calls_replies.specs.Writes.{reply_by_type}
use Rattle.capnp_calls_replies.proofs.KeptValues.{list_taken}
use Rattle.capnp_calls_replies.proofs.messages.is_list.Goals as goal

pub returns : goal.returns
returns c =
    let t = tree_of_message c.args.value.now in
    ap reply_by_type (c.has_list.ensures t c.kept.ensures) ∙ list_taken (is_list_of t (ty_of c.args.element)) t
