use Rattle.std.proofs.Common.{ap, ◌∙◌}
use Rattle.capnp_wire.specs.Views.{seen_struct}
use Rattle.capnp_calls.specs.Messages.{tree_of_message}
use Rattle.capnp_calls_replies.specs.Messages.{kept_bytes}
use Rattle.capnp_calls_replies.specs.Writes.{reply_by_type}
use Rattle.capnp_calls_replies.proofs.KeptValues.{struct_taken}
use Rattle.capnp_calls_replies.proofs.messages.is_struct.Goals as goal

pub returns : goal.returns
returns c =
    let t = tree_of_message c.args.value.now in
    ap reply_by_type c.is_some.ensures ∙ struct_taken (seen_struct kept_bytes) t c.args.id c.struct_in.result (c.struct_in.ensures t c.kept.ensures)
