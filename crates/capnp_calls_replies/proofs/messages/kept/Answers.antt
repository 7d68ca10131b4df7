use Rattle.std.proofs.Common.{pos, [], ◌∷◌, refl, sym, subst}
use Rattle.capnp_model.specs.Decoding.{decode}
use Rattle.capnp_calls.specs.Messages.{tree_of_message}
use Rattle.capnp_calls_replies.specs.Messages.{RootLeadsTo}
use Rattle.capnp_calls_replies.proofs.KeptValues.{value_leads}
use Rattle.capnp_calls_replies.proofs.messages.kept.Goals as goal

pub returns : goal.returns
returns c =
    let m = c.args.value.now in
    subst (λ bs. RootLeadsTo (bs ∷ []) (pos 2147483647) (tree_of_message m)) (sym c.segment.ensures) (value_leads m.segment.items (decode m.segment.items) refl m.readable)
