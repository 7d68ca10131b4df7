-- both kinds of rules
use Rattle.std.proofs.Common.{IsTrue}
use Rattle.std.proofs.lemmas.Result.{IfOk-weaker}
use Rattle.capnp_source_rules.specs.Groups.{AreGoodGroups}
use Rattle.capnp_source_rules.specs.Nodes.{AreGoodNodes}
use Rattle.capnp_source_rules.proofs.nodes.are_good_nodes.Goals as goal

pub returns : goal.returns
returns c =
    let nodes = c.args.nodes.now in
    IfOk-weaker c.are_good_groups.result (λ b. IsTrue b → AreGoodGroups nodes) (λ b. IsTrue b → AreGoodNodes nodes)
    (λ b f is. record { each = c.keep_rules.ensures c.if-not-keep_rules.false; groups = f is })
    c.are_good_groups.ensures
