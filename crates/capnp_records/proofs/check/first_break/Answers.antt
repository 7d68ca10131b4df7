use Rattle.std.proofs.Common.{get_or, sym, ◌∙◌}
use Rattle.capnp_model.specs.Accepted.{is_kept_by}
use Rattle.capnp_records.specs.NodeViews.{node_of}
use Rattle.capnp_records.specs.Listed.{listed}
use Rattle.capnp_records.specs.declared.node.NodeRecord.{NodeRecord}
use Rattle.capnp_records.proofs.Breaks.{node_kept}
use Rattle.capnp_records.proofs.lemmas.ListTests.{default_any}
use Rattle.capnp_records.proofs.check.first_break.Goals as goal

pub loop-i-preserved : goal.loop-i-preserved
loop-i-preserved c =
    let ns = c.args.nodes.records.now in
    let i = c.loop-i.i in
    let x : NodeRecord = get_or ns i c.index-nodes-i.result in
    sym (node_kept (λ earlier n. is_kept_by (listed c.args.nodes) earlier n c.args.rule) node_of ns i x c.loop-i-test.true (default_any ns i c.index-nodes-i.result x c.loop-i-test.true) (sym (c.in_ok-keeps.ensures) ∙ c.if-not-branch.false))
    ∙ c.loop-i.invariant
