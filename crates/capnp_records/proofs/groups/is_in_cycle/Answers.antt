use Rattle.std.proofs.Common.{◌≡◌, length, sym, arith, true}
use Rattle.capnp_records.specs.NodeViews.{node_of}
use Rattle.capnp_records.specs.Listed.{listed}
use Rattle.capnp_records.specs.Uses.{holds_deeper}
use Rattle.capnp_records.proofs.lemmas.FieldPlaces.{all_at}
use Rattle.capnp_records.proofs.Holders.{not_below}
use Rattle.capnp_records.proofs.groups.is_in_cycle.Goals as goal

pub returns-then-uses : goal.returns-then-uses
returns-then-uses c =
    let ns = c.args.nodes.records.now in
    let a = c.requires.uses.apart c.if-uses.true in
    let own : holds_deeper a.0 (node_of c.args.node.now) ≡ true = all_at node_of (holds_deeper a.0) ns c.args.place c.args.node.now c.requires.inside c.requires.node a.1 in
    sym (not_below (listed c.args.nodes) a.0 a.1 (length ns) c.args.node.now.id (node_of c.args.node.now) own (omega arith))
