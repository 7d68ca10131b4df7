use Rattle.std.proofs.Common.{ℕ, ◌<◌, length, subst, ◌∙◌}
use Rattle.capnp_records.specs.NodeViews.{node_of}
use Rattle.capnp_records.proofs.lemmas.FieldPlaces.{get_at}
use Rattle.capnp_records.proofs.set.SchemaSet.node_at.Goals as goal

pub returns-clause-found : goal.returns-clause-found
returns-clause-found c =
    let nodes = c.args.self.now.nodes in
    let inside : c.args.number < length nodes.items = subst (λ (n : ℕ). c.args.number < n) (c.len.ensures ∙ nodes.ok.0) c.if-place-len.false in
    get_at node_of nodes.items c.args.number c.index-2.result.now inside c.index-2.ensures
