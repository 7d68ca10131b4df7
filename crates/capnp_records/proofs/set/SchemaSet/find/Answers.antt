use Rattle.std.proofs.Common.{◌<◌, ℕ, sym, ◌∙◌, subst}
use Rattle.capnp_model.proofs.lemmas.SoundRules.{found_id}
use Rattle.capnp_records.specs.NodeViews.{node_of}
use Rattle.capnp_records.specs.Sets.{nodes_of}
use Rattle.capnp_records.proofs.lemmas.FieldPlaces.{no_node, node_placed, get_at, placed_inside, placed_found}
use Rattle.capnp_records.proofs.set.SchemaSet.find.Goals as goal

pub returns-in_default-clause-missing : goal.returns-in_default-clause-missing
returns-in_default-clause-missing c = no_node c.args.id 0 (nodes_of c.args.self.now) (sym (c.args.self.now.placed c.args.id) ∙ sym c.in_default.ensures.value)

pub index-requires : goal.index-requires
index-requires c =
    let p = node_placed c.args.id 0 c.in-Some.place.now (nodes_of c.args.self.now) (sym (c.args.self.now.placed c.args.id) ∙ sym c.in-Some.ensures.value) in
    subst (λ (n : ℕ). c.in-Some.place.now < n) (sym c.args.self.now.nodes.ok.0) (placed_inside c.args.self.now.nodes.items c.args.id c.in-Some.place.now p)

pub returns-clause-found : goal.returns-clause-found
returns-clause-found c =
    let p = node_placed c.args.id 0 c.in-Some.place.now (nodes_of c.args.self.now) (sym (c.args.self.now.placed c.args.id) ∙ sym c.in-Some.ensures.value) in
    placed_found c.args.self.now.nodes.items c.args.id c.in-Some.place.now c.index.result.now p c.index.ensures

pub returns-clause-id : goal.returns-clause-id
returns-clause-id c =
    let p = node_placed c.args.id 0 c.in-Some.place.now (nodes_of c.args.self.now) (sym (c.args.self.now.placed c.args.id) ∙ sym c.in-Some.ensures.value) in
    found_id (nodes_of c.args.self.now) c.args.id (node_of c.index.result.now) (placed_found c.args.self.now.nodes.items c.args.id c.in-Some.place.now c.index.result.now p c.index.ensures)

pub returns-clause-place : goal.returns-clause-place
returns-clause-place c =
    let p = node_placed c.args.id 0 c.in-Some.place.now (nodes_of c.args.self.now) (sym (c.args.self.now.placed c.args.id) ∙ sym c.in-Some.ensures.value) in
    get_at node_of c.args.self.now.nodes.items c.in-Some.place.now c.index.result.now (placed_inside c.args.self.now.nodes.items c.args.id c.in-Some.place.now p) c.index.ensures
