use Rattle.std.proofs.Common.{map, sym, ◌∙◌}
use Rattle.capnp_records.specs.NodeViews.{node_of}
use Rattle.capnp_records.proofs.lemmas.FieldPlaces.{no_node, node_placed, placed_inside, placed_found}
use Rattle.capnp_records.proofs.nodes.Nodes.find.Goals as goal

pub returns-in_default : goal.returns-in_default
returns-in_default c = sym (no_node c.args.id 0 (map node_of c.args.self.records.now) (sym (c.args.self.placed c.args.id) ∙ sym c.in_default.ensures.value))

pub at-requires : goal.at-requires
at-requires c = placed_inside c.args.self.records.now c.args.id c.in-Some.place.now (node_placed c.args.id 0 c.in-Some.place.now (map node_of c.args.self.records.now) (sym (c.args.self.placed c.args.id) ∙ sym c.in-Some.ensures.value))

pub returns : goal.returns
returns c =
    let p = node_placed c.args.id 0 c.in-Some.place.now (map node_of c.args.self.records.now) (sym (c.args.self.placed c.args.id) ∙ sym c.in-Some.ensures.value) in
    sym (placed_found c.args.self.records.now c.args.id c.in-Some.place.now c.at.result.now p c.at.ensures)
