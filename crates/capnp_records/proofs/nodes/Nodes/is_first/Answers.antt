use Rattle.std.proofs.Common.{Some, None, refl, ◌∙◌}
use Rattle.capnp_records.proofs.Holders.{is_first_at}
use Rattle.capnp_records.proofs.nodes.Nodes.is_first.Goals as goal

pub returns-in-None : goal.returns-in-None
returns-in-None c =
    let x = c.args.node.now in
    is_first_at c.args.place x.id c.args.self.records.now x None c.requires.inside c.requires.node refl (c.in-None.ensures.value ∙ c.args.self.placed x.id)

pub returns-in-Some : goal.returns-in-Some
returns-in-Some c =
    let x = c.args.node.now in
    is_first_at c.args.place x.id c.args.self.records.now x (Some c.in-Some.first.now) c.requires.inside c.requires.node refl (c.in-Some.ensures.value ∙ c.args.self.placed x.id)
