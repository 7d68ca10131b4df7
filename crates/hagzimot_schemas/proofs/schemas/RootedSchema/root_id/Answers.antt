use Rattle.hagzimot_schemas.proofs.schemas.RootedSchema.root_id.Goals as goal

pub returns-clause-known : goal.returns-clause-known
returns-clause-known c = (c.args.self.now.root.number, c.args.self.now.known)
