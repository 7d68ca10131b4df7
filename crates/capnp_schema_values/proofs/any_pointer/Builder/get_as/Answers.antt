use Rattle.capnp_schema_values.proofs.any_pointer.Builder.get_as.Goals as goal

pub returns-clause-ready : goal.returns-clause-ready
returns-clause-ready g c = record { word = c.get_at.ensures.there; near = c.requires.ready.near }
