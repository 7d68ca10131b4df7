use Rattle.capnp_schema_values.proofs.any_pointer.Builder.initn_as.Goals as goal

pub returns-clause-init : goal.returns-clause-init
returns-clause-init g c =
    record { made = c.init_at.ensures.made; refused = c.init_at.ensures.refused; kind = c.init_at.ensures.kind; cause = c.init_at.ensures.cause; books = c.init_at.ensures.books }

pub returns-clause-ready : goal.returns-clause-ready
returns-clause-ready g c = record { word = c.init_at.ensures.there; near = c.requires.ready.near }
