use Rattle.capnp_units.specs.Segments.{words_in}
use Rattle.capnp_schema_structs.proofs.lemmas.Grown.{there_grown}
use Rattle.capnp_schema_values.proofs.dynamic_struct.get.Goals as goal

pub returns-clause-ready : goal.returns-clause-ready
returns-clause-ready g c = λ n section kids own. (
    let old = c.args.builder.now in
    record { there = there_grown (words_in (g.A.ReaderArena.segments old.memory.now.arena)) (words_in (g.A.ReaderArena.segments c.get_field.new.memory.arena)) old.place (c.get_field.ensures.grows n section kids own) c.requires.ready.there; wide = c.requires.ready.wide }
    )
