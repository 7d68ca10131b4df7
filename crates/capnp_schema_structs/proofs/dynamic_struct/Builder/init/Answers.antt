use Rattle.std.proofs.Common.{sym, subst}
use Rattle.capnp_units.specs.Segments.{words_in}
use Rattle.capnp_values_queries.specs.Structs.{shape_of_struct}
use Rattle.capnp_schema_structs.specs.Edits.{HoldsShape}
use Rattle.capnp_schema_structs.proofs.lemmas.Grown.{there_grown}
use Rattle.capnp_schema_structs.proofs.dynamic_struct.Builder.init.Goals as goal

pub begin_field-requires-clause-wide : goal.begin_field-requires-clause-wide
begin_field-requires-clause-wide g c = subst (λ s. HoldsShape c.args.self.now.place (shape_of_struct s)) (sym c.requires.field) c.requires.ready.wide

pub returns-clause-ready : goal.returns-clause-ready
returns-clause-ready g c =
    let old = c.args.self.now in
    record { there = there_grown (words_in (g.A.ReaderArena.segments old.memory.now.arena)) (words_in (g.A.ReaderArena.segments c.begin_field.new.arena)) old.place c.begin_field.ensures.grows c.requires.ready.there; wide = c.requires.ready.wide }
