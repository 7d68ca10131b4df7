use Rattle.std.proofs.Common.{inl, refl}
use Rattle.capnp_units.specs.Segments.{words_in}
use Rattle.capnp_schema_structs.proofs.lemmas.Ready.{field_inside, there_after}
use Rattle.capnp_schema_structs.proofs.dynamic_struct.Builder.clear_named.Goals as goal

pub clear_field-requires-clause-inside : goal.clear_field-requires-clause-inside
clear_field-requires-clause-inside g c = field_inside c.args.self.now.place c.args.self.now.schema c.in_ok-field.field c.in_ok-field.ensures.found.parent c.requires.ready.wide

pub returns-clause-ready : goal.returns-clause-ready
returns-clause-ready g c =
    let old = c.args.self.now in
    record { there = there_after (words_in (g.A.ReaderArena.segments old.memory.now.arena)) (words_in (g.A.ReaderArena.segments c.clear_field.new.arena)) old.place c.clear_field.ensures.sizes c.requires.ready.there; wide = c.requires.ready.wide }

pub returns-clause-cleared : goal.returns-clause-cleared
returns-clause-cleared g c = inl (c.in_ok-field.field, c.in_ok-field.ensures.found, (refl, record { same = refl; place = refl; schema = refl; sizes = c.clear_field.ensures.sizes; writes = c.clear_field.ensures.edits }))
