use Rattle.std.proofs.Common.{refl}
use Rattle.capnp_units.specs.Segments.{words_in}
use Rattle.capnp_schema_structs.proofs.lemmas.Grown.{there_grown}
use Rattle.capnp_schema_structs.proofs.lemmas.Ready.{field_inside}
use Rattle.capnp_schema_structs.proofs.dynamic_struct.Builder.set.Goals as goal

pub set_value-requires-clause-inside : goal.set_value-requires-clause-inside
set_value-requires-clause-inside g c = field_inside c.args.self.now.place c.args.self.now.schema c.args.field c.requires.field c.requires.ready.wide

pub returns-clause-ready : goal.returns-clause-ready
returns-clause-ready g c =
    let old = c.args.self.now in
    record { there = there_grown (words_in (g.A.ReaderArena.segments old.memory.now.arena)) (words_in (g.A.ReaderArena.segments c.set_value.new.memory.arena)) old.place c.set_value.ensures.leaves.grows c.requires.ready.there; wide = c.requires.ready.wide }

pub returns-clause-sets : goal.returns-clause-sets
returns-clause-sets g c = record { same = refl; place = refl; schema = refl; puts = c.set_value.ensures.puts; stands = c.set_value.ensures.leaves.stands }
