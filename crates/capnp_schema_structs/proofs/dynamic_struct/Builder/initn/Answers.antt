use Rattle.capnp_units.specs.Segments.{words_in}
use Rattle.capnp_schema_structs.proofs.lemmas.Grown.{there_grown}
use Rattle.capnp_schema_structs.proofs.lemmas.Ready.{field_inside}
use Rattle.capnp_schema_structs.proofs.dynamic_struct.Builder.initn.Goals as goal

pub initn_slot-requires-clause-inside : goal.initn_slot-requires-clause-inside
initn_slot-requires-clause-inside g c = field_inside c.args.self.now.place c.args.self.now.schema c.args.field c.requires.field c.requires.ready.wide

pub returns-clause-ready : goal.returns-clause-ready
returns-clause-ready g c =
    let old = c.args.self.now in
    record { there = there_grown (words_in (g.A.ReaderArena.segments old.memory.now.arena)) (words_in (g.A.ReaderArena.segments c.initn_slot.new.arena)) old.place c.initn_slot.ensures.grows c.requires.ready.there; wide = c.requires.ready.wide }
