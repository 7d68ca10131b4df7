use Rattle.capnp_units.specs.Segments.{words_in}
use Rattle.capnp_schema_lists.proofs.lemmas.Fronts.{list_grown}
use Rattle.capnp_schema_lists.proofs.dynamic_list.Builder.init.Goals as goal

pub returns-clause-ready : goal.returns-clause-ready
returns-clause-ready g c =
    let old = c.args.self.now in
    record {
      there = list_grown (words_in (g.A.ReaderArena.segments old.memory.now.arena)) (words_in (g.A.ReaderArena.segments c.init_element.new.arena)) old.place c.init_element.ensures.grows c.requires.ready.there;
      holds = c.requires.ready.holds;
      sizes = c.requires.ready.sizes;
      known = c.requires.ready.known;
    }
