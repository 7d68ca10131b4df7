use Rattle.capnp_units.specs.Segments.{words_in}
use Rattle.capnp_schema_lists.proofs.lemmas.Fronts.{list_grown}
use Rattle.capnp_schema_values.proofs.dynamic_list.get.Goals as goal

pub returns-clause-ready : goal.returns-clause-ready
returns-clause-ready g c = λ n t is own. (
    let old = c.args.builder.now in
    record {
      there = list_grown (words_in (g.A.ReaderArena.segments old.memory.now.arena)) (words_in (g.A.ReaderArena.segments c.get_element.new.memory.arena)) old.place (c.get_element.ensures.grows n t is own) c.requires.ready.there;
      holds = c.requires.ready.holds;
      sizes = c.requires.ready.sizes;
      known = c.requires.ready.known;
    }
    )
