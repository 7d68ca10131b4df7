use Rattle.std.proofs.Common.{refl}
use Rattle.std.proofs.lemmas.Result.{on_err_weaker}
use Rattle.capnp_model.specs.Accepted.{schema_of}
use Rattle.capnp_units.specs.Segments.{words_in}
use Rattle.capnp_records.specs.Sets.{nodes_of}
use Rattle.capnp_values_queries.specs.Types.{ty_of}
use Rattle.capnp_schema_lists.proofs.lemmas.Fronts.{list_grown}
use Rattle.capnp_schema_lists.proofs.AnyValues.{are_structs}
use Rattle.capnp_schema_lists.proofs.dynamic_list.Builder.set.Goals as goal

pub set_value-requires-clause-holds : goal.set_value-requires-clause-holds
set_value-requires-clause-holds g c =
    let old = c.args.self.now in
    (c.requires.ready.holds, are_structs (schema_of (nodes_of old.set.now)) old.place (ty_of old.element_type) c.requires.ready.sizes)

pub returns-clause-refused : goal.returns-clause-refused
returns-clause-refused g c = λ none. (
    let old = c.args.self.now in
    let ready = c.requires.ready in
    let s = words_in (g.A.ReaderArena.segments old.memory.now.arena) in
    let u = words_in (g.A.ReaderArena.segments c.set_value.new.memory.arena) in
    on_err_weaker c.set_value.result
    (λ z. record {
      same = refl;
      place = refl;
      set = refl;
      element_type = refl;
      stands = z;
      ready = record { there = list_grown s u old.place z.grows ready.there; holds = ready.holds; sizes = ready.sizes; known = ready.known };
    }) (c.set_value.ensures.leaves.stands none))

pub returns-clause-ready : goal.returns-clause-ready
returns-clause-ready g c =
    let old = c.args.self.now in
    let ready = c.requires.ready in
    let s = words_in (g.A.ReaderArena.segments old.memory.now.arena) in
    let u = words_in (g.A.ReaderArena.segments c.set_value.new.memory.arena) in
    record { there = list_grown s u old.place c.set_value.ensures.leaves.grows ready.there; holds = ready.holds; sizes = ready.sizes; known = ready.known }
