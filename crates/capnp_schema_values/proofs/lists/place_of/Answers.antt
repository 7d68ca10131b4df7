use Rattle.std.proofs.Common.{◌≡◌, None, option_map, option_copied, sym, ap, subst, ◌∙◌}
use Rattle.capnp_model.specs.Accepted.{schema_of}
use Rattle.capnp_model.specs.Segments.{Segments}
use Rattle.capnp_units.specs.Segments.{words_in}
use Rattle.capnp_records.specs.Sets.{nodes_of}
use Rattle.capnp_values_queries.specs.Structs.{id_of}
use Rattle.capnp_values_queries.specs.Types.{ty_of}
use Rattle.capnp_schema_structs.specs.Inits.{struct_named}
use Rattle.capnp_schema_values.specs.Lists.{PlaceGot}
use Rattle.capnp_schema_values.proofs.GotParts.{structs_grow, no_structs_grow, others_grow}
use Rattle.capnp_schema_values.proofs.GotLists.{structs_got, others_got}
use Rattle.capnp_schema_values.proofs.lists.place_of.Goals as goal

pub returns-in_err-list-in-Some-clause-grows : goal.returns-in_err-list-in-Some-clause-grows
returns-in_err-list-in-Some-clause-grows g c = λ n t own.
    no_structs_grow (option_copied c.args.default) (words_in (g.A.ReaderArena.segments c.args.memory.now.arena)) (words_in (g.A.ReaderArena.segments c.struct_list_here.new.memory.arena)) c.args.slot c.struct_size.result c.in_err-list-in-Some.field-0.0 c.in_err-list-in-Some.ensures.refused

pub returns-in_ok-list-in-Some-clause-got : goal.returns-in_ok-list-in-Some-clause-got
returns-in_ok-list-in-Some-clause-got g c =
    let s : Segments = words_in (g.A.ReaderArena.segments c.args.memory.now.arena) in
    let u : Segments = words_in (g.A.ReaderArena.segments c.struct_list_here.new.memory.arena) in
    let around = schema_of (nodes_of c.args.set.now) in
    let ty = ty_of c.args.element_type in
    let d = option_copied c.args.default in
    let got = structs_got around ty c.in-Some.schema c.in-Some.ensures.named (ap schema_of c.in-Some.ensures.nodes) d s u c.args.slot c.struct_size.result c.struct_size.ensures c.in_ok-list-in-Some.list c.requires.near c.in_ok-list-in-Some.ensures.got in
    subst (PlaceGot (record { slot = c.args.slot; around = around; ty = ty; default = d }) s u) (sym c.sized.ensures) got

pub returns-in_ok-list-in-Some-clause-grows : goal.returns-in_ok-list-in-Some-clause-grows
returns-in_ok-list-in-Some-clause-grows g c =
    structs_grow (option_copied c.args.default) (words_in (g.A.ReaderArena.segments c.args.memory.now.arena)) (words_in (g.A.ReaderArena.segments c.struct_list_here.new.memory.arena)) c.args.slot c.struct_size.result c.in_ok-list-in-Some.list c.in_ok-list-in-Some.ensures.got

pub returns-in-None-clause-got : goal.returns-in-None-clause-got
returns-in-None-clause-got g c =
    let s : Segments = words_in (g.A.ReaderArena.segments c.args.memory.now.arena) in
    let u : Segments = words_in (g.A.ReaderArena.segments c.list_here.new.memory.arena) in
    let none : struct_named (ty_of c.args.element_type) ≡ None = sym c.struct_of_type.ensures.named ∙ ap (option_map id_of) c.in-None.is in
    others_got (schema_of (nodes_of c.args.set.now)) c.args.element_type none (option_copied c.args.default) s u c.args.slot c.element_size.result c.element_size.ensures c.list_here.result c.requires.near c.list_here.ensures.got

pub returns-in-None-clause-grows : goal.returns-in-None-clause-grows
returns-in-None-clause-grows g c =
    others_grow (option_copied c.args.default) (words_in (g.A.ReaderArena.segments c.args.memory.now.arena)) (words_in (g.A.ReaderArena.segments c.list_here.new.memory.arena)) c.args.slot c.element_size.result c.list_here.result c.list_here.ensures.got c.list_here.ensures.refused
