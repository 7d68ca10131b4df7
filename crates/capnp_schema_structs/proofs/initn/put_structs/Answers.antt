use Rattle.std.proofs.Common.{◌+◌, ◌*◌}
use Rattle.std.proofs.lemmas.Result.{err_from_is_err_and}
use Rattle.capnp_model.specs.Trees.{struct_list}
use Rattle.capnp_model_writes.specs.NewObjects.{zero_elements}
use Rattle.capnp_copy_arenas.specs.States.{state_in}
use Rattle.capnp_schema_structs.proofs.NewLists.{made_of, struct_list_words, structs_refused}
use Rattle.capnp_schema_structs.proofs.initn.put_structs.Goals as goal

pub returns-in_err-init_struct_list-clause-refused : goal.returns-in_err-init_struct_list-clause-refused
returns-in_err-init_struct_list-clause-refused g c =
    let at = state_in g.A.ReaderArena.segments g.A.BuilderArena.room g.A.BuilderArena.books in
    let h = err_from_is_err_and c.from_residual.result c.from_residual.ensures.1 in
    let e = c.in_err-init_struct_list.ensures in
    rw (h.1, h.2) (structs_refused (at c.args.arena.now) c.args.slot.segment c.args.count c.args.size.data_words c.args.size.pointers c.in_err-init_struct_list.field-0.0 e.kind e.full, (e.refused, c.init_struct_list.ensures.books))

pub returns-clause-made : goal.returns-clause-made
returns-clause-made g c =
    let at = state_in g.A.ReaderArena.segments g.A.BuilderArena.room g.A.BuilderArena.books in
    let e = c.in_ok-init_struct_list.ensures in
    let d = c.args.size.data_words in
    let k = c.args.size.pointers in
    let n = c.args.count in
    made_of (at c.args.arena.now) (at c.init_struct_list.new.arena) c.args.slot (struct_list d k (zero_elements n k)) (1 + n * (d + k)) (struct_list_words d k n) e.value e.taken e.bound c.init_struct_list.ensures.books
