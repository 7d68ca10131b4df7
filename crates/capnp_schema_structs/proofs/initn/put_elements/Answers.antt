use Rattle.std.proofs.lemmas.Result.{err_from_is_err_and}
use Rattle.capnp_units.specs.Sizes.{size_number}
use Rattle.capnp_model_writes.specs.NewObjects.{new_tree}
use Rattle.capnp_copy_arenas.specs.Lists.{zeros_of, words_of_list}
use Rattle.capnp_copy_arenas.specs.States.{state_in}
use Rattle.capnp_schema_structs.proofs.NewLists.{made_of, list_words, list_refused}
use Rattle.capnp_schema_structs.proofs.initn.put_elements.Goals as goal

pub returns-in_err-init_list-clause-refused : goal.returns-in_err-init_list-clause-refused
returns-in_err-init_list-clause-refused g c =
    let at = state_in g.A.ReaderArena.segments g.A.BuilderArena.room g.A.BuilderArena.books in
    let h = err_from_is_err_and c.from_residual.result c.from_residual.ensures.1 in
    let e = c.in_err-init_list.ensures in
    rw (h.1, h.2) (list_refused (at c.args.arena.now) c.args.slot.segment (size_number c.args.size) c.args.count c.in_err-init_list.field-0.0 (e.kind, e.full), (e.refused, c.init_list.ensures.books))

pub returns-clause-made : goal.returns-clause-made
returns-clause-made g c =
    let at = state_in g.A.ReaderArena.segments g.A.BuilderArena.room g.A.BuilderArena.books in
    let e = c.in_ok-init_list.ensures in
    let size = size_number c.args.size in
    let n = c.args.count in
    made_of (at c.args.arena.now) (at c.init_list.new.arena) c.args.slot (new_tree (zeros_of size n)) (words_of_list size n) (list_words size n) e.value e.taken e.bound c.init_list.ensures.books
