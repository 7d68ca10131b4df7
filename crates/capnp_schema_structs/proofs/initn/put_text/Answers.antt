use Rattle.std.proofs.Common.{◌≡◌, ◌+◌, suc, subst, arith}
use Rattle.std.proofs.lemmas.Result.{err_from_is_err_and}
use Rattle.capnp_model.specs.Trees.{plain_list}
use Rattle.capnp_model.specs.Sizes.{object_words}
use Rattle.capnp_layout_builders.specs.Making.{Makes}
use Rattle.capnp_copy_arenas.specs.Lists.{words_of_list}
use Rattle.capnp_copy_arenas.specs.States.{state_in}
use Rattle.capnp_schema_structs.specs.Puts.{NewObjectRefused}
use Rattle.capnp_schema_structs.proofs.NewLists.{made_of, list_words, list_refused}
use Rattle.capnp_schema_structs.proofs.initn.put_text.Goals as goal

pub returns-in_err-init_list-clause-refused : goal.returns-in_err-init_list-clause-refused
returns-in_err-init_list-clause-refused g c =
    let at = state_in g.A.ReaderArena.segments g.A.BuilderArena.room g.A.BuilderArena.books in
    let h = err_from_is_err_and c.from_residual.result c.from_residual.ensures.1 in
    let e = c.in_err-init_list.ensures in
    let more : c.args.count + 1 ≡ suc c.args.count = omega arith in
    rw (h.1, h.2) (subst (λ n. NewObjectRefused (at c.args.arena.now) c.args.slot.segment (plain_list 2 n 0) c.in_err-init_list.field-0.0) more (list_refused (at c.args.arena.now) c.args.slot.segment 2 (c.args.count + 1) c.in_err-init_list.field-0.0 (e.kind, e.full)), (e.refused, c.init_list.ensures.books))

pub returns-clause-made : goal.returns-clause-made
returns-clause-made g c =
    let at = state_in g.A.ReaderArena.segments g.A.BuilderArena.room g.A.BuilderArena.books in
    let old = at c.args.arena.now in
    let new = at c.init_list.new.arena in
    let e = c.in_ok-init_list.ensures in
    let n = c.args.count + 1 in
    let more : c.args.count + 1 ≡ suc c.args.count = omega arith in
    subst (λ n. Makes old new c.args.slot (plain_list 2 n 0) (object_words (plain_list 2 n 0))) more
    (made_of (at c.args.arena.now) (at c.init_list.new.arena) c.args.slot (plain_list 2 (c.args.count + 1) 0) (words_of_list 2 (c.args.count + 1)) (list_words 2 (c.args.count + 1)) e.value e.taken e.bound c.init_list.ensures.books)
