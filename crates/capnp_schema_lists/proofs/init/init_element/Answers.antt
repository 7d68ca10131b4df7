use Rattle.std.proofs.Common.{[], arith, ap, sym, subst, ◌∙◌, refl, Err}
use Rattle.capnp_model.specs.Accepted.{schema_of}
use Rattle.capnp_model.specs.Calls.{initn, element_content}
use Rattle.capnp_model.specs.Edits.{put_child, edit_element}
use Rattle.capnp_model.specs.Sizes.{object_words}
use Rattle.capnp_units.specs.Errors.{kind_of}
use Rattle.capnp_units.specs.Segments.{words_in}
use Rattle.capnp_records.specs.Sets.{nodes_of}
use Rattle.capnp_values_queries.specs.Types.{ty_of}
use Rattle.capnp_layout_builders.specs.Making.{Makes}
use Rattle.capnp_schema_structs.specs.NewLists.{tree_of_new}
use Rattle.capnp_copy_arenas.specs.States.{state_in}
use Rattle.capnp_schema_structs.specs.Puts.{NewObjectRefused}
use Rattle.capnp_schema_lists.specs.Elements.{no_new_element}
use Rattle.capnp_schema_lists.specs.Puts.{PutsElementObject, PutsElementContent}
use Rattle.capnp_schema_lists.proofs.Pointers.{pointer_there}
use Rattle.capnp_schema_lists.proofs.Contents.{object_put, put_if, not_put_if, grows_if}
use Rattle.capnp_schema_lists.proofs.NewElements.{no_list, pointers_held, puts_new}
use Rattle.capnp_copy_arenas.specs.Refusals.{IsSizeOrRefusal}
use Rattle.capnp_schema_structs.proofs.lemmas.Causes.{caused_if, refused_cause}
use Rattle.capnp_schema_lists.proofs.init.init_element.Goals as goal

pub returns-in-None-clause-puts : goal.returns-in-None-clause-puts
returns-in-None-clause-puts g c =
    let at = state_in g.A.ReaderArena.segments g.A.BuilderArena.room g.A.BuilderArena.books in
    let s = schema_of (nodes_of c.args.set.now) in
    let ty = ty_of c.args.ty in
    let n = c.args.size in
    let none = no_list s n ty (c.in-None.ensures.list n) in
    subst (λ k. PutsElementContent (at c.args.arena.now) (at c.args.arena.now) (record { place = c.args.list; at = c.args.index; edit = edit_element s [] (initn n) ty }) k (Err c.from.result)) (sym none) (ap Err (ap kind_of c.from.ensures ∙ c.refusal.ensures))

pub put_list-requires-clause-there : goal.put_list-requires-clause-there
put_list-requires-clause-there g c =
    let s = schema_of (nodes_of c.args.set.now) in
    let t = tree_of_new c.in-Some.new c.args.size in
    let has = pointers_held s c.args.size t c.args.list (ty_of c.args.ty) (c.in-Some.ensures.list c.args.size) c.requires.holds in
    let x = pointer_there (words_in (g.A.ReaderArena.segments c.args.arena.now)) c.args.list c.args.index c.element_pointer.result has c.requires.index c.element_pointer.ensures.place c.requires.there in
    x.0

pub put_list-requires-clause-near : goal.put_list-requires-clause-near
put_list-requires-clause-near g c =
    let s = schema_of (nodes_of c.args.set.now) in
    let t = tree_of_new c.in-Some.new c.args.size in
    let has = pointers_held s c.args.size t c.args.list (ty_of c.args.ty) (c.in-Some.ensures.list c.args.size) c.requires.holds in
    let x = pointer_there (words_in (g.A.ReaderArena.segments c.args.arena.now)) c.args.list c.args.index c.element_pointer.result has c.requires.index c.element_pointer.ensures.place c.requires.there in
    let near = x.1 in
    omega (arith, near)

pub returns-in-Some-clause-puts : goal.returns-in-Some-clause-puts
returns-in-Some-clause-puts g c =
    let at = state_in g.A.ReaderArena.segments g.A.BuilderArena.room g.A.BuilderArena.books in
    let old = at c.args.arena.now in
    let new = at c.put_list.new.arena in
    let r = c.put_list.result in
    let o = c.args.list in
    let i = c.args.index in
    let n = c.args.size in
    let slot = c.element_pointer.result in
    let where_it_is = c.element_pointer.ensures in
    let s = schema_of (nodes_of c.args.set.now) in
    let t = tree_of_new c.in-Some.new n in
    let e = c.in-Some.ensures.list n in
    let has = pointers_held s n t o (ty_of c.args.ty) e c.requires.holds in
    let made = put_if old new r (Makes old new slot t (object_words t)) (PutsElementObject old new o (λ words pointers. put_child 0 t) i (object_words t))
    (object_put old new o slot i where_it_is.segment t (object_words t) refl has c.requires.index where_it_is.place c.requires.there) c.put_list.ensures.made in
    let refused = not_put_if old new r (NewObjectRefused old slot.segment t) (NewObjectRefused old o.start.segment t) (λ e h. subst (λ k. NewObjectRefused old k t e) where_it_is.segment h) c.put_list.ensures.refused in
    puts_new s n (ty_of c.args.ty) old new o i r t e made refused

pub returns-in-Some-clause-grows : goal.returns-in-Some-clause-grows
returns-in-Some-clause-grows g c =
    let at = state_in g.A.ReaderArena.segments g.A.BuilderArena.room g.A.BuilderArena.books in
    grows_if (at c.args.arena.now) (at c.put_list.new.arena) c.put_list.result (NewObjectRefused (at c.args.arena.now) c.element_pointer.result.segment (tree_of_new c.in-Some.new c.args.size)) c.put_list.ensures.grows c.put_list.ensures.refused

-- ---- why not

pub returns-in-Some-clause-cause : goal.returns-in-Some-clause-cause
returns-in-Some-clause-cause g c =
    caused_if (element_content (schema_of (nodes_of c.args.set.now)) (initn c.args.size) (ty_of c.args.ty)) (IsSizeOrRefusal g.A.BuilderArena.refuses) c.put_list.result c.put_list.ensures.cause

pub returns-in-None-clause-cause : goal.returns-in-None-clause-cause
returns-in-None-clause-cause g c =
    let s = schema_of (nodes_of c.args.set.now) in
    let ty = ty_of c.args.ty in
    refused_cause (element_content s (initn c.args.size) ty) (no_new_element ty) (IsSizeOrRefusal g.A.BuilderArena.refuses) c.from.result (no_list s c.args.size ty (c.in-None.ensures.list c.args.size))
