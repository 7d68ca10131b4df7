use Rattle.std.proofs.Common.{◌≡◌, refl, ap, ◌∙◌}
use Rattle.std.specs.Prelude.{⊤}
use Rattle.std.proofs.lemmas.Result.{err_from_is_err_and}
use Rattle.capnp_model.specs.Accepted.{schema_of}
use Rattle.capnp_model.specs.Calls.{object, initn, initn_content}
use Rattle.capnp_model.specs.Kinds.{InitnIsOnlyValidForListTextOrDataFields}
use Rattle.capnp_model.specs.Sizes.{object_words}
use Rattle.capnp_units.specs.Segments.{words_in}
use Rattle.capnp_records.specs.NodeViews.{field_of}
use Rattle.capnp_records.specs.Sets.{nodes_of}
use Rattle.capnp_wire_objects.specs.Places.{place_view}
use Rattle.capnp_values_queries.specs.Structs.{nodes_around, schema_around}
use Rattle.capnp_values_queries.specs.Types.{ty_of}
use Rattle.capnp_schema_structs.specs.NewLists.{tree_of_new, initn_field}
use Rattle.capnp_copy_arenas.specs.States.{state_in}
use Rattle.capnp_schema_structs.proofs.lemmas.Ready.{slot_there}
use Rattle.capnp_schema_structs.proofs.lemmas.Grown.{same_grows}
use Rattle.capnp_schema_structs.proofs.lemmas.GroupFields.{slot_inside}
use Rattle.capnp_schema_structs.proofs.Verbs.{child_put, child_refused}
use Rattle.capnp_schema_structs.proofs.NewLists.{initn_as, list_put}
use Rattle.capnp_schema_structs.proofs.lemmas.Causes.{caused}
use Rattle.capnp_values_queries.specs.Handles.{entry_of_field}
use Rattle.capnp_copy_arenas.specs.Refusals.{IsSizeOrRefusal}
use Rattle.capnp_schema_structs.proofs.initn.initn_slot.Goals as goal

pub pointer_place-requires-clause-inside : goal.pointer_place-requires-clause-inside
pointer_place-requires-clause-inside g c =
    let p = c.args.object in
    slot_inside c.args.field (field_of c.get_proto-said.result.now) c.get_proto-said.ensures p c.in-Pointer.index c.in-Pointer.ty c.in-Pointer.default c.in-Pointer.ensures.body c.requires.inside

pub put_list-requires-clause-there : goal.put_list-requires-clause-there
put_list-requires-clause-there g c =
    let p = c.args.object in
    let l = slot_inside c.args.field (field_of c.get_proto-said.result.now) c.get_proto-said.ensures p c.in-Pointer.index c.in-Pointer.ty c.in-Pointer.default c.in-Pointer.ensures.body c.requires.inside in
    let s = words_in (g.A.ReaderArena.segments c.args.arena.now) in
    slot_there s p c.in-Pointer.index (place_view c.pointer_place.result) l c.pointer_place.ensures.place c.requires.there

pub returns-in_err-put_list-in-Pointer-clause-puts : goal.returns-in_err-put_list-in-Pointer-clause-puts
returns-in_err-put_list-in-Pointer-clause-puts g c =
    let at = state_in g.A.ReaderArena.segments g.A.BuilderArena.room g.A.BuilderArena.books in
    let h = err_from_is_err_and c.from_residual.result c.from_residual.ensures.1 in
    let f = c.args.field in
    let n = c.args.count in
    let ty = ty_of c.in-Pointer.ty in
    let t = tree_of_new c.in-Some.list n in
    let nodes : nodes_of c.set.result.now ≡ nodes_around f.parent = c.set.ensures ∙ ap nodes_around c.parent.ensures in
    let content : object t ≡ initn_content (schema_around f.parent) n ty InitnIsOnlyValidForListTextOrDataFields = c.in-Some.ensures.list n ∙ ap (λ ns. initn_content (schema_of ns) n ty InitnIsOnlyValidForListTextOrDataFields) nodes in
    let r = field_of c.get_proto-said.result.now in
    let put = list_put c.args.field r c.get_proto-said.ensures c.in-Pointer.index ty _ c.in-Pointer.ensures.body c.args.count t content in
    rw (h.1, h.2) (initn_as c.args.field r c.get_proto-said.ensures c.in-Pointer.index ty _ c.in-Pointer.ensures.body c.args.count (object t) content (at c.args.arena.now) (at c.put_list.new.arena) c.args.object _
    (child_refused c.args.field r c.get_proto-said.ensures c.in-Pointer.index ty _ c.in-Pointer.ensures.body (initn c.args.count) t put ⊤ (at c.args.arena.now) (at c.put_list.new.arena) c.args.object c.pointer_place.result c.in_err-put_list-in-Pointer.field-0.0 c.pointer_place.ensures.place c.in_err-put_list-in-Pointer.ensures.refused.0))

pub returns-in_err-put_list-in-Pointer-clause-grows : goal.returns-in_err-put_list-in-Pointer-clause-grows
returns-in_err-put_list-in-Pointer-clause-grows g c =
    same_grows (g.A.ReaderArena.segments c.args.arena.now) (g.A.ReaderArena.segments c.put_list.new.arena) c.in_err-put_list-in-Pointer.ensures.refused.1.0

pub returns-in_ok-put_list-in-Pointer-clause-puts : goal.returns-in_ok-put_list-in-Pointer-clause-puts
returns-in_ok-put_list-in-Pointer-clause-puts g c =
    let at = state_in g.A.ReaderArena.segments g.A.BuilderArena.room g.A.BuilderArena.books in
    let f = c.args.field in
    let p = c.args.object in
    let n = c.args.count in
    let l = slot_inside c.args.field (field_of c.get_proto-said.result.now) c.get_proto-said.ensures p c.in-Pointer.index c.in-Pointer.ty c.in-Pointer.default c.in-Pointer.ensures.body c.requires.inside in
    let ty = ty_of c.in-Pointer.ty in
    let t = tree_of_new c.in-Some.list n in
    let nodes : nodes_of c.set.result.now ≡ nodes_around f.parent = c.set.ensures ∙ ap nodes_around c.parent.ensures in
    let content : object t ≡ initn_content (schema_around f.parent) n ty InitnIsOnlyValidForListTextOrDataFields = c.in-Some.ensures.list n ∙ ap (λ ns. initn_content (schema_of ns) n ty InitnIsOnlyValidForListTextOrDataFields) nodes in
    let r = field_of c.get_proto-said.result.now in
    let put = list_put c.args.field r c.get_proto-said.ensures c.in-Pointer.index ty _ c.in-Pointer.ensures.body c.args.count t content in
    initn_as c.args.field r c.get_proto-said.ensures c.in-Pointer.index ty _ c.in-Pointer.ensures.body c.args.count (object t) content (at c.args.arena.now) (at c.mark.new.arena) c.args.object _
    (child_put c.args.field r c.get_proto-said.ensures c.in-Pointer.index ty _ c.in-Pointer.ensures.body (initn c.args.count) t put {X = ⊤} (at c.args.arena.now) (at c.put_list.new.arena) (at c.mark.new.arena) c.args.object c.pointer_place.result tt (object_words t) refl c.pointer_place.ensures.place l
    c.in_ok-put_list-in-Pointer.ensures.made c.mark.ensures.edits c.mark.ensures.sizes)

pub returns-in_err-put_list-in-Pointer-clause-cause : goal.returns-in_err-put_list-in-Pointer-clause-cause
returns-in_err-put_list-in-Pointer-clause-cause g c =
    let h = err_from_is_err_and c.from_residual.result c.from_residual.ensures.1 in
    rw (h.1, h.2) (caused (initn_field (schema_around c.args.field.parent) c.args.count (entry_of_field c.args.field)) (IsSizeOrRefusal g.A.BuilderArena.refuses) c.in_err-put_list-in-Pointer.field-0.0 c.in_err-put_list-in-Pointer.ensures.cause)
