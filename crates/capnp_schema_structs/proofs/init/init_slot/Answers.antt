use Rattle.std.proofs.Common.{◌≡◌, ◌+◌, sym, ap, ◌∙◌}
use Rattle.std.proofs.lemmas.Result.{err_from_is_err_and}
use Rattle.capnp_model.specs.Accepted.{schema_of}
use Rattle.capnp_model.specs.Calls.{empty_struct}
use Rattle.capnp_units.specs.Segments.{words_in}
use Rattle.capnp_records.specs.NodeViews.{field_of}
use Rattle.capnp_model_writes.proofs.lemmas.Spans.{grows_then}
use Rattle.capnp_wire_objects.specs.Places.{place_view}
use Rattle.capnp_copy_arenas.proofs.lemmas.RoomLaws.{sizes_grow}
use Rattle.capnp_values_queries.specs.Structs.{nodes_around, schema_around, shape_of_struct, id_of}
use Rattle.capnp_values_queries.specs.Types.{ty_of}
use Rattle.capnp_model.specs.Schemas.{words_of_shape, pointers_of_shape}
use Rattle.capnp_copy_arenas.specs.States.{state_in}
use Rattle.capnp_schema_structs.proofs.lemmas.Ready.{there_after, slot_there}
use Rattle.capnp_schema_structs.proofs.lemmas.Grown.{same_grows, there_grown}
use Rattle.capnp_schema_structs.proofs.lemmas.GroupFields.{slot_inside}
use Rattle.capnp_schema_structs.proofs.lemmas.SetPointers.{object_made}
use Rattle.capnp_schema_structs.proofs.DataWords.{leads_from}
use Rattle.capnp_schema_structs.proofs.InitSlots.{empty_words, inits, lies, refuses}
use Rattle.capnp_schema_structs.proofs.lemmas.Causes.{caused}
use Rattle.capnp_values_queries.specs.Handles.{entry_of_field}
use Rattle.capnp_schema_structs.specs.Inits.{field_init_content}
use Rattle.capnp_copy_arenas.specs.Refusals.{IsSizeOrRefusal}
use Rattle.capnp_schema_structs.proofs.init.init_slot.Goals as goal

pub pointer_place-requires-clause-inside : goal.pointer_place-requires-clause-inside
pointer_place-requires-clause-inside g c =
    let p = c.args.object in
    slot_inside c.args.field (field_of c.get_proto-said.result.now) c.get_proto-said.ensures p c.in-Pointer.index c.in-Pointer.ty c.in-Pointer.default c.in-Pointer.ensures.body c.requires.inside

pub put_struct-requires-clause-there : goal.put_struct-requires-clause-there
put_struct-requires-clause-there g c =
    let p = c.args.object in
    let l = slot_inside c.args.field (field_of c.get_proto-said.result.now) c.get_proto-said.ensures p c.in-Pointer.index c.in-Pointer.ty c.in-Pointer.default c.in-Pointer.ensures.body c.requires.inside in
    let s = words_in (g.A.ReaderArena.segments c.args.arena.now) in
    slot_there s p c.in-Pointer.index (place_view c.pointer_place.result) l c.pointer_place.ensures.place c.requires.there

pub mark-requires-clause-there : goal.mark-requires-clause-there
mark-requires-clause-there g c =
    there_grown (words_in (g.A.ReaderArena.segments c.args.arena.now)) (words_in (g.A.ReaderArena.segments c.put_struct.new.arena)) c.args.object c.in_ok-place-in-Pointer.ensures.grows c.requires.there

pub returns-in_err-place-in-Pointer-clause-puts : goal.returns-in_err-place-in-Pointer-clause-puts
returns-in_err-place-in-Pointer-clause-puts g c =
    let at = state_in g.A.ReaderArena.segments g.A.BuilderArena.room g.A.BuilderArena.books in
    let h = err_from_is_err_and c.from_residual.result c.from_residual.ensures.1 in
    let schema = c.in-Some.schema in
    let nodes : nodes_around schema ≡ nodes_around c.args.field.parent = c.in-Some.ensures.nodes ∙ c.set.ensures ∙ ap nodes_around c.parent.ensures in
    let shape_is = ap (λ ns. (schema_of ns).shape_of (id_of schema)) nodes in
    rw (h.1, h.2) (refuses c.args.field (field_of c.get_proto-said.result.now) c.get_proto-said.ensures c.in-Pointer.index (ty_of c.in-Pointer.ty) _ c.in-Pointer.ensures.body (id_of schema) (sym c.in-Some.ensures.named) (shape_of_struct schema) shape_is _
    (at c.args.arena.now) (at c.put_struct.new.arena) c.args.object c.pointer_place.result c.in_err-place-in-Pointer.field-0.0 c.pointer_place.ensures.place c.in_err-place-in-Pointer.ensures.refused.0)

pub returns-in_err-place-in-Pointer-clause-grows : goal.returns-in_err-place-in-Pointer-clause-grows
returns-in_err-place-in-Pointer-clause-grows g c =
    same_grows (g.A.ReaderArena.segments c.args.arena.now) (g.A.ReaderArena.segments c.put_struct.new.arena) c.in_err-place-in-Pointer.ensures.refused.1.0

pub returns-in_ok-place-in-Pointer-clause-puts : goal.returns-in_ok-place-in-Pointer-clause-puts
returns-in_ok-place-in-Pointer-clause-puts g c =
    let at = state_in g.A.ReaderArena.segments g.A.BuilderArena.room g.A.BuilderArena.books in
    let p = c.args.object in
    let l = slot_inside c.args.field (field_of c.get_proto-said.result.now) c.get_proto-said.ensures p c.in-Pointer.index c.in-Pointer.ty c.in-Pointer.default c.in-Pointer.ensures.body c.requires.inside in
    let schema = c.in-Some.schema in
    let nodes : nodes_around schema ≡ nodes_around c.args.field.parent = c.in-Some.ensures.nodes ∙ c.set.ensures ∙ ap nodes_around c.parent.ensures in
    let shape_is = ap (λ ns. (schema_of ns).shape_of (id_of schema)) nodes in
    inits c.args.field (field_of c.get_proto-said.result.now) c.get_proto-said.ensures c.in-Pointer.index (ty_of c.in-Pointer.ty) _ c.in-Pointer.ensures.body (id_of schema) (sym c.in-Some.ensures.named) (shape_of_struct schema) shape_is
    (at c.args.arena.now) (at c.put_struct.new.arena) (at c.mark.new.arena) p c.pointer_place.result _ c.pointer_place.ensures.place l c.in_ok-place-in-Pointer.ensures.made c.mark.ensures.edits c.mark.ensures.sizes

pub returns-in_ok-place-in-Pointer-clause-lies : goal.returns-in_ok-place-in-Pointer-clause-lies
returns-in_ok-place-in-Pointer-clause-lies g c =
    let at = state_in g.A.ReaderArena.segments g.A.BuilderArena.room g.A.BuilderArena.books in
    let s = words_in (g.A.ReaderArena.segments c.args.arena.now) in
    let m = words_in (g.A.ReaderArena.segments c.put_struct.new.arena) in
    let u = words_in (g.A.ReaderArena.segments c.mark.new.arena) in
    let p = c.args.object in
    let l = slot_inside c.args.field (field_of c.get_proto-said.result.now) c.get_proto-said.ensures p c.in-Pointer.index c.in-Pointer.ty c.in-Pointer.default c.in-Pointer.ensures.body c.requires.inside in
    let schema = c.in-Some.schema in
    let nodes : nodes_around schema ≡ nodes_around c.args.field.parent = c.in-Some.ensures.nodes ∙ c.set.ensures ∙ ap nodes_around c.parent.ensures in
    let shape_is = ap (λ ns. (schema_of ns).shape_of (id_of schema)) nodes in
    let t = empty_struct (shape_of_struct schema) in
    let n = words_of_shape (shape_of_struct schema) + pointers_of_shape (shape_of_struct schema) in
    let made = object_made (at c.args.arena.now) (at c.put_struct.new.arena) p c.pointer_place.result c.in-Pointer.index c.pointer_place.ensures.place (empty_struct (shape_of_struct schema)) n (empty_words (shape_of_struct schema)) l c.in_ok-place-in-Pointer.ensures.made in
    let leads = leads_from s m u p c.in-Pointer.index t l made.writes c.mark.ensures.data (place_view c.pointer_place.result) c.in_ok-place-in-Pointer.place c.pointer_place.ensures.place c.in_ok-place-in-Pointer.ensures.leads in
    lies c.args.field (field_of c.get_proto-said.result.now) c.get_proto-said.ensures c.in-Pointer.index (ty_of c.in-Pointer.ty) _ c.in-Pointer.ensures.body (id_of schema) (sym c.in-Some.ensures.named) (shape_of_struct schema) shape_is
    s u p c.in_ok-place-in-Pointer.place schema (ap schema_of nodes) c.in-Some.ensures.named leads

pub returns-in_ok-place-in-Pointer-clause-there : goal.returns-in_ok-place-in-Pointer-clause-there
returns-in_ok-place-in-Pointer-clause-there g c =
    record {
      there = there_after (words_in (g.A.ReaderArena.segments c.put_struct.new.arena)) (words_in (g.A.ReaderArena.segments c.mark.new.arena)) c.in_ok-place-in-Pointer.place c.mark.ensures.sizes c.in_ok-place-in-Pointer.ensures.there;
      wide = c.in_ok-place-in-Pointer.ensures.wide;
    }

pub returns-in_ok-place-in-Pointer-clause-grows : goal.returns-in_ok-place-in-Pointer-clause-grows
returns-in_ok-place-in-Pointer-clause-grows g c =
    let s = words_in (g.A.ReaderArena.segments c.args.arena.now) in
    let m = words_in (g.A.ReaderArena.segments c.put_struct.new.arena) in
    let u = words_in (g.A.ReaderArena.segments c.mark.new.arena) in
    grows_then s m u c.in_ok-place-in-Pointer.ensures.grows (sizes_grow m u c.mark.ensures.sizes)

pub returns-in_err-place-in-Pointer-clause-cause : goal.returns-in_err-place-in-Pointer-clause-cause
returns-in_err-place-in-Pointer-clause-cause g c =
    let h = err_from_is_err_and c.from_residual.result c.from_residual.ensures.1 in
    rw (h.1, h.2) (caused (field_init_content (schema_around c.args.field.parent) (entry_of_field c.args.field)) (IsSizeOrRefusal g.A.BuilderArena.refuses) c.in_err-place-in-Pointer.field-0.0 c.in_err-place-in-Pointer.ensures.cause)
