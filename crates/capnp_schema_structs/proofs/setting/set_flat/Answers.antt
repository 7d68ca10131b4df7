use Rattle.std.proofs.Common.{◌*◌, sym, refl, ◌∙◌}
use Rattle.std.proofs.lemmas.Result.{err_from_is_err_and}
use Rattle.capnp_model.specs.Schemas.{width, void_slot}
use Rattle.capnp_units.specs.Segments.{words_in}
use Rattle.capnp_records.specs.NodeViews.{field_of}
use Rattle.capnp_model_writes.proofs.lemmas.Spans.{grows_then}
use Rattle.capnp_wire_objects.specs.Places.{place_view}
use Rattle.capnp_copy_arenas.proofs.lemmas.RoomLaws.{sizes_grow}
use Rattle.capnp_values_queries.specs.Handles.{plain_of, body_of_place, entry_of_field}
use Rattle.capnp_values_queries.specs.Types.{ty_of}
use Rattle.capnp_values_queries.specs.declared.slots.FieldPlace.TheVariants as F
use Rattle.capnp_schema_structs.specs.Blobs.{list_bytes_of}
use Rattle.capnp_copy_arenas.specs.States.{state_in}
use Rattle.capnp_schema_structs.proofs.lemmas.Ready.{there_after, data_there, slot_there}
use Rattle.capnp_schema_structs.proofs.lemmas.Grown.{same_grows}
use Rattle.capnp_schema_structs.proofs.lemmas.GroupFields.{slot_inside, plain_inside, member_inside}
use Rattle.capnp_schema_structs.proofs.lemmas.SetSlots.{fits_slot, sets_bits, sets_plain}
use Rattle.capnp_schema_structs.proofs.lemmas.SetPointers.{sets_bytes, refuses_bytes}
use Rattle.capnp_schema_structs.proofs.lemmas.Causes.{caused}
use Rattle.capnp_schema_structs.specs.Given.{set_content}
use Rattle.capnp_copy_arenas.specs.Refusals.{IsSizeOrRefusal}
use Rattle.capnp_schema_structs.proofs.setting.set_flat.Goals as goal

pub set_bits-requires-clause-there : goal.set_bits-requires-clause-there
set_bits-requires-clause-there g c =
    let p = c.args.object in
    let u = words_in (g.A.ReaderArena.segments c.mark-in-Plain.new.arena) in
    data_there u (place_view p.start) p.data_words p.pointers (there_after (words_in (g.A.ReaderArena.segments c.args.arena.now)) u p c.mark-in-Plain.ensures.sizes c.requires.there).words

pub set_bits-requires-clause-inside : goal.set_bits-requires-clause-inside
set_bits-requires-clause-inside g c =
    let p = c.args.object in
    let b = F.Plain c.in-Plain.ty c.in-Plain.offset c.in-Plain.default_bits in
    let inside = member_inside c.args.field (field_of c.get_proto-said.result.now) c.get_proto-said.ensures (body_of_place b) c.in-Plain.ensures.body p.data_words p.pointers c.requires.inside in
    plain_inside p b c.in-Plain.ty c.in-Plain.offset c.in-Plain.default_bits c.width_of-width.result refl c.width_of-width.ensures inside

pub set_bits-requires-clause-fits : goal.set_bits-requires-clause-fits
set_bits-requires-clause-fits g c =
    let q = plain_of c.in-Plain.ty in
    fits_slot c.args.field q (width q * c.in-Plain.offset) c.in-Plain.default_bits c.in-Some.bits c.width_of-width.result c.in-Plain.ensures.body c.in-Some.ensures.fit c.width_of-width.ensures

pub pointer_place-requires-clause-inside : goal.pointer_place-requires-clause-inside
pointer_place-requires-clause-inside g c =
    let p = c.args.object in
    slot_inside c.args.field (field_of c.get_proto-said.result.now) c.get_proto-said.ensures p c.in-Pointer.index c.in-Pointer.ty c.in-Pointer.default c.in-Pointer.ensures.body c.requires.inside

pub put_blob-requires-clause-there : goal.put_blob-requires-clause-there
put_blob-requires-clause-there g c =
    let p = c.args.object in
    let l = slot_inside c.args.field (field_of c.get_proto-said.result.now) c.get_proto-said.ensures p c.in-Pointer.index c.in-Pointer.ty c.in-Pointer.default c.in-Pointer.ensures.body c.requires.inside in
    let s = words_in (g.A.ReaderArena.segments c.args.arena.now) in
    slot_there s p c.in-Pointer.index (place_view c.pointer_place.result) l c.pointer_place.ensures.place c.requires.there

pub returns-in-Void-clause-puts : goal.returns-in-Void-clause-puts
returns-in-Void-clause-puts g c =
    let at = state_in g.A.ReaderArena.segments g.A.BuilderArena.room g.A.BuilderArena.books in
    sets_bits c.args.value.now c.args.field (field_of c.get_proto-said.result.now) c.get_proto-said.ensures (void_slot c.in-Void.offset) c.in-Void.ensures.body 0 refl
    (at c.args.arena.now) (at c.mark.new.arena) c.args.object c.mark.ensures.edits c.mark.ensures.sizes

pub returns-in-Void-clause-grows : goal.returns-in-Void-clause-grows
returns-in-Void-clause-grows g c =
    sizes_grow (words_in (g.A.ReaderArena.segments c.args.arena.now)) (words_in (g.A.ReaderArena.segments c.mark.new.arena)) c.mark.ensures.sizes

pub returns-in-Some-clause-puts : goal.returns-in-Some-clause-puts
returns-in-Some-clause-puts g c =
    let at = state_in g.A.ReaderArena.segments g.A.BuilderArena.room g.A.BuilderArena.books in
    sets_plain c.args.value.now c.args.field (field_of c.get_proto-said.result.now) c.get_proto-said.ensures (plain_of c.in-Plain.ty) c.in-Plain.offset c.in-Plain.default_bits c.in-Some.bits c.width_of-width.result c.in-Plain.ensures.body
    (sym c.in-Some.ensures.bits) c.width_of-width.ensures
    (at c.args.arena.now) (at c.mark-in-Plain.new.arena) (at c.set_bits.new.arena) c.args.object c.mark-in-Plain.ensures.edits c.set_bits.ensures.sets (c.set_bits.ensures.sizes ∙ c.mark-in-Plain.ensures.sizes)

pub returns-in-Some-clause-grows : goal.returns-in-Some-clause-grows
returns-in-Some-clause-grows g c =
    sizes_grow (words_in (g.A.ReaderArena.segments c.args.arena.now)) (words_in (g.A.ReaderArena.segments c.set_bits.new.arena)) (c.set_bits.ensures.sizes ∙ c.mark-in-Plain.ensures.sizes)

pub returns-in_ok-put_blob-in-Pointer-clause-puts : goal.returns-in_ok-put_blob-in-Pointer-clause-puts
returns-in_ok-put_blob-in-Pointer-clause-puts g c =
    let at = state_in g.A.ReaderArena.segments g.A.BuilderArena.room g.A.BuilderArena.books in
    let p = c.args.object in
    let l = slot_inside c.args.field (field_of c.get_proto-said.result.now) c.get_proto-said.ensures p c.in-Pointer.index c.in-Pointer.ty c.in-Pointer.default c.in-Pointer.ensures.body c.requires.inside in
    sets_bytes c.args.value.now c.args.field (field_of c.get_proto-said.result.now) c.get_proto-said.ensures c.in-Pointer.index (ty_of c.in-Pointer.ty) _ c.in-Pointer.ensures.body (list_bytes_of c.in-Some-blob_for.blob) (sym c.in-Some-blob_for.ensures)
    (at c.args.arena.now) (at c.put_blob.new.arena) (at c.mark-in-Pointer.new.arena) p c.pointer_place.result c.pointer_place.ensures.place l c.in_ok-put_blob-in-Pointer.ensures.made c.mark-in-Pointer.ensures.edits c.mark-in-Pointer.ensures.sizes

pub returns-in_ok-put_blob-in-Pointer-clause-grows : goal.returns-in_ok-put_blob-in-Pointer-clause-grows
returns-in_ok-put_blob-in-Pointer-clause-grows g c =
    let s = words_in (g.A.ReaderArena.segments c.args.arena.now) in
    let m = words_in (g.A.ReaderArena.segments c.put_blob.new.arena) in
    let u = words_in (g.A.ReaderArena.segments c.mark-in-Pointer.new.arena) in
    grows_then s m u c.in_ok-put_blob-in-Pointer.ensures.grows (sizes_grow m u c.mark-in-Pointer.ensures.sizes)

pub returns-in_err-put_blob-in-Pointer-clause-puts : goal.returns-in_err-put_blob-in-Pointer-clause-puts
returns-in_err-put_blob-in-Pointer-clause-puts g c =
    let at = state_in g.A.ReaderArena.segments g.A.BuilderArena.room g.A.BuilderArena.books in
    let h = err_from_is_err_and c.from_residual.result c.from_residual.ensures.1 in
    rw (h.1, h.2) (refuses_bytes c.args.value.now c.args.field (field_of c.get_proto-said.result.now) c.get_proto-said.ensures c.in-Pointer.index (ty_of c.in-Pointer.ty) _ c.in-Pointer.ensures.body (list_bytes_of c.in-Some-blob_for.blob) (sym c.in-Some-blob_for.ensures)
    (at c.args.arena.now) (at c.put_blob.new.arena) c.args.object c.pointer_place.result c.in_err-put_blob-in-Pointer.field-0.0 c.pointer_place.ensures.place c.in_err-put_blob-in-Pointer.ensures.refused.0)

pub returns-in_err-put_blob-in-Pointer-clause-grows : goal.returns-in_err-put_blob-in-Pointer-clause-grows
returns-in_err-put_blob-in-Pointer-clause-grows g c =
    same_grows (g.A.ReaderArena.segments c.args.arena.now) (g.A.ReaderArena.segments c.put_blob.new.arena) c.in_err-put_blob-in-Pointer.ensures.refused.1.0

pub returns-in_err-put_blob-in-Pointer-clause-cause : goal.returns-in_err-put_blob-in-Pointer-clause-cause
returns-in_err-put_blob-in-Pointer-clause-cause g c =
    let h = err_from_is_err_and c.from_residual.result c.from_residual.ensures.1 in
    rw (h.1, h.2) (caused (set_content c.args.value.now (entry_of_field c.args.field)) (IsSizeOrRefusal g.A.BuilderArena.refuses) c.in_err-put_blob-in-Pointer.field-0.0 c.in_err-put_blob-in-Pointer.ensures.cause)
