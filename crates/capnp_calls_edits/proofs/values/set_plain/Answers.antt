use Rattle.std.proofs.Common.{inl, inr, ◌*◌, refl, ap, sym, ◌∙◌}
use Rattle.capnp_calls.specs.Contents.{bits_content}
use Rattle.capnp_calls_edits.proofs.Claims.{none_of}
use Rattle.capnp_calls_edits.proofs.ClaimsEnds.{plain_never, place_claimed}
use Rattle.capnp_model.specs.Schemas.{width, void_slot}
use Rattle.capnp_model.specs.Calls.{set_to}
use Rattle.capnp_units.specs.Segments.{words_in}
use Rattle.capnp_wire_objects.specs.Places.{place_view}
use Rattle.capnp_records.specs.NodeViews.{field_of}
use Rattle.capnp_values_queries.specs.Handles.{plain_of, body_of_place}
use Rattle.capnp_values_queries.specs.declared.slots.FieldPlace.TheVariants as F
use Rattle.capnp_calls.specs.CallViews.{slot_value_view}
use Rattle.capnp_calls.proofs.lemmas.OneStep.{is_void}
use Rattle.capnp_schema_structs.proofs.lemmas.Ready.{areas_inside, there_after, data_there}
use Rattle.capnp_schema_structs.proofs.lemmas.GroupFields.{plain_inside, member_inside}
use Rattle.capnp_schema_structs.proofs.lemmas.SetSlots.{fits_slot}
use Rattle.capnp_calls_edits.proofs.Ends.{bits_end, plain_end}
use Rattle.capnp_copy_arenas.proofs.lemmas.RoomLaws.{sizes_grow}
use Rattle.capnp_calls_edits.proofs.values.set_plain.Goals as goal

pub mark-requires-clause-inside : goal.mark-requires-clause-inside
mark-requires-clause-inside g c = areas_inside c.args.field.parent c.args.object c.requires.wide

pub mark-requires-in-Plain-clause-inside : goal.mark-requires-in-Plain-clause-inside
mark-requires-in-Plain-clause-inside g c = areas_inside c.args.field.parent c.args.object c.requires.wide

pub set_bits-requires-clause-there : goal.set_bits-requires-clause-there
set_bits-requires-clause-there g c =
    let p = c.args.object in
    let u = words_in (g.A.ReaderArena.segments c.mark-in-Plain.new.arena) in
    data_there u (place_view p.start) p.data_words p.pointers (there_after (words_in (g.A.ReaderArena.segments c.args.arena.now)) u p c.mark-in-Plain.ensures.sizes c.requires.there).words

pub set_bits-requires-clause-inside : goal.set_bits-requires-clause-inside
set_bits-requires-clause-inside g c =
    let p = c.args.object in
    let b = F.Plain c.in-Plain.ty c.in-Plain.offset c.in-Plain.default_bits in
    let areas = areas_inside c.args.field.parent p c.requires.wide in
    let inside = member_inside c.args.field (field_of c.get_proto-said.result.now) c.get_proto-said.ensures (body_of_place b) c.in-Plain.ensures.body p.data_words p.pointers areas in
    plain_inside p b c.in-Plain.ty c.in-Plain.offset c.in-Plain.default_bits c.width_of-width.result refl c.width_of-width.ensures inside

pub set_bits-requires-clause-fits : goal.set_bits-requires-clause-fits
set_bits-requires-clause-fits g c =
    let q = plain_of c.in-Plain.ty in
    fits_slot c.args.field q (width q * c.in-Plain.offset) c.in-Plain.default_bits c.in-Some.bits c.width_of-width.result c.in-Plain.ensures.body c.in-Some.ensures.fit c.width_of-width.ensures

pub returns-in-Void-clause-writes : goal.returns-in-Void-clause-writes
returns-in-Void-clause-writes g c =
    let s = words_in (g.A.ReaderArena.segments c.args.arena.now) in
    let u = words_in (g.A.ReaderArena.segments c.mark.new.arena) in
    bits_end c.args.field (field_of c.get_proto-said.result.now) c.get_proto-said.ensures (void_slot c.in-Void.offset) c.in-Void.ensures.body (set_to (slot_value_view c.args.value.now)) s u c.args.object (is_void c.in-Void.offset) 0 refl c.mark.ensures.edits

pub returns-in-Some-clause-writes : goal.returns-in-Some-clause-writes
returns-in-Some-clause-writes g c =
    let s = words_in (g.A.ReaderArena.segments c.args.arena.now) in
    let m = words_in (g.A.ReaderArena.segments c.mark-in-Plain.new.arena) in
    let u = words_in (g.A.ReaderArena.segments c.set_bits.new.arena) in
    plain_end c.args.field (field_of c.get_proto-said.result.now) c.get_proto-said.ensures (plain_of c.in-Plain.ty) c.in-Plain.offset c.in-Plain.default_bits c.in-Some.bits c.width_of-width.result c.in-Plain.ensures.body
    (slot_value_view c.args.value.now) (sym c.in-Some.ensures.content) c.width_of-width.ensures s m u c.args.object c.mark-in-Plain.ensures.edits c.set_bits.ensures.sets

pub returns-in-Some-clause-grows : goal.returns-in-Some-clause-grows
returns-in-Some-clause-grows g c =
    sizes_grow (words_in (g.A.ReaderArena.segments c.args.arena.now)) (words_in (g.A.ReaderArena.segments c.set_bits.new.arena)) (c.set_bits.ensures.sizes ∙ c.mark-in-Plain.ensures.sizes)

pub returns-in_default-clause-cause : goal.returns-in_default-clause-cause
returns-in_default-clause-cause g c single =
    let q = plain_of c.in-Plain.ty in
    let none = none_of c.bits_for.result c.in_default.not-Some in
    plain_never c.args.field (field_of c.get_proto-said.result.now) c.get_proto-said.ensures _ c.in-Plain.ensures.body (slot_value_view c.args.value.now) q (width q * c.in-Plain.offset) c.in-Plain.default_bits refl _ (sym c.bits_for.ensures.content ∙ ap bits_content none) _

pub returns-in-Pointer-clause-cause : goal.returns-in-Pointer-clause-cause
returns-in-Pointer-clause-cause g c single =
    place_claimed c.args.field (field_of c.get_proto-said.result.now) c.get_proto-said.ensures (slot_value_view c.args.value.now) single c.place.result c.place.ensures.body
    (λ o e. elim c.in-Pointer.is [ inl x ↦ (let z = sym e ∙ x.3 in cc z) | inr x ↦ (let z = sym e ∙ x.1 in cc z) ])
    (λ ty o d e. elim c.in-Pointer.is [ inl x ↦ (let z = sym e ∙ x.3 in cc z) | inr x ↦ (let z = sym e ∙ x.1 in cc z) ]) _
