use Rattle.std.proofs.Common.{◌≡◌, ◌+◌, ◌*◌, ap, subst, arith}
use Rattle.capnp_model.specs.Schemas.{width}
use Rattle.capnp_model.specs.Segments.{Place}
use Rattle.capnp_units.specs.Segments.{words_in}
use Rattle.capnp_wire_objects.specs.Places.{place_view}
use Rattle.capnp_records.specs.NodeViews.{field_of, struct_of}
use Rattle.capnp_values_queries.specs.Structs.{nodes_around, id_of, IsRecordOf}
use Rattle.capnp_values_queries.specs.Handles.{plain_of}
use Rattle.capnp_values_queries.specs.declared.slots.FieldPlace.TheVariants as F
use Rattle.capnp_schema_structs.proofs.lemmas.Ready.{areas_inside, slot_there}
use Rattle.capnp_schema_structs.proofs.lemmas.GroupSizes.{group_wide}
use Rattle.capnp_schema_structs.proofs.lemmas.GroupFields.{slot_inside}
use Rattle.capnp_schema_structs.proofs.lemmas.Grown.{child_grows}
use Rattle.capnp_schema_values.proofs.PlainValues.{plain_there}
use Rattle.capnp_schema_values.proofs.fields.get_field.Goals as goal

pub pointer_place-slot-requires-clause-inside : goal.pointer_place-slot-requires-clause-inside
pointer_place-slot-requires-clause-inside g c =
    let p = c.args.object in
    slot_inside c.args.field (field_of c.get_proto-said.result.now) c.get_proto-said.ensures p c.in-Pointer.index c.in-Pointer.ty c.in-Pointer.default c.in-Pointer.ensures.body (areas_inside c.args.field.parent p c.requires.wide)

pub get_slot-requires-clause-there : goal.get_slot-requires-clause-there
get_slot-requires-clause-there g c =
    let p = c.args.object in
    let l = slot_inside c.args.field (field_of c.get_proto-said.result.now) c.get_proto-said.ensures p c.in-Pointer.index c.in-Pointer.ty c.in-Pointer.default c.in-Pointer.ensures.body (areas_inside c.args.field.parent p c.requires.wide) in
    let s = words_in (g.A.ReaderArena.segments c.args.memory.now.arena) in
    slot_there s p c.in-Pointer.index (place_view c.pointer_place-slot.result) l c.pointer_place-slot.ensures.place c.requires.there

pub get_slot-requires-clause-near : goal.get_slot-requires-clause-near
get_slot-requires-clause-near g c =
    let p = c.args.object in
    let l = slot_inside c.args.field (field_of c.get_proto-said.result.now) c.get_proto-said.ensures p c.in-Pointer.index c.in-Pointer.ty c.in-Pointer.default c.in-Pointer.ensures.body (areas_inside c.args.field.parent p c.requires.wide) in
    let e : c.pointer_place-slot.result.position ≡ p.start.position + p.data_words + c.in-Pointer.index = ap (λ (q : Place). q.position) c.pointer_place-slot.ensures.place in
    let near = c.requires.there.near in
    omega (arith, e, l, near)

pub returns-in-Plain-clause-there : goal.returns-in-Plain-clause-there
returns-in-Plain-clause-there g c =
    let ty = plain_of c.in-Plain.ty in
    plain_there (words_in (g.A.ReaderArena.segments c.args.memory.now.arena)) c.plain_field.result _ (c.plain_field.ensures ty (width ty * c.in-Plain.offset) c.in-Plain.default_bits c.in-Plain.ensures.body)

pub returns-in-Pointer-clause-grows : goal.returns-in-Pointer-clause-grows
returns-in-Pointer-clause-grows g c =
    let p = c.args.object in
    let l = slot_inside c.args.field (field_of c.get_proto-said.result.now) c.get_proto-said.ensures p c.in-Pointer.index c.in-Pointer.ty c.in-Pointer.default c.in-Pointer.ensures.body (areas_inside c.args.field.parent p c.requires.wide) in
    child_grows (words_in (g.A.ReaderArena.segments c.args.memory.now.arena)) (words_in (g.A.ReaderArena.segments c.get_slot.new.memory.arena)) p c.in-Pointer.index (place_view c.pointer_place-slot.result) l c.pointer_place-slot.ensures.place c.get_slot.ensures.grows

pub returns-in-Group-clause-there : goal.returns-in-Group-clause-there
returns-in-Group-clause-there g c =
    let f = c.args.field in
    let n = struct_of c.record-holder.result.now in
    let holder = subst (λ p. IsRecordOf (nodes_around p) (id_of p) n) c.parent.ensures c.record-holder.ensures in
    (c.requires.there, group_wide f (field_of c.get_proto-said.result.now) c.get_proto-said.ensures n holder c.in-Group.schema c.in-Group.ensures.body c.args.object c.requires.wide)
