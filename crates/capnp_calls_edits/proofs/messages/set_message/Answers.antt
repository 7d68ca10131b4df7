use Rattle.std.proofs.Common.{◌≡◌, ◌*◌, true, false, refl, sym, ◌∙◌}
use Rattle.std.specs.Prelude.{option_map, option_copied}
use Rattle.capnp_model.specs.Accepted.{default_tree}
use Rattle.capnp_model.specs.Schemas.{void_slot}
use Rattle.capnp_model.specs.Calls.{set_to, message}
use Rattle.capnp_units.specs.Segments.{words_in}
use Rattle.capnp_wire_objects.specs.Places.{place_view}
use Rattle.capnp_records.specs.NodeViews.{field_of, value_of}
use Rattle.capnp_calls.specs.Messages.{tree_of_message}
use Rattle.capnp_values_queries.specs.Structs.{shape_of_struct}
use Rattle.capnp_values_queries.specs.Types.{ty_of}
use Rattle.capnp_calls.proofs.lemmas.OneStep.{is_void}
use Rattle.capnp_schema_structs.proofs.lemmas.Ready.{areas_inside, slot_there}
use Rattle.capnp_schema_structs.proofs.lemmas.Grown.{there_grown}
use Rattle.capnp_schema_structs.proofs.lemmas.GroupFields.{slot_inside}
use Rattle.capnp_calls_edits.specs.Written.{takes_message}
use Rattle.capnp_calls_edits.proofs.Ends.{bits_end}
use Rattle.std.proofs.lemmas.Result.{err_from_is_err_and}
use Rattle.capnp_model.specs.Schemas.{width}
use Rattle.capnp_values_queries.specs.Handles.{plain_of}
use Rattle.capnp_calls_edits.proofs.ClaimsEnds.{message_never, no_plain_message}
use Rattle.capnp_calls_edits.proofs.SetMessages.{message_end}
use Rattle.capnp_calls_edits.proofs.messages.set_message.Goals as goal

pub mark-requires-clause-inside : goal.mark-requires-clause-inside
mark-requires-clause-inside g c = areas_inside c.args.field.parent c.args.object c.requires.wide

pub mark-requires-in-Pointer-clause-inside : goal.mark-requires-in-Pointer-clause-inside
mark-requires-in-Pointer-clause-inside g c = areas_inside c.args.field.parent c.args.object c.requires.wide

pub mark-requires-in-Pointer-clause-there : goal.mark-requires-in-Pointer-clause-there
mark-requires-in-Pointer-clause-there g c =
    there_grown (words_in (g.A.ReaderArena.segments c.args.arena.now)) (words_in (g.A.ReaderArena.segments c.put_message.new.arena)) c.args.object c.put_message.ensures.grows c.requires.there

pub pointer_place-requires-clause-inside : goal.pointer_place-requires-clause-inside
pointer_place-requires-clause-inside g c =
    let p = c.args.object in
    slot_inside c.args.field (field_of c.get_proto-said.result.now) c.get_proto-said.ensures p c.in-Pointer.index c.in-Pointer.ty c.in-Pointer.default c.in-Pointer.ensures.body (areas_inside c.args.field.parent p c.requires.wide)

pub put_message-requires-clause-there : goal.put_message-requires-clause-there
put_message-requires-clause-there g c =
    let p = c.args.object in
    let l = slot_inside c.args.field (field_of c.get_proto-said.result.now) c.get_proto-said.ensures p c.in-Pointer.index c.in-Pointer.ty c.in-Pointer.default c.in-Pointer.ensures.body (areas_inside c.args.field.parent p c.requires.wide) in
    let s = words_in (g.A.ReaderArena.segments c.args.arena.now) in
    slot_there s p c.in-Pointer.index (place_view c.pointer_place.result) l c.pointer_place.ensures.place c.requires.there

pub returns-in-Void-clause-writes : goal.returns-in-Void-clause-writes
returns-in-Void-clause-writes g c =
    let s = words_in (g.A.ReaderArena.segments c.args.arena.now) in
    let u = words_in (g.A.ReaderArena.segments c.mark.new.arena) in
    bits_end c.args.field (field_of c.get_proto-said.result.now) c.get_proto-said.ensures (void_slot c.in-Void.offset) c.in-Void.ensures.body (set_to (message (tree_of_message c.args.value.now))) s u c.args.object (is_void c.in-Void.offset) 0 refl c.mark.ensures.edits

pub returns-in_ok-put_message-in-Pointer-clause-writes : goal.returns-in_ok-put_message-in-Pointer-clause-writes
returns-in_ok-put_message-in-Pointer-clause-writes g c =
    let p = c.args.object in
    let f = c.args.field in
    let s = words_in (g.A.ReaderArena.segments c.args.arena.now) in
    let m = words_in (g.A.ReaderArena.segments c.put_message.new.arena) in
    let u = words_in (g.A.ReaderArena.segments c.mark-in-Pointer.new.arena) in
    let l = slot_inside f (field_of c.get_proto-said.result.now) c.get_proto-said.ensures p c.in-Pointer.index c.in-Pointer.ty c.in-Pointer.default c.in-Pointer.ensures.body (areas_inside f.parent p c.requires.wide) in
    let takes : takes_message (ty_of c.in-Pointer.ty) ≡ true = sym c.takes_message.ensures ∙ c.if-not-takes_message.false in
    message_end f (field_of c.get_proto-said.result.now) c.get_proto-said.ensures c.in-Pointer.index (ty_of c.in-Pointer.ty) (default_tree (option_map value_of (option_copied c.in-Pointer.default))) c.in-Pointer.ensures.body takes (tree_of_message c.args.value.now) s m u p (place_view c.pointer_place.result)
    l c.pointer_place.ensures.place c.in_ok-put_message-in-Pointer.ensures.puts c.mark-in-Pointer.ensures.edits

pub set_group-requires-clause-group : goal.set_group-requires-clause-group
set_group-requires-clause-group g c = (shape_of_struct c.in-Group.schema, c.in-Group.ensures.body)

pub returns-then-not-takes_message-clause-cause : goal.returns-then-not-takes_message-clause-cause
returns-then-not-takes_message-clause-cause g c =
    let no : takes_message (ty_of c.in-Pointer.ty) ≡ false = sym c.takes_message.ensures ∙ c.if-not-takes_message.true in
    message_never c.args.field (field_of c.get_proto-said.result.now) c.get_proto-said.ensures _ c.in-Pointer.ensures.body (tree_of_message c.args.value.now) c.in-Pointer.index (ty_of c.in-Pointer.ty) (default_tree (option_map value_of (option_copied c.in-Pointer.default))) refl no _

pub returns-in_err-put_message-in-Pointer-clause-cause : goal.returns-in_err-put_message-in-Pointer-clause-cause
returns-in_err-put_message-in-Pointer-clause-cause g c =
    let h = err_from_is_err_and c.from_residual.result c.from_residual.ensures.1 in
    rw (h.1, h.2) (λ cell is_done. c.in_err-put_message-in-Pointer.ensures.cause)

pub returns-in-Plain-clause-cause : goal.returns-in-Plain-clause-cause
returns-in-Plain-clause-cause g c =
    no_plain_message c.args.field (field_of c.get_proto-said.result.now) c.get_proto-said.ensures _ c.in-Plain.ensures.body (tree_of_message c.args.value.now) (plain_of c.in-Plain.ty) (width (plain_of c.in-Plain.ty) * c.in-Plain.offset) c.in-Plain.default_bits refl _
