use Rattle.std.proofs.Common.{rules, ◌≡◌, Some, true, sym, ap, subst, ◌∙◌}
use Rattle.capnp_model.specs.Accepted.{areas_of}
use Rattle.capnp_model.specs.Edits.{mark, is_kept, cleared_body}
use Rattle.capnp_records.specs.NodeViews.{field_of, member_of}
use Rattle.capnp_units.specs.Segments.{words_in}
use Rattle.capnp_values_queries.specs.Fields.{field_count, union_in}
use Rattle.capnp_values_queries.specs.Structs.{shape_of_struct, fields_of_struct}
use Rattle.capnp_values_queries.specs.Handles.{body_of_place}
use Rattle.capnp_schema_structs.specs.Inside.{LieIn}
use Rattle.capnp_schema_structs.proofs.lemmas.Ready.{union_areas, there_after}
use Rattle.capnp_schema_structs.proofs.lemmas.Writes.{edits_alike, edits_same}
use Rattle.capnp_schema_structs.proofs.Groups.{shape_depth, fields_depth, body_depth, depth_of_fields, depth_of_group, cleared_front, front_none, clears_void, clears_pointer, clears_group}
use Rattle.capnp_schema_structs.proofs.lemmas.GroupFields.{plain_inside, pointer_inside, group_inside, plain_cleared, member_depth, member_inside, kept_cleared, other_left, first_kept, none_kept, others_not_kept, fields_next, fields_all}
use Rattle.capnp_schema_structs.proofs.slots.+groups.Goals.{clear_member-then-member-eq0-via-then-member-eq0, clear_member-then-member-eq0-via-else-member-eq0+then-member}
use Rattle.capnp_schema_structs.proofs.slots.+groups.Goals as goal

pub clear_body-set_bits-requires-clause-inside : goal.clear_body-set_bits-requires-clause-inside
clear_body-set_bits-requires-clause-inside g t c =
    plain_inside c.args.object c.args.place c.in-Plain.ty c.in-Plain.offset c.in-Plain.default_bits c.width_of-width.result c.in-Plain.is c.width_of-width.ensures c.requires.inside

pub clear_body-pointer_place-requires-clause-inside : goal.clear_body-pointer_place-requires-clause-inside
clear_body-pointer_place-requires-clause-inside g t c =
    pointer_inside c.args.object c.args.place c.in-Pointer.index c.in-Pointer.ty c.in-Pointer.default c.in-Pointer.is c.requires.inside

pub clear_body-clear_group-requires : goal.clear_body-clear_group-requires
clear_body-clear_group-requires g t c κs within =
    let less : body_depth (body_of_place c.args.place) ≡ shape_depth (shape_of_struct c.in-Group.schema) = ap (λ p. body_depth (body_of_place p)) c.in-Group.is ∙ depth_of_group (shape_of_struct c.in-Group.schema) in
    let inside = group_inside c.args.object c.args.place c.in-Group.schema c.in-Group.is c.requires.inside in
    search rules

pub clear_body-returns-in-Void-clause-edits : goal.clear_body-returns-in-Void-clause-edits
clear_body-returns-in-Void-clause-edits g t c =
    let s = words_in (g.A.ReaderArena.segments c.args.arena.now) in
    edits_alike s s c.args.object _ _ (ap (λ p. cleared_body (body_of_place p)) (sym c.in-Void.is)) (clears_void s s c.args.object c.in-Void.offset)

pub clear_body-returns-in-Plain-clause-edits : goal.clear_body-returns-in-Plain-clause-edits
clear_body-returns-in-Plain-clause-edits g t c =
    let s = words_in (g.A.ReaderArena.segments c.args.arena.now) in
    let u = words_in (g.A.ReaderArena.segments c.set_bits.new.arena) in
    edits_alike s u c.args.object _ _ (ap (λ p. cleared_body (body_of_place p)) (sym c.in-Plain.is))
    (plain_cleared s u c.args.object c.in-Plain.ty c.in-Plain.offset c.in-Plain.default_bits c.width_of-width.result c.width_of-width.ensures c.set_bits.ensures.sets)

pub clear_body-returns-in-Pointer-clause-edits : goal.clear_body-returns-in-Pointer-clause-edits
clear_body-returns-in-Pointer-clause-edits g t c =
    let s = words_in (g.A.ReaderArena.segments c.args.arena.now) in
    let u = words_in (g.A.ReaderArena.segments c.clear.new.arena) in
    let l = pointer_inside c.args.object c.args.place c.in-Pointer.index c.in-Pointer.ty c.in-Pointer.default c.in-Pointer.is c.requires.inside in
    edits_alike s u c.args.object _ _ (ap (λ p. cleared_body (body_of_place p)) (sym c.in-Pointer.is))
    (clears_pointer s u c.args.object c.in-Pointer.index _ _ _ l c.pointer_place.ensures.place c.clear.ensures.clears)

pub clear_body-returns-in-Group-clause-edits : goal.clear_body-returns-in-Group-clause-edits
clear_body-returns-in-Group-clause-edits g t c =
    let s = words_in (g.A.ReaderArena.segments c.args.arena.now) in
    let u = words_in (g.A.ReaderArena.segments c.clear_group.new.arena) in
    edits_alike s u c.args.object _ _ (ap (λ p. cleared_body (body_of_place p)) (sym c.in-Group.is)) (clears_group s u c.args.object (shape_of_struct c.in-Group.schema) c.clear_group.ensures.edits)

pub clear_group-set_discriminant-requires-clause-inside : goal.clear_group-set_discriminant-requires-clause-inside
clear_group-set_discriminant-requires-clause-inside g t c = union_areas c.args.object.data_words c.args.object.pointers (shape_of_struct c.args.schema) c.requires.inside

pub clear_group-loop-i-init : goal.clear_group-loop-i-init
clear_group-loop-i-init g t c =
    let s = words_in (g.A.ReaderArena.segments c.args.arena.now) in
    let u = words_in (g.A.ReaderArena.segments c.set_discriminant.new.arena) in
    let f = mark (union_in (shape_of_struct c.args.schema)) (Some 0) in
    (edits_same s u c.args.object f (λ x. cleared_front 0 (fields_of_struct c.args.schema) (f x)) (λ x. sym (front_none (fields_of_struct c.args.schema) (f x))) c.set_discriminant.ensures.edits, c.set_discriminant.ensures.sizes, c.set_discriminant.ensures.books)

pub clear_group-clear_member-requires : goal.clear_group-clear_member-requires
clear_group-clear_member-requires g t c κs within =
    let there = there_after (words_in (g.A.ReaderArena.segments c.args.arena.now)) (words_in (g.A.ReaderArena.segments c.loop-i.arena)) c.args.object c.loop-i.invariant.1 c.requires.there in
    let parent : c.get.result.parent ≡ c.args.schema = c.get.ensures.parent ∙ c.in-Ok.ensures in
    let inside = subst (λ x. LieIn c.args.object.data_words c.args.object.pointers (areas_of (shape_of_struct x))) (sym parent) c.requires.inside in
    let less = depth_of_fields (shape_of_struct c.args.schema) in
    let depth : fields_depth (fields_of_struct c.get.result.parent) ≡ fields_depth (fields_of_struct c.args.schema) = ap (λ x. fields_depth (fields_of_struct x)) parent in
    search rules

pub clear_group-loop-i-preserved : goal.clear_group-loop-i-preserved
clear_group-loop-i-preserved g t c =
    let i = c.loop-i.invariant in (
      fields_next (words_in (g.A.ReaderArena.segments c.args.arena.now)) (words_in (g.A.ReaderArena.segments c.loop-i.arena)) (words_in (g.A.ReaderArena.segments c.clear_member.new.arena)) c.args.object c.args.schema (mark (union_in (shape_of_struct c.args.schema)) (Some 0)) c.loop-i.i c.get.result
          (c.get.ensures.parent ∙ c.in-Ok.ensures) c.get.ensures.index i.0 c.clear_member.ensures.edits,
      c.clear_member.ensures.sizes ∙ i.1,
      c.clear_member.ensures.books ∙ i.2,
    )

pub clear_group-returns-after-loop-i-clause-edits : goal.clear_group-returns-after-loop-i-clause-edits
clear_group-returns-after-loop-i-clause-edits g t c =
    let all : c.loop-i.i ≡ c.len-i-end.result = search rules in
    fields_all (words_in (g.A.ReaderArena.segments c.args.arena.now)) (words_in (g.A.ReaderArena.segments c.loop-i.arena)) c.args.object c.args.schema c.loop-i.i
    (all ∙ c.len-i-end.ensures ∙ ap (λ x. field_count (fields_of_struct x)) c.in-Ok.ensures) c.loop-i.invariant.0

pub clear_member-clear_body-requires : goal.clear_member-clear_body-requires
clear_member-clear_body-requires g t c κs within =
    let r = field_of c.get_proto.result.now in
    let b = body_of_place c.place.result in
    let less = member_depth c.args.field r c.get_proto.ensures b c.place.ensures.body in
    let inside = member_inside c.args.field r c.get_proto.ensures b c.place.ensures.body c.args.object.data_words c.args.object.pointers c.requires.inside in
    search rules

pub clear_member-returns-then-member-eq0-clause-edits : goal.clear_member-returns-then-member-eq0-clause-edits
clear_member-returns-then-member-eq0-clause-edits g t c =
    let r = field_of c.get_proto.result.now in
    let d = c.get_proto.result.now.discriminant_value in
    let kept : is_kept (member_of d) ≡ true = elim c.then-member-eq0.branch [
      | clear_member-then-member-eq0-via-then-member-eq0 w ↦ first_kept d w.if-member-eq0.true
      | clear_member-then-member-eq0-via-else-member-eq0+then-member w ↦ none_kept d w.if-member.true
    ] in
    kept_cleared c.args.field r c.get_proto.ensures (body_of_place c.place.result) c.place.ensures.body (words_in (g.A.ReaderArena.segments c.args.arena.now)) (words_in (g.A.ReaderArena.segments c.clear_body.new.arena)) c.args.object kept c.clear_body.ensures.edits

pub clear_member-returns-else-member-clause-edits : goal.clear_member-returns-else-member-clause-edits
clear_member-returns-else-member-clause-edits g t c =
    let d = c.get_proto.result.now.discriminant_value in
    other_left c.args.field (field_of c.get_proto.result.now) c.get_proto.ensures (words_in (g.A.ReaderArena.segments c.args.arena.now)) c.args.object (others_not_kept d c.if-member-eq0.false c.if-member.false)
