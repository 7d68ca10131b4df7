use Rattle.std.proofs.Common.{rules, ◌≡◌, ◌+◌, ◌++◌, true, false, Ok, Err, refl, sym, ap, ◌∙◌}
use Rattle.std.proofs.lemmas.Result.{err_from_is_err_and}
use Rattle.std.specs.Prelude.{option_map, option_copied}
use Rattle.capnp_model.specs.Accepted.{default_tree}
use Rattle.capnp_units.specs.Segments.{words_in}
use Rattle.capnp_wire_objects.specs.Places.{place_view}
use Rattle.capnp_wire.specs.Views.{seen_struct}
use Rattle.capnp_records.specs.NodeViews.{field_of, value_of}
use Rattle.capnp_values_queries.specs.Fields.{field_count, union_in}
use Rattle.capnp_values_queries.specs.Structs.{schema_around, shape_of_struct, fields_of_struct}
use Rattle.capnp_values_queries.specs.Handles.{entry_of_field, body_of_place, plain_of}
use Rattle.capnp_values_queries.specs.declared.slots.FieldPlace.TheVariants as F
use Rattle.capnp_copy_arenas.specs.Refusals.{IsSizeOrRefusal}
use Rattle.capnp_copy_arenas.proofs.lemmas.RoomLaws.{sizes_grow}
use Rattle.capnp_model_writes.proofs.lemmas.Spans.{grows_same, grows_then}
use Rattle.capnp_schema_structs.specs.GroupSets.{copied_fields}
use Rattle.capnp_schema_structs.proofs.lemmas.Ready.{there_after, data_there}
use Rattle.capnp_schema_structs.proofs.lemmas.Grown.{there_grown}
use Rattle.capnp_schema_structs.proofs.Groups.{shape_depth, body_depth, depth_of_fields, depth_of_group}
use Rattle.capnp_schema_structs.proofs.lemmas.GroupFields.{slot_inside, plain_inside, group_inside, member_inside, member_depth}
use Rattle.capnp_schema_structs.proofs.lemmas.AnyEdits.{far_then, far_more, far_err}
use Rattle.capnp_schema_structs.proofs.SourceReadings.{null_child}
use Rattle.capnp_schema_structs.proofs.CopiedFields.{void_field, plain_field, group_field, in_turn, out_of_turn, front_begins, front_goes, front_ends, front_stops}
use Rattle.capnp_values_queries.specs.Types.{ty_of}
use Rattle.capnp_schema_structs.proofs.FieldRefusals.{null_refused, some_refused, group_isnt_set, one_refused}
use Rattle.capnp_wire.specs.Views.{pointer_field as pointer_seen}
use Rattle.capnp_model.specs.Trees.{child}
use Rattle.capnp_schema_structs.proofs.Faultless.{on_err, source_of, null_tree_is, group_faultless, one_faultless, first_turn, second_turn}
use Rattle.capnp_schema_structs.proofs.group_sets.+sets.Goals as goal

-- ---- one field

pub copy_field-set_bits-requires-clause-there : goal.copy_field-set_bits-requires-clause-there
copy_field-set_bits-requires-clause-there g t c =
    let p = c.args.object in
    let u = words_in (g.A.ReaderArena.segments c.mark-in-Plain.new.arena) in
    data_there u (place_view p.start) p.data_words p.pointers (there_after (words_in (g.A.ReaderArena.segments c.args.arena.now)) u p c.mark-in-Plain.ensures.sizes c.requires.there).words

pub copy_field-set_bits-requires-clause-inside : goal.copy_field-set_bits-requires-clause-inside
copy_field-set_bits-requires-clause-inside g t c =
    let p = c.args.object in
    let b = F.Plain c.in-Plain.ty c.in-Plain.offset c.in-Plain.default_bits in
    let inside = member_inside c.args.field (field_of c.get_proto-said.result.now) c.get_proto-said.ensures (body_of_place b) c.in-Plain.ensures.body p.data_words p.pointers c.requires.inside in
    plain_inside p b c.in-Plain.ty c.in-Plain.offset c.in-Plain.default_bits c.width_of-width.result refl c.width_of-width.ensures inside

pub copy_field-copy_null-requires-clause-inside : goal.copy_field-copy_null-requires-clause-inside
copy_field-copy_null-requires-clause-inside g t c =
    let p = c.args.object in
    (c.requires.inside, slot_inside c.args.field (field_of c.get_proto-said.result.now) c.get_proto-said.ensures p c.in-Pointer.index c.in-Pointer.ty c.in-Pointer.default c.in-Pointer.ensures.body c.requires.inside)

pub copy_field-copy_null-requires-clause-slot : goal.copy_field-copy_null-requires-clause-slot
copy_field-copy_null-requires-clause-slot g t c = ((default_tree (option_map value_of (option_copied c.in-Pointer.default)), c.in-Pointer.ensures.body), c.in-Pointer.ensures.of_set)

pub copy_field-copy_some-requires-clause-inside : goal.copy_field-copy_some-requires-clause-inside
copy_field-copy_some-requires-clause-inside g t c =
    let p = c.args.object in
    (c.requires.inside, slot_inside c.args.field (field_of c.get_proto-said.result.now) c.get_proto-said.ensures p c.in-Pointer.index c.in-Pointer.ty c.in-Pointer.default c.in-Pointer.ensures.body c.requires.inside)

pub copy_field-copy_some-requires-clause-slot : goal.copy_field-copy_some-requires-clause-slot
copy_field-copy_some-requires-clause-slot g t c = (default_tree (option_map value_of (option_copied c.in-Pointer.default)), c.in-Pointer.ensures.body)

pub copy_field-returns-then-is_pointer_field_null-clause-writes : goal.copy_field-returns-then-is_pointer_field_null-clause-writes
copy_field-returns-then-is_pointer_field_null-clause-writes g t c from is =
    c.copy_null.ensures.writes from (null_child (seen_struct g.B.ReaderArena.segments c.args.source.now) from is c.in-Pointer.index (sym c.is_pointer_field_null.ensures ∙ c.if-is_pointer_field_null.true))

pub copy_field-returns-in-Void-clause-writes : goal.copy_field-returns-in-Void-clause-writes
copy_field-returns-in-Void-clause-writes g t c from is =
    let s = words_in (g.A.ReaderArena.segments c.args.arena.now) in
    let u = words_in (g.A.ReaderArena.segments c.mark.new.arena) in
    void_field c.args.field (field_of c.get_proto-said.result.now) c.get_proto-said.ensures (body_of_place (F.Void c.in-Void.offset)) c.in-Void.ensures.body from s s u c.args.object tt c.in-Void.offset refl c.mark.ensures.edits

pub copy_field-returns-in-Plain-clause-writes : goal.copy_field-returns-in-Plain-clause-writes
copy_field-returns-in-Plain-clause-writes g t c from is =
    let s = words_in (g.A.ReaderArena.segments c.args.arena.now) in
    let m = words_in (g.A.ReaderArena.segments c.mark-in-Plain.new.arena) in
    let u = words_in (g.A.ReaderArena.segments c.set_bits.new.arena) in
    plain_field c.args.field (field_of c.get_proto-said.result.now) c.get_proto-said.ensures (body_of_place (F.Plain c.in-Plain.ty c.in-Plain.offset c.in-Plain.default_bits)) c.in-Plain.ensures.body from s m u c.args.object tt
    (plain_of c.in-Plain.ty) c.in-Plain.offset c.in-Plain.default_bits c.bits_in.result c.width_of-width.result refl (c.bits_in.ensures.bits from is) c.width_of-width.ensures c.mark-in-Plain.ensures.edits c.set_bits.ensures.sets

pub copy_field-copy_group-requires : goal.copy_field-copy_group-requires
copy_field-copy_group-requires g t c κs within =
    let b = F.Group c.in-Group.schema in
    let r = field_of c.get_proto-said.result.now in
    let depth = member_depth c.args.field r c.get_proto-said.ensures (body_of_place b) c.in-Group.ensures.body in
    let less : body_depth (body_of_place b) ≡ shape_depth (shape_of_struct c.in-Group.schema) = depth_of_group (shape_of_struct c.in-Group.schema) in
    let inside = group_inside c.args.object b c.in-Group.schema refl (member_inside c.args.field r c.get_proto-said.ensures (body_of_place b) c.in-Group.ensures.body c.args.object.data_words c.args.object.pointers c.requires.inside) in
    let there = there_after (words_in (g.A.ReaderArena.segments c.args.arena.now)) (words_in (g.A.ReaderArena.segments c.clear_field.new.arena)) c.args.object c.clear_field.ensures.sizes c.requires.there in
    search rules

pub copy_field-returns-in-Group-clause-writes : goal.copy_field-returns-in-Group-clause-writes
copy_field-returns-in-Group-clause-writes g t c from is =
    let s = words_in (g.A.ReaderArena.segments c.args.arena.now) in
    let m = words_in (g.A.ReaderArena.segments c.clear_field.new.arena) in
    let u = words_in (g.A.ReaderArena.segments c.copy_group.new.arena) in
    group_field c.args.field (field_of c.get_proto-said.result.now) c.get_proto-said.ensures (body_of_place (F.Group c.in-Group.schema)) c.in-Group.ensures.body from s m u c.args.object c.copy_group.result c.in-Group.schema refl c.in-Group.ensures.of_set c.clear_field.ensures.edits (c.copy_group.ensures.writes from is)

-- ---- turns

pub copy_turn-returns-clause-writes : goal.copy_turn-returns-clause-writes
copy_turn-returns-clause-writes g t c from is =
    let f = c.args.field in
    let s = words_in (g.A.ReaderArena.segments c.args.arena.now) in
    let u = words_in (g.A.ReaderArena.segments c.copy_field.new.arena) in
    in_turn c.copy_field.result s u c.args.object (schema_around f.parent) c.args.members (union_in (shape_of_struct f.parent)) (entry_of_field f) from (sym (c.has_turn.ensures from is) ∙ c.if-not-has_turn.false) (c.copy_field.ensures.writes from is)

pub copy_turn-returns-then-not-has_turn-clause-writes : goal.copy_turn-returns-then-not-has_turn-clause-writes
copy_turn-returns-then-not-has_turn-clause-writes g t c from is =
    let f = c.args.field in
    let s = words_in (g.A.ReaderArena.segments c.args.arena.now) in
    out_of_turn tt s c.args.object (schema_around f.parent) c.args.members (union_in (shape_of_struct f.parent)) (entry_of_field f) from (sym (c.has_turn.ensures from is) ∙ c.if-not-has_turn.true)

-- ---- the fields of a group

pub copy_fields-loop-i-init : goal.copy_fields-loop-i-init
copy_fields-loop-i-init g t c =
    let s = words_in (g.A.ReaderArena.segments c.args.arena.now) in
    (λ from is. front_begins c.args.schema c.args.members from s c.args.object, grows_same s, refl)

pub copy_fields-loop-i-preserved : goal.copy_fields-loop-i-preserved
copy_fields-loop-i-preserved g t c =
    let s = words_in (g.A.ReaderArena.segments c.args.arena.now) in
    let u = words_in (g.A.ReaderArena.segments c.loop-i.arena) in
    let w = words_in (g.A.ReaderArena.segments c.copy_turn.new.arena) in (
      λ from is. front_goes c.args.schema c.args.members from (Ok tt) s u w c.args.object c.loop-i.i c.get.result (c.get.ensures.parent ∙ c.in-Ok.ensures) c.get.ensures.index (c.loop-i.invariant.0 from is) (c.in_ok-copy_turn.ensures.writes from is),
      grows_then s u w c.loop-i.invariant.1 c.copy_turn.ensures.grows,
      c.copy_turn.ensures.books ∙ c.loop-i.invariant.2,
    )

pub copy_fields-returns-after-loop-i-clause-writes : goal.copy_fields-returns-after-loop-i-clause-writes
copy_fields-returns-after-loop-i-clause-writes g t c from is =
    let all : c.loop-i.i ≡ c.len-i-end.result = search rules in
    front_ends c.args.schema c.args.members from tt (words_in (g.A.ReaderArena.segments c.args.arena.now)) (words_in (g.A.ReaderArena.segments c.loop-i.arena)) c.args.object c.loop-i.i
    (all ∙ c.len-i-end.ensures ∙ ap (λ x. field_count (fields_of_struct x)) c.in-Ok.ensures) (c.loop-i.invariant.0 from is)

pub copy_fields-returns-in_err-copy_turn-clause-writes : goal.copy_fields-returns-in_err-copy_turn-clause-writes
copy_fields-returns-in_err-copy_turn-clause-writes g t c from is =
    let s = words_in (g.A.ReaderArena.segments c.args.arena.now) in
    let u = words_in (g.A.ReaderArena.segments c.loop-i.arena) in
    let w = words_in (g.A.ReaderArena.segments c.copy_turn.new.arena) in
    let h = err_from_is_err_and c.from_residual.result c.from_residual.ensures.1 in
    let e = c.in_err-copy_turn.field-0.0 in
    far_err c.from_residual.result s w c.args.object (copied_fields (schema_around c.args.schema) c.args.members (shape_of_struct c.args.schema) from) h.0 e h.1 h.2 (front_stops c.args.schema c.args.members from e s w c.args.object (c.loop-i.i + 1)
    (front_goes c.args.schema c.args.members from (Err e) s u w c.args.object c.loop-i.i c.get.result (c.get.ensures.parent ∙ c.in-Ok.ensures) c.get.ensures.index (c.loop-i.invariant.0 from is) (c.in_err-copy_turn.ensures.writes from is)))

-- ---- a group

pub copy_group-copy_fields-requires : goal.copy_group-copy_fields-requires
copy_group-copy_fields-requires g t c κs within =
    let less = depth_of_fields (shape_of_struct c.args.schema) in
    search rules

pub copy_group-copy_fields-requires-2 : goal.copy_group-copy_fields-requires-2
copy_group-copy_fields-requires-2 g t c κs within =
    let less = depth_of_fields (shape_of_struct c.args.schema) in
    let there = there_grown (words_in (g.A.ReaderArena.segments c.args.arena.now)) (words_in (g.A.ReaderArena.segments c.copy_fields.new.arena)) c.args.object c.copy_fields.ensures.grows c.requires.there in
    search rules

pub copy_group-returns-clause-writes : goal.copy_group-returns-clause-writes
copy_group-returns-clause-writes g t c from is =
    let around = schema_around c.args.schema in
    let own = shape_of_struct c.args.schema in
    let s = words_in (g.A.ReaderArena.segments c.args.arena.now) in
    let m = words_in (g.A.ReaderArena.segments c.copy_fields.new.arena) in
    let u = words_in (g.A.ReaderArena.segments c.copy_fields-2.new.arena) in
    far_then c.copy_fields-2.result s m u c.args.object (copied_fields around true own from) (copied_fields around false own from) (c.in_ok-copy_fields.ensures.writes from is) (c.copy_fields-2.ensures.writes from is)

pub copy_group-returns-in_err-copy_fields-clause-writes : goal.copy_group-returns-in_err-copy_fields-clause-writes
copy_group-returns-in_err-copy_fields-clause-writes g t c from is =
    let around = schema_around c.args.schema in
    let own = shape_of_struct c.args.schema in
    let s = words_in (g.A.ReaderArena.segments c.args.arena.now) in
    let m = words_in (g.A.ReaderArena.segments c.copy_fields.new.arena) in
    let h = err_from_is_err_and c.from_residual.result c.from_residual.ensures.1 in
    let e = c.in_err-copy_fields.field-0.0 in
    far_err c.from_residual.result s m c.args.object (copied_fields around true own from ++ copied_fields around false own from) h.0 e h.1 h.2 (far_more e s m c.args.object (copied_fields around true own from) (copied_fields around false own from) (c.in_err-copy_fields.ensures.writes from is))

-- ---- the message grows

pub copy_field-returns-in-Plain-clause-grows : goal.copy_field-returns-in-Plain-clause-grows
copy_field-returns-in-Plain-clause-grows g t c = sizes_grow (words_in (g.A.ReaderArena.segments c.args.arena.now)) (words_in (g.A.ReaderArena.segments c.set_bits.new.arena)) (c.set_bits.ensures.sizes ∙ c.mark-in-Plain.ensures.sizes)

pub copy_field-returns-in-Group-clause-grows : goal.copy_field-returns-in-Group-clause-grows
copy_field-returns-in-Group-clause-grows g t c =
    let s = words_in (g.A.ReaderArena.segments c.args.arena.now) in
    let m = words_in (g.A.ReaderArena.segments c.clear_field.new.arena) in
    grows_then s m (words_in (g.A.ReaderArena.segments c.copy_group.new.arena)) (sizes_grow s m c.clear_field.ensures.sizes) c.copy_group.ensures.grows

-- ---- refusals

pub copy_field-returns-then-is_pointer_field_null-clause-why : goal.copy_field-returns-then-is_pointer_field_null-clause-why
copy_field-returns-then-is_pointer_field_null-clause-why g t c =
    let f = c.args.field in
    null_refused (IsSizeOrRefusal g.A.BuilderArena.refuses) (schema_around f.parent) (seen_struct g.B.ReaderArena.segments c.args.source.now) (words_in (g.A.ReaderArena.segments c.copy_null.new.arena)) (entry_of_field f) c.in-Pointer.index (ty_of c.in-Pointer.ty) _ c.in-Pointer.ensures.body (sym c.is_pointer_field_null.ensures ∙ c.if-is_pointer_field_null.true) c.copy_null.result c.copy_null.ensures.why

pub copy_field-returns-else-is_pointer_field_null-clause-why : goal.copy_field-returns-else-is_pointer_field_null-clause-why
copy_field-returns-else-is_pointer_field_null-clause-why g t c =
    let f = c.args.field in
    some_refused (IsSizeOrRefusal g.A.BuilderArena.refuses) (schema_around f.parent) (seen_struct g.B.ReaderArena.segments c.args.source.now) (words_in (g.A.ReaderArena.segments c.copy_some.new.arena)) (entry_of_field f) c.in-Pointer.index (ty_of c.in-Pointer.ty) _ c.in-Pointer.ensures.body (sym c.is_pointer_field_null.ensures ∙ c.if-is_pointer_field_null.false) c.copy_some.result c.copy_some.ensures.why

pub copy_field-returns-in-Group-clause-why : goal.copy_field-returns-in-Group-clause-why
copy_field-returns-in-Group-clause-why g t c = group_isnt_set (IsSizeOrRefusal g.A.BuilderArena.refuses) c.args.field c.in-Group.schema (seen_struct g.B.ReaderArena.segments c.args.source.now) (words_in (g.A.ReaderArena.segments c.copy_group.new.arena)) c.in-Group.ensures.body c.in-Group.ensures.of_set c.copy_group.result c.copy_group.ensures.why

pub copy_fields-returns-in_err-copy_turn-clause-why : goal.copy_fields-returns-in_err-copy_turn-clause-why
copy_fields-returns-in_err-copy_turn-clause-why g t c =
    let h = err_from_is_err_and c.from_residual.result c.from_residual.ensures.1 in
    rw (h.1, h.2) (one_refused (IsSizeOrRefusal g.A.BuilderArena.refuses) c.args.schema c.get.result (c.get.ensures.parent ∙ c.in-Ok.ensures) (seen_struct g.B.ReaderArena.segments c.args.source.now) (words_in (g.A.ReaderArena.segments c.copy_turn.new.arena)) c.in_err-copy_turn.field-0.0 c.in_err-copy_turn.ensures.why)

pub copy_group-returns-in_err-copy_fields-clause-why : goal.copy_group-returns-in_err-copy_fields-clause-why
copy_group-returns-in_err-copy_fields-clause-why g t c =
    let h = err_from_is_err_and c.from_residual.result c.from_residual.ensures.1 in
    rw (h.1, h.2) c.in_err-copy_fields.ensures.why

-- ---- where nothing has a fault

pub copy_field-returns-then-is_pointer_field_null-clause-cause : goal.copy_field-returns-then-is_pointer_field_null-clause-cause
copy_field-returns-then-is_pointer_field_null-clause-cause g t c from stands =
    let i = c.in-Pointer.index in
    let v = seen_struct g.B.ReaderArena.segments c.args.source.now in
    let empty = null_tree_is (child from.kids i) (sym (c.nulls_are_read.ensures stands.0 (pointer_seen v i) (child from.kids i) (stands.1.children i)) ∙ (sym c.is_pointer_field_null.ensures ∙ c.if-is_pointer_field_null.true)) in
    c.copy_null.ensures.cause from empty

pub copy_field-returns-in-Group-clause-cause : goal.copy_field-returns-in-Group-clause-cause
copy_field-returns-in-Group-clause-cause g t c from stands =
    on_err c.copy_group.result _ _ (λ e told free. told (group_faultless c.args.field (field_of c.get_proto-said.result.now) c.get_proto-said.ensures (body_of_place (F.Group c.in-Group.schema)) c.in-Group.ensures.body from c.in-Group.schema refl c.in-Group.ensures.of_set free)) (c.copy_group.ensures.cause from stands)

pub copy_turn-returns-clause-cause : goal.copy_turn-returns-clause-cause
copy_turn-returns-clause-cause g t c from stands =
    let turn = sym (c.has_turn.ensures from (source_of (seen_struct g.B.ReaderArena.segments c.args.source.now) from stands)) ∙ c.if-not-has_turn.false in
    on_err c.copy_field.result _ _ (λ e told free. told (free turn)) (c.copy_field.ensures.cause from stands)

pub copy_fields-returns-in_err-copy_turn-clause-cause : goal.copy_fields-returns-in_err-copy_turn-clause-cause
copy_fields-returns-in_err-copy_turn-clause-cause g t c from stands =
    let h = err_from_is_err_and c.from_residual.result c.from_residual.ensures.1 in
    rw (h.1, h.2) (λ free. c.in_err-copy_turn.ensures.cause from stands (one_faultless c.args.schema c.get.result (c.get.ensures.parent ∙ c.in-Ok.ensures) c.args.members from free))

pub copy_group-returns-in_err-copy_fields-clause-cause : goal.copy_group-returns-in_err-copy_fields-clause-cause
copy_group-returns-in_err-copy_fields-clause-cause g t c from stands =
    let h = err_from_is_err_and c.from_residual.result c.from_residual.ensures.1 in
    rw (h.1, h.2) (λ free. c.in_err-copy_fields.ensures.cause from stands (first_turn (schema_around c.args.schema) (shape_of_struct c.args.schema) from free))

pub copy_group-returns-clause-cause : goal.copy_group-returns-clause-cause
copy_group-returns-clause-cause g t c from stands =
    on_err c.copy_fields-2.result _ _ (λ e told free. told (second_turn (schema_around c.args.schema) (shape_of_struct c.args.schema) from free)) (c.copy_fields-2.ensures.cause from stands)
