-- What each step tells.
use Rattle.std.proofs.Common.{◌≡◌, ◌+◌, ◌-◌, ◌*◌, ◌<◌, ◌≤◌, ◌==◌, true, false, length, refl, ap, sym, ◌∙◌, subst, arith}
use Rattle.std.proofs.lemmas.Result.{err_from_is_err_and}
use Rattle.capnp_model.specs.Accepted.{schema_of}
use Rattle.capnp_model.specs.InKind.{body_in_kind, shape_in_kind, child_in_kind, children_in_kind, elements_in_kind}
use Rattle.capnp_model.specs.Readings.{expected_size, discriminant, whole_words}
use Rattle.capnp_model.specs.Schemas.{struct, list, Schema}
use Rattle.capnp_model.specs.Segments.{Segments, Place, after}
use Rattle.capnp_model.specs.Traversal.{tree_at}
use Rattle.capnp_units.specs.Errors.{kind_of}
use Rattle.capnp_units.specs.Segments.{words_in}
use Rattle.capnp_units.specs.Sizes.{size_number}
use Rattle.capnp_records.specs.Sets.{nodes_of}
use Rattle.capnp_records.specs.declared.raw.RawBrandedStructSchema.{RawBrandedStructSchema}
use Rattle.capnp_wire_objects.specs.Inside.{section_at, words_there}
use Rattle.capnp_wire_objects.specs.Objects.{IsInside}
use Rattle.capnp_wire_objects.specs.declared.object.Object.TheVariants as object
use Rattle.capnp_wire_objects.specs.Places.{place_view}
use Rattle.capnp_values_queries.specs.Fields.{field_count, union_in}
use Rattle.capnp_values_queries.specs.Structs.{nodes_around, shape_of_struct, fields_of_struct, id_of}
use Rattle.capnp_values_queries.specs.Handles.{entry_of_field, body_of_place, IsPlaceIn}
use Rattle.capnp_values_queries.specs.Types.{ty_of}
use Rattle.capnp_relay_kinds.specs.Kinds.{Tells, first_pointer}
use Rattle.capnp_relay_kinds.proofs.Values.{tells_true, tells_false, tells_err, leaf_in_kind, no_object, by_object, struct_there, other_in_kind, plain_told, pointers_wrong, pointers_told, structs_wrong, structs_told, no_list_told, rest_in_kind, no_struct_elements}
use Rattle.capnp_relay_kinds.proofs.Rows.{same_shape, row_begins, row_goes_on, row_stops, row_ends, section_part, part_there, room, elements_begin, elements_go_on, elements_stop, elements_end}
use Rattle.capnp_relay_kinds.proofs.Fields.{met, in_list, past_list, active_is, body_is, void_body, plain_body, group_body, pointer_body, fields_begin, fields_pass, fields_go_on, fields_stop, fields_end, past_pointer, pointer_told}
use Rattle.capnp_relay_kinds.proofs.Depths.{shape_depth, fields_depth, body_depth, struct_shallow, entry_depth, depth_of_fields, depth_of_entry, depth_of_body, depth_of_group, deeper}
use Rattle.capnp_relay_kinds.proofs.walk.+walk.Goals as goal

-- ---- pointers in a row

pub row_at-loop-i-init : goal.row_at-loop-i-init
row_at-loop-i-init g t c =
    let s : Segments = words_in (g.A.ReaderArena.segments c.args.arena.now) in
    row_begins (schema_of (nodes_of c.args.set.now)) (ty_of c.args.element) (tree_at c.args.levels s) (place_view c.args.first) c.args.count

pub row_at-returns-in_err-good : goal.row_at-returns-in_err-good
row_at-returns-in_err-good g t c ts h =
    let s : Segments = words_in (g.A.ReaderArena.segments c.args.arena.now) in
    let k : Schema = schema_of (nodes_of c.args.set.now) in
    let r = err_from_is_err_and c.from_residual.result c.from_residual.ensures.1 in
    tells_err (children_in_kind k ts (ty_of c.args.element)) c.in_err-good.field-0.0 r.0 c.from_residual.result r.1
    (row_stops k (ty_of c.args.element) (tree_at c.args.levels s) (place_view c.args.first) c.args.count c.requires.pointers c.loop-i.i c.loop-i-test.true c.in_err-good.ensures c.loop-i.invariant ts h)

pub row_at-returns-then-not-good : goal.row_at-returns-then-not-good
row_at-returns-then-not-good g t c ts h =
    let s : Segments = words_in (g.A.ReaderArena.segments c.args.arena.now) in
    let k : Schema = schema_of (nodes_of c.args.set.now) in
    tells_false (children_in_kind k ts (ty_of c.args.element)) c.step_back.result
    (row_stops k (ty_of c.args.element) (tree_at c.args.levels s) (place_view c.args.first) c.args.count c.requires.pointers c.loop-i.i c.loop-i-test.true (λ u e. sym (c.in_ok-good.ensures u e) ∙ c.if-not-good.true) c.loop-i.invariant ts h)
    c.step_back.ensures

pub row_at-loop-i-preserved : goal.row_at-loop-i-preserved
row_at-loop-i-preserved g t c =
    let s : Segments = words_in (g.A.ReaderArena.segments c.args.arena.now) in
    row_goes_on (schema_of (nodes_of c.args.set.now)) (ty_of c.args.element) (tree_at c.args.levels s) (place_view c.args.first) c.args.count c.requires.pointers c.loop-i.i c.loop-i-test.true
    (λ u e. sym (c.in_ok-good.ensures u e) ∙ c.if-not-good.false) c.loop-i.invariant

pub row_at-returns : goal.row_at-returns
row_at-returns g t c ts h =
    let s : Segments = words_in (g.A.ReaderArena.segments c.args.arena.now) in
    let k : Schema = schema_of (nodes_of c.args.set.now) in
    tells_true (children_in_kind k ts (ty_of c.args.element)) (row_ends k (ty_of c.args.element) (tree_at c.args.levels s) (place_view c.args.first) c.args.count c.loop-i.i c.loop-i-test.false c.loop-i.invariant ts h)

-- ---- elements that are structs

pub elements_at-loop-i-init : goal.elements_at-loop-i-init
elements_at-loop-i-init g t c =
    let s : Segments = words_in (g.A.ReaderArena.segments c.args.arena.now) in
    let p : Place = place_view c.args.list.start in
    let l = c.args.list in
    elements_begin (schema_of (nodes_of c.args.set.now)) (id_of c.args.schema) (tree_at c.args.levels s) p (words_there s p l.words) l.data_words l.pointers l.count

pub elements_at-returns-in_err-good : goal.elements_at-returns-in_err-good
elements_at-returns-in_err-good g t c es h =
    let s : Segments = words_in (g.A.ReaderArena.segments c.args.arena.now) in
    let k : Schema = schema_of (nodes_of c.args.set.now) in
    let l = c.args.list in
    let p : Place = place_view l.start in
    let a = c.loop-i.i * (l.data_words + l.pointers) in
    let r = err_from_is_err_and c.from_residual.result c.from_residual.ensures.1 in
    let le = room c.loop-i.i l.count l.data_words l.pointers l.words c.loop-i-test.true c.requires.inside in
    let bad = same_shape k (nodes_of c.args.set.now) c.args.schema (section_at s (after p a) l.data_words) refl c.requires.nodes in
    tells_err (elements_in_kind k es (struct (id_of c.args.schema))) c.in_err-good.field-0.0 r.0 c.from_residual.result r.1
    (elements_stop k (id_of c.args.schema) (tree_at c.args.levels s) p (words_there s p l.words) l.data_words l.pointers l.count c.loop-i.i (section_at s (after p a) l.data_words) c.loop-i-test.true
    (section_part s p l.words a l.data_words (omega (arith, le)) c.requires.there.0) (λ ts e. bad ts ∙ c.in_err-good.ensures ts e) c.loop-i.invariant es h)

pub elements_at-returns-then-not-good : goal.elements_at-returns-then-not-good
elements_at-returns-then-not-good g t c es h =
    let s : Segments = words_in (g.A.ReaderArena.segments c.args.arena.now) in
    let k : Schema = schema_of (nodes_of c.args.set.now) in
    let l = c.args.list in
    let p : Place = place_view l.start in
    let a = c.loop-i.i * (l.data_words + l.pointers) in
    let le = room c.loop-i.i l.count l.data_words l.pointers l.words c.loop-i-test.true c.requires.inside in
    let same = same_shape k (nodes_of c.args.set.now) c.args.schema (section_at s (after p a) l.data_words) refl c.requires.nodes in
    tells_false (elements_in_kind k es (struct (id_of c.args.schema))) c.step_back.result
    (elements_stop k (id_of c.args.schema) (tree_at c.args.levels s) p (words_there s p l.words) l.data_words l.pointers l.count c.loop-i.i (section_at s (after p a) l.data_words) c.loop-i-test.true
    (section_part s p l.words a l.data_words (omega (arith, le)) c.requires.there.0) (λ ts e. same ts ∙ sym (c.in_ok-good.ensures ts e) ∙ c.if-not-good.true) c.loop-i.invariant es h)
    c.step_back.ensures

pub elements_at-loop-i-preserved : goal.elements_at-loop-i-preserved
elements_at-loop-i-preserved g t c =
    let s : Segments = words_in (g.A.ReaderArena.segments c.args.arena.now) in
    let k : Schema = schema_of (nodes_of c.args.set.now) in
    let l = c.args.list in
    let p : Place = place_view l.start in
    let a = c.loop-i.i * (l.data_words + l.pointers) in
    let le = room c.loop-i.i l.count l.data_words l.pointers l.words c.loop-i-test.true c.requires.inside in
    let same = same_shape k (nodes_of c.args.set.now) c.args.schema (section_at s (after p a) l.data_words) refl c.requires.nodes in
    elements_go_on k (id_of c.args.schema) (tree_at c.args.levels s) p (words_there s p l.words) l.data_words l.pointers l.count c.loop-i.i (section_at s (after p a) l.data_words) c.loop-i-test.true
    (section_part s p l.words a l.data_words (omega (arith, le)) c.requires.there.0) (λ ts e. same ts ∙ sym (c.in_ok-good.ensures ts e) ∙ c.if-not-good.false) c.loop-i.invariant

pub elements_at-returns : goal.elements_at-returns
elements_at-returns g t c es h =
    let s : Segments = words_in (g.A.ReaderArena.segments c.args.arena.now) in
    let k : Schema = schema_of (nodes_of c.args.set.now) in
    let l = c.args.list in
    let p : Place = place_view l.start in
    tells_true (elements_in_kind k es (struct (id_of c.args.schema))) (elements_end k (id_of c.args.schema) (tree_at c.args.levels s) p (words_there s p l.words) l.data_words l.pointers l.count c.loop-i.i c.loop-i-test.false c.loop-i.invariant es h)

-- ---- fields

pub fields_at-loop-i-init : goal.fields_at-loop-i-init
fields_at-loop-i-init g t c =
    let s : Segments = words_in (g.A.ReaderArena.segments c.args.arena.now) in
    let x = c.args.sections in
    fields_begin (schema_of (nodes_of c.args.set.now)) (tree_at c.args.levels s) (first_pointer x) x.pointers (shape_of_struct c.args.schema) (section_at s (place_view x.start) x.data_words)

pub fields_at-returns-in_err-good : goal.fields_at-returns-in_err-good
fields_at-returns-in_err-good g t c ts h =
    let s : Segments = words_in (g.A.ReaderArena.segments c.args.arena.now) in
    let k : Schema = schema_of (nodes_of c.args.set.now) in
    let x = c.args.sections in
    let f = c.get-field.result in
    let section = section_at s (place_view x.start) x.data_words in
    let shape = shape_of_struct c.args.schema in
    let inside : c.loop-i.i < field_count (fields_of_struct c.args.schema) = in_list c.in-Ok.fields c.args.schema c.loop-i.i c.len-i-end.result c.in-Ok.ensures c.len-i-end.ensures c.loop-i-test.true in
    let m = met f c.args.schema c.loop-i.i (c.get-field.ensures.parent ∙ c.in-Ok.ensures) c.get-field.ensures.index inside in
    let body = body_is (entry_of_field f) m.entry (body_of_place c.place-place.result) m.here c.place-place.ensures.body in
    let active = active_is m.entry c.active_value-active.result (discriminant (union_in shape) whole_words section) c.is_active.result true (c.is_active.ensures m.entry m.here) c.if-not-is_active.false c.active_value-active.ensures in
    let r = err_from_is_err_and c.from_residual.result c.from_residual.ensures.1 in
    tells_err (shape_in_kind shape section (child_in_kind k ts)) c.in_err-good.field-0.0 r.0 c.from_residual.result r.1
    (fields_stop k (tree_at c.args.levels s) (first_pointer x) x.pointers shape section c.loop-i.i m.entry m.at c.loop-i.invariant active (λ us e. ap (λ b. body_in_kind b section (child_in_kind k us)) body ∙ c.in_err-good.ensures us e) ts h)

pub fields_at-loop-i-preserved-then-not-is_active : goal.fields_at-loop-i-preserved-then-not-is_active
fields_at-loop-i-preserved-then-not-is_active g t c =
    let s : Segments = words_in (g.A.ReaderArena.segments c.args.arena.now) in
    let k : Schema = schema_of (nodes_of c.args.set.now) in
    let x = c.args.sections in
    let f = c.get-field.result in
    let section = section_at s (place_view x.start) x.data_words in
    let shape = shape_of_struct c.args.schema in
    let inside : c.loop-i.i < field_count (fields_of_struct c.args.schema) = in_list c.in-Ok.fields c.args.schema c.loop-i.i c.len-i-end.result c.in-Ok.ensures c.len-i-end.ensures c.loop-i-test.true in
    let m = met f c.args.schema c.loop-i.i (c.get-field.ensures.parent ∙ c.in-Ok.ensures) c.get-field.ensures.index inside in
    let inactive = active_is m.entry c.active_value-active.result (discriminant (union_in shape) whole_words section) c.is_active.result false (c.is_active.ensures m.entry m.here) c.if-not-is_active.true c.active_value-active.ensures in
    fields_pass k (tree_at c.args.levels s) (first_pointer x) x.pointers shape section c.loop-i.i m.entry m.at c.loop-i.invariant inactive

pub fields_at-field_at-requires : goal.fields_at-field_at-requires
fields_at-field_at-requires g t c κs within =
    let f = c.get-field.result in
    let parent : f.parent ≡ c.args.schema = c.get-field.ensures.parent ∙ c.in-Ok.ensures in
    let deep = depth_of_fields (shape_of_struct c.args.schema) in
    let low = subst (λ q. entry_depth (entry_of_field f) ≤ fields_depth (fields_of_struct q)) parent (depth_of_entry (fields_of_struct f.parent) f.index) in
    let body = depth_of_body (entry_of_field f) (body_of_place c.place-place.result) c.place-place.ensures.body in
    let nodes : nodes_around f.parent ≡ nodes_of c.args.set.now = ap nodes_around parent ∙ c.requires.nodes in
    let of_set : IsPlaceIn (nodes_of c.args.set.now) c.place-place.result = subst (λ ns. IsPlaceIn ns c.place-place.result) nodes c.place-place.ensures.of_set in
    (omega (arith, deep, low, body), (within, (of_set, c.requires.inside)))

pub fields_at-returns-then-not-good : goal.fields_at-returns-then-not-good
fields_at-returns-then-not-good g t c ts h =
    let s : Segments = words_in (g.A.ReaderArena.segments c.args.arena.now) in
    let k : Schema = schema_of (nodes_of c.args.set.now) in
    let x = c.args.sections in
    let f = c.get-field.result in
    let section = section_at s (place_view x.start) x.data_words in
    let shape = shape_of_struct c.args.schema in
    let inside : c.loop-i.i < field_count (fields_of_struct c.args.schema) = in_list c.in-Ok.fields c.args.schema c.loop-i.i c.len-i-end.result c.in-Ok.ensures c.len-i-end.ensures c.loop-i-test.true in
    let m = met f c.args.schema c.loop-i.i (c.get-field.ensures.parent ∙ c.in-Ok.ensures) c.get-field.ensures.index inside in
    let body = body_is (entry_of_field f) m.entry (body_of_place c.place-place.result) m.here c.place-place.ensures.body in
    let active = active_is m.entry c.active_value-active.result (discriminant (union_in shape) whole_words section) c.is_active.result true (c.is_active.ensures m.entry m.here) c.if-not-is_active.false c.active_value-active.ensures in
    tells_false (shape_in_kind shape section (child_in_kind k ts)) c.step_back.result
    (fields_stop k (tree_at c.args.levels s) (first_pointer x) x.pointers shape section c.loop-i.i m.entry m.at c.loop-i.invariant active (λ us e. ap (λ b. body_in_kind b section (child_in_kind k us)) body ∙ sym (c.in_ok-good.ensures us e) ∙ c.if-not-good.true) ts h)
    c.step_back.ensures

pub fields_at-loop-i-preserved : goal.fields_at-loop-i-preserved
fields_at-loop-i-preserved g t c =
    let s : Segments = words_in (g.A.ReaderArena.segments c.args.arena.now) in
    let k : Schema = schema_of (nodes_of c.args.set.now) in
    let x = c.args.sections in
    let f = c.get-field.result in
    let section = section_at s (place_view x.start) x.data_words in
    let shape = shape_of_struct c.args.schema in
    let inside : c.loop-i.i < field_count (fields_of_struct c.args.schema) = in_list c.in-Ok.fields c.args.schema c.loop-i.i c.len-i-end.result c.in-Ok.ensures c.len-i-end.ensures c.loop-i-test.true in
    let m = met f c.args.schema c.loop-i.i (c.get-field.ensures.parent ∙ c.in-Ok.ensures) c.get-field.ensures.index inside in
    let body = body_is (entry_of_field f) m.entry (body_of_place c.place-place.result) m.here c.place-place.ensures.body in
    let active = active_is m.entry c.active_value-active.result (discriminant (union_in shape) whole_words section) c.is_active.result true (c.is_active.ensures m.entry m.here) c.if-not-is_active.false c.active_value-active.ensures in
    fields_go_on k (tree_at c.args.levels s) (first_pointer x) x.pointers shape section c.loop-i.i m.entry m.at c.loop-i.invariant active (λ us e. ap (λ b. body_in_kind b section (child_in_kind k us)) body ∙ sym (c.in_ok-good.ensures us e) ∙ c.if-not-good.false)

pub fields_at-returns : goal.fields_at-returns
fields_at-returns g t c ts h =
    let s : Segments = words_in (g.A.ReaderArena.segments c.args.arena.now) in
    let k : Schema = schema_of (nodes_of c.args.set.now) in
    let x = c.args.sections in
    let section = section_at s (place_view x.start) x.data_words in
    let shape = shape_of_struct c.args.schema in
    let past = past_list c.in-Ok.fields c.args.schema c.loop-i.i c.len-i-end.result c.in-Ok.ensures c.len-i-end.ensures c.loop-i-test.false in
    tells_true (shape_in_kind shape section (child_in_kind k ts)) (fields_end k (tree_at c.args.levels s) (first_pointer x) x.pointers shape section c.loop-i.i past c.loop-i.invariant ts h)

-- ---- a field

pub field_at-returns-in-Void : goal.field_at-returns-in-Void
field_at-returns-in-Void g t c ts h = sym (void_body c.args.field _ _ c.in-Void.offset c.in-Void.is)

pub field_at-returns-in-Plain : goal.field_at-returns-in-Plain
field_at-returns-in-Plain g t c ts h = sym (plain_body c.args.field _ _ c.in-Plain.ty c.in-Plain.offset c.in-Plain.default_bits c.in-Plain.is)

pub field_at-fields_at-requires : goal.field_at-fields_at-requires
field_at-fields_at-requires g t c κs within =
    let nodes : nodes_around c.in-Group.schema ≡ nodes_of c.args.set.now = subst (IsPlaceIn (nodes_of c.args.set.now)) c.in-Group.is c.requires.of_set in
    let depth : body_depth (body_of_place c.args.field) ≡ shape_depth (shape_of_struct c.in-Group.schema) = ap (λ z. body_depth (body_of_place z)) c.in-Group.is ∙ depth_of_group (shape_of_struct c.in-Group.schema) in
    (omega (arith, depth), (within, (nodes, c.requires.inside)))

pub field_at-returns-in-Group : goal.field_at-returns-in-Group
field_at-returns-in-Group g t c ts h =
    let s : Segments = words_in (g.A.ReaderArena.segments c.args.arena.now) in
    let x = c.args.sections in
    let kids = child_in_kind (schema_of (nodes_of c.args.set.now)) ts in
    subst (λ b. Tells b c.fields_at.result) (sym (group_body c.args.field (section_at s (place_view x.start) x.data_words) kids c.in-Group.schema c.in-Group.is)) (c.fields_at.ensures ts h)

pub field_at-returns-then-index-sections : goal.field_at-returns-then-index-sections
field_at-returns-then-index-sections g t c ts h =
    let s : Segments = words_in (g.A.ReaderArena.segments c.args.arena.now) in
    let k : Schema = schema_of (nodes_of c.args.set.now) in
    let x = c.args.sections in
    let body = pointer_body c.args.field (section_at s (place_view x.start) x.data_words) (child_in_kind k ts) c.in-Pointer.index c.in-Pointer.ty c.in-Pointer.default c.in-Pointer.is in
    sym (body ∙ past_pointer k (tree_at c.args.levels s) (first_pointer x) x.pointers c.in-Pointer.index (ty_of c.in-Pointer.ty) ts c.if-index-sections.true h)

pub field_at-returns-else-index-sections : goal.field_at-returns-else-index-sections
field_at-returns-else-index-sections g t c ts h =
    let s : Segments = words_in (g.A.ReaderArena.segments c.args.arena.now) in
    let k : Schema = schema_of (nodes_of c.args.set.now) in
    let x = c.args.sections in
    let lt = c.if-index-sections.false in
    let body = pointer_body c.args.field (section_at s (place_view x.start) x.data_words) (child_in_kind k ts) c.in-Pointer.index c.in-Pointer.ty c.in-Pointer.default c.in-Pointer.is in
    subst (λ b. Tells b c.value_at.result) (sym body)
    (pointer_told k (tree_at c.args.levels s) (first_pointer x) x.pointers c.in-Pointer.index (after (first_pointer x) c.in-Pointer.index) (ty_of c.in-Pointer.ty) c.value_at.result refl (omega (arith, lt)) c.value_at.ensures ts h)

-- ---- under a struct

pub elements_at-fields_at-requires : goal.elements_at-fields_at-requires
elements_at-fields_at-requires g t c κs within =
    let s : Segments = words_in (g.A.ReaderArena.segments c.args.arena.now) in
    let l = c.args.list in
    let p : Place = place_view l.start in
    let a = c.loop-i.i * (l.data_words + l.pointers) in
    let le = room c.loop-i.i l.count l.data_words l.pointers l.words c.loop-i-test.true c.requires.inside in
    let shallow = struct_shallow (nodes_of c.args.set.now) c.args.schema c.requires.nodes in
    (omega (arith, shallow), (within, (c.requires.nodes, part_there s p l.words a (l.data_words + l.pointers) le c.requires.there)))

pub struct_at-fields_at-requires : goal.struct_at-fields_at-requires
struct_at-fields_at-requires g t c κs within =
    let s : Segments = words_in (g.A.ReaderArena.segments c.args.arena.now) in
    let shallow = struct_shallow (nodes_of c.args.set.now) c.args.schema c.requires in
    let inside : IsInside s (object.Struct c.in-Struct.start c.in-Struct.data_words c.in-Struct.pointers) = subst (IsInside s) c.in-Struct.is c.in-Ok.ensures.inside in
    let less = deeper (length (nodes_of c.args.set.now)) c.args.levels (shape_depth (shape_of_struct c.args.schema)) c.if-levels-eq0.false shallow in
    (omega (arith, less), (within, (c.requires, inside)))

pub struct_at-returns-then-levels-eq0 : goal.struct_at-returns-then-levels-eq0
struct_at-returns-then-levels-eq0 g t c u h =
    let s : Segments = words_in (g.A.ReaderArena.segments c.args.arena.now) in
    sym (leaf_in_kind (schema_of (nodes_of c.args.set.now)) c.args.levels s (place_view c.args.place) u (struct (id_of c.args.schema)) c.if-levels-eq0.true h)

pub struct_at-returns-in_default : goal.struct_at-returns-in_default
struct_at-returns-in_default g t c u h =
    let s : Segments = words_in (g.A.ReaderArena.segments c.args.arena.now) in
    let some = c.if-levels-eq0.false in
    absurd (no_object c.values_by_levels.ensures.refused c.values_on_walks.ensures.cost c.args.levels (c.args.levels - 1) s (place_view c.args.place) (kind_of c.in_default.field-0.kind) u (omega (arith, some)) (sym c.in_default.ensures.object) h)

pub struct_at-returns-in-Struct : goal.struct_at-returns-in-Struct
struct_at-returns-in-Struct g t c u h =
    let s : Segments = words_in (g.A.ReaderArena.segments c.args.arena.now) in
    let k : Schema = schema_of (nodes_of c.args.set.now) in
    let some = c.if-levels-eq0.false in
    let x = c.in-Struct in
    let section = section_at s (place_view x.start) x.data_words in
    let same = same_shape k (nodes_of c.args.set.now) c.args.schema section refl c.requires in
    let inner = by_object c.values_by_levels.ensures.trees c.args.levels (c.args.levels - 1) s (place_view c.args.place) c.in-Ok.there u (omega (arith, some)) (sym c.in-Ok.ensures.object) h in
    struct_there k s (tree_at (c.args.levels - 1) s) (id_of c.args.schema) c.in-Ok.there.object x.start x.data_words x.pointers u c.fields_at.result x.is
    (λ ts e. subst (λ b. Tells b c.fields_at.result) (sym (same ts)) (c.fields_at.ensures ts e)) inner

pub struct_at-returns-in_default-object : goal.struct_at-returns-in_default-object
struct_at-returns-in_default-object g t c u h =
    let s : Segments = words_in (g.A.ReaderArena.segments c.args.arena.now) in
    let k : Schema = schema_of (nodes_of c.args.set.now) in
    let some = c.if-levels-eq0.false in
    let inner = by_object c.values_by_levels.ensures.trees c.args.levels (c.args.levels - 1) s (place_view c.args.place) c.in-Ok.there u (omega (arith, some)) (sym c.in-Ok.ensures.object) h in
    sym (other_in_kind k s (tree_at (c.args.levels - 1) s) (id_of c.args.schema) c.in-Ok.there.object u c.in_default-object.not-Struct inner)

-- ---- under a list

pub list_at-returns-then-levels-eq0 : goal.list_at-returns-then-levels-eq0
list_at-returns-then-levels-eq0 g t c u h =
    let s : Segments = words_in (g.A.ReaderArena.segments c.args.arena.now) in
    sym (leaf_in_kind (schema_of (nodes_of c.args.set.now)) c.args.levels s (place_view c.args.place) u (list (ty_of c.args.element)) c.if-levels-eq0.true h)

pub list_at-returns-in_default : goal.list_at-returns-in_default
list_at-returns-in_default g t c u h =
    let s : Segments = words_in (g.A.ReaderArena.segments c.args.arena.now) in
    let some = c.if-levels-eq0.false in
    absurd (no_object c.values_by_levels.ensures.refused c.values_on_walks.ensures.cost c.args.levels (c.args.levels - 1) s (place_view c.args.place) (kind_of c.in_default.field-0.kind) u (omega (arith, some)) (sym c.in_default.ensures.object) h)

pub list_at-returns-in-List : goal.list_at-returns-in-List
list_at-returns-in-List g t c u h =
    let s : Segments = words_in (g.A.ReaderArena.segments c.args.arena.now) in
    let k : Schema = schema_of (nodes_of c.args.set.now) in
    let some = c.if-levels-eq0.false in
    let x = c.in-List in
    let inner = by_object c.values_by_levels.ensures.trees c.args.levels (c.args.levels - 1) s (place_view c.args.place) c.in-Ok.there u (omega (arith, some)) (sym c.in-Ok.ensures.object) h in
    let told = c.is_size-is_plain.ensures ∙ ap (λ n. n == size_number x.size) c.expected_element_size-wanted.ensures in
    plain_told k s (tree_at (c.args.levels - 1) s) (ty_of c.args.element) c.in-Ok.there.object x.start x.size x.count u c.is_size-is_plain.result x.is told inner

pub list_at-returns-then-not-are_pointers : goal.list_at-returns-then-not-are_pointers
list_at-returns-then-not-are_pointers g t c u h =
    let s : Segments = words_in (g.A.ReaderArena.segments c.args.arena.now) in
    let k : Schema = schema_of (nodes_of c.args.set.now) in
    let some = c.if-levels-eq0.false in
    let x = c.in-PointerList in
    let inner = by_object c.values_by_levels.ensures.trees c.args.levels (c.args.levels - 1) s (place_view c.args.place) c.in-Ok.there u (omega (arith, some)) (sym c.in-Ok.ensures.object) h in
    let wrong : (expected_size (ty_of c.args.element) == 6) ≡ false = ap (λ n. n == 6) (sym c.expected_element_size-wanted.ensures) ∙ sym c.is_size-are_pointers.ensures ∙ c.if-not-are_pointers.true in
    sym (pointers_wrong k s (tree_at (c.args.levels - 1) s) (ty_of c.args.element) c.in-Ok.there.object x.start x.count u x.is wrong inner)

pub list_at-returns-else-not-are_pointers : goal.list_at-returns-else-not-are_pointers
list_at-returns-else-not-are_pointers g t c u h =
    let s : Segments = words_in (g.A.ReaderArena.segments c.args.arena.now) in
    let k : Schema = schema_of (nodes_of c.args.set.now) in
    let some = c.if-levels-eq0.false in
    let x = c.in-PointerList in
    let inner = by_object c.values_by_levels.ensures.trees c.args.levels (c.args.levels - 1) s (place_view c.args.place) c.in-Ok.there u (omega (arith, some)) (sym c.in-Ok.ensures.object) h in
    let right : (expected_size (ty_of c.args.element) == 6) ≡ true = ap (λ n. n == 6) (sym c.expected_element_size-wanted.ensures) ∙ sym c.is_size-are_pointers.ensures ∙ c.if-not-are_pointers.false in
    pointers_told k s (tree_at (c.args.levels - 1) s) (ty_of c.args.element) c.in-Ok.there.object x.start x.count u c.row_at.result x.is right c.row_at.ensures inner

pub list_at-returns-in-Struct : goal.list_at-returns-in-Struct
list_at-returns-in-Struct g t c u h =
    let s : Segments = words_in (g.A.ReaderArena.segments c.args.arena.now) in
    let k : Schema = schema_of (nodes_of c.args.set.now) in
    let some = c.if-levels-eq0.false in
    let x = c.in-StructList in
    let inner = by_object c.values_by_levels.ensures.trees c.args.levels (c.args.levels - 1) s (place_view c.args.place) c.in-Ok.there u (omega (arith, some)) (sym c.in-Ok.ensures.object) h in
    let of : struct (id_of c.new-schema.result) ≡ ty_of c.args.element = ap (λ (r : RawBrandedStructSchema). struct r.id) c.new-schema.ensures.raw ∙ c.in-Struct.ensures.ty in
    structs_told k s (tree_at (c.args.levels - 1) s) (ty_of c.args.element) (id_of c.new-schema.result) c.in-Ok.there.object x.start x.words x.count x.data_words x.pointers u c.elements_at.result x.is of c.elements_at.ensures inner

pub list_at-returns-in_default-which : goal.list_at-returns-in_default-which
list_at-returns-in_default-which g t c u h =
    let s : Segments = words_in (g.A.ReaderArena.segments c.args.arena.now) in
    let k : Schema = schema_of (nodes_of c.args.set.now) in
    let some = c.if-levels-eq0.false in
    let x = c.in-StructList in
    let inner = by_object c.values_by_levels.ensures.trees c.args.levels (c.args.levels - 1) s (place_view c.args.place) c.in-Ok.there u (omega (arith, some)) (sym c.in-Ok.ensures.object) h in
    let wrong = no_struct_elements c.which.result (ty_of c.args.element) c.in_default-which.not-Struct c.which.ensures.ty in
    c.is_size-are_structs.ensures ∙ ap (λ n. n == 7) c.expected_element_size-wanted.ensures ∙ wrong
    ∙ sym (structs_wrong k s (tree_at (c.args.levels - 1) s) (ty_of c.args.element) c.in-Ok.there.object x.start x.words x.count x.data_words x.pointers u x.is wrong inner)

pub list_at-returns-in_default-object : goal.list_at-returns-in_default-object
list_at-returns-in_default-object g t c u h =
    let s : Segments = words_in (g.A.ReaderArena.segments c.args.arena.now) in
    let k : Schema = schema_of (nodes_of c.args.set.now) in
    let some = c.if-levels-eq0.false in
    let inner = by_object c.values_by_levels.ensures.trees c.args.levels (c.args.levels - 1) s (place_view c.args.place) c.in-Ok.there u (omega (arith, some)) (sym c.in-Ok.ensures.object) h in
    sym (no_list_told k s (tree_at (c.args.levels - 1) s) (ty_of c.args.element) c.in-Ok.there.object u c.in_default-object.not-List c.in_default-object.not-PointerList c.in_default-object.not-StructList inner)

-- ---- under any type

pub value_at-returns-in_default : goal.value_at-returns-in_default
value_at-returns-in_default g t c u h =
    sym (rest_in_kind (schema_of (nodes_of c.args.set.now)) c.which.result (ty_of c.args.ty) u c.in_default.not-Struct c.in_default.not-List c.which.ensures.ty)
