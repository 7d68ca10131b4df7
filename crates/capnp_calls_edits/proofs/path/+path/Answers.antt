use Rattle.std.proofs.Common.{inl, inr, rules, ◌≡◌, ◌≢◌, ◌<◌, ◌≤◌, true, [], ◌∷◌, refl, sym, ap, subst, ◌∙◌}
use Rattle.std.specs.Prelude.{map, option_map, option_copied, OnOk}
use Rattle.capnp_model.specs.Schemas.{struct, list, default_or_null}
use Rattle.capnp_model.specs.Trees.{null}
use Rattle.capnp_model.specs.Accepted.{schema_of, default_tree}
use Rattle.capnp_model.specs.Calls.{name}
use Rattle.capnp_units.specs.Segments.{words_in}
use Rattle.capnp_units.specs.declared.sizes.StructSize.{StructSize}
use Rattle.capnp_wire_objects.specs.Places.{place_view}
use Rattle.capnp_records.specs.NodeViews.{field_of, struct_of, value_of}
use Rattle.capnp_records.specs.Sets.{nodes_of}
use Rattle.capnp_values_queries.specs.Structs.{nodes_around, schema_around, shape_of_struct, id_of, IsRecordOf}
use Rattle.capnp_values_queries.specs.Types.{ty_of, ty_of_variant, is_type_of}
use Rattle.capnp_calls.specs.CallViews.{step_view, action_view}
use Rattle.capnp_calls.proofs.lemmas.PathAnswers.{none_is, some_is}
use Rattle.capnp_schema_structs.proofs.lemmas.Ready.{areas_inside, slot_there}
use Rattle.capnp_schema_structs.proofs.lemmas.GroupSizes.{group_wide}
use Rattle.capnp_schema_structs.proofs.lemmas.GroupFields.{slot_inside}
use Rattle.capnp_schema_lists.specs.Lists.{HasPointer}
use Rattle.capnp_schema_lists.specs.Elements.{Holds, HoldsStructs}
use Rattle.capnp_calls.specs.Ways.{IsWay}
use Rattle.capnp_calls_edits.specs.Written.{WritesField, EditsValueAt, WhereFieldTakes, WhereValueDone}
use Rattle.capnp_calls_edits.specs.Elements.{WritesWithin, WritesFieldWithin, EditsElementAt, WhereDoneWithin, WhereFieldDone, WhereElementDone, WhereElementTakes}
use Rattle.capnp_calls_edits.proofs.lemmas.Outcomes.{by_name, by_group, by_pointer, end_within}
use Rattle.capnp_calls_edits.proofs.Behind.{on_ok, struct_written}
use Rattle.capnp_calls_edits.proofs.BehindLists.{list_written, list_grows}
use Rattle.capnp_calls_edits.proofs.ElementSteps.{element_written, element_grows, value_written, value_grows}
use Rattle.capnp_schema_structs.proofs.lemmas.Grown.{no_struct_grows, child_grows}
use Rattle.std.proofs.lemmas.Result.{err_from_is_err_and}
use Rattle.capnp_units.specs.declared.errors.Error.{Error}
use Rattle.capnp_copy_arenas.specs.Refusals.{IsSizeOrRefusal}
use Rattle.capnp_copy_arenas.specs.States.{state_in}
use Rattle.capnp_calls_edits.proofs.Claims.{on_err, no_name, no_field, name_claimed, end_claimed, group_claimed, pointer_claimed, place_claimed, value_read, not_into, no_index, none_of}
use Rattle.capnp_calls.specs.Roots.{BeginsWith}
use Rattle.capnp_calls.specs.Steps.{BeginsWithIndex}
use Rattle.capnp_calls_edits.proofs.ClaimsBehind.{no_struct_claimed, struct_claimed}
use Rattle.capnp_calls_edits.proofs.ClaimsLists.{behind_claimed, element_claimed, unheld_claimed}
use Rattle.capnp_calls_edits.proofs.ClaimsElements as elements
use Rattle.capnp_calls_edits.proofs.GrownPaths.{got_grows}
use Rattle.capnp_calls_edits.proofs.path.+path.Goals as goal

-- ---- write_steps

pub write_steps-returns-then-is_empty-clause-writes : goal.write_steps-returns-then-is_empty-clause-writes
write_steps-returns-then-is_empty-clause-writes g t c =
    let p = c.args.object in
    let f = c.in_ok-field.field in
    let s = words_in (g.A.ReaderArena.segments c.args.arena.now) in
    let u = words_in (g.A.ReaderArena.segments c.write_end.new.arena) in
    let n = c.in-Some.name.now in
    let v = action_view c.args.action.now in
    let none : map step_view c.in-Some.rest.now ≡ [] = none_is step_view c.in-Some.rest.now (sym c.is_empty.ensures ∙ c.if-is_empty.true) in
    let path : map step_view c.args.path.now ≡ name n ∷ [] = c.in-Some.ensures.split ∙ ap (λ r. name n ∷ r) none in
    on_ok c.write_end.result (WritesField s u p f (record { path = []; verb = v })) (WritesWithin s u p c.args.schema (record { path = map step_view c.args.path.now; verb = v }))
    (λ h. subst (λ q. WritesWithin s u p c.args.schema (record { path = q; verb = v })) (sym path) (by_name s u p f (field_of c.get_proto-said.result.now) c.get_proto-said.ensures n [] v c.args.schema c.in_ok-field.ensures.found.parent c.in_ok-field.ensures.found.index (end_within s u p f v h))) c.write_end.ensures.writes

pub write_steps-returns-else-is_empty-clause-writes : goal.write_steps-returns-else-is_empty-clause-writes
write_steps-returns-else-is_empty-clause-writes g t c =
    let p = c.args.object in
    let f = c.in_ok-field.field in
    let s = words_in (g.A.ReaderArena.segments c.args.arena.now) in
    let u = words_in (g.A.ReaderArena.segments c.write_behind.new.arena) in
    let n = c.in-Some.name.now in
    let v = action_view c.args.action.now in
    let rest = map step_view c.in-Some.rest.now in
    on_ok c.write_behind.result (WritesFieldWithin s u p f (record { path = rest; verb = v })) (WritesWithin s u p c.args.schema (record { path = map step_view c.args.path.now; verb = v }))
    (λ h. subst (λ q. WritesWithin s u p c.args.schema (record { path = q; verb = v })) (sym c.in-Some.ensures.split) (by_name s u p f (field_of c.get_proto-said.result.now) c.get_proto-said.ensures n rest v c.args.schema c.in_ok-field.ensures.found.parent c.in_ok-field.ensures.found.index h)) c.write_behind.ensures.writes

-- ---- write_behind

pub write_behind-write_steps-requires : goal.write_behind-write_steps-requires
write_behind-write_steps-requires g t c κs within =
    let f = c.args.field in
    let n = struct_of c.record-holder.result.now in
    let holder = subst (λ p. IsRecordOf (nodes_around p) (id_of p) n) c.parent.ensures c.record-holder.ensures in
    let wide = group_wide f (field_of c.get_proto-said.result.now) c.get_proto-said.ensures n holder c.in-Group.schema c.in-Group.ensures.body c.args.object c.requires.wide in
    let way : IsWay (schema_around c.in-Group.schema) (map step_view c.args.rest.now) c.args.way.now = subst (λ ns. IsWay (schema_of ns) (map step_view c.args.rest.now) c.args.way.now) (sym c.in-Group.ensures.of_set) c.requires.way in
    search rules

pub write_behind-pointer_place-slot-requires-clause-inside : goal.write_behind-pointer_place-slot-requires-clause-inside
write_behind-pointer_place-slot-requires-clause-inside g t c =
    let p = c.args.object in
    slot_inside c.args.field (field_of c.get_proto-said.result.now) c.get_proto-said.ensures p c.in-Pointer.index c.in-Pointer.ty c.in-Pointer.default c.in-Pointer.ensures.body (areas_inside c.args.field.parent p c.requires.wide)

pub write_behind-write_value-requires : goal.write_behind-write_value-requires
write_behind-write_value-requires g t c κs within =
    let p = c.args.object in
    let l = slot_inside c.args.field (field_of c.get_proto-said.result.now) c.get_proto-said.ensures p c.in-Pointer.index c.in-Pointer.ty c.in-Pointer.default c.in-Pointer.ensures.body (areas_inside c.args.field.parent p c.requires.wide) in
    let s = words_in (g.A.ReaderArena.segments c.args.arena.now) in
    let there = slot_there s p c.in-Pointer.index (place_view c.pointer_place-slot.result) l c.pointer_place-slot.ensures.place c.requires.there in
    let nodes = c.set-set.ensures ∙ ap nodes_around c.parent-in-Pointer.ensures in
    let known : is_type_of (nodes_of c.set-set.result.now) c.in-Pointer.ty ≡ true = ap (λ ns. is_type_of ns c.in-Pointer.ty) nodes ∙ c.in-Pointer.ensures.of_set in
    let way : IsWay (schema_of (nodes_of c.set-set.result.now)) (map step_view c.args.rest.now) c.args.way.now = subst (λ ns. IsWay (schema_of ns) (map step_view c.args.rest.now) c.args.way.now) (sym nodes) c.requires.way in
    search rules

pub write_behind-returns-in-Group-clause-writes : goal.write_behind-returns-in-Group-clause-writes
write_behind-returns-in-Group-clause-writes g t c =
    let s = words_in (g.A.ReaderArena.segments c.args.arena.now) in
    let u = words_in (g.A.ReaderArena.segments c.write_steps.new.arena) in
    let rest = map step_view c.args.rest.now in
    let v = action_view c.args.action.now in
    on_ok c.write_steps.result (WritesWithin s u c.args.object c.in-Group.schema (record { path = rest; verb = v })) (WritesFieldWithin s u c.args.object c.args.field (record { path = rest; verb = v }))
    (by_group s u c.args.object c.args.field (field_of c.get_proto-said.result.now) c.get_proto-said.ensures c.in-Group.schema c.in-Group.ensures.body c.in-Group.ensures.of_set v rest c.requires.some) c.write_steps.ensures.writes

pub write_behind-returns-in-Pointer-clause-writes : goal.write_behind-returns-in-Pointer-clause-writes
write_behind-returns-in-Pointer-clause-writes g t c =
    let p = c.args.object in
    let f = c.args.field in
    let s = words_in (g.A.ReaderArena.segments c.args.arena.now) in
    let u = words_in (g.A.ReaderArena.segments c.write_value.new.arena) in
    let rest = map step_view c.args.rest.now in
    let v = action_view c.args.action.now in
    let i = c.in-Pointer.index in
    let ty = ty_of c.in-Pointer.ty in
    let d = default_tree (option_map value_of (option_copied c.in-Pointer.default)) in
    let l = slot_inside f (field_of c.get_proto-said.result.now) c.get_proto-said.ensures p i c.in-Pointer.ty c.in-Pointer.default c.in-Pointer.ensures.body (areas_inside f.parent p c.requires.wide) in
    let nodes = c.set-set.ensures ∙ ap nodes_around c.parent-in-Pointer.ensures in
    let slot = place_view c.pointer_place-slot.result in
    let written = c.write_value.ensures.writes (default_or_null d) (c.default_of.ensures i ty d c.in-Pointer.ensures.body) in
    on_ok c.write_value.result (EditsValueAt s u slot (record { around = schema_of (nodes_of c.set-set.result.now); ty = ty; default = default_or_null d }) (record { path = rest; verb = v })) (WritesFieldWithin s u p f (record { path = rest; verb = v }))
    (λ h. by_pointer s u p f (field_of c.get_proto-said.result.now) c.get_proto-said.ensures i ty d c.in-Pointer.ensures.body v slot l c.pointer_place-slot.ensures.place rest c.requires.some
    (subst (λ ns. EditsValueAt s u slot (record { around = schema_of ns; ty = ty; default = default_or_null d }) (record { path = rest; verb = v })) nodes h)) written

pub write_behind-returns-in-Pointer-clause-grows : goal.write_behind-returns-in-Pointer-clause-grows
write_behind-returns-in-Pointer-clause-grows g t c =
    let p = c.args.object in
    let f = c.args.field in
    let s = words_in (g.A.ReaderArena.segments c.args.arena.now) in
    let u = words_in (g.A.ReaderArena.segments c.write_value.new.arena) in
    let l = slot_inside f (field_of c.get_proto-said.result.now) c.get_proto-said.ensures p c.in-Pointer.index c.in-Pointer.ty c.in-Pointer.default c.in-Pointer.ensures.body (areas_inside f.parent p c.requires.wide) in
    child_grows s u p c.in-Pointer.index (place_view c.pointer_place-slot.result) l c.pointer_place-slot.ensures.place c.write_value.ensures.grows

-- ---- write_struct

pub write_struct-returns-clause-writes : goal.write_struct-returns-clause-writes
write_struct-returns-clause-writes g t c = λ d holds. (
    let s = words_in (g.A.ReaderArena.segments c.args.arena.now) in
    let u = words_in (g.A.ReaderArena.segments c.struct_or_default.new.arena) in
    let w = words_in (g.A.ReaderArena.segments c.write_steps.new.arena) in
    let path = map step_view c.args.path.now in
    let v = action_view c.args.action.now in
    on_ok c.write_steps.result (WritesWithin u w c.in_ok-inner.inner c.args.schema (record { path = path; verb = v })) (EditsValueAt s w (place_view c.args.slot) (record { around = schema_around c.args.schema; ty = struct (id_of c.args.schema); default = d }) (record { path = path; verb = v }))
    (struct_written s u w (place_view c.args.slot) c.args.schema (option_copied c.args.default) c.struct_size.result c.in_ok-inner.inner (ap (λ (x : StructSize). x.data_words) c.struct_size.ensures) (ap (λ (x : StructSize). x.pointers) c.struct_size.ensures) c.in_ok-inner.ensures.got d holds v path c.requires.named) c.write_steps.ensures.writes
    )

pub write_struct-returns-in_err-inner-clause-grows : goal.write_struct-returns-in_err-inner-clause-grows
write_struct-returns-in_err-inner-clause-grows g t c = λ n v own.
    no_struct_grows (option_copied c.args.default) (words_in (g.A.ReaderArena.segments c.args.arena.now)) (words_in (g.A.ReaderArena.segments c.struct_or_default.new.arena)) (place_view c.args.slot) c.struct_size.result c.in_err-inner.field-0.0 c.in_err-inner.ensures.refused

pub write_struct-returns-clause-grows : goal.write_struct-returns-clause-grows
write_struct-returns-clause-grows g t c =
    got_grows (words_in (g.A.ReaderArena.segments c.args.arena.now)) (words_in (g.A.ReaderArena.segments c.struct_or_default.new.arena)) (words_in (g.A.ReaderArena.segments c.write_steps.new.arena)) (place_view c.args.slot) (option_copied c.args.default) c.struct_size.result c.in_ok-inner.inner c.in_ok-inner.ensures.got c.write_steps.ensures.grows

-- ---- write_list

pub write_list-returns-clause-writes : goal.write_list-returns-clause-writes
write_list-returns-clause-writes g t c = λ d holds. (
    let s = words_in (g.A.ReaderArena.segments c.args.arena.now) in
    let u = words_in (g.A.ReaderArena.segments c.list_behind.new.arena) in
    let w = words_in (g.A.ReaderArena.segments c.write_element.new.arena) in
    let around = schema_of (nodes_of c.args.set.now) in
    let ty = ty_of c.args.element in
    let o = c.in_ok-inner.inner in
    let k = c.in-Some.index in
    let rest = map step_view c.in-Some.rest.now in
    let v = action_view c.args.action.now in
    let inside : k < o.count = search rules in
    on_ok c.write_element.result (EditsElementAt u w (record { place = o; at = k; around = around; ty = ty }) (record { path = rest; verb = v })) (EditsValueAt s w (place_view c.args.slot) (record { around = around; ty = list ty; default = d }) (record { path = map step_view c.args.path.now; verb = v }))
    (λ h. subst (λ q. EditsValueAt s w (place_view c.args.slot) (record { around = around; ty = list ty; default = d }) (record { path = q; verb = v })) (sym c.in-Some.ensures.split) (list_written s u w c.args.slot (option_copied c.args.default) around ty o c.in_ok-inner.ensures.got k inside d holds rest v h)) c.write_element.ensures.writes
    )

pub write_list-returns-clause-grows : goal.write_list-returns-clause-grows
write_list-returns-clause-grows g t c =
    let s = words_in (g.A.ReaderArena.segments c.args.arena.now) in
    let u = words_in (g.A.ReaderArena.segments c.list_behind.new.arena) in
    let w = words_in (g.A.ReaderArena.segments c.write_element.new.arena) in
    let o = c.in_ok-inner.inner in
    let k = c.in-Some.index in
    let inside : k < o.count = search rules in
    list_grows s u w c.args.slot (option_copied c.args.default) (schema_of (nodes_of c.args.set.now)) (ty_of c.args.element) o c.in_ok-inner.ensures.got k inside c.write_element.ensures.grows

-- ---- write_element

pub write_element-returns-then-is_empty-clause-writes : goal.write_element-returns-then-is_empty-clause-writes
write_element-returns-then-is_empty-clause-writes g t c =
    let s = words_in (g.A.ReaderArena.segments c.args.arena.now) in
    let u = words_in (g.A.ReaderArena.segments c.write_element_end.new.arena) in
    let none : map step_view c.args.rest.now ≡ [] = none_is step_view c.args.rest.now (sym c.is_empty.ensures ∙ c.if-is_empty.true) in
    subst (λ q. OnOk c.write_element_end.result (EditsElementAt s u (record { place = c.args.list; at = c.args.index; around = schema_of (nodes_of c.args.set.now); ty = ty_of c.args.ty }) (record { path = q; verb = action_view c.args.action.now }))) (sym none) c.write_element_end.ensures.writes

pub write_element-returns-in-Struct-clause-writes : goal.write_element-returns-in-Struct-clause-writes
write_element-returns-in-Struct-clause-writes g t c =
    let s = words_in (g.A.ReaderArena.segments c.args.arena.now) in
    let u = words_in (g.A.ReaderArena.segments c.write_steps.new.arena) in
    let o = c.args.list in
    let k = c.args.index in
    let p = c.element_struct.result in
    let schema = c.new-schema.result in
    let rest = map step_view c.args.rest.now in
    let v = action_view c.args.action.now in
    let some : rest ≢ [] = some_is step_view c.args.rest.now (sym c.is_empty.ensures ∙ c.if-is_empty.false) in
    let ty : struct (id_of schema) ≡ ty_of c.args.ty = ap (λ r. struct r.id) c.new-schema.ensures.raw ∙ (ap ty_of_variant (sym c.in-Struct.is) ∙ c.which.ensures.ty) in
    on_ok c.write_steps.result (WritesWithin s u p schema (record { path = rest; verb = v })) (EditsElementAt s u (record { place = o; at = k; around = schema_of (nodes_of c.args.set.now); ty = ty_of c.args.ty }) (record { path = rest; verb = v }))
    (λ h. subst (λ y. EditsElementAt s u (record { place = o; at = k; around = schema_of (nodes_of c.args.set.now); ty = y }) (record { path = rest; verb = v })) ty (subst (λ ns. EditsElementAt s u (record { place = o; at = k; around = schema_of ns; ty = struct (id_of schema) }) (record { path = rest; verb = v })) c.new-schema.ensures.nodes (element_written s u o k p (λ n x is own. c.elements_as_structs.ensures.parts n s o k p x c.requires.index c.element_struct.ensures is own) schema rest v some h))) c.write_steps.ensures.writes

pub write_element-returns-in-Struct-clause-grows : goal.write_element-returns-in-Struct-clause-grows
write_element-returns-in-Struct-clause-grows g t c =
    let s = words_in (g.A.ReaderArena.segments c.args.arena.now) in
    let u = words_in (g.A.ReaderArena.segments c.write_steps.new.arena) in
    let o = c.args.list in
    let k = c.args.index in
    let p = c.element_struct.result in
    element_grows s u o k p (λ n x is own. c.elements_as_structs.ensures.parts n s o k p x c.requires.index c.element_struct.ensures is own) c.write_steps.ensures.grows

pub write_element-returns-in-List-clause-writes : goal.write_element-returns-in-List-clause-writes
write_element-returns-in-List-clause-writes g t c =
    let s = words_in (g.A.ReaderArena.segments c.args.arena.now) in
    let u = words_in (g.A.ReaderArena.segments c.write_list.new.arena) in
    let o = c.args.list in
    let k = c.args.index in
    let q = c.element_pointer-slot.result in
    let around = schema_of (nodes_of c.args.set.now) in
    let e = ty_of c.in-List.element in
    let rest = map step_view c.args.rest.now in
    let v = action_view c.args.action.now in
    let some : rest ≢ [] = some_is step_view c.args.rest.now (sym c.is_empty.ensures ∙ c.if-is_empty.false) in
    let ty : list e ≡ ty_of c.args.ty = ap ty_of_variant (sym c.in-List.is) ∙ c.which.ensures.ty in
    let has : HasPointer o = subst (Holds o) (sym ty) c.requires.holds in
    on_ok c.write_list.result (EditsValueAt s u (place_view q) (record { around = around; ty = list e; default = null }) (record { path = rest; verb = v })) (EditsElementAt s u (record { place = o; at = k; around = around; ty = ty_of c.args.ty }) (record { path = rest; verb = v }))
    (λ h. subst (λ y. EditsElementAt s u (record { place = o; at = k; around = around; ty = y }) (record { path = rest; verb = v })) ty (value_written s u o k q (λ n x is own. c.elements_as_pointers.ensures.parts n s o k q x has c.requires.index c.element_pointer-slot.ensures.place c.requires.there is own) around e rest v some h)) (c.write_list.ensures.writes null refl)

pub write_element-returns-in-List-clause-grows : goal.write_element-returns-in-List-clause-grows
write_element-returns-in-List-clause-grows g t c =
    let s = words_in (g.A.ReaderArena.segments c.args.arena.now) in
    let u = words_in (g.A.ReaderArena.segments c.write_list.new.arena) in
    let o = c.args.list in
    let k = c.args.index in
    let q = c.element_pointer-slot.result in
    let ty : list (ty_of c.in-List.element) ≡ ty_of c.args.ty = ap ty_of_variant (sym c.in-List.is) ∙ c.which.ensures.ty in
    let has : HasPointer o = subst (Holds o) (sym ty) c.requires.holds in
    value_grows s u o k q (λ n x is own. c.elements_as_pointers.ensures.parts n s o k q x has c.requires.index c.element_pointer-slot.ensures.place c.requires.there is own) c.write_list.ensures.grows

-- ---- what is told of refusals

pub write_steps-returns-in_default-clause-cause : goal.write_steps-returns-in_default-clause-cause
write_steps-returns-in_default-clause-cause g t c =
    let s = words_in (g.A.ReaderArena.segments c.args.arena.now) in
    let path = map step_view c.args.path.now in
    let none = none_of c.first_name.result c.in_default.not-Some in
    no_name s c.args.object c.args.schema path (action_view c.args.action.now) _ (subst (λ o. BeginsWith path (option_map (λ p. (p.0.now, map step_view p.1.now)) o)) none c.first_name.ensures.split)

pub write_steps-returns-in_err-field-clause-cause : goal.write_steps-returns-in_err-field-clause-cause
write_steps-returns-in_err-field-clause-cause g t c =
    let s = words_in (g.A.ReaderArena.segments c.args.arena.now) in
    let p = c.args.object in
    let n = c.in-Some.name.now in
    let rest = map step_view c.in-Some.rest.now in
    let v = action_view c.args.action.now in
    let h = err_from_is_err_and c.from_residual.result c.from_residual.ensures.1 in
    let claimed = no_field s p c.args.schema n rest v (IsSizeOrRefusal g.A.BuilderArena.refuses c.in_err-field.field-0.0) c.in_err-field.ensures.missing.1 in
    rw (h.1, h.2) (subst (λ q. WhereDoneWithin s p c.args.schema (record { path = q; verb = v }) (IsSizeOrRefusal g.A.BuilderArena.refuses c.in_err-field.field-0.0)) (sym c.in-Some.ensures.split) claimed)

pub write_steps-returns-then-is_empty-clause-cause : goal.write_steps-returns-then-is_empty-clause-cause
write_steps-returns-then-is_empty-clause-cause g t c =
    let s = words_in (g.A.ReaderArena.segments c.args.arena.now) in
    let told : Error → Type 0 = IsSizeOrRefusal g.A.BuilderArena.refuses in
    let p = c.args.object in
    let f = c.in_ok-field.field in
    let n = c.in-Some.name.now in
    let v = action_view c.args.action.now in
    let none : map step_view c.in-Some.rest.now ≡ [] = none_is step_view c.in-Some.rest.now (sym c.is_empty.ensures ∙ c.if-is_empty.true) in
    let path : map step_view c.args.path.now ≡ name n ∷ [] = c.in-Some.ensures.split ∙ ap (λ r. name n ∷ r) none in
    on_err c.write_end.result (λ e. WhereFieldTakes f v (told e)) (λ e. WhereDoneWithin s p c.args.schema (record { path = map step_view c.args.path.now; verb = v }) (told e))
    (λ e h. subst (λ q. WhereDoneWithin s p c.args.schema (record { path = q; verb = v }) (told e)) (sym path) (name_claimed s p f (field_of c.get_proto-said.result.now) c.get_proto-said.ensures n [] v (told e) c.args.schema c.in_ok-field.ensures.found.parent c.in_ok-field.ensures.found.index (end_claimed s p f v (told e) h))) c.write_end.ensures.cause

pub write_steps-returns-else-is_empty-clause-cause : goal.write_steps-returns-else-is_empty-clause-cause
write_steps-returns-else-is_empty-clause-cause g t c =
    let s = words_in (g.A.ReaderArena.segments c.args.arena.now) in
    let told : Error → Type 0 = IsSizeOrRefusal g.A.BuilderArena.refuses in
    let p = c.args.object in
    let f = c.in_ok-field.field in
    let n = c.in-Some.name.now in
    let v = action_view c.args.action.now in
    let rest = map step_view c.in-Some.rest.now in
    on_err c.write_behind.result (λ e. WhereFieldDone s p f (record { path = rest; verb = v }) (told e)) (λ e. WhereDoneWithin s p c.args.schema (record { path = map step_view c.args.path.now; verb = v }) (told e))
    (λ e h. subst (λ q. WhereDoneWithin s p c.args.schema (record { path = q; verb = v }) (told e)) (sym c.in-Some.ensures.split) (name_claimed s p f (field_of c.get_proto-said.result.now) c.get_proto-said.ensures n rest v (told e) c.args.schema c.in_ok-field.ensures.found.parent c.in_ok-field.ensures.found.index h)) c.write_behind.ensures.cause

pub write_behind-returns-in-Group-clause-cause : goal.write_behind-returns-in-Group-clause-cause
write_behind-returns-in-Group-clause-cause g t c =
    let s = words_in (g.A.ReaderArena.segments c.args.arena.now) in
    let told : Error → Type 0 = IsSizeOrRefusal g.A.BuilderArena.refuses in
    let p = c.args.object in
    let f = c.args.field in
    let rest = map step_view c.args.rest.now in
    let v = action_view c.args.action.now in
    on_err c.write_steps.result (λ e. WhereDoneWithin s p c.in-Group.schema (record { path = rest; verb = v }) (told e)) (λ e. WhereFieldDone s p f (record { path = rest; verb = v }) (told e))
    (λ e. group_claimed s p f (field_of c.get_proto-said.result.now) c.get_proto-said.ensures v (told e) c.in-Group.schema c.in-Group.ensures.body c.in-Group.ensures.of_set rest c.requires.some) c.write_steps.ensures.cause

pub write_behind-returns-in-Pointer-clause-cause : goal.write_behind-returns-in-Pointer-clause-cause
write_behind-returns-in-Pointer-clause-cause g t c =
    let p = c.args.object in
    let f = c.args.field in
    let s = words_in (g.A.ReaderArena.segments c.args.arena.now) in
    let told : Error → Type 0 = IsSizeOrRefusal g.A.BuilderArena.refuses in
    let rest = map step_view c.args.rest.now in
    let v = action_view c.args.action.now in
    let i = c.in-Pointer.index in
    let ty = ty_of c.in-Pointer.ty in
    let d = default_tree (option_map value_of (option_copied c.in-Pointer.default)) in
    let l = slot_inside f (field_of c.get_proto-said.result.now) c.get_proto-said.ensures p i c.in-Pointer.ty c.in-Pointer.default c.in-Pointer.ensures.body (areas_inside f.parent p c.requires.wide) in
    let nodes = c.set-set.ensures ∙ ap nodes_around c.parent-in-Pointer.ensures in
    let slot = place_view c.pointer_place-slot.result in
    let cause = c.write_value.ensures.cause (default_or_null d) (c.default_of.ensures i ty d c.in-Pointer.ensures.body) in
    on_err c.write_value.result (λ e. WhereValueDone s slot (record { around = schema_of (nodes_of c.set-set.result.now); ty = ty; default = default_or_null d }) (record { path = rest; verb = v }) (told e)) (λ e. WhereFieldDone s p f (record { path = rest; verb = v }) (told e))
    (λ e h. pointer_claimed s p f (field_of c.get_proto-said.result.now) c.get_proto-said.ensures v (told e) i ty d c.in-Pointer.ensures.body slot l c.pointer_place-slot.ensures.place rest c.requires.some
    (subst (λ ns. WhereValueDone s slot (record { around = schema_of ns; ty = ty; default = default_or_null d }) (record { path = rest; verb = v }) (told e)) nodes h)) cause

pub write_behind-returns-in-Void-clause-cause : goal.write_behind-returns-in-Void-clause-cause
write_behind-returns-in-Void-clause-cause g t c =
    place_claimed (words_in (g.A.ReaderArena.segments c.args.arena.now)) c.args.object c.args.field (field_of c.get_proto-said.result.now) c.get_proto-said.ensures (action_view c.args.action.now) _ c.place.result c.place.ensures.body (map step_view c.args.rest.now) c.requires.some
    (λ i ty d e. elim c.in-Void.is [ inl x ↦ (let z = sym e ∙ x.1 in cc z) | inr x ↦ (let z = sym e ∙ x.3 in cc z) ])
    (λ h e. elim c.in-Void.is [ inl x ↦ (let z = sym e ∙ x.1 in cc z) | inr x ↦ (let z = sym e ∙ x.3 in cc z) ])

pub write_struct-returns-in_err-inner-clause-cause : goal.write_struct-returns-in_err-inner-clause-cause
write_struct-returns-in_err-inner-clause-cause g t c d holds =
    let at = state_in g.A.ReaderArena.segments g.A.BuilderArena.room g.A.BuilderArena.books in
    let told : Error → Type 0 = IsSizeOrRefusal g.A.BuilderArena.refuses in
    let e = c.in_err-inner.field-0.0 in
    let h = err_from_is_err_and c.from_residual.result c.from_residual.ensures.1 in
    rw (h.1, h.2) (no_struct_claimed (option_copied c.args.default) d holds (at c.args.arena.now) (at c.struct_or_default.new.arena) c.args.slot c.struct_size.result told e c.in_err-inner.ensures.lacking (schema_around c.args.schema) (id_of c.args.schema) (map step_view c.args.path.now) (action_view c.args.action.now))

pub write_struct-returns-clause-cause : goal.write_struct-returns-clause-cause
write_struct-returns-clause-cause g t c d holds =
    let s = words_in (g.A.ReaderArena.segments c.args.arena.now) in
    let u = words_in (g.A.ReaderArena.segments c.struct_or_default.new.arena) in
    let told : Error → Type 0 = IsSizeOrRefusal g.A.BuilderArena.refuses in
    let path = map step_view c.args.path.now in
    let v = action_view c.args.action.now in
    let o = c.in_ok-inner.inner in
    on_err c.write_steps.result (λ e. WhereDoneWithin u o c.args.schema (record { path = path; verb = v }) (told e)) (λ e. WhereValueDone s (place_view c.args.slot) (record { around = schema_around c.args.schema; ty = struct (id_of c.args.schema); default = d }) (record { path = path; verb = v }) (told e))
    (λ e. struct_claimed s u (place_view c.args.slot) c.args.schema (option_copied c.args.default) c.struct_size.result o (ap (λ (x : StructSize). x.data_words) c.struct_size.ensures) (ap (λ (x : StructSize). x.pointers) c.struct_size.ensures) c.in_ok-inner.ensures.got d holds v (told e) path c.requires.named) c.write_steps.ensures.cause

pub write_list-returns-in_default-clause-cause : goal.write_list-returns-in_default-clause-cause
write_list-returns-in_default-clause-cause g t c d holds =
    let path = map step_view c.args.path.now in
    let none = none_of c.first_index.result c.in_default.not-Some in
    not_into (words_in (g.A.ReaderArena.segments c.args.arena.now)) (place_view c.args.slot) (schema_of (nodes_of c.args.set.now)) (list (ty_of c.args.element)) d (map step_view c.args.path.now) (action_view c.args.action.now) _ (no_index path (ty_of c.args.element) (subst (λ o. BeginsWithIndex path (option_map (λ p. (p.0, map step_view p.1.now)) o)) none c.first_index.ensures.split))

pub write_list-returns-in_err-inner-clause-cause : goal.write_list-returns-in_err-inner-clause-cause
write_list-returns-in_err-inner-clause-cause g t c d holds =
    let h = err_from_is_err_and c.from_residual.result c.from_residual.ensures.1 in
    rw (h.1, h.2) (value_read (words_in (g.A.ReaderArena.segments c.args.arena.now)) (place_view c.args.slot) (schema_of (nodes_of c.args.set.now)) (list (ty_of c.args.element)) d (map step_view c.args.path.now) (action_view c.args.action.now) _ (c.in_err-inner.ensures.cause d holds))

pub write_list-returns-then-index-inner-clause-cause : goal.write_list-returns-then-index-inner-clause-cause
write_list-returns-then-index-inner-clause-cause g t c d holds =
    let s = words_in (g.A.ReaderArena.segments c.args.arena.now) in
    let u = words_in (g.A.ReaderArena.segments c.list_behind.new.arena) in
    let around = schema_of (nodes_of c.args.set.now) in
    let ty = ty_of c.args.element in
    let k = c.in-Some.index in
    let o = c.in_ok-inner.inner in
    let v = action_view c.args.action.now in
    let rest = map step_view c.in-Some.rest.now in
    let Claim : Type 0 = IsSizeOrRefusal g.A.BuilderArena.refuses c.from-then-index-inner.result in
    let behind : o.count ≤ k = search rules in
    subst (λ q. WhereValueDone s (place_view c.args.slot) (record { around = around; ty = list ty; default = d }) (record { path = q; verb = v }) Claim) (sym c.in-Some.ensures.split) (behind_claimed (option_copied c.args.default) d holds c.args.slot around ty s u o c.in_ok-inner.ensures.got k rest v Claim behind)

pub write_list-returns-then-not-holds-clause-cause : goal.write_list-returns-then-not-holds-clause-cause
write_list-returns-then-not-holds-clause-cause g t c d holds =
    let s = words_in (g.A.ReaderArena.segments c.args.arena.now) in
    let u = words_in (g.A.ReaderArena.segments c.list_behind.new.arena) in
    let around = schema_of (nodes_of c.args.set.now) in
    let ty = ty_of c.args.element in
    let k = c.in-Some.index in
    let o = c.in_ok-inner.inner in
    let v = action_view c.args.action.now in
    let rest = map step_view c.in-Some.rest.now in
    let Claim : Type 0 = IsSizeOrRefusal g.A.BuilderArena.refuses c.from-then-not-holds.result in
    let inside : k < o.count = search rules in
    let never : Holds o ty × HoldsStructs around o ty → ⊥ = λ x. (let no = sym c.if-not-holds.true ∙ c.holds.ensures.1 x in cc no) in
    subst (λ q. WhereValueDone s (place_view c.args.slot) (record { around = around; ty = list ty; default = d }) (record { path = q; verb = v }) Claim) (sym c.in-Some.ensures.split) (unheld_claimed (option_copied c.args.default) d holds c.args.slot around ty s u o c.in_ok-inner.ensures.got k rest v Claim inside c.args.element refl never)

pub write_list-returns-clause-cause : goal.write_list-returns-clause-cause
write_list-returns-clause-cause g t c d holds =
    let s = words_in (g.A.ReaderArena.segments c.args.arena.now) in
    let u = words_in (g.A.ReaderArena.segments c.list_behind.new.arena) in
    let told : Error → Type 0 = IsSizeOrRefusal g.A.BuilderArena.refuses in
    let around = schema_of (nodes_of c.args.set.now) in
    let ty = ty_of c.args.element in
    let k = c.in-Some.index in
    let o = c.in_ok-inner.inner in
    let v = action_view c.args.action.now in
    let rest = map step_view c.in-Some.rest.now in
    let inside : k < o.count = search rules in
    on_err c.write_element.result (λ e. WhereElementDone u (record { place = o; at = k; around = around; ty = ty }) (record { path = rest; verb = v }) (told e)) (λ e. WhereValueDone s (place_view c.args.slot) (record { around = around; ty = list ty; default = d }) (record { path = map step_view c.args.path.now; verb = v }) (told e))
    (λ e h. subst (λ q. WhereValueDone s (place_view c.args.slot) (record { around = around; ty = list ty; default = d }) (record { path = q; verb = v }) (told e)) (sym c.in-Some.ensures.split) (element_claimed (option_copied c.args.default) d holds c.args.slot around ty s u o c.in_ok-inner.ensures.got k rest v (told e) inside h)) c.write_element.ensures.cause

pub write_element-returns-then-is_empty-clause-cause : goal.write_element-returns-then-is_empty-clause-cause
write_element-returns-then-is_empty-clause-cause g t c =
    let s = words_in (g.A.ReaderArena.segments c.args.arena.now) in
    let told : Error → Type 0 = IsSizeOrRefusal g.A.BuilderArena.refuses in
    let around = schema_of (nodes_of c.args.set.now) in
    let ty = ty_of c.args.ty in
    let v = action_view c.args.action.now in
    let none : map step_view c.args.rest.now ≡ [] = none_is step_view c.args.rest.now (sym c.is_empty.ensures ∙ c.if-is_empty.true) in
    on_err c.write_element_end.result (λ e. WhereElementTakes around ty v (told e)) (λ e. WhereElementDone s (record { place = c.args.list; at = c.args.index; around = around; ty = ty }) (record { path = map step_view c.args.rest.now; verb = v }) (told e))
    (λ e h. subst (λ q. WhereElementDone s (record { place = c.args.list; at = c.args.index; around = around; ty = ty }) (record { path = q; verb = v }) (told e)) (sym none) (elements.end_claimed s c.args.list around ty c.args.index v (told e) h)) c.write_element_end.ensures.cause

pub write_element-returns-in-Struct-clause-cause : goal.write_element-returns-in-Struct-clause-cause
write_element-returns-in-Struct-clause-cause g t c =
    let s = words_in (g.A.ReaderArena.segments c.args.arena.now) in
    let told : Error → Type 0 = IsSizeOrRefusal g.A.BuilderArena.refuses in
    let o = c.args.list in
    let k = c.args.index in
    let p = c.element_struct.result in
    let schema = c.new-schema.result in
    let rest = map step_view c.args.rest.now in
    let v = action_view c.args.action.now in
    let some : rest ≢ [] = some_is step_view c.args.rest.now (sym c.is_empty.ensures ∙ c.if-is_empty.false) in
    let ty : struct (id_of schema) ≡ ty_of c.args.ty = ap (λ r. struct r.id) c.new-schema.ensures.raw ∙ (ap ty_of_variant (sym c.in-Struct.is) ∙ c.which.ensures.ty) in
    on_err c.write_steps.result (λ e. WhereDoneWithin s p schema (record { path = rest; verb = v }) (told e)) (λ e. WhereElementDone s (record { place = o; at = k; around = schema_of (nodes_of c.args.set.now); ty = ty_of c.args.ty }) (record { path = rest; verb = v }) (told e))
    (λ e h. subst (λ y. WhereElementDone s (record { place = o; at = k; around = schema_of (nodes_of c.args.set.now); ty = y }) (record { path = rest; verb = v }) (told e)) ty (subst (λ ns. WhereElementDone s (record { place = o; at = k; around = schema_of ns; ty = struct (id_of schema) }) (record { path = rest; verb = v }) (told e)) c.new-schema.ensures.nodes
    (elements.struct_claimed s o k p (λ n x is own. c.elements_as_structs.ensures.parts n s o k p x c.requires.index c.element_struct.ensures is own) schema rest v (told e) some h))) c.write_steps.ensures.cause

pub write_element-returns-in-List-clause-cause : goal.write_element-returns-in-List-clause-cause
write_element-returns-in-List-clause-cause g t c =
    let s = words_in (g.A.ReaderArena.segments c.args.arena.now) in
    let told : Error → Type 0 = IsSizeOrRefusal g.A.BuilderArena.refuses in
    let o = c.args.list in
    let k = c.args.index in
    let q = c.element_pointer-slot.result in
    let around = schema_of (nodes_of c.args.set.now) in
    let e = ty_of c.in-List.element in
    let rest = map step_view c.args.rest.now in
    let v = action_view c.args.action.now in
    let some : rest ≢ [] = some_is step_view c.args.rest.now (sym c.is_empty.ensures ∙ c.if-is_empty.false) in
    let ty : list e ≡ ty_of c.args.ty = ap ty_of_variant (sym c.in-List.is) ∙ c.which.ensures.ty in
    let has : HasPointer o = subst (Holds o) (sym ty) c.requires.holds in
    on_err c.write_list.result (λ x. WhereValueDone s (place_view q) (record { around = around; ty = list e; default = null }) (record { path = rest; verb = v }) (told x)) (λ x. WhereElementDone s (record { place = o; at = k; around = around; ty = ty_of c.args.ty }) (record { path = rest; verb = v }) (told x))
    (λ x h. subst (λ y. WhereElementDone s (record { place = o; at = k; around = around; ty = y }) (record { path = rest; verb = v }) (told x)) ty (elements.value_claimed s o k q (λ n x is own. c.elements_as_pointers.ensures.parts n s o k q x has c.requires.index c.element_pointer-slot.ensures.place c.requires.there is own) around e rest v (told x) some h)) (c.write_list.ensures.cause null refl)

pub write_element-returns-in_default-clause-cause : goal.write_element-returns-in_default-clause-cause
write_element-returns-in_default-clause-cause g t c =
    let some : map step_view c.args.rest.now ≢ [] = some_is step_view c.args.rest.now (sym c.is_empty.ensures ∙ c.if-is_empty.false) in
    let ty = c.which.ensures.ty in
    elements.not_into (words_in (g.A.ReaderArena.segments c.args.arena.now)) c.args.list (schema_of (nodes_of c.args.set.now)) (ty_of c.args.ty) c.args.index (map step_view c.args.rest.now) (action_view c.args.action.now) _ some
    (λ st into. elements.no_inside st (ty_of c.args.ty) into (λ id e. (let x = elements.is_struct c.which.result id (ty ∙ e) in c.in_default.not-Struct x.0 x.1)) (λ u e. (let x = elements.is_list c.which.result u (ty ∙ e) in c.in_default.not-List x.0 x.1)))
