use Rattle.std.proofs.Common.{rules, ◌≡◌, ℕ, suc, ◌+◌, ◌-◌, ◌<◌, ◌≤◌, ◌==◌, inr, Bool, true, false, Some, Ok, List, ◌++◌, refl, ap, sym, ◌∙◌, subst, arith}
use Rattle.std.specs.Prelude.{codes}
use Rattle.capnp_model.specs.Accepted.{schema_of}
use Rattle.capnp_model.specs.Printing.{Style, inner, closing}
use Rattle.capnp_records.specs.NodeViews.{field_of, kind_of_field}
use Rattle.capnp_records.specs.Sets.{nodes_of}
use Rattle.capnp_values_queries.specs.Types.{ty_of}
use Rattle.capnp_values_queries.specs.Fields.{field_count}
use Rattle.capnp_values_queries.specs.Structs.{schema_around, shape_of_struct, fields_of_struct}
use Rattle.capnp_values_queries.specs.Handles.{entry_of_field}
use Rattle.capnp_values_queries.specs.declared.structs.StructSchema.{StructSchema}
use Rattle.capnp_values.specs.Sources.{struct_seen, list_seen}
use Rattle.capnp_values.specs.Shown.{a_struct, a_list, shown, discriminant_shown, element_shown}
use Rattle.capnp_values_print.specs.Answers.{IsTextRefused, Appends}
use Rattle.capnp_values_print.specs.Members.{field_shown}
use Rattle.capnp_values_print.specs.Parts.{fields_text, member_text, elements_text, IsActive}
use Rattle.capnp_values_print.specs.Printed.{Text, item_mark, shown_text}
use Rattle.capnp_values_print.specs.Singles.{single_text}
use Rattle.capnp_values_print.specs.Slots.{AppendsSlot}
use Rattle.capnp_values_print.specs.Texts.{style_of}
use Rattle.capnp_values_print.proofs.lemmas.ElementTexts.{text_or_fault}
use Rattle.capnp_values_print.proofs.Loops.{memory, refused, refused_more, between_signs, ends, goes_same, goes_on, goes_wrong}
use Rattle.capnp_values_print.proofs.Opening.{opened_text}
use Rattle.capnp_values_print.proofs.lemmas.PrintedFields.{active_shown}
use Rattle.capnp_values_print.proofs.SingleTexts.{single_value}
use Rattle.capnp_values_print.proofs.SlotTypes.{single_member, slot_refused}
use Rattle.capnp_values_print.proofs.Wholes.{entry_exists, entry_at, name_is, elements_begin, shown_same, struct_empty, struct_some, list_empty, list_some, told_empty, told_some, FieldsLeft, fields_begin, field_left_out, field_left_in, fields_end, ElementsLeft, element_left, no_elements_left}
use Rattle.capnp_values_print.proofs.values.+text.Goals as goal

-- ---- values

pub push_value-returns-in_err-push_single-in_default : goal.push_value-returns-in_err-push_single-in_default
push_value-returns-in_err-push_single-in_default g t c =
    memory (shown_text c.args.left (style_of c.args.indent) (shown g.A.ReaderArena.segments c.args.value)) c.args.out.now.items c.push_single.new.out.items c.from_residual.result c.from_residual.ensures.1

pub push_value-returns-in-Struct : goal.push_value-returns-in-Struct
push_value-returns-in-Struct g t c =
    subst (λ v. Appends (shown_text c.args.left (style_of c.args.indent) (shown g.A.ReaderArena.segments v)) c.args.out.now.items c.push_struct.result c.push_struct.new.out.items) (sym c.in-Struct.is) c.push_struct.ensures

pub push_value-returns-in-List : goal.push_value-returns-in-List
push_value-returns-in-List g t c =
    subst (λ v. Appends (shown_text c.args.left (style_of c.args.indent) (shown g.A.ReaderArena.segments v)) c.args.out.now.items c.push_list.result c.push_list.new.out.items) (sym c.in-List.is) c.push_list.ensures

pub push_value-returns-in_ok-push_single-in_default : goal.push_value-returns-in_ok-push_single-in_default
push_value-returns-in_ok-push_single-in_default g t c =
    (single_text (shown g.A.ReaderArena.segments c.args.value), single_value g.A.ReaderArena.segments c.args.left (style_of c.args.indent) c.args.value (λ r e. c.in_default.not-Struct r e) (λ l e. c.in_default.not-List l e), c.in_ok-push_single-in_default.ensures)

-- ---- structs

pub push_struct-returns-in_err-fields : goal.push_struct-returns-in_err-fields
push_struct-returns-in_err-fields g t c = absurd c.in_err-fields.ensures

pub push_struct-returns-in_err-extend_from_slice : goal.push_struct-returns-in_err-extend_from_slice
push_struct-returns-in_err-extend_from_slice g t c =
    let r = c.args.reader in
    memory (shown_text c.args.left (style_of c.args.indent) (a_struct (schema_around r.schema) (shape_of_struct r.schema) (struct_seen g.A.ReaderArena.segments r.source))) c.args.out.now.items _ c.from_residual-in_err-extend_from_slice.result c.from_residual-in_err-extend_from_slice.ensures.1

pub push_struct-returns-then-is_empty : goal.push_struct-returns-then-is_empty
push_struct-returns-then-is_empty g t c =
    let r = c.args.reader in
    let none : field_count (fields_of_struct r.schema) ≡ 0 = ap (λ (s : StructSchema). field_count (fields_of_struct s)) (sym (c.in_ok-fields.ensures ∙ c.get_schema.ensures)) ∙ told_empty _ c.is_empty.result c.is_empty.ensures c.if-is_empty.true in
    (codes "()", struct_empty c.args.left (style_of c.args.indent) r.schema (struct_seen g.A.ReaderArena.segments r.source) none, c.in_ok-extend_from_slice.ensures.items)

pub push_struct-returns-in_err-push : goal.push_struct-returns-in_err-push
push_struct-returns-in_err-push g t c =
    let r = c.args.reader in
    memory (shown_text c.args.left (style_of c.args.indent) (a_struct (schema_around r.schema) (shape_of_struct r.schema) (struct_seen g.A.ReaderArena.segments r.source))) c.args.out.now.items _ c.from_residual-in_err-push.result c.from_residual-in_err-push.ensures.1

pub push_struct-push_fields-requires : goal.push_struct-push_fields-requires
push_struct-push_fields-requires g t c = let same = c.in_ok-fields.ensures ∙ c.get_schema.ensures in search rules

pub push_struct-returns-in_err-push_fields : goal.push_struct-returns-in_err-push_fields
push_struct-returns-in_err-push_fields g t c =
    let r = c.args.reader in
    let v = struct_seen g.A.ReaderArena.segments r.source in
    let some : field_count (fields_of_struct r.schema) ≡ 0 → ⊥ = λ h. told_some _ c.is_empty.result c.is_empty.ensures c.if-is_empty.false (ap (λ (s : StructSchema). field_count (fields_of_struct s)) (c.in_ok-fields.ensures ∙ c.get_schema.ensures) ∙ h) in
    refused (shown_text c.args.left (style_of c.args.indent) (a_struct (schema_around r.schema) (shape_of_struct r.schema) v)) c.args.out.now.items c.push_fields.new.out.items c.from_residual-in_err-push_fields.result c.in_err-push_fields.field-0.0 c.from_residual-in_err-push_fields.ensures.1
    (refused_more (fields_text c.args.left (style_of c.args.indent) r.schema v) _ _ c.in_err-push_fields.field-0.0 (struct_some c.args.left (style_of c.args.indent) r.schema v some) c.in_err-push_fields.ensures)

pub push_struct-returns-in_err-push_end : goal.push_struct-returns-in_err-push_end
push_struct-returns-in_err-push_end g t c =
    let r = c.args.reader in
    memory (shown_text c.args.left (style_of c.args.indent) (a_struct (schema_around r.schema) (shape_of_struct r.schema) (struct_seen g.A.ReaderArena.segments r.source))) c.args.out.now.items _ c.from_residual-in_err-push_end.result c.from_residual-in_err-push_end.ensures.1

pub push_struct-returns : goal.push_struct-returns
push_struct-returns g t c =
    let r = c.args.reader in
    let v = struct_seen g.A.ReaderArena.segments r.source in
    let style = style_of c.args.indent in
    let some : field_count (fields_of_struct r.schema) ≡ 0 → ⊥ = λ h. told_some _ c.is_empty.result c.is_empty.ensures c.if-is_empty.false (ap (λ (s : StructSchema). field_count (fields_of_struct s)) (c.in_ok-fields.ensures ∙ c.get_schema.ensures) ∙ h) in
    between_signs (fields_text c.args.left style r.schema v) (shown_text c.args.left style (a_struct (schema_around r.schema) (shape_of_struct r.schema) v)) c.args.out.now.items c.push.new.self.items c.push_fields.new.out.items c.push_end.new.out.items (codes "(") (closing style ++ codes ")")
    (struct_some c.args.left style r.schema v some) c.in_ok-push.ensures.items c.in_ok-push_fields.ensures c.in_ok-push_end.ensures

-- ---- fields

pub push_fields-returns-in_err-active : goal.push_fields-returns-in_err-active
push_fields-returns-in_err-active g t c = absurd c.in_err-active.ensures

pub push_fields-returns-in_err-deeper : goal.push_fields-returns-in_err-deeper
push_fields-returns-in_err-deeper g t c =
    memory (fields_text c.args.left (style_of c.args.indent) c.args.reader.schema (struct_seen g.A.ReaderArena.segments c.args.reader.source)) c.args.out.now.items _ c.from_residual-in_err-deeper.result c.from_residual-in_err-deeper.ensures.1

pub push_fields-loop-i-init : goal.push_fields-loop-i-init
push_fields-loop-i-init g t c = fields_begin c.args.reader.schema (struct_seen g.A.ReaderArena.segments c.args.reader.source) c.args.left (style_of c.args.indent) c.args.out.now.items

pub push_fields-get-field-requires : goal.push_fields-get-field-requires
push_fields-get-field-requires g t c = omega (arith, c.len-i-end.ensures, c.loop-i-test.true)

pub push_fields-is_printed-requires-clause-parent : goal.push_fields-is_printed-requires-clause-parent
push_fields-is_printed-requires-clause-parent g t c = c.get-field.ensures.parent ∙ c.requires

pub push_fields-is_printed-requires-clause-active : goal.push_fields-is_printed-requires-clause-active
push_fields-is_printed-requires-clause-active g t c = c.in_ok-active.ensures

pub push_fields-returns-in_err-is_printed : goal.push_fields-returns-in_err-is_printed
push_fields-returns-in_err-is_printed g t c = absurd c.in_err-is_printed.ensures

pub push_fields-returns-in_err-push_name : goal.push_fields-returns-in_err-push_name
push_fields-returns-in_err-push_name g t c =
    memory (fields_text c.args.left (style_of c.args.indent) c.args.reader.schema (struct_seen g.A.ReaderArena.segments c.args.reader.source)) c.args.out.now.items _ c.from_residual-in_err-push_name.result c.from_residual-in_err-push_name.ensures.1

pub push_fields-loop-i-smaller : goal.push_fields-loop-i-smaller
push_fields-loop-i-smaller g t c = omega (arith, c.loop-i-test.true)

pub push_fields-loop-i-smaller-then-not-branch : goal.push_fields-loop-i-smaller-then-not-branch
push_fields-loop-i-smaller-then-not-branch g t c = omega (arith, c.loop-i-test.true)

pub push_fields-returns : goal.push_fields-returns
push_fields-returns g t c =
    let s = c.args.reader.schema in
    let v = struct_seen g.A.ReaderArena.segments c.args.reader.source in
    let past : field_count (fields_of_struct s) ≤ c.loop-i.i = omega (arith, c.loop-i-test.false, c.len-i-end.ensures, ap (λ (s : StructSchema). field_count (fields_of_struct s)) c.requires) in
    ends (fields_text c.args.left (style_of c.args.indent) s v) (FieldsLeft s v c.args.left (style_of c.args.indent) c.loop-i.i c.loop-i.first) c.args.out.now.items c.loop-i.out.items c.loop-i.invariant (fields_end s v c.args.left (style_of c.args.indent) c.loop-i.i c.loop-i.first past)

pub push_fields-loop-i-preserved-then-not-branch : goal.push_fields-loop-i-preserved-then-not-branch
push_fields-loop-i-preserved-then-not-branch g t c =
    let s = c.args.reader.schema in
    let v = struct_seen g.A.ReaderArena.segments c.args.reader.source in
    let f = c.get-field.result in
    let style = style_of c.args.indent in
    let left = c.args.left in
    let i = c.loop-i.i in
    let parent : f.parent ≡ s = c.get-field.ensures.parent ∙ c.requires in
    let inside : i < field_count (fields_of_struct s) = omega (arith, c.loop-i-test.true, c.len-i-end.ensures, ap (λ (z : StructSchema). field_count (fields_of_struct z)) c.requires) in
    let a = entry_exists (fields_of_struct s) i inside in
    let at : entry_of_field f ≡ Some a.0 = entry_at s f i a.0 parent c.get-field.ensures.index a.1 in
    let hidden : field_shown (schema_around s) v (discriminant_shown s v) a.0 ≡ false = sym (c.in_ok-is_printed.ensures a.0 at) ∙ c.if-not-branch.true in
    goes_same (fields_text left style s v) (FieldsLeft s v left style i c.loop-i.first) (FieldsLeft s v left style (i + 1) c.loop-i.first) c.args.out.now.items c.loop-i.out.items (field_left_out s v left style i (i + 1) a.0 c.loop-i.first refl a.1 hidden) c.loop-i.invariant

pub push_fields-push_member-requires : goal.push_fields-push_member-requires
push_fields-push_member-requires g t c =
    let s = c.args.reader.schema in
    let v = struct_seen g.A.ReaderArena.segments c.args.reader.source in
    let f = c.get-field.result in
    let parent : f.parent ≡ s = c.get-field.ensures.parent ∙ c.requires in
    let active : IsActive s v f = λ e h. active_shown (schema_around s) _ _ e (sym (c.in_ok-is_printed.ensures e h) ∙ c.if-not-branch.false) in
    search rules

pub push_fields-returns-in_err-push_member : goal.push_fields-returns-in_err-push_member
push_fields-returns-in_err-push_member g t c =
    let s = c.args.reader.schema in
    let v = struct_seen g.A.ReaderArena.segments c.args.reader.source in
    let f = c.get-field.result in
    let style = style_of c.args.indent in
    let left = c.args.left in
    let i = c.loop-i.i in
    let parent : f.parent ≡ s = c.get-field.ensures.parent ∙ c.requires in
    let inside : i < field_count (fields_of_struct s) = omega (arith, c.loop-i-test.true, c.len-i-end.ensures, ap (λ (z : StructSchema). field_count (fields_of_struct z)) c.requires) in
    let a = entry_exists (fields_of_struct s) i inside in
    let at : entry_of_field f ≡ Some a.0 = entry_at s f i a.0 parent c.get-field.ensures.index a.1 in
    let shows : field_shown (schema_around s) v (discriminant_shown s v) a.0 ≡ true = sym (c.in_ok-is_printed.ensures a.0 at) ∙ c.if-not-branch.false in
    let next = field_left_in s v left style i (i + 1) a.0 c.loop-i.first refl a.1 shows in
    let e = c.in_err-push_member.field-0.0 in
    let fault : IsTextRefused (member_text left (inner style) s v a.0) e = subst (λ (st : Style). IsTextRefused (member_text left st s v a.0) e) c.in_ok-deeper.ensures.style (c.in_err-push_member.ensures a.0 at) in
    refused (fields_text left style s v) c.args.out.now.items c.push_member.new.out.items c.from_residual-in_err-push_member.result e c.from_residual-in_err-push_member.ensures.1
    (goes_wrong (fields_text left style s v) (FieldsLeft s v left style i c.loop-i.first) (member_text left (inner style) s v a.0) (FieldsLeft s v left style (i + 1) false) c.args.out.now.items c.loop-i.out.items ((item_mark style c.loop-i.first ++ a.0.name) ++ codes " = ") e next fault c.loop-i.invariant)

pub push_fields-loop-i-preserved : goal.push_fields-loop-i-preserved
push_fields-loop-i-preserved g t c =
    let s = c.args.reader.schema in
    let v = struct_seen g.A.ReaderArena.segments c.args.reader.source in
    let f = c.get-field.result in
    let style = style_of c.args.indent in
    let left = c.args.left in
    let i = c.loop-i.i in
    let parent : f.parent ≡ s = c.get-field.ensures.parent ∙ c.requires in
    let inside : i < field_count (fields_of_struct s) = omega (arith, c.loop-i-test.true, c.len-i-end.ensures, ap (λ (z : StructSchema). field_count (fields_of_struct z)) c.requires) in
    let a = entry_exists (fields_of_struct s) i inside in
    let at : entry_of_field f ≡ Some a.0 = entry_at s f i a.0 parent c.get-field.ensures.index a.1 in
    let shows : field_shown (schema_around s) v (discriminant_shown s v) a.0 ≡ true = sym (c.in_ok-is_printed.ensures a.0 at) ∙ c.if-not-branch.false in
    let next = field_left_in s v left style i (i + 1) a.0 c.loop-i.first refl a.1 shows in
    let said = field_of c.get_proto.result.now in
    let named = c.as_bytes.ensures.value ∙ sym (name_is f said a.0 c.get_proto.ensures at) in
    let m = c.in_ok-push_name.ensures ∙ ap (λ (n : List ℕ). c.loop-i.out.items ++ ((item_mark style c.loop-i.first ++ n) ++ codes " = ")) named in
    let b = c.in_ok-push_member.ensures a.0 at in
    goes_on (fields_text left style s v) (FieldsLeft s v left style i c.loop-i.first) (member_text left (inner style) s v a.0) (FieldsLeft s v left style (i + 1) false) c.args.out.now.items c.loop-i.out.items c.push_name.new.out.items c.push_member.new.out.items ((item_mark style c.loop-i.first ++ a.0.name) ++ codes " = ")
    next m (b.0, ap (λ (st : Style). member_text left st s v a.0) (sym c.in_ok-deeper.ensures.style) ∙ b.1, b.2) c.loop-i.invariant

-- ---- members

pub push_member-returns-in_err-push_slot : goal.push_member-returns-in_err-push_slot
push_member-returns-in_err-push_slot g t c =
    let s = c.args.reader.schema in
    let v = struct_seen g.A.ReaderArena.segments c.args.reader.source in
    let style = style_of c.args.indent in
    let err = c.in_err-push_slot.field-0.0 in
    λ e h. refused (member_text c.args.left style s v e) c.args.out.now.items c.push_slot.new.out.items c.from_residual.result err c.from_residual.ensures.1
    (slot_refused s v c.args.field (field_of c.get_proto.result.now) c.requires.parent c.get_proto.ensures e h (c.requires.active e h) c.args.left style err c.in_err-push_slot.ensures)

pub push_member-returns-then-branch : goal.push_member-returns-then-branch
push_member-returns-then-branch g t c =
    let s = c.args.reader.schema in
    let v = struct_seen g.A.ReaderArena.segments c.args.reader.source in
    let k = kind_of_field c.get_proto.result.now.body in
    let a = subst (λ (b : Bool). AppendsSlot v k c.args.out.now.items (Ok b) c.push_slot.new.out.items) c.if-branch.true c.in_ok-push_slot.ensures in
    λ e h. single_member s v c.args.field (field_of c.get_proto.result.now) c.requires.parent c.get_proto.ensures e h (c.requires.active e h) c.args.left (style_of c.args.indent) c.args.out.now.items c.push_slot.new.out.items a

pub push_member-open_member-requires-clause-parent : goal.push_member-open_member-requires-clause-parent
push_member-open_member-requires-clause-parent g t c = c.requires.parent

pub push_member-open_member-requires-clause-active : goal.push_member-open_member-requires-clause-active
push_member-open_member-requires-clause-active g t c =
    c.requires.active

pub push_member-returns-in_err-opened : goal.push_member-returns-in_err-opened
push_member-returns-in_err-opened g t c =
    let s = c.args.reader.schema in
    let v = struct_seen g.A.ReaderArena.segments c.args.reader.source in
    λ e h. refused (member_text c.args.left (style_of c.args.indent) s v e) c.args.out.now.items c.push_slot.new.out.items c.from_residual-in_err-opened.result c.in_err-opened.field-0.0 c.from_residual-in_err-opened.ensures.1 (inr (c.in_err-opened.ensures e h (style_of c.args.indent)))

pub push_member-returns : goal.push_member-returns
push_member-returns g t c =
    let s = c.args.reader.schema in
    let v = struct_seen g.A.ReaderArena.segments c.args.reader.source in
    let o = c.in_ok-opened.opened in
    let style = style_of c.args.indent in
    let k = kind_of_field c.get_proto.result.now.body in
    let same : c.push_slot.new.out.items ≡ c.args.out.now.items = subst (λ (b : Bool). AppendsSlot v k c.args.out.now.items (Ok b) c.push_slot.new.out.items) c.if-branch.false c.in_ok-push_slot.ensures in
    let pushed = subst (λ (old : List ℕ). Appends (shown_text o.left style (shown g.A.ReaderArena.segments o.value)) old c.push_value.result c.push_value.new.out.items) same c.push_value.ensures in
    λ e h. subst (λ (z : Text). Appends z c.args.out.now.items c.push_value.result c.push_value.new.out.items)
    (opened_text c.nulls_are_read.ensures s v c.args.field c.requires.parent c.args.left (shown g.A.ReaderArena.segments o.value) o.left c.in_ok-opened.ensures c.requires.active e h style) pushed

-- ---- lists

pub push_list-returns-in_err-extend_from_slice : goal.push_list-returns-in_err-extend_from_slice
push_list-returns-in_err-extend_from_slice g t c =
    let l = c.args.list in
    memory (shown_text c.args.left (style_of c.args.indent) (a_list (schema_of (nodes_of l.set.now)) (ty_of l.element_type) (list_seen g.A.ReaderArena.segments l.source))) c.args.out.now.items _ c.from_residual.result c.from_residual.ensures.1

pub push_list-returns-then-is_empty : goal.push_list-returns-then-is_empty
push_list-returns-then-is_empty g t c =
    let l = c.args.list in
    let v = list_seen g.A.ReaderArena.segments l.source in
    (codes "[]", list_empty c.args.left (style_of c.args.indent) (schema_of (nodes_of l.set.now)) (ty_of l.element_type) v (told_empty _ c.is_empty.result c.is_empty.ensures c.if-is_empty.true), c.in_ok-extend_from_slice.ensures.items)

pub push_list-returns-in_err-push : goal.push_list-returns-in_err-push
push_list-returns-in_err-push g t c =
    let l = c.args.list in
    memory (shown_text c.args.left (style_of c.args.indent) (a_list (schema_of (nodes_of l.set.now)) (ty_of l.element_type) (list_seen g.A.ReaderArena.segments l.source))) c.args.out.now.items _ c.from_residual-in_err-push.result c.from_residual-in_err-push.ensures.1

pub push_list-returns-in_err-push_elements : goal.push_list-returns-in_err-push_elements
push_list-returns-in_err-push_elements g t c =
    let l = c.args.list in
    let s = schema_of (nodes_of l.set.now) in
    let v = list_seen g.A.ReaderArena.segments l.source in
    refused (shown_text c.args.left (style_of c.args.indent) (a_list s (ty_of l.element_type) v)) c.args.out.now.items c.push_elements.new.out.items c.from_residual-in_err-push_elements.result c.in_err-push_elements.field-0.0 c.from_residual-in_err-push_elements.ensures.1
    (refused_more (elements_text c.args.left (style_of c.args.indent) s (ty_of l.element_type) v) _ _ c.in_err-push_elements.field-0.0 (list_some c.args.left (style_of c.args.indent) s (ty_of l.element_type) v (told_some _ c.is_empty.result c.is_empty.ensures c.if-is_empty.false)) c.in_err-push_elements.ensures)

pub push_list-returns-in_err-push_end : goal.push_list-returns-in_err-push_end
push_list-returns-in_err-push_end g t c =
    let l = c.args.list in
    memory (shown_text c.args.left (style_of c.args.indent) (a_list (schema_of (nodes_of l.set.now)) (ty_of l.element_type) (list_seen g.A.ReaderArena.segments l.source))) c.args.out.now.items _ c.from_residual-in_err-push_end.result c.from_residual-in_err-push_end.ensures.1

pub push_list-returns : goal.push_list-returns
push_list-returns g t c =
    let l = c.args.list in
    let s = schema_of (nodes_of l.set.now) in
    let ty = ty_of l.element_type in
    let v = list_seen g.A.ReaderArena.segments l.source in
    let style = style_of c.args.indent in
    between_signs (elements_text c.args.left style s ty v) (shown_text c.args.left style (a_list s ty v)) c.args.out.now.items c.push.new.self.items c.push_elements.new.out.items c.push_end.new.out.items (codes "[") (closing style ++ codes "]")
    (list_some c.args.left style s ty v (told_some _ c.is_empty.result c.is_empty.ensures c.if-is_empty.false)) c.in_ok-push.ensures.items c.in_ok-push_elements.ensures c.in_ok-push_end.ensures

-- ---- elements

pub push_elements-returns-in_err-deeper : goal.push_elements-returns-in_err-deeper
push_elements-returns-in_err-deeper g t c =
    let l = c.args.list in
    memory (elements_text c.args.left (style_of c.args.indent) (schema_of (nodes_of l.set.now)) (ty_of l.element_type) (list_seen g.A.ReaderArena.segments l.source)) c.args.out.now.items _ c.from_residual.result c.from_residual.ensures.1

pub push_elements-loop-i-init : goal.push_elements-loop-i-init
push_elements-loop-i-init g t c =
    let l = c.args.list in
    let v = list_seen g.A.ReaderArena.segments l.source in
    elements_begin (schema_of (nodes_of l.set.now)) (ty_of l.element_type) v c.args.left (style_of c.args.indent) (v.count - 0) c.args.out.now.items (omega arith)

pub push_elements-open_element-requires : goal.push_elements-open_element-requires
push_elements-open_element-requires g t c = omega (arith, c.len-i-end.ensures, c.loop-i-test.true)

pub push_elements-returns-in_err-value : goal.push_elements-returns-in_err-value
push_elements-returns-in_err-value g t c =
    let l = c.args.list in
    let s = schema_of (nodes_of l.set.now) in
    let ty = ty_of l.element_type in
    let v = list_seen g.A.ReaderArena.segments l.source in
    let style = style_of c.args.indent in
    let left = c.args.left in
    let i = c.loop-i.i in
    let more : v.count - i ≡ suc (v.count - (i + 1)) = omega (arith, c.loop-i-test.true, c.len-i-end.ensures) in
    let next = element_left s ty v left style i (i + 1) (v.count - i) (v.count - (i + 1)) refl more in
    let e = c.in_err-value.field-0.0 in
    let fault : IsTextRefused (text_or_fault left (inner style) (element_shown s ty v i)) e = inr (ap (text_or_fault left (inner style)) (sym c.in_err-value.ensures)) in
    refused (elements_text left style s ty v) c.args.out.now.items c.loop-i.out.items c.from_residual-in_err-value.result e c.from_residual-in_err-value.ensures.1
    (goes_wrong (elements_text left style s ty v) (ElementsLeft s ty v left style i (v.count - i)) (text_or_fault left (inner style) (element_shown s ty v i)) (ElementsLeft s ty v left style (i + 1) (v.count - (i + 1))) c.args.out.now.items c.loop-i.out.items (item_mark style (i == 0)) e next fault c.loop-i.invariant)

pub push_elements-returns-in_err-push_mark : goal.push_elements-returns-in_err-push_mark
push_elements-returns-in_err-push_mark g t c =
    let l = c.args.list in
    memory (elements_text c.args.left (style_of c.args.indent) (schema_of (nodes_of l.set.now)) (ty_of l.element_type) (list_seen g.A.ReaderArena.segments l.source)) c.args.out.now.items _ c.from_residual-in_err-push_mark.result c.from_residual-in_err-push_mark.ensures.1

pub push_elements-returns-in_err-push_value : goal.push_elements-returns-in_err-push_value
push_elements-returns-in_err-push_value g t c =
    let l = c.args.list in
    let s = schema_of (nodes_of l.set.now) in
    let ty = ty_of l.element_type in
    let v = list_seen g.A.ReaderArena.segments l.source in
    let style = style_of c.args.indent in
    let left = c.args.left in
    let i = c.loop-i.i in
    let more : v.count - i ≡ suc (v.count - (i + 1)) = omega (arith, c.loop-i-test.true, c.len-i-end.ensures) in
    let next = element_left s ty v left style i (i + 1) (v.count - i) (v.count - (i + 1)) refl more in
    let e = c.in_err-push_value.field-0.0 in
    let same = shown_same left (style_of c.in_ok-deeper.deeper) (inner style) (shown g.A.ReaderArena.segments c.in_ok-value.value) (element_shown s ty v i) c.in_ok-deeper.ensures.style c.in_ok-value.ensures in
    let fault : IsTextRefused (text_or_fault left (inner style) (element_shown s ty v i)) e = subst (λ (z : Text). IsTextRefused z e) same c.in_err-push_value.ensures in
    refused (elements_text left style s ty v) c.args.out.now.items c.push_value.new.out.items c.from_residual-in_err-push_value.result e c.from_residual-in_err-push_value.ensures.1
    (goes_wrong (elements_text left style s ty v) (ElementsLeft s ty v left style i (v.count - i)) (text_or_fault left (inner style) (element_shown s ty v i)) (ElementsLeft s ty v left style (i + 1) (v.count - (i + 1))) c.args.out.now.items c.loop-i.out.items (item_mark style (i == 0)) e next fault c.loop-i.invariant)

pub push_elements-loop-i-smaller : goal.push_elements-loop-i-smaller
push_elements-loop-i-smaller g t c = omega (arith, c.loop-i-test.true)

pub push_elements-loop-i-preserved : goal.push_elements-loop-i-preserved
push_elements-loop-i-preserved g t c =
    let l = c.args.list in
    let s = schema_of (nodes_of l.set.now) in
    let ty = ty_of l.element_type in
    let v = list_seen g.A.ReaderArena.segments l.source in
    let style = style_of c.args.indent in
    let left = c.args.left in
    let i = c.loop-i.i in
    let more : v.count - i ≡ suc (v.count - (i + 1)) = omega (arith, c.loop-i-test.true, c.len-i-end.ensures) in
    let next = element_left s ty v left style i (i + 1) (v.count - i) (v.count - (i + 1)) refl more in
    let same = shown_same left (style_of c.in_ok-deeper.deeper) (inner style) (shown g.A.ReaderArena.segments c.in_ok-value.value) (element_shown s ty v i) c.in_ok-deeper.ensures.style c.in_ok-value.ensures in
    let a = c.in_ok-push_value.ensures in
    goes_on (elements_text left style s ty v) (ElementsLeft s ty v left style i (v.count - i)) (text_or_fault left (inner style) (element_shown s ty v i)) (ElementsLeft s ty v left style (i + 1) (v.count - (i + 1))) c.args.out.now.items c.loop-i.out.items c.push_mark.new.out.items c.push_value.new.out.items (item_mark style (i == 0))
    next c.in_ok-push_mark.ensures (a.0, sym same ∙ a.1, a.2) c.loop-i.invariant

pub push_elements-returns : goal.push_elements-returns
push_elements-returns g t c =
    let l = c.args.list in
    let s = schema_of (nodes_of l.set.now) in
    let ty = ty_of l.element_type in
    let v = list_seen g.A.ReaderArena.segments l.source in
    let past : v.count - c.loop-i.i ≡ 0 = omega (arith, c.loop-i-test.false, c.len-i-end.ensures) in
    ends (elements_text c.args.left (style_of c.args.indent) s ty v) (ElementsLeft s ty v c.args.left (style_of c.args.indent) c.loop-i.i (v.count - c.loop-i.i)) c.args.out.now.items c.loop-i.out.items c.loop-i.invariant (no_elements_left s ty v c.args.left (style_of c.args.indent) c.loop-i.i (v.count - c.loop-i.i) past)

-- ---- members, entered or not
