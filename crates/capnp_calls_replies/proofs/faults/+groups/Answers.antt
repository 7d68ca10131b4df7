use Rattle.std.proofs.Common.{rules, ◌≡◌, ℕ, suc, ◌+◌, ◌<◌, Option, Some, None, option_map, sym, ap, subst, ◌∙◌, arith}
use Rattle.capnp_model.specs.Kinds.{Kind}
use Rattle.capnp_model.specs.Readings.{record_as}
use Rattle.capnp_model.specs.Groups.{or_else}
use Rattle.capnp_units.specs.Errors.{kind_of}
use Rattle.capnp_wire.specs.Views.{StructView, seen_struct}
use Rattle.capnp_values_queries.specs.Fields.{field_count}
use Rattle.capnp_values_queries.specs.Structs.{schema_around, shape_of_struct, fields_of_struct}
use Rattle.capnp_values_queries.specs.Handles.{entry_of_field}
use Rattle.capnp_values_queries.specs.declared.structs.StructSchema.{StructSchema}
use Rattle.capnp_values.specs.Records.{reading_at_index}
use Rattle.capnp_values.specs.Standing.{IsRecord}
use Rattle.capnp_calls.proofs.lemmas.ClearedGroups.{depth_of_fields, depth_of_entry, depth_of_group}
use Rattle.capnp_calls_replies.proofs.GroupFaults.{other, same, fault_from, from_first, none_past, one_more, none_told, first_turn, both_turns, inner_fault, out_of_turn, not_active, turned}
use Rattle.capnp_calls_replies.proofs.faults.+groups.Goals as goal

-- ---- entry_fault

pub entry_fault-returns-then-is_member-members : goal.entry_fault-returns-then-is_member-members
entry_fault-returns-then-is_member-members g t c e r at rec = out_of_turn c.args.members e (reading_at_index c.args.field.index r) (λ h. other c.is_member.result c.args.members c.if-is_member-members.true (c.is_member.ensures e at ∙ h))

pub entry_fault-returns-then-not-is_active : goal.entry_fault-returns-then-not-is_active
entry_fault-returns-then-not-is_active g t c e r at rec =
    let f = c.args.field in
    let seen = subst (λ (v : StructView). IsRecord (schema_around f.parent) (shape_of_struct f.parent) v (record_as r)) (sym c.new-reader.ensures.source) rec in
    not_active c.args.members e (reading_at_index f.index r) (sym (c.is_active.ensures e r at seen) ∙ c.if-not-is_active.true)

pub entry_fault-group_fault-requires : goal.entry_fault-group_fault-requires
entry_fault-group_fault-requires g t c κs within =
    let less = depth_of_entry (fields_of_struct c.args.field.parent) c.args.field.index in
    let depth = depth_of_group (entry_of_field c.args.field) (shape_of_struct c.in-Some.inner) c.in-Some.ensures.0 in
    search rules

pub entry_fault-returns-in-Some : goal.entry_fault-returns-in-Some
entry_fault-returns-in-Some g t c e r at rec =
    let f = c.args.field in
    let v = seen_struct g.A.ReaderArena.segments c.args.source in
    let k = option_map kind_of c.group_fault.result in
    let seen = subst (λ (w : StructView). IsRecord (schema_around f.parent) (shape_of_struct f.parent) w (record_as r)) (sym c.new-reader.ensures.source) rec in
    let live = sym (c.is_active.ensures e r at seen) ∙ c.if-not-is_active.false in
    turned c.args.members e (reading_at_index f.index r) k (sym (c.is_member.ensures e at) ∙ same c.is_member.result c.args.members c.if-is_member-members.false) live
    (inner_fault f c.in-Some.inner v c.args.members k e r c.in-Some.ensures.0 c.in-Some.ensures.1 c.group_fault.ensures at rec live)

pub entry_fault-returns-in-None : goal.entry_fault-returns-in-None
entry_fault-returns-in-None g t c e r at rec =
    let f = c.args.field in
    let seen = subst (λ (w : StructView). IsRecord (schema_around f.parent) (shape_of_struct f.parent) w (record_as r)) (sym c.new-reader.ensures.source) rec in
    let live = sym (c.is_active.ensures e r at seen) ∙ c.if-not-is_active.false in
    turned c.args.members e (reading_at_index f.index r) (option_map kind_of c.slot_fault.result) (sym (c.is_member.ensures e at) ∙ same c.is_member.result c.args.members c.if-is_member-members.false) live
    (c.slot_fault.ensures e r at seen live (c.in-None.ensures e at))

-- ---- fields_fault

pub fields_fault-loop-i-init : goal.fields_fault-loop-i-init
fields_fault-loop-i-init g t c r rec = from_first c.args.members (fields_of_struct c.args.schema) r

pub fields_fault-returns-in-Some : goal.fields_fault-returns-in-Some
fields_fault-returns-in-Some g t c r rec =
    let root = c.args.schema in
    let i = c.loop-i.i in
    let below : i < c.len-i-end.result = search rules in
    let inside : i < field_count (fields_of_struct root) = subst (λ (n : ℕ). i < n) (c.len-i-end.ensures ∙ ap (λ (x : StructSchema). field_count (fields_of_struct x)) c.in-Ok.ensures) below in
    sym (one_more c.get.result root (seen_struct g.A.ReaderArena.segments c.args.source) c.args.members i (Some (kind_of c.in-Some.kind)) (c.get.ensures.parent ∙ c.in-Ok.ensures) c.get.ensures.index inside c.in-Some.ensures c.loop-i.invariant r rec)

pub fields_fault-loop-i-preserved : goal.fields_fault-loop-i-preserved
fields_fault-loop-i-preserved g t c r rec =
    let root = c.args.schema in
    let i = c.loop-i.i in
    let members = c.args.members in
    let below : i < c.len-i-end.result = search rules in
    let inside : i < field_count (fields_of_struct root) = subst (λ (n : ℕ). i < n) (c.len-i-end.ensures ∙ ap (λ (x : StructSchema). field_count (fields_of_struct x)) c.in-Ok.ensures) below in
    let next : suc i ≡ i + 1 = omega arith in
    one_more c.get.result root (seen_struct g.A.ReaderArena.segments c.args.source) members i (option_map kind_of c.entry_fault.result) (c.get.ensures.parent ∙ c.in-Ok.ensures) c.get.ensures.index inside c.entry_fault.ensures c.loop-i.invariant r rec
    ∙ ap (λ (k : Option Kind). or_else k (fault_from (suc i) members (fields_of_struct root) r)) (none_told c.entry_fault.result c.in_default-entry_fault.not-Some)
    ∙ ap (λ (n : ℕ). fault_from n members (fields_of_struct root) r) next

pub fields_fault-returns-after-loop-i : goal.fields_fault-returns-after-loop-i
fields_fault-returns-after-loop-i g t c r rec =
    let root = c.args.schema in
    let all : c.loop-i.i ≡ c.len-i-end.result = search rules in
    none_past c.args.members c.loop-i.i (fields_of_struct root) r (all ∙ c.len-i-end.ensures ∙ ap (λ (x : StructSchema). field_count (fields_of_struct x)) c.in-Ok.ensures) ∙ sym (c.loop-i.invariant r rec)

-- ---- group_fault

pub group_fault-fields_fault-requires : goal.group_fault-fields_fault-requires
group_fault-fields_fault-requires g t c κs within = let less = depth_of_fields (shape_of_struct c.args.schema) in search rules

pub group_fault-fields_fault-requires-in-None : goal.group_fault-fields_fault-requires-in-None
group_fault-fields_fault-requires-in-None g t c κs within = let less = depth_of_fields (shape_of_struct c.args.schema) in search rules

pub group_fault-returns-in-Some : goal.group_fault-returns-in-Some
group_fault-returns-in-Some g t c r rec = first_turn (shape_of_struct c.args.schema) r (kind_of c.in-Some.kind) (c.in-Some.ensures r rec)

pub group_fault-returns-in-None : goal.group_fault-returns-in-None
group_fault-returns-in-None g t c r rec =
    both_turns (shape_of_struct c.args.schema) r None (option_map kind_of c.fields_fault-in-None.result) (c.in-None.ensures r rec) (c.fields_fault-in-None.ensures r rec)
