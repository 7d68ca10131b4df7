-- A copy, a refusal, or what a value without pointers makes.
use Rattle.std.proofs.Common.{false, Err, sym, ap, ◌∙◌}
use Rattle.std.specs.Prelude.{option_map}
use Rattle.capnp_model.specs.Calls.{refused_by}
use Rattle.capnp_model.specs.Schemas.{struct, group_slot}
use Rattle.capnp_units.specs.Errors.{kind_of}
use Rattle.capnp_units.specs.Segments.{words_in}
use Rattle.capnp_records.specs.NodeViews.{field_of}
use Rattle.capnp_model_writes.proofs.lemmas.Algebra.{changes_nothing}
use Rattle.capnp_model_writes.proofs.lemmas.Spans.{grows_same}
use Rattle.capnp_copy_arenas.specs.Refusals.{IsSizeOrRefusal}
use Rattle.capnp_layout_builders.specs.Making.{state_of}
use Rattle.capnp_values.specs.Sources.{struct_seen}
use Rattle.capnp_values_queries.specs.Fields.{shape_id}
use Rattle.capnp_values_queries.specs.Structs.{shape_of_struct}
use Rattle.capnp_values_queries.specs.Handles.{entry_of_field}
use Rattle.capnp_values_queries.specs.Types.{ty_of}
use Rattle.capnp_schema_structs.specs.Sources.{source_view, source_given}
use Rattle.capnp_schema_structs.specs.Values.{made, fields, struct_given, group_refusal, value_given}
use Rattle.capnp_schema_structs.proofs.AnyValues.{leaves_of, leaves_group, fields_given, group_refused, group_type, given_puts, none_given, told, flat_behind, flat_elsewhere, flat_puts}
use Rattle.capnp_schema_structs.proofs.lemmas.GroupFields.{slot_inside}
use Rattle.capnp_schema_structs.proofs.lemmas.Sources.{words_stand}
use Rattle.capnp_schema_structs.proofs.values.set_value.Goals as goal

pub set_source-requires-clause-index : goal.set_source-requires-clause-index
set_source-requires-clause-index g c =
    let p = c.args.object in
    slot_inside c.args.field (field_of c.get_proto-said.result.now) c.get_proto-said.ensures p c.in-Pointer.index c.in-Pointer.ty c.in-Pointer.default c.in-Pointer.ensures.body c.requires.inside

pub returns-in-Some-clause-leaves : goal.returns-in-Some-clause-leaves
returns-in-Some-clause-leaves g c =
    leaves_of (value_given g.B.ReaderArena.segments c.args.value.now (entry_of_field c.args.field)) (words_in (g.A.ReaderArena.segments c.args.memory.now.arena)) (words_in (g.A.ReaderArena.segments c.set_source.new.memory.arena)) c.set_source.result c.set_source.ensures.stands

pub returns-then-is_untyped_capability-clause-leaves : goal.returns-then-is_untyped_capability-clause-leaves
returns-then-is_untyped_capability-clause-leaves g c =
    let s = words_in (g.A.ReaderArena.segments c.args.memory.now.arena) in
    leaves_of (value_given g.B.ReaderArena.segments c.args.value.now (entry_of_field c.args.field)) s s (Err c.from.result) (record { grows = grows_same s; refused = changes_nothing s (λ q. 0) })

pub returns-else-is_untyped_capability-clause-puts : goal.returns-else-is_untyped_capability-clause-puts
returns-else-is_untyped_capability-clause-puts g c =
    let at = state_of g.A.ReaderArena.segments g.A.BuilderArena.room g.A.BuilderArena.books in
    let bytes = g.B.ReaderArena.segments in
    let none = none_given (source_view bytes) c.source_for.result (source_given bytes c.args.value.now (ty_of c.in-Pointer.ty)) c.source_for.ensures.given c.in_default-source_for.is in
    let plain = told c.is_untyped_capability.result _ false c.is_untyped_capability.ensures c.if-is_untyped_capability.false in
    flat_puts bytes c.args.value.now (at c.args.memory.now) (at (record { arena = c.set_flat.new.arena })) c.args.object c.args.field c.set_flat.result (IsSizeOrRefusal g.A.BuilderArena.refuses)
    (flat_behind bytes c.args.value.now (entry_of_field c.args.field) c.in-Pointer.index (ty_of c.in-Pointer.ty) _ c.in-Pointer.ensures.body none plain) c.set_flat.ensures.puts c.set_flat.ensures.cause

pub returns-else-is_untyped_capability-clause-leaves : goal.returns-else-is_untyped_capability-clause-leaves
returns-else-is_untyped_capability-clause-leaves g c =
    let a = g.A.ReaderArena.segments c.args.memory.now.arena in
    let b = g.A.ReaderArena.segments c.set_flat.new.arena in
    leaves_of (value_given g.B.ReaderArena.segments c.args.value.now (entry_of_field c.args.field)) (words_in a) (words_in b) c.set_flat.result (words_stand a b c.set_flat.result c.set_flat.ensures.grows c.set_flat.ensures.refused)

pub returns-in_default-clause-puts : goal.returns-in_default-clause-puts
returns-in_default-clause-puts g c =
    let at = state_of g.A.ReaderArena.segments g.A.BuilderArena.room g.A.BuilderArena.books in
    let bytes = g.B.ReaderArena.segments in
    flat_puts bytes c.args.value.now (at c.args.memory.now) (at (record { arena = c.set_flat-in_default.new.arena })) c.args.object c.args.field c.set_flat-in_default.result (IsSizeOrRefusal g.A.BuilderArena.refuses)
    (flat_elsewhere bytes c.args.value.now (entry_of_field c.args.field) c.place.result c.place.ensures.body c.in_default.not-Pointer c.in_default.not-Group) c.set_flat-in_default.ensures.puts c.set_flat-in_default.ensures.cause

pub returns-in_default-clause-leaves : goal.returns-in_default-clause-leaves
returns-in_default-clause-leaves g c =
    let a = g.A.ReaderArena.segments c.args.memory.now.arena in
    let b = g.A.ReaderArena.segments c.set_flat-in_default.new.arena in
    leaves_of (value_given g.B.ReaderArena.segments c.args.value.now (entry_of_field c.args.field)) (words_in a) (words_in b) c.set_flat-in_default.result (words_stand a b c.set_flat-in_default.result c.set_flat-in_default.ensures.grows c.set_flat-in_default.ensures.refused)

-- ---- groups

pub returns-in_default-struct_for-clause-puts : goal.returns-in_default-struct_for-clause-puts
returns-in_default-struct_for-clause-puts g c =
    let at = state_of g.A.ReaderArena.segments g.A.BuilderArena.room g.A.BuilderArena.books in
    let bytes = g.B.ReaderArena.segments in
    let v = c.args.value.now in
    let f = c.args.field in
    let own = shape_of_struct c.in-Group.schema in
    let ty = group_type (entry_of_field f) (group_slot own) (ty_of c.get_type.result) c.in-Group.ensures.body c.get_type.ensures.ty in
    let none = none_given (struct_seen bytes) c.struct_for.result (struct_given bytes v (struct (shape_id own))) (c.struct_for.ensures.given ∙ ap (struct_given bytes v) ty) c.in_default-struct_for.is in
    given_puts bytes v (IsSizeOrRefusal g.A.BuilderArena.refuses) (at c.args.memory.now) (at c.args.memory.now) c.args.object f (made (refused_by (group_refusal v))) (Err c.from-in_default-struct_for.result)
    (group_refused bytes v (entry_of_field f) own c.in-Group.ensures.body none) (ap (λ k. Err k) (ap kind_of c.from-in_default-struct_for.ensures ∙ c.group_refusal.ensures), tt)

pub returns-in_default-struct_for-clause-leaves : goal.returns-in_default-struct_for-clause-leaves
returns-in_default-struct_for-clause-leaves g c =
    let s = words_in (g.A.ReaderArena.segments c.args.memory.now.arena) in
    leaves_of (value_given g.B.ReaderArena.segments c.args.value.now (entry_of_field c.args.field)) s s (Err c.from-in_default-struct_for.result) (record { grows = grows_same s; refused = changes_nothing s (λ q. 0) })

pub returns-in-Some-struct_for-clause-puts : goal.returns-in-Some-struct_for-clause-puts
returns-in-Some-struct_for-clause-puts g c =
    let at = state_of g.A.ReaderArena.segments g.A.BuilderArena.room g.A.BuilderArena.books in
    let bytes = g.B.ReaderArena.segments in
    let v = c.args.value.now in
    let f = c.args.field in
    let own = shape_of_struct c.in-Group.schema in
    let x = struct_seen bytes c.in-Some-struct_for.source in
    let ty = group_type (entry_of_field f) (group_slot own) (ty_of c.get_type.result) c.in-Group.ensures.body c.get_type.ensures.ty in
    let some = sym (c.struct_for.ensures.given ∙ ap (struct_given bytes v) ty) ∙ ap (option_map (struct_seen bytes)) c.in-Some-struct_for.is in
    given_puts bytes v (IsSizeOrRefusal g.A.BuilderArena.refuses) (at c.args.memory.now) (at (record { arena = c.set_group.new.arena })) c.args.object f (fields x) c.set_group.result
    (fields_given bytes v (entry_of_field f) own x c.in-Group.ensures.body some) c.set_group.ensures.sets

pub returns-in-Some-struct_for-clause-leaves : goal.returns-in-Some-struct_for-clause-leaves
returns-in-Some-struct_for-clause-leaves g c =
    let bytes = g.B.ReaderArena.segments in
    let v = c.args.value.now in
    let f = c.args.field in
    let own = shape_of_struct c.in-Group.schema in
    let x = struct_seen bytes c.in-Some-struct_for.source in
    let s = words_in (g.A.ReaderArena.segments c.args.memory.now.arena) in
    let u = words_in (g.A.ReaderArena.segments c.set_group.new.arena) in
    let ty = group_type (entry_of_field f) (group_slot own) (ty_of c.get_type.result) c.in-Group.ensures.body c.get_type.ensures.ty in
    let some = sym (c.struct_for.ensures.given ∙ ap (struct_given bytes v) ty) ∙ ap (option_map (struct_seen bytes)) c.in-Some-struct_for.is in
    leaves_group (value_given bytes v (entry_of_field f)) x s u c.set_group.result (fields_given bytes v (entry_of_field f) own x c.in-Group.ensures.body some) c.set_group.ensures.grows
