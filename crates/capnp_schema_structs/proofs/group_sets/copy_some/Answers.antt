-- A pointer that is refused, or copied and then marked.
use Rattle.std.proofs.Common.{not, ◌≡◌, true, ◌∙◌, ap, Err, inl, inr, refl, sym, subst}
use Rattle.std.proofs.lemmas.Result.{err_from_is_err_and}
use Rattle.capnp_model.specs.Schemas.{pointer_slot}
use Rattle.capnp_units.specs.Segments.{words_in}
use Rattle.capnp_wire_objects.specs.Places.{place_view}
use Rattle.capnp_records.specs.NodeViews.{field_of}
use Rattle.capnp_values_queries.specs.Types.{ty_of}
use Rattle.capnp_copy_arenas.proofs.lemmas.RoomLaws.{sizes_grow}
use Rattle.capnp_model_writes.proofs.lemmas.Algebra.{changes_nothing}
use Rattle.capnp_model_writes.proofs.lemmas.Spans.{grows_then}
use Rattle.capnp_schema_structs.specs.GroupSets.{copied_field}
use Rattle.capnp_schema_structs.proofs.lemmas.Ready.{slot_there}
use Rattle.capnp_schema_structs.proofs.lemmas.Grown.{there_grown}
use Rattle.capnp_schema_structs.proofs.lemmas.AnyEdits.{far_refused, far_err}
use Rattle.capnp_schema_structs.proofs.CopiedFields.{pointer_field}
use Rattle.capnp_wire.specs.Views.{StructView, seen_struct}
use Rattle.capnp_values.specs.Shown.{ShowsField}
use Rattle.capnp_schema_structs.proofs.FieldRefusals.{read_refused}
use Rattle.capnp_values_queries.specs.Structs.{schema_around}
use Rattle.capnp_wire.specs.Views.{pointer_field as pointer_seen}
use Rattle.capnp_model.specs.Trees.{is_null, child}
use Rattle.capnp_model.specs.Readings.{read}
use Rattle.capnp_schema_structs.proofs.NullRefusals.{behind_pointer, is_behind}
use Rattle.capnp_schema_structs.proofs.Faultless.{untaken, unreadable, some_faultless}
use Rattle.capnp_schema_structs.proofs.group_sets.copy_some.Goals as goal

pub returns-in_err-test_type-clause-writes : goal.returns-in_err-test_type-clause-writes
returns-in_err-test_type-clause-writes g c from is =
    let s = words_in (g.A.ReaderArena.segments c.args.arena.now) in
    let h = err_from_is_err_and c.from_residual.result c.from_residual.ensures.1 in
    far_err c.from_residual.result s s c.args.object (copied_field c.args.field from) h.0 c.in_err-test_type.field-0.0 h.1 h.2 (far_refused s s c.args.object (copied_field c.args.field from) c.in_err-test_type.field-0.0 (changes_nothing s (λ q. 0)))

pub returns-in_err-get-clause-writes : goal.returns-in_err-get-clause-writes
returns-in_err-get-clause-writes g c from is =
    let s = words_in (g.A.ReaderArena.segments c.args.arena.now) in
    let h = err_from_is_err_and c.from_residual-in_err-get.result c.from_residual-in_err-get.ensures.1 in
    far_err c.from_residual-in_err-get.result s s c.args.object (copied_field c.args.field from) h.0 c.in_err-get.field-0.0 h.1 h.2 (far_refused s s c.args.object (copied_field c.args.field from) c.in_err-get.field-0.0 (changes_nothing s (λ q. 0)))

pub copy_child-requires-clause-there : goal.copy_child-requires-clause-there
copy_child-requires-clause-there g c =
    let p = c.args.object in
    let s = words_in (g.A.ReaderArena.segments c.args.arena.now) in
    slot_there s p c.args.index (place_view c.pointer_place.result) c.requires.inside.1 c.pointer_place.ensures.place c.requires.there

pub mark-requires-clause-there : goal.mark-requires-clause-there
mark-requires-clause-there g c =
    let s = words_in (g.A.ReaderArena.segments c.args.arena.now) in
    let m = words_in (g.A.ReaderArena.segments c.copy_child.new.arena) in
    there_grown s m c.args.object c.copy_child.ensures.stands.grows c.requires.there

pub returns-in_err-copy_child-clause-writes : goal.returns-in_err-copy_child-clause-writes
returns-in_err-copy_child-clause-writes g c from is =
    let s = words_in (g.A.ReaderArena.segments c.args.arena.now) in
    let m = words_in (g.A.ReaderArena.segments c.copy_child.new.arena) in
    let h = err_from_is_err_and c.from_residual-in_err-copy_child.result c.from_residual-in_err-copy_child.ensures.1 in
    far_err c.from_residual-in_err-copy_child.result s m c.args.object (copied_field c.args.field from) h.0 c.in_err-copy_child.field-0.0 h.1 h.2 (far_refused s m c.args.object (copied_field c.args.field from) c.in_err-copy_child.field-0.0 c.in_err-copy_child.ensures.stands.refused)

pub returns-in_err-copy_child-clause-grows : goal.returns-in_err-copy_child-clause-grows
returns-in_err-copy_child-clause-grows g c = c.copy_child.ensures.stands.grows

pub returns-clause-writes : goal.returns-clause-writes
returns-clause-writes g c from is =
    let slot = c.requires.slot in
    let i = c.args.index in
    let ty = ty_of c.args.ty in
    let s = words_in (g.A.ReaderArena.segments c.args.arena.now) in
    let m = words_in (g.A.ReaderArena.segments c.copy_child.new.arena) in
    let u = words_in (g.A.ReaderArena.segments c.mark.new.arena) in
    let put = c.in_ok-copy_child.ensures.puts from is in
    pointer_field c.args.field (field_of c.get_proto-said.result.now) c.get_proto-said.ensures (pointer_slot i ty slot.0) slot.1 from s m u c.args.object tt i ty slot.0 (place_view c.pointer_place.result) refl
    put.0 c.requires.inside.1 c.pointer_place.ensures.place put.1 c.mark.ensures.edits

pub returns-clause-grows : goal.returns-clause-grows
returns-clause-grows g c =
    let s = words_in (g.A.ReaderArena.segments c.args.arena.now) in
    let m = words_in (g.A.ReaderArena.segments c.copy_child.new.arena) in
    let u = words_in (g.A.ReaderArena.segments c.mark.new.arena) in
    grows_then s m u c.copy_child.ensures.stands.grows (sizes_grow m u c.mark.ensures.sizes)

pub returns-in_err-test_type-clause-why : goal.returns-in_err-test_type-clause-why
returns-in_err-test_type-clause-why g c =
    let h = err_from_is_err_and c.from_residual.result c.from_residual.ensures.1 in
    rw (h.1, h.2) (inl (sym c.in_err-test_type.ensures))

pub returns-in_err-get-clause-why : goal.returns-in_err-get-clause-why
returns-in_err-get-clause-why g c =
    let h = err_from_is_err_and c.from_residual-in_err-get.result c.from_residual-in_err-get.ensures.1 in
    let bytes = g.B.ReaderArena.segments in
    let e = c.in_err-get.field-0.0 in
    let shows = subst (λ (v : StructView). ShowsField bytes v c.args.field (Err e)) c.new.ensures.source c.in_err-get.ensures in
    rw (h.1, h.2) (inr (inl (read_refused bytes c.args.field (seen_struct bytes c.args.source.now) c.args.index (ty_of c.args.ty) c.requires.slot.0 c.requires.slot.1 c.requires.some e shows)))

pub returns-in_err-copy_child-clause-why : goal.returns-in_err-copy_child-clause-why
returns-in_err-copy_child-clause-why g c =
    let h = err_from_is_err_and c.from_residual-in_err-copy_child.result c.from_residual-in_err-copy_child.ensures.1 in
    rw (h.1, h.2) (inr (inr c.in_err-copy_child.ensures.why))

-- ---- where nothing has a fault

pub returns-in_err-test_type-clause-cause : goal.returns-in_err-test_type-clause-cause
returns-in_err-test_type-clause-cause g c from stands =
    let slot = c.requires.slot in
    let h = err_from_is_err_and c.from_residual.result c.from_residual.ensures.1 in
    let i = c.args.index in
    let ty = ty_of c.args.ty in
    let v = seen_struct g.B.ReaderArena.segments c.args.source.now in
    let some : not (is_null (child from.kids i)) ≡ true = ap not (sym (c.nulls_are_read.ensures stands.0 (pointer_seen v i) (child from.kids i) (stands.1.children i)) ∙ c.requires.some) in
    rw (h.1, h.2) (λ free. absurd (untaken ty _ (read (schema_around c.args.field.parent) (child from.kids i) ty) (sym c.in_err-test_type.ensures) (some_faultless c.args.field (field_of c.get_proto-said.result.now) c.get_proto-said.ensures (pointer_slot i ty slot.0) slot.1 from i ty slot.0 refl some free)))

pub returns-in_err-get-clause-cause : goal.returns-in_err-get-clause-cause
returns-in_err-get-clause-cause g c from stands =
    let slot = c.requires.slot in
    let h = err_from_is_err_and c.from_residual-in_err-get.result c.from_residual-in_err-get.ensures.1 in
    let bytes = g.B.ReaderArena.segments in
    let e = c.in_err-get.field-0.0 in
    let i = c.args.index in
    let ty = ty_of c.args.ty in
    let v = seen_struct bytes c.args.source.now in
    let shows = subst (λ (v : StructView). ShowsField bytes v c.args.field (Err e)) c.new.ensures.source c.in_err-get.ensures in
    let unread = read_refused bytes c.args.field v i ty slot.0 slot.1 c.requires.some e shows in
    let behind = is_behind ty (behind_pointer c.args.field (field_of c.get_proto-said.result.now) c.get_proto-said.ensures i ty slot.0 slot.1) in
    let some : not (is_null (child from.kids i)) ≡ true = ap not (sym (c.nulls_are_read.ensures stands.0 (pointer_seen v i) (child from.kids i) (stands.1.children i)) ∙ c.requires.some) in
    rw (h.1, h.2) (λ free. absurd (unreadable c.pointers_are_read.ensures stands.0 v i (child from.kids i) (schema_around c.args.field.parent) ty _ behind (stands.1.children i) unread (some_faultless c.args.field (field_of c.get_proto-said.result.now) c.get_proto-said.ensures (pointer_slot i ty slot.0) slot.1 from i ty slot.0 refl some free)))

pub returns-in_err-copy_child-clause-cause : goal.returns-in_err-copy_child-clause-cause
returns-in_err-copy_child-clause-cause g c from stands =
    let h = err_from_is_err_and c.from_residual-in_err-copy_child.result c.from_residual-in_err-copy_child.ensures.1 in
    rw (h.1, h.2) (λ free. c.in_err-copy_child.ensures.cause stands.0 (child from.kids c.args.index) (stands.1.children c.args.index))
