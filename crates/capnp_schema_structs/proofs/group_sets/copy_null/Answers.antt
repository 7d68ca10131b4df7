-- A null pointer that is left, refused, or put as what it counts as and then marked.
use Rattle.std.proofs.Common.{refl, sym, ap, subst, ◌∙◌}
use Rattle.std.proofs.lemmas.Result.{err_from_is_err_and}
use Rattle.std.specs.Prelude.{option_map, option_copied}
use Rattle.capnp_model.specs.Accepted.{schema_of}
use Rattle.capnp_model.specs.Groups.{source_tree}
use Rattle.capnp_model.specs.Schemas.{pointer_slot, default_or_null}
use Rattle.capnp_model.specs.Readings.{null_pointer}
use Rattle.capnp_model.specs.Trees.{null}
use Rattle.capnp_units.specs.Segments.{words_in}
use Rattle.capnp_wire_objects.specs.Places.{place_view}
use Rattle.capnp_records.specs.NodeViews.{field_of, value_of}
use Rattle.capnp_values_queries.specs.Structs.{nodes_around}
use Rattle.capnp_values_queries.specs.Types.{ty_of}
use Rattle.capnp_copy_arenas.proofs.lemmas.RoomLaws.{sizes_grow}
use Rattle.capnp_model_writes.proofs.lemmas.Algebra.{changes_nothing}
use Rattle.capnp_model_writes.proofs.lemmas.Spans.{grows_then}
use Rattle.capnp_copy_arenas.specs.Refusals.{IsSizeOrRefusal}
use Rattle.capnp_copy_arenas.specs.States.{state_in}
use Rattle.capnp_schema_structs.specs.GroupRefusals.{NotPut}
use Rattle.capnp_schema_structs.specs.GroupSets.{PutsAny, null_tree, copied_field}
use Rattle.capnp_schema_structs.proofs.Marks.{member_none, member_there}
use Rattle.capnp_schema_structs.proofs.lemmas.Ready.{slot_there}
use Rattle.capnp_schema_structs.proofs.lemmas.Grown.{there_grown}
use Rattle.capnp_schema_structs.proofs.lemmas.AnyEdits.{far_refused, far_err}
use Rattle.capnp_schema_structs.proofs.CopiedFields.{null_field, member_field}
use Rattle.capnp_schema_structs.proofs.NullRefusals.{null_untaken, null_unplaced, null_told}
use Rattle.capnp_schema_structs.proofs.Faultless.{untaken, null_faultless}
use Rattle.capnp_schema_structs.proofs.group_sets.copy_null.Goals as goal

pub returns-then-said-clause-writes : goal.returns-then-said-clause-writes
returns-then-said-clause-writes g c from empty =
    let slot = c.requires.slot.0 in
    let i = c.args.index in
    let ty = ty_of c.args.ty in
    let s = words_in (g.A.ReaderArena.segments c.args.arena.now) in
    null_field c.args.field (field_of c.get_proto-said.result.now) c.get_proto-said.ensures (pointer_slot i ty slot.0) slot.1 from s s s c.args.object tt i ty slot.0 refl
    (member_none c.get_proto-said.result.now.discriminant_value c.if-said.true) empty

pub returns-in_err-test_type-clause-writes : goal.returns-in_err-test_type-clause-writes
returns-in_err-test_type-clause-writes g c from empty =
    let s = words_in (g.A.ReaderArena.segments c.args.arena.now) in
    let h = err_from_is_err_and c.from_residual.result c.from_residual.ensures.1 in
    far_err c.from_residual.result s s c.args.object (copied_field c.args.field from) h.0 c.in_err-test_type.field-0.0 h.1 h.2 (far_refused s s c.args.object (copied_field c.args.field from) c.in_err-test_type.field-0.0 (changes_nothing s (λ q. 0)))

pub put_null-requires-clause-there : goal.put_null-requires-clause-there
put_null-requires-clause-there g c =
    let p = c.args.object in
    let s = words_in (g.A.ReaderArena.segments c.args.arena.now) in
    slot_there s p c.args.index (place_view c.pointer_place-slot.result) c.requires.inside.1 c.pointer_place-slot.ensures.place c.requires.there

pub put_null-requires-clause-readable : goal.put_null-requires-clause-readable
put_null-requires-clause-readable g c =
    let slot = c.requires.slot.0 in
    (c.default_value.ensures c.args.index (ty_of c.args.ty) slot.0 slot.1).readable

pub mark-requires-clause-there : goal.mark-requires-clause-there
mark-requires-clause-there g c =
    let s = words_in (g.A.ReaderArena.segments c.args.arena.now) in
    let m = words_in (g.A.ReaderArena.segments c.put_null.new.arena) in
    there_grown s m c.args.object c.put_null.ensures.stands.grows c.requires.there

pub returns-in_err-put_null-clause-writes : goal.returns-in_err-put_null-clause-writes
returns-in_err-put_null-clause-writes g c from empty =
    let s = words_in (g.A.ReaderArena.segments c.args.arena.now) in
    let m = words_in (g.A.ReaderArena.segments c.put_null.new.arena) in
    let h = err_from_is_err_and c.from_residual-in_err-put_null.result c.from_residual-in_err-put_null.ensures.1 in
    far_err c.from_residual-in_err-put_null.result s m c.args.object (copied_field c.args.field from) h.0 c.in_err-put_null.field-0.0 h.1 h.2 (far_refused s m c.args.object (copied_field c.args.field from) c.in_err-put_null.field-0.0 c.in_err-put_null.ensures.stands.refused)

pub returns-in_err-put_null-clause-grows : goal.returns-in_err-put_null-clause-grows
returns-in_err-put_null-clause-grows g c = c.put_null.ensures.stands.grows

pub returns-clause-writes : goal.returns-clause-writes
returns-clause-writes g c from empty =
    let slot = c.requires.slot.0 in
    let f = c.args.field in
    let i = c.args.index in
    let ty = ty_of c.args.ty in
    let s = words_in (g.A.ReaderArena.segments c.args.arena.now) in
    let m = words_in (g.A.ReaderArena.segments c.put_null.new.arena) in
    let u = words_in (g.A.ReaderArena.segments c.mark.new.arena) in
    let q = place_view c.pointer_place-slot.result in
    let k = c.get_proto-said.result.now.discriminant_value in
    let nodes = c.set.ensures ∙ ap nodes_around c.parent.ensures in
    let value = (c.default_value.ensures i ty slot.0 slot.1).value in
    let put = subst (λ o. PutsAny s m q (source_tree (schema_of (nodes_around f.parent)) ty (default_or_null o) null)) value
    (subst (λ ns. PutsAny s m q (null_tree (schema_of ns) ty (option_map value_of (option_copied c.default_value.result)))) nodes c.in_ok-put_null.ensures.puts) in
    member_field f (field_of c.get_proto-said.result.now) c.get_proto-said.ensures (pointer_slot i ty slot.0) slot.1 from s m u c.args.object tt i ty slot.0 q k refl
    (member_there k c.if-said.false) empty c.requires.inside.1 c.pointer_place-slot.ensures.place put c.mark.ensures.edits

pub returns-clause-grows : goal.returns-clause-grows
returns-clause-grows g c =
    let s = words_in (g.A.ReaderArena.segments c.args.arena.now) in
    let m = words_in (g.A.ReaderArena.segments c.put_null.new.arena) in
    let u = words_in (g.A.ReaderArena.segments c.mark.new.arena) in
    grows_then s m u c.put_null.ensures.stands.grows (sizes_grow m u c.mark.ensures.sizes)

pub returns-in_err-test_type-clause-why : goal.returns-in_err-test_type-clause-why
returns-in_err-test_type-clause-why g c =
    let slot = c.requires.slot.0 in
    let h = err_from_is_err_and c.from_residual.result c.from_residual.ensures.1 in
    rw (h.1, h.2) (null_untaken (IsSizeOrRefusal g.A.BuilderArena.refuses) c.args.field c.args.index (ty_of c.args.ty) slot.0 slot.1 c.in_err-test_type.field-0.0 (words_in (g.A.ReaderArena.segments c.args.arena.now)) (sym c.in_err-test_type.ensures))

pub returns-in_err-put_null-clause-why : goal.returns-in_err-put_null-clause-why
returns-in_err-put_null-clause-why g c =
    let h = err_from_is_err_and c.from_residual-in_err-put_null.result c.from_residual-in_err-put_null.ensures.1 in
    let at = state_in g.A.ReaderArena.segments g.A.BuilderArena.room g.A.BuilderArena.books in
    let old = at c.args.arena.now in
    let new = at c.put_null.new.arena in
    let slot = c.requires.slot.0 in
    let f = c.args.field in
    let i = c.args.index in
    let ty = ty_of c.args.ty in
    let e = c.in_err-put_null.field-0.0 in
    let at_segment = c.pointer_place-slot.result.segment in
    let nodes = c.set.ensures ∙ ap nodes_around c.parent.ensures in
    let value = (c.default_value.ensures i ty slot.0 slot.1).value in
    let why = subst (λ o. NotPut (IsSizeOrRefusal g.A.BuilderArena.refuses) old new at_segment (source_tree (schema_of (nodes_around f.parent)) ty (default_or_null o) null) e) value
    (subst (λ ns. NotPut (IsSizeOrRefusal g.A.BuilderArena.refuses) old new at_segment (null_tree (schema_of ns) ty (option_map value_of (option_copied c.default_value.result))) e) nodes c.in_err-put_null.ensures.why) in
    rw (h.1, h.2) (null_unplaced (IsSizeOrRefusal g.A.BuilderArena.refuses) f i ty slot.0 slot.1 e (field_of c.get_proto-said.result.now) c.get_proto-said.ensures (sym c.in_ok-test_type.ensures) old new at_segment why)

-- ---- where nothing has a fault

pub returns-in_err-test_type-clause-cause : goal.returns-in_err-test_type-clause-cause
returns-in_err-test_type-clause-cause g c from empty =
    let slot = c.requires.slot.0 in
    let h = err_from_is_err_and c.from_residual.result c.from_residual.ensures.1 in
    let k = c.get_proto-said.result.now.discriminant_value in
    let i = c.args.index in
    let ty = ty_of c.args.ty in
    rw (h.1, h.2) (λ free. absurd (untaken ty _ null_pointer (sym c.in_err-test_type.ensures) (null_faultless c.args.field (field_of c.get_proto-said.result.now) c.get_proto-said.ensures (pointer_slot i ty slot.0) slot.1 from i ty slot.0 k refl (member_there k c.if-said.false) empty free)))

pub returns-in_err-put_null-clause-cause : goal.returns-in_err-put_null-clause-cause
returns-in_err-put_null-clause-cause g c from empty =
    let h = err_from_is_err_and c.from_residual-in_err-put_null.result c.from_residual-in_err-put_null.ensures.1 in
    let at = state_in g.A.ReaderArena.segments g.A.BuilderArena.room g.A.BuilderArena.books in
    let old = at c.args.arena.now in
    let new = at c.put_null.new.arena in
    let slot = c.requires.slot.0 in
    let f = c.args.field in
    let i = c.args.index in
    let ty = ty_of c.args.ty in
    let e = c.in_err-put_null.field-0.0 in
    let at_segment = c.pointer_place-slot.result.segment in
    let nodes = c.set.ensures ∙ ap nodes_around c.parent.ensures in
    let value = (c.default_value.ensures i ty slot.0 slot.1).value in
    let why = subst (λ o. NotPut (IsSizeOrRefusal g.A.BuilderArena.refuses) old new at_segment (source_tree (schema_of (nodes_around f.parent)) ty (default_or_null o) null) e) value
    (subst (λ ns. NotPut (IsSizeOrRefusal g.A.BuilderArena.refuses) old new at_segment (null_tree (schema_of ns) ty (option_map value_of (option_copied c.default_value.result))) e) nodes c.in_err-put_null.ensures.why) in
    rw (h.1, h.2) (λ free. null_told (IsSizeOrRefusal g.A.BuilderArena.refuses) f i ty slot.0 slot.1 e (field_of c.get_proto-said.result.now) c.get_proto-said.ensures (sym c.in_ok-test_type.ensures) old new at_segment why)
