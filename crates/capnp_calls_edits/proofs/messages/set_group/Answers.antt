use Rattle.std.proofs.Common.{Some, ap, subst, refl, arith, ◌∙◌}
use Rattle.std.specs.Prelude.{IsSome}
use Rattle.capnp_model.specs.Decoding.{decode}
use Rattle.capnp_model.specs.Schemas.{default_or_null}
use Rattle.capnp_units.specs.Segments.{words_in}
use Rattle.capnp_wire.specs.Levels.{level_below}
use Rattle.capnp_wire.specs.Views.{Ground, PointerView}
use Rattle.capnp_copy_values.specs.Defaults.{default_segments}
use Rattle.capnp_calls.specs.Messages.{tree_of_message}
use Rattle.capnp_schema_structs.proofs.lemmas.Ready.{areas_inside}
use Rattle.capnp_schema_structs.specs.GroupSets.{HoldsDefault}
use Rattle.std.proofs.lemmas.Result.{err_from_is_err_and}
use Rattle.capnp_copy_arenas.specs.Refusals.{IsSizeOrRefusal}
use Rattle.capnp_model.specs.Calls.{set_to, message}
use Rattle.capnp_values_queries.specs.Structs.{schema_around}
use Rattle.capnp_schema_structs.specs.GroupWrites.{in_words}
use Rattle.capnp_schema_structs.specs.GroupFaults.{IsFieldFaultless}
use Rattle.capnp_calls_edits.specs.Written.{WhereFieldTakes}
use Rattle.capnp_calls_edits.proofs.Claims.{on_err}
use Rattle.capnp_calls_edits.proofs.ClaimsMessages.{root_got, root_stands, field_struct, field_faultless}
use Rattle.capnp_calls_edits.proofs.GroupRoots.{root_behind, group_set}
use Rattle.capnp_calls_edits.proofs.messages.set_group.Goals as goal

pub set_fields-requires-clause-inside : goal.set_fields-requires-clause-inside
set_fields-requires-clause-inside g c = areas_inside c.args.field.parent c.args.object c.requires.wide

pub returns-clause-writes : goal.returns-clause-writes
returns-clause-writes g c =
    let t = tree_of_message c.args.value.now in
    let ws = c.words_of.result.now in
    let holds = subst (λ bs. IsSome (decode bs) → HoldsDefault ws (default_or_null (decode bs))) c.segment.ensures c.words_of.ensures.value c.args.value.now.readable in
    let gives = c.in_ok-root.ensures in
    let segments = ap (λ (x : PointerView). x.basis.segments) c.at.ensures ∙ ap (λ (x : Ground). x.segments) c.default_backing-backing.ensures in
    let level = ap (λ (x : PointerView). level_below x.levels) c.at.ensures in
    let x = root_behind c.gets_are_readings.ensures.structs _ (default_segments ws) (Some 2147483646) (ap (λ (x : PointerView). x.place) c.at.ensures) segments level t holds gives.0 gives.1 _ gives.3 in
    let s = words_in (g.A.ReaderArena.segments c.args.arena.now) in
    let u = words_in (g.A.ReaderArena.segments c.set_fields.new.arena) in
    group_set c.groups_set_by_writes.ensures.whole x.from t x.words x.root c.args.field c.requires.group.0 c.requires.group.1 s u c.args.object c.set_fields.result (c.set_fields.ensures.sets.writes (in_words x.from) x.source)

pub returns-in_err-root-clause-cause : goal.returns-in_err-root-clause-cause
returns-in_err-root-clause-cause g c =
    let f = c.args.field in
    let t = tree_of_message c.args.value.now in
    let ws = c.words_of.result.now in
    let holds = subst (λ bs. IsSome (decode bs) → HoldsDefault ws (default_or_null (decode bs))) c.segment.ensures c.words_of.ensures.value c.args.value.now.readable in
    let segments = ap (λ (x : PointerView). x.basis.segments) c.at.ensures ∙ ap (λ (x : Ground). x.segments) c.default_backing-backing.ensures in
    let levels = ap (λ (x : PointerView). x.levels) c.at.ensures in
    let h = err_from_is_err_and c.from_residual.result c.from_residual.ensures.1 in
    rw (h.1, h.2) (λ cell is_done. absurd (root_got c.gets_are_readings.ensures.structs _ (default_segments ws) 2147483646 (ap (λ (x : PointerView). x.place) c.at.ensures) segments levels refl t holds (schema_around f.parent)
    (field_struct f c.requires.group.0 c.requires.group.1 t cell is_done) c.new-unlimited.result _ c.in_err-root.field-0.0 c.new-unlimited.ensures.left c.in_err-root.ensures))

pub returns-clause-cause : goal.returns-clause-cause
returns-clause-cause g c =
    let f = c.args.field in
    let t = tree_of_message c.args.value.now in
    let ws = c.words_of.result.now in
    let holds = subst (λ bs. IsSome (decode bs) → HoldsDefault ws (default_or_null (decode bs))) c.segment.ensures c.words_of.ensures.value c.args.value.now.readable in
    let gives = c.in_ok-root.ensures in
    let segments = ap (λ (x : PointerView). x.basis.segments) c.at.ensures ∙ ap (λ (x : Ground). x.segments) c.default_backing-backing.ensures in
    let levels = ap (λ (x : PointerView). x.levels) c.at.ensures in
    let x = root_stands c.gets_are_readings.ensures.structs _ (default_segments ws) 2147483646 (ap (λ (x : PointerView). x.place) c.at.ensures) segments levels refl t holds (omega arith) gives.0 gives.1 _ gives.3 in
    on_err c.set_fields.result (λ e. IsFieldFaultless f (in_words x.from) → IsSizeOrRefusal g.A.BuilderArena.refuses e) (λ e. WhereFieldTakes f (set_to (message t)) (IsSizeOrRefusal g.A.BuilderArena.refuses e))
    (λ e told cell is_done. told (field_faultless f c.requires.group.0 c.requires.group.1 t cell x.words x.from x.root_is is_done)) (c.set_fields.ensures.sets.cause (in_words x.from) x.stands)
