use Rattle.std.proofs.lemmas.Result.{err_from_is_err_and}
use Rattle.capnp_units.specs.Segments.{words_in}
use Rattle.capnp_wire_objects.specs.Places.{place_view}
use Rattle.capnp_model_writes.proofs.lemmas.Spans.{grows_then}
use Rattle.capnp_copy_arenas.proofs.lemmas.RoomLaws.{sizes_grow}
use Rattle.capnp_schema_structs.specs.Edits.{marked}
use Rattle.capnp_schema_structs.specs.Sources.{source_view, EditsWithin}
use Rattle.capnp_schema_structs.specs.Values.{tree_edit}
use Rattle.capnp_schema_structs.proofs.lemmas.Grown.{there_grown}
use Rattle.capnp_schema_structs.proofs.lemmas.Sources.{source_grows, source_stands, if_refused, source_put, source_refused, child_put}
use Rattle.capnp_schema_structs.proofs.AnyValues.{field_put}
use Rattle.capnp_schema_structs.proofs.values.set_source.Goals as goal

pub mark-requires-clause-there : goal.mark-requires-clause-there
mark-requires-clause-there g c =
    let s = words_in (g.A.ReaderArena.segments c.args.memory.now.arena) in
    let m = words_in (g.A.ReaderArena.segments c.put_source.new.memory.arena) in
    there_grown s m c.args.object (source_grows (source_view g.B.ReaderArena.segments c.args.source) s m (place_view c.pointer_place.result) _ c.in_ok-put_source.ensures.copy) c.requires.there

pub returns-clause-puts : goal.returns-clause-puts
returns-clause-puts g c =
    let p = c.args.object in
    let f = c.args.field in
    let s = words_in (g.A.ReaderArena.segments c.args.memory.now.arena) in
    let m = words_in (g.A.ReaderArena.segments c.put_source.new.memory.arena) in
    let u = words_in (g.A.ReaderArena.segments c.mark.new.arena) in
    let q = place_view c.pointer_place.result in
    source_put s m u q c.mark.ensures.sizes (λ n t. EditsWithin n s u p (tree_edit f t))
    (λ n t b. child_put s m u p c.args.index q c.requires.index c.pointer_place.ensures.place (marked f) c.mark.ensures.edits (tree_edit f) (field_put f c.args.index c.requires.slot) n t b)
    (source_view g.B.ReaderArena.segments c.args.source) _ c.in_ok-put_source.ensures.copy

pub returns-clause-stands : goal.returns-clause-stands
returns-clause-stands g c =
    let s = words_in (g.A.ReaderArena.segments c.args.memory.now.arena) in
    let m = words_in (g.A.ReaderArena.segments c.put_source.new.memory.arena) in
    let u = words_in (g.A.ReaderArena.segments c.mark.new.arena) in
    record {
      grows = grows_then s m u (source_grows (source_view g.B.ReaderArena.segments c.args.source) s m (place_view c.pointer_place.result) _ c.in_ok-put_source.ensures.copy) (sizes_grow m u c.mark.ensures.sizes);
      refused = tt;
    }

pub returns-in_err-put_source-clause-puts : goal.returns-in_err-put_source-clause-puts
returns-in_err-put_source-clause-puts g c =
    let p = c.args.object in
    let s = words_in (g.A.ReaderArena.segments c.args.memory.now.arena) in
    let u = words_in (g.A.ReaderArena.segments c.put_source.new.memory.arena) in
    let h = err_from_is_err_and c.from_residual.result c.from_residual.ensures.1 in
    rw (h.1, h.2) (source_refused (source_view g.B.ReaderArena.segments c.args.source) s u (place_view c.pointer_place.result) (λ n t. EditsWithin n s u p (tree_edit c.args.field t)) c.in_err-put_source.field-0.0 c.in_err-put_source.ensures.copy)

pub returns-in_err-put_source-clause-stands : goal.returns-in_err-put_source-clause-stands
returns-in_err-put_source-clause-stands g c =
    let s = words_in (g.A.ReaderArena.segments c.args.memory.now.arena) in
    let u = words_in (g.A.ReaderArena.segments c.put_source.new.memory.arena) in
    let kept = source_stands (source_view g.B.ReaderArena.segments c.args.source) s u (place_view c.pointer_place.result) c.in_err-put_source.field-0.0 c.in_err-put_source.ensures.copy in
    record { grows = kept.grows; refused = if_refused c.from_residual.result kept }
