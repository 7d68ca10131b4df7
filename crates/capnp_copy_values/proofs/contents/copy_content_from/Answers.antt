use Rattle.std.proofs.Common.{◌+◌, ℕ, Ok, Err, min, subst, arith}
use Rattle.std.proofs.lemmas.Result.{err_from_is_err_and}
use Rattle.capnp_model.specs.Sections.{number_of}
use Rattle.capnp_model.specs.Segments.{Segments, Place}
use Rattle.capnp_model.specs.Traversal.{tree_at, each}
use Rattle.capnp_model.specs.Coverage.{from_each}
use Rattle.capnp_model.specs.Visits.{visits}
use Rattle.capnp_units.specs.Segments.{words_in}
use Rattle.capnp_wire_objects.specs.Places.{place_view}
use Rattle.capnp_copy_arenas.proofs.lemmas.RoomLaws.{sizes_grow, still_some}
use Rattle.capnp_copy_values.specs.Copies.{IsStoppedOr, struct_source, copy_source}
use Rattle.capnp_copy_values.specs.Contents.{TakesContent, TakesPart}
use Rattle.capnp_copy_values.proofs.Parts.{front_there}
use Rattle.capnp_copy_values.proofs.Refusals.{refused_is}
use Rattle.capnp_copy_values.proofs.TakenContent.{content_refused, content_copied}
use Rattle.capnp_copy_arenas.specs.Refusals.{IsSizeOrRefusal}
use Rattle.capnp_copy_values.proofs.Told.{told_err}
use Rattle.capnp_model.specs.Sizes.{each_object_words}
use Rattle.capnp_copy_arenas.specs.States.{state_in}
use Rattle.capnp_copy_values.specs.Fits.{FitsWhereRoom, HasLongList, limited_arena, wanted}
use Rattle.capnp_copy_values.proofs.Fitting.{fits_err, fits_after, fits_kept}
use Rattle.capnp_copy_values.proofs.contents.copy_content_from.Goals as goal

pub fill_row-requires-clause-there : goal.fill_row-requires-clause-there
fill_row-requires-clause-there g c =
    let s : Segments = words_in (g.A.ReaderArena.segments c.args.arena.now) in
    let m : Segments = words_in (g.A.ReaderArena.segments c.copy_data_from.new.arena) in
    let r : Place = place_view c.args.object.start in
    let least = c.min-shared.ensures in
    let all = still_some s m r (c.args.object.data_words + c.args.object.pointers) (sizes_grow s m c.copy_data_from.ensures.sizes) c.requires.there in
    front_there m r (c.args.object.data_words + c.args.object.pointers) all (c.args.object.data_words + c.min-shared.result) (omega (arith, least))

pub returns-in_err-fill_row-clause-content : goal.returns-in_err-fill_row-clause-content
returns-in_err-fill_row-clause-content g c =
    let from : Segments = words_in (g.B.ReaderArena.segments c.args.source.now) in
    let s : Segments = words_in (g.A.ReaderArena.segments c.args.arena.now) in
    let m : Segments = words_in (g.A.ReaderArena.segments c.copy_data_from.new.arena) in
    let u : Segments = words_in (g.A.ReaderArena.segments c.fill_row.new.arena) in
    let n = c.args.levels in
    let k = min c.args.pointers c.args.object.pointers in
    let r = err_from_is_err_and c.from_residual.result c.from_residual.ensures.1 in
    let e = c.in_err-fill_row.field-0.0 in
    refused_is from (each (tree_at n from) (place_view c.args.first) (min c.args.pointers c.args.object.pointers)) (from_each (visits n from) (place_view c.args.first) (min c.args.pointers c.args.object.pointers)) (TakesContent n s u c.args.object (number_of 8 c.args.section.now)) (TakesPart (copy_source n from (struct_source c.args.section.now c.args.first c.args.pointers)) s u c.args.object) s u c.args.limiter.now c.fill_row.new.limiter c.from_residual.result r.0 e r.1 r.2
    (content_refused n from (struct_source c.args.section.now c.args.first c.args.pointers) s m u c.args.object c.min-shared.result c.args.limiter.now c.fill_row.new.limiter e c.min-shared.ensures c.copy_data_from.ensures.section c.copy_data_from.ensures.sizes c.in_err-fill_row.ensures.copy)

pub returns-clause-content : goal.returns-clause-content
returns-clause-content g c =
    let from : Segments = words_in (g.B.ReaderArena.segments c.args.source.now) in
    let s : Segments = words_in (g.A.ReaderArena.segments c.args.arena.now) in
    let m : Segments = words_in (g.A.ReaderArena.segments c.copy_data_from.new.arena) in
    let u : Segments = words_in (g.A.ReaderArena.segments c.fill_row.new.arena) in
    let v : Segments = words_in (g.A.ReaderArena.segments c.clear_rest.new.arena) in
    content_copied c.args.levels from (struct_source c.args.section.now c.args.first c.args.pointers) s m u v c.args.object c.min-shared.result c.args.limiter.now c.fill_row.new.limiter c.min-shared.ensures c.copy_data_from.ensures.section c.copy_data_from.ensures.sizes c.in_ok-fill_row.ensures.copy c.clear_rest.ensures.rest c.clear_rest.ensures.sizes

pub returns-in_err-fill_row-clause-cause : goal.returns-in_err-fill_row-clause-cause
returns-in_err-fill_row-clause-cause g c =
    let from : Segments = words_in (g.B.ReaderArena.segments c.args.source.now) in
    let r = err_from_is_err_and c.from_residual.result c.from_residual.ensures.1 in
    let e = c.in_err-fill_row.field-0.0 in
    let told : IsStoppedOr (from_each (visits c.args.levels from) (place_view c.args.first) (min c.args.pointers c.args.object.pointers)) c.args.limiter.now c.fill_row.new.limiter (IsSizeOrRefusal g.A.BuilderArena.refuses) (Err e) = subst (λ (k : ℕ). IsStoppedOr (from_each (visits c.args.levels from) (place_view c.args.first) k) c.args.limiter.now c.fill_row.new.limiter (IsSizeOrRefusal g.A.BuilderArena.refuses) (Err e)) c.min-shared.ensures c.in_err-fill_row.ensures.cause in
    told_err (from_each (visits c.args.levels from) (place_view c.args.first) (min c.args.pointers c.args.object.pointers)) c.args.limiter.now c.fill_row.new.limiter (IsSizeOrRefusal g.A.BuilderArena.refuses) c.from_residual.result r.0 e r.1 r.2 told

pub returns-in_err-fill_row-clause-fits : goal.returns-in_err-fill_row-clause-fits
returns-in_err-fill_row-clause-fits g c =
    let from : Segments = words_in (g.B.ReaderArena.segments c.args.source.now) in
    let n = c.args.levels in
    let q : Place = place_view c.args.first in
    let r = err_from_is_err_and c.from_residual.result c.from_residual.ensures.1 in
    let e = c.in_err-fill_row.field-0.0 in
    let seg = c.args.object.start.segment in
    let fits = subst (λ (k : ℕ). FitsWhereRoom (each (tree_at n from) q k) (from_each (visits n from) q k) (wanted each_object_words (HasLongList from) seg) (limited_arena (state_in g.A.ReaderArena.segments g.A.BuilderArena.room g.A.BuilderArena.books c.copy_data_from.new.arena) c.args.limiter.now) (Err e) (limited_arena (state_in g.A.ReaderArena.segments g.A.BuilderArena.room g.A.BuilderArena.books c.fill_row.new.arena) c.fill_row.new.limiter)) c.min-shared.ensures c.in_err-fill_row.ensures.fits in
    fits_err each_object_words (each (tree_at n from) q (min c.args.pointers c.args.object.pointers)) (from_each (visits n from) q (min c.args.pointers c.args.object.pointers)) (HasLongList from) seg (state_in g.A.ReaderArena.segments g.A.BuilderArena.room g.A.BuilderArena.books c.args.arena.now) (state_in g.A.ReaderArena.segments g.A.BuilderArena.room g.A.BuilderArena.books c.fill_row.new.arena) c.args.limiter.now c.fill_row.new.limiter c.from_residual.result r.0 e r.1 r.2
    (fits_after each_object_words (each (tree_at n from) q (min c.args.pointers c.args.object.pointers)) (from_each (visits n from) q (min c.args.pointers c.args.object.pointers)) (HasLongList from) seg (state_in g.A.ReaderArena.segments g.A.BuilderArena.room g.A.BuilderArena.books c.args.arena.now) (state_in g.A.ReaderArena.segments g.A.BuilderArena.room g.A.BuilderArena.books c.copy_data_from.new.arena) (state_in g.A.ReaderArena.segments g.A.BuilderArena.room g.A.BuilderArena.books c.fill_row.new.arena) c.args.limiter.now c.fill_row.new.limiter (Err e) c.copy_data_from.ensures.sizes c.copy_data_from.ensures.room fits)

pub returns-clause-fits : goal.returns-clause-fits
returns-clause-fits g c =
    let from : Segments = words_in (g.B.ReaderArena.segments c.args.source.now) in
    let n = c.args.levels in
    let q : Place = place_view c.args.first in
    let seg = c.args.object.start.segment in
    let there = each (tree_at n from) q (min c.args.pointers c.args.object.pointers) in
    let path = from_each (visits n from) q (min c.args.pointers c.args.object.pointers) in
    let fits = subst (λ (k : ℕ). FitsWhereRoom (each (tree_at n from) q k) (from_each (visits n from) q k) (wanted each_object_words (HasLongList from) seg) (limited_arena (state_in g.A.ReaderArena.segments g.A.BuilderArena.room g.A.BuilderArena.books c.copy_data_from.new.arena) c.args.limiter.now) (Ok tt) (limited_arena (state_in g.A.ReaderArena.segments g.A.BuilderArena.room g.A.BuilderArena.books c.fill_row.new.arena) c.fill_row.new.limiter)) c.min-shared.ensures c.in_ok-fill_row.ensures.fits in
    fits_kept each_object_words there path (HasLongList from) seg (state_in g.A.ReaderArena.segments g.A.BuilderArena.room g.A.BuilderArena.books c.args.arena.now) (state_in g.A.ReaderArena.segments g.A.BuilderArena.room g.A.BuilderArena.books c.fill_row.new.arena) (state_in g.A.ReaderArena.segments g.A.BuilderArena.room g.A.BuilderArena.books c.clear_rest.new.arena) c.args.limiter.now c.fill_row.new.limiter c.clear_rest.ensures.sizes c.clear_rest.ensures.room
    (fits_after each_object_words there path (HasLongList from) seg (state_in g.A.ReaderArena.segments g.A.BuilderArena.room g.A.BuilderArena.books c.args.arena.now) (state_in g.A.ReaderArena.segments g.A.BuilderArena.room g.A.BuilderArena.books c.copy_data_from.new.arena) (state_in g.A.ReaderArena.segments g.A.BuilderArena.room g.A.BuilderArena.books c.fill_row.new.arena) c.args.limiter.now c.fill_row.new.limiter (Ok tt) c.copy_data_from.ensures.sizes c.copy_data_from.ensures.room fits)
