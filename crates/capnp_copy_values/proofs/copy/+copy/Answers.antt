-- What each step makes, keeps and pays.
use Rattle.std.proofs.Common.{◌≡◌, ℕ, ◌+◌, ◌-◌, ◌*◌, ◌%◌, ◌^◌, ◌<◌, ◌≤◌, true, [], ◌∷◌, length, map, replicate, Some, Ok, Err, refl, ap, sym, ◌∙◌, subst, inl, inr, arith, rules}
use Rattle.std.specs.Option.{is_some}
use Rattle.std.proofs.lemmas.Result.{err_from_is_err_and}
use Rattle.capnp_model.specs.Sections.{section_of, words_for}
use Rattle.capnp_model.specs.Segments.{Segments, Place, after, words_at}
use Rattle.capnp_model.specs.Trees.{Tree, structure, plain_list, pointer_list, struct_list}
use Rattle.capnp_model.specs.Traversal.{tree_at, each, each_element}
use Rattle.capnp_model.specs.Coverage.{Grows, from_each, from_elements, span}
use Rattle.capnp_model.specs.Encoding.{struct_pointer}
use Rattle.capnp_model.specs.Visits.{visits}
use Rattle.capnp_units.specs.Segments.{words_in}
use Rattle.capnp_units.specs.Sizes.{size_number, data_bits}
use Rattle.capnp_wire_objects.specs.Places.{place_view}
use Rattle.capnp_wire_objects.specs.Objects.{IsInside}
use Rattle.capnp_wire_objects.specs.Inside.{tree_in, met_in, section_at, words_there}
use Rattle.capnp_wire_objects.specs.declared.object.Object.{Object}
use Rattle.capnp_wire_objects.specs.declared.object.Object.TheVariants as object
use Rattle.capnp_wire_objects.proofs.lemmas.Walks.{walked_none}
use Rattle.capnp_model_writes.specs.Writes.{with_words}
use Rattle.capnp_model_writes.proofs.lemmas.Rows.{after_sum}
use Rattle.capnp_model_writes.proofs.lemmas.Splices.{splice_grows}
use Rattle.capnp_copy_arenas.specs.Clearing.{ClearsObject}
use Rattle.capnp_copy_arenas.specs.Rooms.{begin_of, linked}
use Rattle.capnp_copy_arenas.proofs.lemmas.RoomLaws.{word_there, sizes_grow, still_some, room_addressed, room_grows, room_pad, pad_stays, room_near}
use Rattle.capnp_copy_values.specs.Copies.{BecomesCopy, GrowsByZeros, Copied, Refused, Fills, FillsRow, LeavesRow, FillsElements, LeavesElements, copy_source, limited_words, sized_at}
use Rattle.capnp_copy_values.specs.Objects.{copied_words, most_counted, copied_at, copied_pointer}
use Rattle.capnp_copy_values.proofs.Parts.{section_is, part_there, front_there, part_is}
use Rattle.capnp_copy_values.proofs.Allocated.{room_new}
use Rattle.capnp_copy_values.proofs.Following.{stopped_at, leaf_copied, deep_at, leaf_put}
use Rattle.capnp_copy_values.proofs.Counting.{stopped_few, copy_few}
use Rattle.capnp_copy_values.proofs.Refusals.{refused_is}
use Rattle.capnp_copy_values.proofs.Rows.{row_begun, row_next, row_stopped, row_ended}
use Rattle.capnp_copy_values.proofs.Elements.{elements_begun, elements_next, elements_stopped, elements_ended, elements_at_once, element_within}
use Rattle.capnp_copy_values.proofs.Made.{struct_copied, struct_fills, pointers_fill, list_fills, structs_fill}
use Rattle.capnp_copy_arenas.specs.Allocations.{total_words}
use Rattle.capnp_copy_values.proofs.Taking.{total_alike, written_total, takes_none}
use Rattle.capnp_copy_values.proofs.Placed.{stopped_gives, copied_object, refused_object, no_room, object_refused, with_visit, new_fits, leaf_is, no_leaf, leaf_filled, FillGives}
use Rattle.capnp_copy_arenas.specs.Refusals.{IsSizeOrRefusal}
use Rattle.capnp_copy_values.specs.Copies.{IsStoppedOr}
use Rattle.capnp_copy_values.proofs.Told.{told_err, deep_told, row_told, elements_told}
use Rattle.capnp_model.specs.Sizes.{object_words, each_object_words}
use Rattle.capnp_copy_arenas.specs.States.{state_in}
use Rattle.capnp_copy_arenas.proofs.lemmas.Taken.{linked_sizes}
use Rattle.capnp_copy_arenas.proofs.lemmas.ZeroedWords.{written_sizes}
use Rattle.capnp_copy_values.specs.Fits.{FitsWhereRoom, HasLongList, IsLong, words_behind, elements_behind, limited_arena, wanted}
use Rattle.capnp_copy_values.proofs.Fitting.{fits_err, fits_after, fits_made, fits_kept, fits_long, leaf_at_fits, leaf_fits, leaf_behind, list_fits, object_own, plain_inside, object_fits, object_lacks, deep_fits}
use Rattle.capnp_copy_values.proofs.FittingRows.{row_fits_begun, row_fits_next, row_fits_stopped, row_fits_ended, elements_fit_begun, elements_fit_next, elements_fit_stopped, elements_fit_ended, plain_elements_fit}
use Rattle.capnp_copy_values.proofs.copy.+copy.Goals as goal

pub copy_from-returns-in_err-object-clause-copy : goal.copy_from-returns-in_err-object-clause-copy
copy_from-returns-in_err-object-clause-copy g t c =
    let from : Segments = words_in (g.B.ReaderArena.segments c.args.source.now) in
    let s : Segments = words_in (g.A.ReaderArena.segments c.args.arena.now) in
    let p : Place = place_view c.args.place in
    let n = c.args.levels in
    let r = err_from_is_err_and c.from_residual.result c.from_residual.ensures.1 in
    refused_is from (tree_at n from p) (visits n from p) (BecomesCopy n s s (place_view c.args.slot)) (GrowsByZeros s s) s s c.args.limiter.now c.follow_within.new.limiter c.from_residual.result r.0 c.in_err-object.field-0.0 r.1 r.2
    (stopped_gives n from p s c.args.limiter.now c.follow_within.new.limiter c.in_err-object.field-0.0 (stopped_at n from p c.args.limiter.now c.follow_within.new.limiter c.in_err-object.field-0.0 c.in_err-object.ensures))

pub copy_from-returns-then-levels-eq0-clause-copy : goal.copy_from-returns-then-levels-eq0-clause-copy
copy_from-returns-then-levels-eq0-clause-copy g t c =
    let from : Segments = words_in (g.B.ReaderArena.segments c.args.source.now) in
    let s : Segments = words_in (g.A.ReaderArena.segments c.args.arena.now) in
    let u : Segments = words_in (g.A.ReaderArena.segments c.put_leaf.new.arena) in
    leaf_copied c.args.levels from (place_view c.args.place) c.in_ok-object.object c.args.limiter.now c.follow_within.new.limiter s u (place_view c.args.slot) c.if-levels-eq0.true c.in_ok-object.ensures.0 c.in_ok-object.ensures.1 c.put_leaf.ensures.becomes (sizes_grow s u c.put_leaf.ensures.sizes) (sym (total_alike s u c.put_leaf.ensures.sizes))

pub copy_from-returns-clause-copy : goal.copy_from-returns-clause-copy
copy_from-returns-clause-copy g t c =
    let from : Segments = words_in (g.B.ReaderArena.segments c.args.source.now) in
    let s : Segments = words_in (g.A.ReaderArena.segments c.args.arena.now) in
    let u : Segments = words_in (g.A.ReaderArena.segments c.copy_object.new.arena) in
    let some = c.if-levels-eq0.false in
    let pays = c.in_ok-object.ensures.0 in
    deep_at c.args.levels (c.args.levels - 1) from (place_view c.args.place) c.in_ok-object.object c.args.limiter.now c.follow_within.new.limiter c.copy_object.new.limiter s u (place_view c.args.slot) c.copy_object.result (omega arith) pays
    (with_visit (c.args.levels - 1) from s u (place_view c.args.slot) (place_view c.args.place) c.in_ok-object.object (tree_in from (tree_at (c.args.levels - 1) from) c.in_ok-object.object) (met_in (visits (c.args.levels - 1) from) c.in_ok-object.object) c.args.limiter.now c.follow_within.new.limiter c.copy_object.new.limiter c.copy_object.result pays c.copy_object.ensures.copy)

pub copy_from-returns-in_err-object-clause-few : goal.copy_from-returns-in_err-object-clause-few
copy_from-returns-in_err-object-clause-few g t c =
    let from : Segments = words_in (g.B.ReaderArena.segments c.args.source.now) in
    let p : Place = place_view c.args.place in
    let e = c.in_err-object.field-0.0 in
    stopped_few c.args.levels from p c.args.limiter.now c.follow_within.new.limiter e (stopped_at c.args.levels from p c.args.limiter.now c.follow_within.new.limiter e c.in_err-object.ensures)

pub copy_from-returns-clause-few : goal.copy_from-returns-clause-few
copy_from-returns-clause-few g t c =
    let from : Segments = words_in (g.B.ReaderArena.segments c.args.source.now) in
    let s : Segments = words_in (g.A.ReaderArena.segments c.args.arena.now) in
    let u : Segments = words_in (g.A.ReaderArena.segments c.copy_object.new.arena) in
    copy_few c.args.levels from (place_view c.args.place) s u (place_view c.args.slot) c.args.limiter.now c.copy_object.new.limiter c.copy_object.result (copy_from-returns-clause-copy g t c)

pub copy_object-returns-in-Null-clause-copy : goal.copy_object-returns-in-Null-clause-copy
copy_object-returns-in-Null-clause-copy g t c =
    let from : Segments = words_in (g.B.ReaderArena.segments c.args.source.now) in
    let s : Segments = words_in (g.A.ReaderArena.segments c.args.arena.now) in
    let u : Segments = words_in (g.A.ReaderArena.segments c.put_leaf.new.arena) in
    let n = c.args.levels in
    leaf_put n (tree_at n from) (visits n from) from c.args.object c.args.limiter.now s u (place_view c.args.slot) (leaf_is c.args.object c.in-Null.is) c.put_leaf.ensures.becomes (sizes_grow s u c.put_leaf.ensures.sizes) (sym (total_alike s u c.put_leaf.ensures.sizes))

pub copy_object-room_for-requires : goal.copy_object-room_for-requires
copy_object-room_for-requires g t c = word_there (words_in (g.A.ReaderArena.segments c.args.arena.now)) (place_view c.args.slot) c.requires.there

pub copy_object-returns-in_err-room : goal.copy_object-returns-in_err-room
copy_object-returns-in_err-room g t c =
    let from : Segments = words_in (g.B.ReaderArena.segments c.args.source.now) in
    let s : Segments = words_in (g.A.ReaderArena.segments c.args.arena.now) in
    let u : Segments = words_in (g.A.ReaderArena.segments c.room_for.new.arena) in
    let n = c.args.levels in
    let o = c.args.object in
    let r = err_from_is_err_and c.from_residual.result c.from_residual.ensures.1 in
    let e = c.in_err-room.field-0.0 in
    record {
      copy = object_refused n from o (tree_in from (tree_at n from) o) (met_in (visits n from) o) s u (place_view c.args.slot) c.args.limiter.now c.args.limiter.now c.from_residual.result r.0 e r.1 r.2
          (no_room from s u o (met_in (visits n from) o) c.args.limiter.now e (ap words_in c.in_err-room.ensures.refused) c.in_err-room.ensures.kind);
      cause = told_err (met_in (visits n from) o) c.args.limiter.now c.args.limiter.now (IsSizeOrRefusal g.A.BuilderArena.refuses) c.from_residual.result r.0 e r.1 r.2 (inr c.in_err-room.ensures.cause);
      fits = fits_err object_words (tree_in from (tree_at n from) o) (met_in (visits n from) o) (IsLong from o) c.args.slot.segment (state_in g.A.ReaderArena.segments g.A.BuilderArena.room g.A.BuilderArena.books c.args.arena.now) (state_in g.A.ReaderArena.segments g.A.BuilderArena.room g.A.BuilderArena.books c.room_for.new.arena) c.args.limiter.now c.args.limiter.now c.from_residual.result r.0 e r.1 r.2
          (object_lacks object_words (tree_in from (tree_at n from) o) (met_in (visits n from) o) (HasLongList from) o c.args.slot.segment (state_in g.A.ReaderArena.segments g.A.BuilderArena.room g.A.BuilderArena.books c.args.arena.now) c.args.limiter.now c.args.limiter.now e (λ t is. let sum = object_own (tree_at n from) from o t (plain_inside from o c.requires.inside) is in omega (arith, sum)) c.in_err-room.ensures.kind c.in_err-room.ensures.full);
      books = c.in_err-room.ensures.books;
    }

pub copy_object-begin_of-start-requires : goal.copy_object-begin_of-start-requires
copy_object-begin_of-start-requires g t c =
    let s : Segments = words_in (g.A.ReaderArena.segments c.args.arena.now) in
    let m : Segments = words_in (g.A.ReaderArena.segments c.room_for.new.arena) in
    record { slot = c.requires.near; room = room_addressed s m (place_view c.args.slot) (copied_words c.args.object) c.in_ok-room.room c.in_ok-room.ensures.ok }

pub copy_object-fill-requires : goal.copy_object-fill-requires
copy_object-fill-requires g t c =
    let s : Segments = words_in (g.A.ReaderArena.segments c.args.arena.now) in
    let m : Segments = words_in (g.A.ReaderArena.segments c.room_for.new.arena) in
    let p : Place = place_view c.args.slot in
    let k = copied_words c.args.object in
    let room = c.in_ok-room.room in
    let begins : place_view c.begin_of-start.result ≡ begin_of p c.in_ok-room.room = c.begin_of-start.ensures in
    let new = room_new s m p (copied_words c.args.object) c.in_ok-room.room c.requires.there c.in_ok-room.ensures.ok in
    let zeros : words_at m (place_view c.begin_of-start.result) (copied_words c.args.object) ≡ Some (replicate (copied_words c.args.object) 0) = subst (λ (q : Place). words_at m q (copied_words c.args.object) ≡ Some (replicate (copied_words c.args.object) 0)) (sym begins) new.zeros in
    let near = room_near s m p (copied_words c.args.object) c.in_ok-room.room c.requires.near c.in_ok-room.ensures.ok in
    let at : c.begin_of-start.result.position ≡ (begin_of p c.in_ok-room.room).position = ap (λ (q : Place). q.position) begins in
    λ κs lives. (omega arith, (lives.0, (lives.1, (zeros, (omega (arith, near, at), (c.in_ok-room.ensures.few, c.requires.inside))))))

pub copy_object-link-requires : goal.copy_object-link-requires
copy_object-link-requires g t c =
    let s : Segments = words_in (g.A.ReaderArena.segments c.args.arena.now) in
    let m : Segments = words_in (g.A.ReaderArena.segments c.room_for.new.arena) in
    let u : Segments = words_in (g.A.ReaderArena.segments c.fill.new.arena) in
    let y : Segments = words_in (g.A.ReaderArena.segments c.clear.new.arena) in
    let p : Place = place_view c.args.slot in
    let room = c.in_ok-room.room in
    let first = room_grows s m p (copied_words c.args.object) c.in_ok-room.room c.in_ok-room.ensures.ok in
    let then = c.in-Ok.ensures.copy.grows in
    let last = sizes_grow u y c.clear.ensures.sizes in
    record {
      slot = still_some u y p 1 last (still_some m u p 1 then (still_some s m p 1 first c.requires.there));
      pad = pad_stays u y room last (pad_stays m u room then (room_pad s m p (copied_words c.args.object) c.in_ok-room.room c.in_ok-room.ensures.ok));
      room = room_addressed s m p (copied_words c.args.object) c.in_ok-room.room c.in_ok-room.ensures.ok;
      offset = c.pointer_word.ensures.offset;
    }

pub copy_object-returns-in-Ok : goal.copy_object-returns-in-Ok
copy_object-returns-in-Ok g t c =
    let from : Segments = words_in (g.B.ReaderArena.segments c.args.source.now) in
    let s : Segments = words_in (g.A.ReaderArena.segments c.args.arena.now) in
    let m : Segments = words_in (g.A.ReaderArena.segments c.room_for.new.arena) in
    let u : Segments = words_in (g.A.ReaderArena.segments c.fill.new.arena) in
    let y : Segments = words_in (g.A.ReaderArena.segments c.clear.new.arena) in
    let z : Segments = words_in (g.A.ReaderArena.segments c.link.new.arena) in
    let p : Place = place_view c.args.slot in
    let n = c.args.levels in
    let o = c.args.object in
    let room = c.in_ok-room.room in
    let begins : place_view c.begin_of-start.result ≡ begin_of p c.in_ok-room.room = c.begin_of-start.ensures in
    let kind = no_leaf c.args.object c.in_default.not-Null c.in_default.not-Capability in
    let filled = subst (λ (r : Place). Copied (tree_in from (tree_at n from) o) (met_in (visits n from) o) (λ v. (j : ℕ) → n ≤ j → Fills j m u (span r (copied_words o)) (copied_at r o) v) (limited_words m c.args.limiter.now) (limited_words u c.fill.new.limiter)) begins c.in-Ok.ensures.copy in
    let now : z ≡ linked y p room (copied_pointer o) = c.link.ensures.words ∙ ap (linked y p room) c.pointer_word.ensures.word in
    record {
      copy = copied_object n s m u y z p o room (tree_in from (tree_at n from) o) (met_in (visits n from) o) c.args.limiter.now c.fill.new.limiter c.requires.there kind c.in_ok-room.ensures.ok (new_fits from o kind c.requires.inside c.in_ok-room.ensures.spelled) filled c.clear.ensures.clears c.clear.ensures.sizes now;
      cause = tt;
      fits = fits_kept object_words (tree_in from (tree_at n from) o) (met_in (visits n from) o) (IsLong from o) c.args.slot.segment (state_in g.A.ReaderArena.segments g.A.BuilderArena.room g.A.BuilderArena.books c.args.arena.now) (state_in g.A.ReaderArena.segments g.A.BuilderArena.room g.A.BuilderArena.books c.fill.new.arena) (state_in g.A.ReaderArena.segments g.A.BuilderArena.room g.A.BuilderArena.books c.link.new.arena) c.args.limiter.now c.fill.new.limiter (ap (λ (x : Segments). map length x) c.link.ensures.words ∙ linked_sizes y p room _ ∙ c.clear.ensures.sizes) (c.link.ensures.room ∙ c.clear.ensures.room)
          (fits_long object_words (tree_in from (tree_at n from) o) (met_in (visits n from) o) (HasLongList from) (IsLong from o) c.args.slot.segment (state_in g.A.ReaderArena.segments g.A.BuilderArena.room g.A.BuilderArena.books c.args.arena.now) (state_in g.A.ReaderArena.segments g.A.BuilderArena.room g.A.BuilderArena.books c.fill.new.arena) c.args.limiter.now c.fill.new.limiter (Ok tt) (λ l. inr l)
          (object_fits object_words words_behind (copied_words o) (tree_in from (tree_at n from) o) (met_in (visits n from) o) (HasLongList from) p room c.begin_of-start.result.segment (state_in g.A.ReaderArena.segments g.A.BuilderArena.room g.A.BuilderArena.books c.args.arena.now) (state_in g.A.ReaderArena.segments g.A.BuilderArena.room g.A.BuilderArena.books c.room_for.new.arena) (state_in g.A.ReaderArena.segments g.A.BuilderArena.room g.A.BuilderArena.books c.fill.new.arena) c.args.limiter.now c.fill.new.limiter (Ok tt) (λ t is. object_own (tree_at n from) from o t (plain_inside from o c.requires.inside) is) c.in_ok-room.ensures.ok c.in_ok-room.ensures.near c.in_ok-room.ensures.left (ap (λ (q : Place). q.segment) begins) c.in-Ok.ensures.fits));
      books = c.link.ensures.books ∙ c.clear.ensures.books ∙ c.in-Ok.ensures.books ∙ c.in_ok-room.ensures.books;
    }

pub copy_object-returns-in-Err : goal.copy_object-returns-in-Err
copy_object-returns-in-Err g t c =
    let from : Segments = words_in (g.B.ReaderArena.segments c.args.source.now) in
    let s : Segments = words_in (g.A.ReaderArena.segments c.args.arena.now) in
    let m : Segments = words_in (g.A.ReaderArena.segments c.room_for.new.arena) in
    let u : Segments = words_in (g.A.ReaderArena.segments c.fill.new.arena) in
    let y : Segments = words_in (g.A.ReaderArena.segments c.clear_object.new.arena) in
    let p : Place = place_view c.args.slot in
    let n = c.args.levels in
    let o = c.args.object in
    let e = c.in-Err.error in
    let begins : place_view c.begin_of-start.result ≡ begin_of p c.in_ok-room.room = c.begin_of-start.ensures in
    let left = subst (λ (r : Place). Refused from (met_in (visits n from) o) ((t : Tree) × Fills n m u (span r (copied_words o)) (copied_at r o) t) (limited_words m c.args.limiter.now) e (limited_words u c.fill.new.limiter)) begins c.in-Err.ensures.copy in
    let clears : ClearsObject u y (copied_at (begin_of p c.in_ok-room.room) o) = subst (λ (r : Place). ClearsObject u y (copied_at r o)) begins (subst (ClearsObject u y) c.copy_at.ensures c.clear_object.ensures.clears) in
    record {
      copy = refused_object n from s m u y p o c.in_ok-room.room (met_in (visits n from) o) c.args.limiter.now c.fill.new.limiter e c.requires.there c.in_ok-room.ensures.ok left clears c.clear_object.ensures.sizes;
      cause = c.in-Err.ensures.cause;
      fits = fits_long object_words (tree_in from (tree_at n from) o) (met_in (visits n from) o) (HasLongList from) (IsLong from o) c.args.slot.segment (state_in g.A.ReaderArena.segments g.A.BuilderArena.room g.A.BuilderArena.books c.args.arena.now) (state_in g.A.ReaderArena.segments g.A.BuilderArena.room g.A.BuilderArena.books c.clear_object.new.arena) c.args.limiter.now c.fill.new.limiter (Err e) (λ l. inr l)
          (object_fits object_words words_behind (copied_words o) (tree_in from (tree_at n from) o) (met_in (visits n from) o) (HasLongList from) p c.in_ok-room.room c.begin_of-start.result.segment (state_in g.A.ReaderArena.segments g.A.BuilderArena.room g.A.BuilderArena.books c.args.arena.now) (state_in g.A.ReaderArena.segments g.A.BuilderArena.room g.A.BuilderArena.books c.room_for.new.arena) (state_in g.A.ReaderArena.segments g.A.BuilderArena.room g.A.BuilderArena.books c.clear_object.new.arena) c.args.limiter.now c.fill.new.limiter (Err e) (λ t is. object_own (tree_at n from) from o t (plain_inside from o c.requires.inside) is) c.in_ok-room.ensures.ok c.in_ok-room.ensures.near c.in_ok-room.ensures.left (ap (λ (q : Place). q.segment) begins) c.in-Err.ensures.fits);
      books = c.clear_object.ensures.books ∙ c.in-Err.ensures.books ∙ c.in_ok-room.ensures.books;
    }

-- ---- by kind

pub fill-returns-in-Null-clause-copy : goal.fill-returns-in-Null-clause-copy
fill-returns-in-Null-clause-copy g t c =
    let from : Segments = words_in (g.B.ReaderArena.segments c.args.source.now) in
    let s : Segments = words_in (g.A.ReaderArena.segments c.args.arena.now) in
    leaf_filled c.args.levels from s (place_view c.args.start) c.args.object c.args.limiter.now (leaf_is c.args.object c.in-Null.is)

pub fill-returns-in-Struct-clause-copy : goal.fill-returns-in-Struct-clause-copy
fill-returns-in-Struct-clause-copy g t c =
    let from : Segments = words_in (g.B.ReaderArena.segments c.args.source.now) in
    let s : Segments = words_in (g.A.ReaderArena.segments c.args.arena.now) in
    let u : Segments = words_in (g.A.ReaderArena.segments c.fill_struct.new.arena) in
    let n = c.args.levels in
    let r : Place = place_view c.args.start in
    let x = c.in-Struct in
    let p : Place = place_view x.from in
    let zeros = subst (λ (o : Object). words_at s r (copied_words o) ≡ Some (replicate (copied_words o) 0)) x.is c.requires.zeros in
    subst (λ (o : Object). FillGives n from s u r o c.args.limiter.now c.fill_struct.result c.fill_struct.new.limiter) (sym x.is)
    (struct_fills n from (each (tree_at n from) (after p x.data_words) x.pointers) (from_each (visits n from) (after p x.data_words) x.pointers) (section_at from p x.data_words) s u r x.data_words x.pointers c.args.limiter.now c.fill_struct.new.limiter c.fill_struct.result zeros c.fill_struct.ensures.copy)

pub fill-returns-in-List-clause-copy : goal.fill-returns-in-List-clause-copy
fill-returns-in-List-clause-copy g t c =
    let from : Segments = words_in (g.B.ReaderArena.segments c.args.source.now) in
    let s : Segments = words_in (g.A.ReaderArena.segments c.args.arena.now) in
    let u : Segments = words_in (g.A.ReaderArena.segments c.copy_words.new.arena) in
    let n = c.args.levels in
    let r : Place = place_view c.args.start in
    let x = c.in-List in
    let p : Place = place_view x.from in
    let size = size_number x.size in
    let k = words_for (data_bits (size_number x.size) * x.count) in
    let zeros = subst (λ (o : Object). words_at s r (copied_words o) ≡ Some (replicate (copied_words o) 0)) x.is c.requires.zeros in
    let inside = subst (IsInside from) x.is c.requires.inside in
    let words : c.words_of_elements-words.result ≡ words_for (data_bits (size_number x.size) * x.count) = c.words_of_elements-words.ensures.words in
    let now : u ≡ with_words s r (words_there from p (words_for (data_bits (size_number x.size) * x.count))) = c.copy_words.ensures.words ∙ ap (λ (j : ℕ). with_words s r (words_there from p j)) words in
    let gives : Copied (tree_in from (tree_at n from) (object.List x.from x.size x.count)) (met_in (visits n from) (object.List x.from x.size x.count)) (λ v. (j : ℕ) → n ≤ j → Fills j s u (span r (words_for (data_bits (size_number x.size) * x.count))) (copied_at r (object.List x.from x.size x.count)) v) (limited_words s c.args.limiter.now) (limited_words u c.args.limiter.now) = record {
      value = plain_list (size_number x.size) x.count (section_at from p (words_for (data_bits (size_number x.size) * x.count)) % 2 ^ (data_bits (size_number x.size) * x.count));
      there_is = refl;
      walked = walked_none c.args.limiter.now;
      grows = subst (λ (v : Segments). Grows s v) (sym now) (splice_grows s r _);
      takes = takes_none s u c.args.limiter.now (ap total_words now ∙ written_total s r _);
      made = λ j h. list_fills j from p s u r (size_number x.size) x.count (words_for (data_bits (size_number x.size) * x.count)) inside.0 refl inside.1.0 zeros now;
    } in
    subst (λ (o : Object). FillGives n from s u r o c.args.limiter.now (Ok tt) c.args.limiter.now) (sym x.is) gives

pub fill-returns-in-PointerList-clause-copy : goal.fill-returns-in-PointerList-clause-copy
fill-returns-in-PointerList-clause-copy g t c =
    let from : Segments = words_in (g.B.ReaderArena.segments c.args.source.now) in
    let s : Segments = words_in (g.A.ReaderArena.segments c.args.arena.now) in
    let u : Segments = words_in (g.A.ReaderArena.segments c.fill_row.new.arena) in
    let n = c.args.levels in
    let r : Place = place_view c.args.start in
    let x = c.in-PointerList in
    let p : Place = place_view x.from in
    let zeros = subst (λ (o : Object). words_at s r (copied_words o) ≡ Some (replicate (copied_words o) 0)) x.is c.requires.zeros in
    subst (λ (o : Object). FillGives n from s u r o c.args.limiter.now c.fill_row.result c.fill_row.new.limiter) (sym x.is)
    (pointers_fill n from p from (each (tree_at n from) p x.count) (from_each (visits n from) p x.count) s u r x.count c.args.limiter.now c.fill_row.new.limiter c.fill_row.result zeros c.fill_row.ensures.copy)

pub fill-returns-in-StructList-clause-copy : goal.fill-returns-in-StructList-clause-copy
fill-returns-in-StructList-clause-copy g t c =
    let from : Segments = words_in (g.B.ReaderArena.segments c.args.source.now) in
    let s : Segments = words_in (g.A.ReaderArena.segments c.args.arena.now) in
    let m : Segments = words_in (g.A.ReaderArena.segments c.write_word.new.self) in
    let u : Segments = words_in (g.A.ReaderArena.segments c.fill_elements.new.arena) in
    let n = c.args.levels in
    let r : Place = place_view c.args.start in
    let x = c.in-StructList in
    let p : Place = place_view x.from in
    let zeros = subst (λ (o : Object). words_at s r (copied_words o) ≡ Some (replicate (copied_words o) 0)) x.is c.requires.zeros in
    let few = subst (λ (o : Object). most_counted o < 2 ^ 29) x.is c.requires.few in
    let now : m ≡ with_words s r (struct_pointer x.count x.data_words x.pointers ∷ []) = c.write_word.ensures.words ∙ ap (λ (w : ℕ). with_words s r (w ∷ [])) c.tag_word.ensures in
    subst (λ (o : Object). FillGives n from s u r o c.args.limiter.now c.fill_elements.result c.fill_elements.new.limiter) (sym x.is)
    (structs_fill n from (each_element (tree_at n from) p (words_there from p x.words) x.data_words x.pointers x.count) (from_elements (visits n from) p x.data_words x.pointers x.count) s m u r x.data_words x.pointers x.count c.args.limiter.now c.fill_elements.new.limiter c.fill_elements.result
    (omega (arith, few), search rules, search rules, omega (arith, few)) zeros now c.fill_elements.ensures.copy)

pub fill-fill_elements-requires : goal.fill-fill_elements-requires
fill-fill_elements-requires g t c =
    let from : Segments = words_in (g.B.ReaderArena.segments c.args.source.now) in
    let s : Segments = words_in (g.A.ReaderArena.segments c.args.arena.now) in
    let m : Segments = words_in (g.A.ReaderArena.segments c.write_word.new.self) in
    let r : Place = place_view c.args.start in
    let x = c.in-StructList in
    let zeros = subst (λ (o : Object). words_at s r (copied_words o) ≡ Some (replicate (copied_words o) 0)) x.is c.requires.zeros in
    let near = subst (λ (o : Object). c.args.start.position + copied_words o < 2 ^ 61) x.is c.requires.near in
    let inside = subst (IsInside from) x.is c.requires.inside in
    let there : is_some (words_at m r (1 + x.count * (x.data_words + x.pointers))) ≡ true = still_some s m r (1 + x.count * (x.data_words + x.pointers)) (subst (λ (v : Segments). Grows s v) (sym c.write_word.ensures.words) (splice_grows s r _)) (ap is_some zeros) in
    λ κs lives. (omega arith, (lives.0, (lives.1, (there, (near, (inside.0, inside.1))))))

-- ---- structs of a list

pub fill_elements-returns-then-rows-eq0-clause-copy : goal.fill_elements-returns-then-rows-eq0-clause-copy
fill_elements-returns-then-rows-eq0-clause-copy g t c =
    let from : Segments = words_in (g.B.ReaderArena.segments c.args.source.now) in
    let s : Segments = words_in (g.A.ReaderArena.segments c.args.arena.now) in
    let u : Segments = words_in (g.A.ReaderArena.segments c.copy_words.new.arena) in
    elements_at_once c.args.levels from (place_view c.args.rows.start) c.args.rows.words c.args.rows.data_words c.args.rows.pointers c.args.rows.count s u (place_view c.args.start) c.args.limiter.now c.if-rows-eq0.true c.requires.inside.0 c.requires.fit c.copy_words.ensures.words

pub fill_elements-loop-i-init : goal.fill_elements-loop-i-init
fill_elements-loop-i-init g t c =
    let from : Segments = words_in (g.B.ReaderArena.segments c.args.source.now) in
    let s : Segments = words_in (g.A.ReaderArena.segments c.args.arena.now) in
    let p : Place = place_view c.args.rows.start in (
      elements_begun c.args.levels from p (words_there from p c.args.rows.words) c.args.rows.data_words c.args.rows.pointers c.args.rows.count s (place_view c.args.start) c.args.limiter.now,
      refl,
      elements_fit_begun c.args.levels from p (words_there from p c.args.rows.words) c.args.rows.data_words c.args.rows.pointers c.args.rows.count (state_in g.A.ReaderArena.segments g.A.BuilderArena.room g.A.BuilderArena.books c.args.arena.now) c.args.start.segment,
    )

pub fill_elements-fill_struct-requires : goal.fill_elements-fill_struct-requires
fill_elements-fill_struct-requires g t c =
    let from : Segments = words_in (g.B.ReaderArena.segments c.args.source.now) in
    let s : Segments = words_in (g.A.ReaderArena.segments c.args.arena.now) in
    let u : Segments = words_in (g.A.ReaderArena.segments c.loop-i.arena) in
    let p : Place = place_view c.args.rows.start in
    let r : Place = place_view c.args.start in
    let w = c.args.rows.data_words + c.args.rows.pointers in
    let i = c.loop-i.i in
    let in_row = c.loop-i-test.true in
    let all = still_some s u r (1 + c.args.rows.count * (c.args.rows.data_words + c.args.rows.pointers)) c.loop-i.invariant.0.grows c.requires.there in
    let within = element_within i c.args.rows.count w w (c.args.rows.count * w) in_row (omega arith) (omega arith) in
    let inside = element_within i c.args.rows.count w w c.args.rows.words in_row (omega arith) c.requires.fit in
    let sum : 1 + i * w ≡ 1 + i * w = refl in
    let there : is_some (words_at u (after (after r 1) (i * (c.args.rows.data_words + c.args.rows.pointers))) (c.args.rows.data_words + c.args.rows.pointers)) ≡ true = subst (λ (q : Place). is_some (words_at u q (c.args.rows.data_words + c.args.rows.pointers)) ≡ true) (sym (after_sum r 1 (i * (c.args.rows.data_words + c.args.rows.pointers)) (1 + i * (c.args.rows.data_words + c.args.rows.pointers)) refl)) (part_there u r (1 + c.args.rows.count * (c.args.rows.data_words + c.args.rows.pointers)) all (1 + i * (c.args.rows.data_words + c.args.rows.pointers)) (c.args.rows.data_words + c.args.rows.pointers) (omega (arith, within))) in
    let source = part_there from p c.args.rows.words c.requires.inside.0 (i * (c.args.rows.data_words + c.args.rows.pointers)) (c.args.rows.data_words + c.args.rows.pointers) inside in
    let near = c.requires.near in
    let near_too = c.requires.inside.1 in
    λ κs lives. (omega arith, (lives.0, (lives.1, (there, (omega (arith, near, within), (source, omega (arith, near_too, inside)))))))

pub fill_elements-returns-in_err-fill_struct-clause-copy : goal.fill_elements-returns-in_err-fill_struct-clause-copy
fill_elements-returns-in_err-fill_struct-clause-copy g t c =
    let from : Segments = words_in (g.B.ReaderArena.segments c.args.source.now) in
    let s : Segments = words_in (g.A.ReaderArena.segments c.args.arena.now) in
    let u : Segments = words_in (g.A.ReaderArena.segments c.loop-i.arena) in
    let w : Segments = words_in (g.A.ReaderArena.segments c.fill_struct.new.arena) in
    let p : Place = place_view c.args.rows.start in
    let q : Place = place_view c.args.start in
    let n = c.args.levels in
    let d = c.args.rows.data_words in
    let k = c.args.rows.pointers in
    let count = c.args.rows.count in
    let ws = words_there from p c.args.rows.words in
    let r = err_from_is_err_and c.from_residual.result c.from_residual.ensures.1 in
    let e = c.in_err-fill_struct.field-0.0 in
    refused_is from (each_element (tree_at n from) p ws d k count) (from_elements (visits n from) p d k count) (FillsElements n s w (sized_at q d k) count) (LeavesElements n s w (sized_at q d k) count) s w c.args.limiter.now c.fill_struct.new.limiter c.from_residual.result r.0 e r.1 r.2
    (elements_stopped n from p ws d k count s q c.args.limiter.now c.loop-i.i u w c.loop-i.limiter c.fill_struct.new.limiter c.loop-i-test.true c.loop-i.invariant.0 e c.in_err-fill_struct.ensures.copy)

pub fill_elements-loop-i-preserved : goal.fill_elements-loop-i-preserved
fill_elements-loop-i-preserved g t c =
    let from : Segments = words_in (g.B.ReaderArena.segments c.args.source.now) in
    let s : Segments = words_in (g.A.ReaderArena.segments c.args.arena.now) in
    let u : Segments = words_in (g.A.ReaderArena.segments c.loop-i.arena) in
    let w : Segments = words_in (g.A.ReaderArena.segments c.fill_struct.new.arena) in
    let p : Place = place_view c.args.rows.start in
    let q : Place = place_view c.args.start in
    let n = c.args.levels in
    let d = c.args.rows.data_words in
    let k = c.args.rows.pointers in
    let i = c.loop-i.i in
    let inside = element_within i c.args.rows.count (d + k) d c.args.rows.words c.loop-i-test.true (omega arith) c.requires.fit in
    let there = part_there from p c.args.rows.words c.requires.inside.0 (i * (d + k)) d inside in
    let section = section_is from (after p (i * (d + k))) d there ∙ ap section_of (part_is from p c.args.rows.words c.requires.inside.0 (i * (d + k)) d inside) in (
      elements_next n from p (words_there from p c.args.rows.words) d k c.args.rows.count s q c.args.limiter.now i u w c.loop-i.limiter c.fill_struct.new.limiter c.loop-i-test.true c.loop-i.invariant.0 (section_at from (after p (i * (d + k))) d) section c.in_ok-fill_struct.ensures.copy,
      c.in_ok-fill_struct.ensures.books ∙ c.loop-i.invariant.1,
      elements_fit_next n from p (words_there from p c.args.rows.words) d k c.args.rows.count (state_in g.A.ReaderArena.segments g.A.BuilderArena.room g.A.BuilderArena.books c.args.arena.now) c.args.start.segment i (state_in g.A.ReaderArena.segments g.A.BuilderArena.room g.A.BuilderArena.books c.loop-i.arena) (state_in g.A.ReaderArena.segments g.A.BuilderArena.room g.A.BuilderArena.books c.fill_struct.new.arena) c.loop-i.limiter c.fill_struct.new.limiter c.loop-i-test.true c.loop-i.invariant.2 c.in_ok-fill_struct.ensures.fits,
    )

pub fill_elements-returns-clause-copy : goal.fill_elements-returns-clause-copy
fill_elements-returns-clause-copy g t c =
    let from : Segments = words_in (g.B.ReaderArena.segments c.args.source.now) in
    let s : Segments = words_in (g.A.ReaderArena.segments c.args.arena.now) in
    let u : Segments = words_in (g.A.ReaderArena.segments c.loop-i.arena) in
    let p : Place = place_view c.args.rows.start in
    let past = c.loop-i-test.false in
    let last = c.loop-i.auto.i-end in
    elements_ended c.args.levels from p (words_there from p c.args.rows.words) c.args.rows.data_words c.args.rows.pointers c.args.rows.count s (place_view c.args.start) c.args.limiter.now c.loop-i.i u c.loop-i.limiter (omega arith) c.loop-i.invariant.0

-- ---- a row

pub fill_row-loop-i-init : goal.fill_row-loop-i-init
fill_row-loop-i-init g t c =
    let from : Segments = words_in (g.B.ReaderArena.segments c.args.source.now) in
    let s : Segments = words_in (g.A.ReaderArena.segments c.args.arena.now) in (
      row_begun c.args.levels from (place_view c.args.first) c.args.count s (place_view c.args.start) c.args.data_words c.args.limiter.now,
      refl,
      row_fits_begun c.args.levels from (place_view c.args.first) c.args.count (state_in g.A.ReaderArena.segments g.A.BuilderArena.room g.A.BuilderArena.books c.args.arena.now) c.args.start.segment,
    )

pub fill_row-returns-in_err-copy_from-clause-copy : goal.fill_row-returns-in_err-copy_from-clause-copy
fill_row-returns-in_err-copy_from-clause-copy g t c =
    let from : Segments = words_in (g.B.ReaderArena.segments c.args.source.now) in
    let s : Segments = words_in (g.A.ReaderArena.segments c.args.arena.now) in
    let u : Segments = words_in (g.A.ReaderArena.segments c.loop-i.arena) in
    let w : Segments = words_in (g.A.ReaderArena.segments c.copy_from.new.arena) in
    let p : Place = place_view c.args.first in
    let q : Place = place_view c.args.start in
    let n = c.args.levels in
    let d = c.args.data_words in
    let count = c.args.count in
    let r = err_from_is_err_and c.from_residual.result c.from_residual.ensures.1 in
    let e = c.in_err-copy_from.field-0.0 in
    refused_is from (each (tree_at n from) p count) (from_each (visits n from) p count) (FillsRow n s w (sized_at q d count)) (LeavesRow (copy_source n from p) s w (sized_at q d count)) s w c.args.limiter.now c.copy_from.new.limiter c.from_residual.result r.0 e r.1 r.2
    (row_stopped n from p count s q d c.args.limiter.now c.loop-i.i u w c.loop-i.limiter c.copy_from.new.limiter c.loop-i-test.true c.loop-i.invariant.0 e c.in_err-copy_from.ensures.copy)

pub fill_row-loop-i-preserved : goal.fill_row-loop-i-preserved
fill_row-loop-i-preserved g t c =
    let from : Segments = words_in (g.B.ReaderArena.segments c.args.source.now) in
    let s : Segments = words_in (g.A.ReaderArena.segments c.args.arena.now) in
    let u : Segments = words_in (g.A.ReaderArena.segments c.loop-i.arena) in
    let w : Segments = words_in (g.A.ReaderArena.segments c.copy_from.new.arena) in (
      row_next c.args.levels from (place_view c.args.first) c.args.count s (place_view c.args.start) c.args.data_words c.args.limiter.now c.loop-i.i u w c.loop-i.limiter c.copy_from.new.limiter c.loop-i-test.true c.loop-i.invariant.0 c.in_ok-copy_from.ensures.copy,
      c.in_ok-copy_from.ensures.books ∙ c.loop-i.invariant.1,
      row_fits_next c.args.levels from (place_view c.args.first) c.args.count (state_in g.A.ReaderArena.segments g.A.BuilderArena.room g.A.BuilderArena.books c.args.arena.now) c.args.start.segment c.loop-i.i (state_in g.A.ReaderArena.segments g.A.BuilderArena.room g.A.BuilderArena.books c.loop-i.arena) (state_in g.A.ReaderArena.segments g.A.BuilderArena.room g.A.BuilderArena.books c.copy_from.new.arena) c.loop-i.limiter c.copy_from.new.limiter c.loop-i-test.true c.loop-i.invariant.2 c.in_ok-copy_from.ensures.fits,
    )

pub fill_row-returns-clause-copy : goal.fill_row-returns-clause-copy
fill_row-returns-clause-copy g t c =
    let from : Segments = words_in (g.B.ReaderArena.segments c.args.source.now) in
    let s : Segments = words_in (g.A.ReaderArena.segments c.args.arena.now) in
    let u : Segments = words_in (g.A.ReaderArena.segments c.loop-i.arena) in
    let past = c.loop-i-test.false in
    let last = c.loop-i.auto.i-end in
    row_ended c.args.levels from (place_view c.args.first) c.args.count s (place_view c.args.start) c.args.data_words c.args.limiter.now c.loop-i.i u c.loop-i.limiter (omega arith) c.loop-i.invariant.0

-- ---- a struct

pub fill_struct-fill_row-requires : goal.fill_struct-fill_row-requires
fill_struct-fill_row-requires g t c =
    let s : Segments = words_in (g.A.ReaderArena.segments c.args.arena.now) in
    let m : Segments = words_in (g.A.ReaderArena.segments c.copy_words.new.arena) in
    let r : Place = place_view c.args.start in
    let there = still_some s m r (c.args.data_words + c.args.pointers) (subst (λ (v : Segments). Grows s v) (sym c.copy_words.ensures.words) (splice_grows s r _)) c.requires.there in
    let near = c.requires.near in
    let near_too = c.requires.inside.1 in
    λ κs lives. (omega arith, (lives.0, (lives.1, (there, (near, omega (arith, near_too))))))

pub fill_struct-returns-clause-copy : goal.fill_struct-returns-clause-copy
fill_struct-returns-clause-copy g t c =
    let b : Segments = words_in (g.B.ReaderArena.segments c.args.source.now) in
    let s : Segments = words_in (g.A.ReaderArena.segments c.args.arena.now) in
    let m : Segments = words_in (g.A.ReaderArena.segments c.copy_words.new.arena) in
    let u : Segments = words_in (g.A.ReaderArena.segments c.fill_row.new.arena) in
    let p : Place = place_view c.args.from in
    let n = c.args.levels in
    struct_copied n b (after p c.args.data_words) b (each (tree_at n b) (after p c.args.data_words) c.args.pointers) (from_each (visits n b) (after p c.args.data_words) c.args.pointers) p s m u (place_view c.args.start) c.args.data_words c.args.pointers c.args.limiter.now c.fill_row.new.limiter c.fill_row.result
    (front_there b p (c.args.data_words + c.args.pointers) c.requires.inside.0 c.args.data_words (omega arith)) c.requires.there c.copy_words.ensures.words c.fill_row.ensures.copy

-- ---- why copies are refused

pub copy_from-returns-in_err-object-clause-cause : goal.copy_from-returns-in_err-object-clause-cause
copy_from-returns-in_err-object-clause-cause g t c =
    let from : Segments = words_in (g.B.ReaderArena.segments c.args.source.now) in
    let p : Place = place_view c.args.place in
    let n = c.args.levels in
    let r = err_from_is_err_and c.from_residual.result c.from_residual.ensures.1 in
    let e = c.in_err-object.field-0.0 in
    told_err (visits n from p) c.args.limiter.now c.follow_within.new.limiter (IsSizeOrRefusal g.A.BuilderArena.refuses) c.from_residual.result r.0 e r.1 r.2
    (inl (stopped_at n from p c.args.limiter.now c.follow_within.new.limiter e c.in_err-object.ensures))

pub copy_from-returns-clause-cause : goal.copy_from-returns-clause-cause
copy_from-returns-clause-cause g t c =
    let from : Segments = words_in (g.B.ReaderArena.segments c.args.source.now) in
    let some = c.if-levels-eq0.false in
    deep_told c.args.levels (c.args.levels - 1) from (place_view c.args.place) c.in_ok-object.object c.args.limiter.now c.follow_within.new.limiter c.copy_object.new.limiter (IsSizeOrRefusal g.A.BuilderArena.refuses) c.copy_object.result (omega arith) c.in_ok-object.ensures.0 c.copy_object.ensures.cause

pub fill-returns-in-Struct-clause-cause : goal.fill-returns-in-Struct-clause-cause
fill-returns-in-Struct-clause-cause g t c =
    let from : Segments = words_in (g.B.ReaderArena.segments c.args.source.now) in
    subst (λ (o : Object). IsStoppedOr (met_in (visits c.args.levels from) o) c.args.limiter.now c.fill_struct.new.limiter (IsSizeOrRefusal g.A.BuilderArena.refuses) c.fill_struct.result) (sym c.in-Struct.is) c.fill_struct.ensures.cause

pub fill-returns-in-PointerList-clause-cause : goal.fill-returns-in-PointerList-clause-cause
fill-returns-in-PointerList-clause-cause g t c =
    let from : Segments = words_in (g.B.ReaderArena.segments c.args.source.now) in
    subst (λ (o : Object). IsStoppedOr (met_in (visits c.args.levels from) o) c.args.limiter.now c.fill_row.new.limiter (IsSizeOrRefusal g.A.BuilderArena.refuses) c.fill_row.result) (sym c.in-PointerList.is) c.fill_row.ensures.cause

pub fill-returns-in-StructList-clause-cause : goal.fill-returns-in-StructList-clause-cause
fill-returns-in-StructList-clause-cause g t c =
    let from : Segments = words_in (g.B.ReaderArena.segments c.args.source.now) in
    subst (λ (o : Object). IsStoppedOr (met_in (visits c.args.levels from) o) c.args.limiter.now c.fill_elements.new.limiter (IsSizeOrRefusal g.A.BuilderArena.refuses) c.fill_elements.result) (sym c.in-StructList.is) c.fill_elements.ensures.cause

pub fill_elements-returns-in_err-fill_struct-clause-cause : goal.fill_elements-returns-in_err-fill_struct-clause-cause
fill_elements-returns-in_err-fill_struct-clause-cause g t c =
    let from : Segments = words_in (g.B.ReaderArena.segments c.args.source.now) in
    let s : Segments = words_in (g.A.ReaderArena.segments c.args.arena.now) in
    let u : Segments = words_in (g.A.ReaderArena.segments c.loop-i.arena) in
    let p : Place = place_view c.args.rows.start in
    let n = c.args.levels in
    let d = c.args.rows.data_words in
    let k = c.args.rows.pointers in
    let count = c.args.rows.count in
    let r = err_from_is_err_and c.from_residual.result c.from_residual.ensures.1 in
    let e = c.in_err-fill_struct.field-0.0 in
    told_err (from_elements (visits n from) p d k count) c.args.limiter.now c.fill_struct.new.limiter (IsSizeOrRefusal g.A.BuilderArena.refuses) c.from_residual.result r.0 e r.1 r.2
    (elements_told n from p (words_there from p c.args.rows.words) d k count s (place_view c.args.start) c.args.limiter.now c.loop-i.i u c.loop-i.limiter c.fill_struct.new.limiter (IsSizeOrRefusal g.A.BuilderArena.refuses) e c.loop-i-test.true c.loop-i.invariant.0 c.in_err-fill_struct.ensures.cause)

pub fill_row-returns-in_err-copy_from-clause-cause : goal.fill_row-returns-in_err-copy_from-clause-cause
fill_row-returns-in_err-copy_from-clause-cause g t c =
    let from : Segments = words_in (g.B.ReaderArena.segments c.args.source.now) in
    let s : Segments = words_in (g.A.ReaderArena.segments c.args.arena.now) in
    let u : Segments = words_in (g.A.ReaderArena.segments c.loop-i.arena) in
    let p : Place = place_view c.args.first in
    let n = c.args.levels in
    let count = c.args.count in
    let r = err_from_is_err_and c.from_residual.result c.from_residual.ensures.1 in
    let e = c.in_err-copy_from.field-0.0 in
    told_err (from_each (visits n from) p count) c.args.limiter.now c.copy_from.new.limiter (IsSizeOrRefusal g.A.BuilderArena.refuses) c.from_residual.result r.0 e r.1 r.2
    (row_told n from p count s (place_view c.args.start) c.args.data_words c.args.limiter.now c.loop-i.i u c.loop-i.limiter c.copy_from.new.limiter (IsSizeOrRefusal g.A.BuilderArena.refuses) e c.loop-i-test.true c.loop-i.invariant.0 c.in_err-copy_from.ensures.cause)

pub fill_struct-returns-clause-cause : goal.fill_struct-returns-clause-cause
fill_struct-returns-clause-cause g t c = c.fill_row.ensures.cause

-- ---- what fits where there is room

pub copy_from-returns-in_err-object-clause-fits : goal.copy_from-returns-in_err-object-clause-fits
copy_from-returns-in_err-object-clause-fits g t c =
    let from : Segments = words_in (g.B.ReaderArena.segments c.args.source.now) in
    let p : Place = place_view c.args.place in
    let n = c.args.levels in
    let r = err_from_is_err_and c.from_residual.result c.from_residual.ensures.1 in
    let e = c.in_err-object.field-0.0 in
    fits_err object_words (tree_at n from p) (visits n from p) (HasLongList from) c.args.slot.segment (state_in g.A.ReaderArena.segments g.A.BuilderArena.room g.A.BuilderArena.books c.args.arena.now) (state_in g.A.ReaderArena.segments g.A.BuilderArena.room g.A.BuilderArena.books c.args.arena.now) c.args.limiter.now c.follow_within.new.limiter c.from_residual.result r.0 e r.1 r.2
    (λ x is h. inl (stopped_at n from p c.args.limiter.now c.follow_within.new.limiter e c.in_err-object.ensures))

pub copy_from-returns-then-levels-eq0-clause-fits : goal.copy_from-returns-then-levels-eq0-clause-fits
copy_from-returns-then-levels-eq0-clause-fits g t c =
    let from : Segments = words_in (g.B.ReaderArena.segments c.args.source.now) in
    leaf_at_fits c.args.levels from (place_view c.args.place) c.args.slot.segment (state_in g.A.ReaderArena.segments g.A.BuilderArena.room g.A.BuilderArena.books c.args.arena.now) (state_in g.A.ReaderArena.segments g.A.BuilderArena.room g.A.BuilderArena.books c.put_leaf.new.arena) c.if-levels-eq0.true c.put_leaf.ensures.sizes c.put_leaf.ensures.room

pub copy_from-returns-clause-fits : goal.copy_from-returns-clause-fits
copy_from-returns-clause-fits g t c =
    let from : Segments = words_in (g.B.ReaderArena.segments c.args.source.now) in
    let some = c.if-levels-eq0.false in
    deep_fits c.args.levels (c.args.levels - 1) from (place_view c.args.place) c.in_ok-object.object c.args.slot.segment c.args.limiter.now c.follow_within.new.limiter c.copy_object.new.limiter (state_in g.A.ReaderArena.segments g.A.BuilderArena.room g.A.BuilderArena.books c.args.arena.now) (state_in g.A.ReaderArena.segments g.A.BuilderArena.room g.A.BuilderArena.books c.copy_object.new.arena) c.copy_object.result (omega arith) c.in_ok-object.ensures.0 c.copy_object.ensures.fits

pub copy_object-returns-in-Null-clause-fits : goal.copy_object-returns-in-Null-clause-fits
copy_object-returns-in-Null-clause-fits g t c =
    let from : Segments = words_in (g.B.ReaderArena.segments c.args.source.now) in
    leaf_fits (tree_at c.args.levels from) from c.args.object c.args.slot.segment (state_in g.A.ReaderArena.segments g.A.BuilderArena.room g.A.BuilderArena.books c.args.arena.now) (state_in g.A.ReaderArena.segments g.A.BuilderArena.room g.A.BuilderArena.books c.put_leaf.new.arena) (leaf_is c.args.object c.in-Null.is) c.put_leaf.ensures.sizes c.put_leaf.ensures.room

pub fill-returns-in-Null-clause-fits : goal.fill-returns-in-Null-clause-fits
fill-returns-in-Null-clause-fits g t c =
    let from : Segments = words_in (g.B.ReaderArena.segments c.args.source.now) in
    leaf_behind (tree_at c.args.levels from) from c.args.object c.args.start.segment (state_in g.A.ReaderArena.segments g.A.BuilderArena.room g.A.BuilderArena.books c.args.arena.now) (leaf_is c.args.object c.in-Null.is)

pub fill-returns-in-Struct-clause-fits : goal.fill-returns-in-Struct-clause-fits
fill-returns-in-Struct-clause-fits g t c =
    let from : Segments = words_in (g.B.ReaderArena.segments c.args.source.now) in
    let n = c.args.levels in
    let x = c.in-Struct in
    let q : Place = after (place_view x.from) x.data_words in
    subst (λ (o : Object). FitsWhereRoom (tree_in from (tree_at n from) o) (met_in (visits n from) o) (wanted words_behind (HasLongList from) c.args.start.segment) (limited_arena (state_in g.A.ReaderArena.segments g.A.BuilderArena.room g.A.BuilderArena.books c.args.arena.now) c.args.limiter.now) c.fill_struct.result (limited_arena (state_in g.A.ReaderArena.segments g.A.BuilderArena.room g.A.BuilderArena.books c.fill_struct.new.arena) c.fill_struct.new.limiter)) (sym x.is)
    (fits_made each_object_words words_behind (λ ts. structure x.data_words (section_at from (place_view x.from) x.data_words) ts) (each (tree_at n from) q x.pointers) (from_each (visits n from) q x.pointers) (HasLongList from) c.args.start.segment (state_in g.A.ReaderArena.segments g.A.BuilderArena.room g.A.BuilderArena.books c.args.arena.now) (state_in g.A.ReaderArena.segments g.A.BuilderArena.room g.A.BuilderArena.books c.fill_struct.new.arena) c.args.limiter.now c.fill_struct.new.limiter c.fill_struct.result (λ ts. refl) c.fill_struct.ensures.fits)

pub fill-returns-in-List-clause-fits : goal.fill-returns-in-List-clause-fits
fill-returns-in-List-clause-fits g t c =
    let from : Segments = words_in (g.B.ReaderArena.segments c.args.source.now) in
    let s : Segments = words_in (g.A.ReaderArena.segments c.args.arena.now) in
    let n = c.args.levels in
    let x = c.in-List in
    subst (λ (o : Object). FitsWhereRoom (tree_in from (tree_at n from) o) (met_in (visits n from) o) (wanted words_behind (HasLongList from) c.args.start.segment) (limited_arena (state_in g.A.ReaderArena.segments g.A.BuilderArena.room g.A.BuilderArena.books c.args.arena.now) c.args.limiter.now) (Ok tt) (limited_arena (state_in g.A.ReaderArena.segments g.A.BuilderArena.room g.A.BuilderArena.books c.copy_words.new.arena) c.args.limiter.now)) (sym x.is)
    (list_fits from (tree_at n from) x.from x.size x.count c.args.start.segment (state_in g.A.ReaderArena.segments g.A.BuilderArena.room g.A.BuilderArena.books c.args.arena.now) (state_in g.A.ReaderArena.segments g.A.BuilderArena.room g.A.BuilderArena.books c.copy_words.new.arena) (ap (λ (v : Segments). map length v) c.copy_words.ensures.words ∙ written_sizes s (place_view c.args.start) _) c.copy_words.ensures.room)

pub fill-returns-in-PointerList-clause-fits : goal.fill-returns-in-PointerList-clause-fits
fill-returns-in-PointerList-clause-fits g t c =
    let from : Segments = words_in (g.B.ReaderArena.segments c.args.source.now) in
    let n = c.args.levels in
    let x = c.in-PointerList in
    let q : Place = place_view x.from in
    subst (λ (o : Object). FitsWhereRoom (tree_in from (tree_at n from) o) (met_in (visits n from) o) (wanted words_behind (HasLongList from) c.args.start.segment) (limited_arena (state_in g.A.ReaderArena.segments g.A.BuilderArena.room g.A.BuilderArena.books c.args.arena.now) c.args.limiter.now) c.fill_row.result (limited_arena (state_in g.A.ReaderArena.segments g.A.BuilderArena.room g.A.BuilderArena.books c.fill_row.new.arena) c.fill_row.new.limiter)) (sym x.is)
    (fits_made each_object_words words_behind (λ ts. pointer_list ts) (each (tree_at n from) q x.count) (from_each (visits n from) q x.count) (HasLongList from) c.args.start.segment (state_in g.A.ReaderArena.segments g.A.BuilderArena.room g.A.BuilderArena.books c.args.arena.now) (state_in g.A.ReaderArena.segments g.A.BuilderArena.room g.A.BuilderArena.books c.fill_row.new.arena) c.args.limiter.now c.fill_row.new.limiter c.fill_row.result (λ ts. refl) c.fill_row.ensures.fits)

pub fill-returns-in-StructList-clause-fits : goal.fill-returns-in-StructList-clause-fits
fill-returns-in-StructList-clause-fits g t c =
    let from : Segments = words_in (g.B.ReaderArena.segments c.args.source.now) in
    let s : Segments = words_in (g.A.ReaderArena.segments c.args.arena.now) in
    let n = c.args.levels in
    let x = c.in-StructList in
    let q : Place = place_view x.from in
    subst (λ (o : Object). FitsWhereRoom (tree_in from (tree_at n from) o) (met_in (visits n from) o) (wanted words_behind (HasLongList from) c.args.start.segment) (limited_arena (state_in g.A.ReaderArena.segments g.A.BuilderArena.room g.A.BuilderArena.books c.args.arena.now) c.args.limiter.now) c.fill_elements.result (limited_arena (state_in g.A.ReaderArena.segments g.A.BuilderArena.room g.A.BuilderArena.books c.fill_elements.new.arena) c.fill_elements.new.limiter)) (sym x.is)
    (fits_made elements_behind words_behind (λ es. struct_list x.data_words x.pointers es) (each_element (tree_at n from) q (words_there from q x.words) x.data_words x.pointers x.count) (from_elements (visits n from) q x.data_words x.pointers x.count) (HasLongList from) c.args.start.segment (state_in g.A.ReaderArena.segments g.A.BuilderArena.room g.A.BuilderArena.books c.args.arena.now) (state_in g.A.ReaderArena.segments g.A.BuilderArena.room g.A.BuilderArena.books c.fill_elements.new.arena) c.args.limiter.now c.fill_elements.new.limiter c.fill_elements.result (λ es. refl)
    (fits_after elements_behind (each_element (tree_at n from) q (words_there from q x.words) x.data_words x.pointers x.count) (from_elements (visits n from) q x.data_words x.pointers x.count) (HasLongList from) c.args.start.segment (state_in g.A.ReaderArena.segments g.A.BuilderArena.room g.A.BuilderArena.books c.args.arena.now) (state_in g.A.ReaderArena.segments g.A.BuilderArena.room g.A.BuilderArena.books c.write_word.new.self) (state_in g.A.ReaderArena.segments g.A.BuilderArena.room g.A.BuilderArena.books c.fill_elements.new.arena) c.args.limiter.now c.fill_elements.new.limiter c.fill_elements.result (ap (λ (v : Segments). map length v) c.write_word.ensures.words ∙ written_sizes s (place_view c.args.start) _) c.write_word.ensures.room c.fill_elements.ensures.fits))

pub fill_elements-returns-then-rows-eq0-clause-fits : goal.fill_elements-returns-then-rows-eq0-clause-fits
fill_elements-returns-then-rows-eq0-clause-fits g t c =
    let from : Segments = words_in (g.B.ReaderArena.segments c.args.source.now) in
    let s : Segments = words_in (g.A.ReaderArena.segments c.args.arena.now) in
    let p : Place = place_view c.args.rows.start in
    plain_elements_fit (tree_at c.args.levels from) p (words_there from p c.args.rows.words) c.args.rows.data_words c.args.rows.pointers c.args.rows.count c.args.start.segment (state_in g.A.ReaderArena.segments g.A.BuilderArena.room g.A.BuilderArena.books c.args.arena.now) (state_in g.A.ReaderArena.segments g.A.BuilderArena.room g.A.BuilderArena.books c.copy_words.new.arena) c.if-rows-eq0.true (ap (λ (v : Segments). map length v) c.copy_words.ensures.words ∙ written_sizes s _ _) c.copy_words.ensures.room

pub fill_elements-returns-in_err-fill_struct-clause-fits : goal.fill_elements-returns-in_err-fill_struct-clause-fits
fill_elements-returns-in_err-fill_struct-clause-fits g t c =
    let from : Segments = words_in (g.B.ReaderArena.segments c.args.source.now) in
    let s : Segments = words_in (g.A.ReaderArena.segments c.args.arena.now) in
    let p : Place = place_view c.args.rows.start in
    let n = c.args.levels in
    let d = c.args.rows.data_words in
    let k = c.args.rows.pointers in
    let count = c.args.rows.count in
    let ws = words_there from p c.args.rows.words in
    let r = err_from_is_err_and c.from_residual.result c.from_residual.ensures.1 in
    let e = c.in_err-fill_struct.field-0.0 in
    fits_err elements_behind (each_element (tree_at n from) p ws d k count) (from_elements (visits n from) p d k count) (HasLongList from) c.args.start.segment (state_in g.A.ReaderArena.segments g.A.BuilderArena.room g.A.BuilderArena.books c.args.arena.now) (state_in g.A.ReaderArena.segments g.A.BuilderArena.room g.A.BuilderArena.books c.fill_struct.new.arena) c.args.limiter.now c.fill_struct.new.limiter c.from_residual.result r.0 e r.1 r.2
    (elements_fit_stopped n from p ws d k count (state_in g.A.ReaderArena.segments g.A.BuilderArena.room g.A.BuilderArena.books c.args.arena.now) c.args.start.segment c.loop-i.i (place_view c.args.start) s (state_in g.A.ReaderArena.segments g.A.BuilderArena.room g.A.BuilderArena.books c.loop-i.arena) (state_in g.A.ReaderArena.segments g.A.BuilderArena.room g.A.BuilderArena.books c.fill_struct.new.arena) c.args.limiter.now c.loop-i.limiter c.fill_struct.new.limiter e c.loop-i-test.true c.loop-i.invariant.0 c.loop-i.invariant.2 c.in_err-fill_struct.ensures.fits)

pub fill_elements-returns-clause-fits : goal.fill_elements-returns-clause-fits
fill_elements-returns-clause-fits g t c =
    let from : Segments = words_in (g.B.ReaderArena.segments c.args.source.now) in
    let p : Place = place_view c.args.rows.start in
    let last = c.loop-i.auto.i-end in
    elements_fit_ended c.args.levels from p (words_there from p c.args.rows.words) c.args.rows.data_words c.args.rows.pointers c.args.rows.count (state_in g.A.ReaderArena.segments g.A.BuilderArena.room g.A.BuilderArena.books c.args.arena.now) c.args.start.segment c.loop-i.i (state_in g.A.ReaderArena.segments g.A.BuilderArena.room g.A.BuilderArena.books c.loop-i.arena) c.args.limiter.now c.loop-i.limiter (omega (arith, c.loop-i-test.false)) c.loop-i.invariant.2

pub fill_row-returns-in_err-copy_from-clause-fits : goal.fill_row-returns-in_err-copy_from-clause-fits
fill_row-returns-in_err-copy_from-clause-fits g t c =
    let from : Segments = words_in (g.B.ReaderArena.segments c.args.source.now) in
    let s : Segments = words_in (g.A.ReaderArena.segments c.args.arena.now) in
    let p : Place = place_view c.args.first in
    let n = c.args.levels in
    let count = c.args.count in
    let r = err_from_is_err_and c.from_residual.result c.from_residual.ensures.1 in
    let e = c.in_err-copy_from.field-0.0 in
    fits_err each_object_words (each (tree_at n from) p count) (from_each (visits n from) p count) (HasLongList from) c.args.start.segment (state_in g.A.ReaderArena.segments g.A.BuilderArena.room g.A.BuilderArena.books c.args.arena.now) (state_in g.A.ReaderArena.segments g.A.BuilderArena.room g.A.BuilderArena.books c.copy_from.new.arena) c.args.limiter.now c.copy_from.new.limiter c.from_residual.result r.0 e r.1 r.2
    (row_fits_stopped n from p count (state_in g.A.ReaderArena.segments g.A.BuilderArena.room g.A.BuilderArena.books c.args.arena.now) c.args.start.segment c.loop-i.i (place_view c.args.start) c.args.data_words s (state_in g.A.ReaderArena.segments g.A.BuilderArena.room g.A.BuilderArena.books c.loop-i.arena) (state_in g.A.ReaderArena.segments g.A.BuilderArena.room g.A.BuilderArena.books c.copy_from.new.arena) c.args.limiter.now c.loop-i.limiter c.copy_from.new.limiter e c.loop-i-test.true c.loop-i.invariant.0 c.loop-i.invariant.2 c.in_err-copy_from.ensures.fits)

pub fill_row-returns-clause-fits : goal.fill_row-returns-clause-fits
fill_row-returns-clause-fits g t c =
    let from : Segments = words_in (g.B.ReaderArena.segments c.args.source.now) in
    row_fits_ended c.args.levels from (place_view c.args.first) c.args.count (state_in g.A.ReaderArena.segments g.A.BuilderArena.room g.A.BuilderArena.books c.args.arena.now) c.args.start.segment c.loop-i.i (state_in g.A.ReaderArena.segments g.A.BuilderArena.room g.A.BuilderArena.books c.loop-i.arena) c.args.limiter.now c.loop-i.limiter (omega (arith, c.loop-i-test.false)) c.loop-i.invariant.2

pub fill_struct-returns-clause-fits : goal.fill_struct-returns-clause-fits
fill_struct-returns-clause-fits g t c =
    let b : Segments = words_in (g.B.ReaderArena.segments c.args.source.now) in
    let s : Segments = words_in (g.A.ReaderArena.segments c.args.arena.now) in
    let n = c.args.levels in
    let q : Place = after (place_view c.args.from) c.args.data_words in
    fits_after each_object_words (each (tree_at n b) q c.args.pointers) (from_each (visits n b) q c.args.pointers) (HasLongList b) c.args.start.segment (state_in g.A.ReaderArena.segments g.A.BuilderArena.room g.A.BuilderArena.books c.args.arena.now) (state_in g.A.ReaderArena.segments g.A.BuilderArena.room g.A.BuilderArena.books c.copy_words.new.arena) (state_in g.A.ReaderArena.segments g.A.BuilderArena.room g.A.BuilderArena.books c.fill_row.new.arena) c.args.limiter.now c.fill_row.new.limiter c.fill_row.result (ap (λ (v : Segments). map length v) c.copy_words.ensures.words ∙ written_sizes s (place_view c.args.start) _) c.copy_words.ensures.room c.fill_row.ensures.fits
