-- The list is made of zero words, and linked or given up.
use Rattle.std.proofs.Common.{inr, ◌≡◌, ℕ, ◌+◌, ◌≤◌, false, length, map, replicate, Some, Ok, Err, ap, sym, ◌∙◌, subst, arith}
use Rattle.std.proofs.lemmas.Result.{err_from_is_err_and}
use Rattle.capnp_model.specs.Segments.{Segments, Place, words_at}
use Rattle.capnp_model.specs.Trees.{Tree}
use Rattle.capnp_model.specs.Traversal.{tree_at}
use Rattle.capnp_model.specs.Visits.{visits}
use Rattle.capnp_units.specs.Segments.{words_in}
use Rattle.capnp_wire_objects.specs.declared.object.Object.{Object}
use Rattle.capnp_wire_objects.specs.Places.{place_view}
use Rattle.capnp_wire_objects.specs.Inside.{met_in}
use Rattle.capnp_model_writes.specs.NewObjects.{Fits}
use Rattle.capnp_copy_arenas.specs.Clearing.{ClearsObject}
use Rattle.capnp_copy_arenas.specs.Rooms.{begin_of, linked}
use Rattle.capnp_copy_arenas.proofs.lemmas.RoomLaws.{sizes_grow, still_some, room_addressed, room_grows, room_pad, pad_stays, room_near}
use Rattle.capnp_copy_values.specs.Copies.{Copied, Refused, Fills, ObjectGives, ObjectCopied, ObjectRefused, copy_of, limited_words, object_put}
use Rattle.capnp_copy_values.specs.Lists.{listed_object, listed_tree}
use Rattle.capnp_copy_values.specs.Objects.{copied_words, copied_at, copied_pointer, is_leaf, IsSpelled}
use Rattle.capnp_copy_values.proofs.Allocated.{room_new}
use Rattle.capnp_copy_values.proofs.Placed.{copied_object, refused_object, no_room, object_refused, new_of, listed_fits, listed_no_leaf}
use Rattle.capnp_copy_arenas.specs.Refusals.{IsSizeOrRefusal}
use Rattle.capnp_copy_values.proofs.Told.{told_err}
use Rattle.capnp_model.specs.Sizes.{object_words}
use Rattle.capnp_copy_arenas.specs.States.{state_in}
use Rattle.capnp_copy_arenas.proofs.lemmas.Taken.{linked_sizes}
use Rattle.capnp_copy_values.specs.Fits.{FitsWhereRoom, HasLongList, IsLong, words_behind, limited_arena, wanted}
use Rattle.capnp_copy_values.specs.Lists.{listed_section}
use Rattle.capnp_copy_values.proofs.Fitting.{fits_err, fits_kept, fits_long, object_fits, object_lacks, listed_own}
use Rattle.capnp_copy_values.proofs.lists.set_list.Goals as goal
use Rattle.capnp_model.specs.Coverage.{span}

pub returns-in_err-room-clause-copy : goal.returns-in_err-room-clause-copy
returns-in_err-room-clause-copy g c =
    let from : Segments = words_in (g.B.ReaderArena.segments c.args.source.now) in
    let s : Segments = words_in (g.A.ReaderArena.segments c.args.arena.now) in
    let u : Segments = words_in (g.A.ReaderArena.segments c.room_for.new.arena) in
    let n = c.args.levels in
    let o : Object = c.object_of-object.result in
    let there = listed_tree (tree_at n from) c.args.list c.args.bytes.now in
    let r = err_from_is_err_and c.from_residual.result c.from_residual.ensures.1 in
    let e = c.in_err-room.field-0.0 in
    subst (λ (y : Object). ObjectGives (copy_of from (listed_tree (tree_at n from) c.args.list c.args.bytes.now) (met_in (visits n from) y)) (object_put n y (place_view c.args.slot)) (limited_words s c.args.limiter.now) c.from_residual.result (limited_words u c.args.limiter.now)) c.object_of-object.ensures
    (object_refused n from o there (met_in (visits n from) o) s u (place_view c.args.slot) c.args.limiter.now c.args.limiter.now c.from_residual.result r.0 e r.1 r.2
    (no_room from s u o (met_in (visits n from) o) c.args.limiter.now e (ap words_in c.in_err-room.ensures.refused) c.in_err-room.ensures.kind))

pub begin_of-start-requires-clause-room : goal.begin_of-start-requires-clause-room
begin_of-start-requires-clause-room g c =
    let s : Segments = words_in (g.A.ReaderArena.segments c.args.arena.now) in
    let m : Segments = words_in (g.A.ReaderArena.segments c.room_for.new.arena) in
    room_addressed s m (place_view c.args.slot) (copied_words c.object_of-object.result) c.in_ok-room.room c.in_ok-room.ensures.ok

pub fill_list-requires-clause-zeros : goal.fill_list-requires-clause-zeros
fill_list-requires-clause-zeros g c =
    let s : Segments = words_in (g.A.ReaderArena.segments c.args.arena.now) in
    let m : Segments = words_in (g.A.ReaderArena.segments c.room_for.new.arena) in
    let o : Object = c.object_of-object.result in
    let new = room_new s m (place_view c.args.slot) (copied_words o) c.in_ok-room.room c.requires.there c.in_ok-room.ensures.ok in
    let zeros = subst (λ (q : Place). words_at m q (copied_words o) ≡ Some (replicate (copied_words o) 0)) (sym c.begin_of-start.ensures) new.zeros in
    subst (λ (y : Object). words_at m (place_view c.begin_of-start.result) (copied_words y) ≡ Some (replicate (copied_words y) 0)) c.object_of-object.ensures zeros

pub fill_list-requires-clause-near : goal.fill_list-requires-clause-near
fill_list-requires-clause-near g c =
    let s : Segments = words_in (g.A.ReaderArena.segments c.args.arena.now) in
    let m : Segments = words_in (g.A.ReaderArena.segments c.room_for.new.arena) in
    let near = room_near s m (place_view c.args.slot) (copied_words c.object_of-object.result) c.in_ok-room.room c.requires.near c.in_ok-room.ensures.ok in
    let at : c.begin_of-start.result.position ≡ (begin_of (place_view c.args.slot) c.in_ok-room.room).position = ap (λ (q : Place). q.position) c.begin_of-start.ensures in
    let same : copied_words c.object_of-object.result ≡ copied_words (listed_object c.args.list) = ap copied_words c.object_of-object.ensures in
    omega (arith, near, at, same)

pub link-requires-clause-slot : goal.link-requires-clause-slot
link-requires-clause-slot g c =
    let s : Segments = words_in (g.A.ReaderArena.segments c.args.arena.now) in
    let m : Segments = words_in (g.A.ReaderArena.segments c.room_for.new.arena) in
    let u : Segments = words_in (g.A.ReaderArena.segments c.fill_list.new.arena) in
    let y : Segments = words_in (g.A.ReaderArena.segments c.clear.new.arena) in
    let p : Place = place_view c.args.slot in
    let first = room_grows s m p (copied_words c.object_of-object.result) c.in_ok-room.room c.in_ok-room.ensures.ok in
    still_some u y p 1 (sizes_grow u y c.clear.ensures.sizes) (still_some m u p 1 c.in-Ok.ensures.copy.grows (still_some s m p 1 first c.requires.there))

pub link-requires-clause-pad : goal.link-requires-clause-pad
link-requires-clause-pad g c =
    let s : Segments = words_in (g.A.ReaderArena.segments c.args.arena.now) in
    let m : Segments = words_in (g.A.ReaderArena.segments c.room_for.new.arena) in
    let u : Segments = words_in (g.A.ReaderArena.segments c.fill_list.new.arena) in
    let y : Segments = words_in (g.A.ReaderArena.segments c.clear.new.arena) in
    let room = c.in_ok-room.room in
    pad_stays u y room (sizes_grow u y c.clear.ensures.sizes) (pad_stays m u room c.in-Ok.ensures.copy.grows (room_pad s m (place_view c.args.slot) (copied_words c.object_of-object.result) c.in_ok-room.room c.in_ok-room.ensures.ok))

pub link-requires-clause-room : goal.link-requires-clause-room
link-requires-clause-room g c =
    let s : Segments = words_in (g.A.ReaderArena.segments c.args.arena.now) in
    let m : Segments = words_in (g.A.ReaderArena.segments c.room_for.new.arena) in
    room_addressed s m (place_view c.args.slot) (copied_words c.object_of-object.result) c.in_ok-room.room c.in_ok-room.ensures.ok

pub returns-in-Ok-clause-copy : goal.returns-in-Ok-clause-copy
returns-in-Ok-clause-copy g c =
    let from : Segments = words_in (g.B.ReaderArena.segments c.args.source.now) in
    let s : Segments = words_in (g.A.ReaderArena.segments c.args.arena.now) in
    let m : Segments = words_in (g.A.ReaderArena.segments c.room_for.new.arena) in
    let u : Segments = words_in (g.A.ReaderArena.segments c.fill_list.new.arena) in
    let y : Segments = words_in (g.A.ReaderArena.segments c.clear.new.arena) in
    let z : Segments = words_in (g.A.ReaderArena.segments c.link.new.arena) in
    let p : Place = place_view c.args.slot in
    let n = c.args.levels in
    let o : Object = c.object_of-object.result in
    let is : c.object_of-object.result ≡ listed_object c.args.list = c.object_of-object.ensures in
    let room = c.in_ok-room.room in
    let begins : place_view c.begin_of-start.result ≡ begin_of p c.in_ok-room.room = c.begin_of-start.ensures in
    let made = subst (λ (x : Object). Copied (listed_tree (tree_at n from) c.args.list c.args.bytes.now) (met_in (visits n from) x) (λ v. (j : ℕ) → n ≤ j → Fills j m u (span (place_view c.begin_of-start.result) (copied_words x)) (copied_at (place_view c.begin_of-start.result) x) v) (limited_words m c.args.limiter.now) (limited_words u c.fill_list.new.limiter)) (sym is) c.in-Ok.ensures.copy in
    let filled = subst (λ (r : Place). Copied (listed_tree (tree_at n from) c.args.list c.args.bytes.now) (met_in (visits n from) o) (λ v. (j : ℕ) → n ≤ j → Fills j m u (span r (copied_words o)) (copied_at r o) v) (limited_words m c.args.limiter.now) (limited_words u c.fill_list.new.limiter)) begins made in
    let now : z ≡ linked y p room (copied_pointer o) = c.link.ensures.words ∙ ap (linked y p room) c.pointer_word.ensures.word in
    let kind : is_leaf c.object_of-object.result ≡ false = ap is_leaf is ∙ listed_no_leaf c.args.list.size c.args.list in
    let fits : Fits (new_of c.object_of-object.result) = subst (λ (x : Object). Fits (new_of x)) (sym is) (listed_fits c.args.list.size c.args.list (subst IsSpelled is c.in_ok-room.ensures.spelled)) in
    subst (λ (x : Object). ObjectCopied (listed_tree (tree_at n from) c.args.list c.args.bytes.now) (met_in (visits n from) x) (object_put n x p) (limited_words s c.args.limiter.now) (limited_words z c.fill_list.new.limiter)) is
    (copied_object n s m u y z p o room (listed_tree (tree_at n from) c.args.list c.args.bytes.now) (met_in (visits n from) o) c.args.limiter.now c.fill_list.new.limiter c.requires.there kind c.in_ok-room.ensures.ok fits filled c.clear.ensures.clears c.clear.ensures.sizes now)

pub returns-in-Err-clause-copy : goal.returns-in-Err-clause-copy
returns-in-Err-clause-copy g c =
    let from : Segments = words_in (g.B.ReaderArena.segments c.args.source.now) in
    let s : Segments = words_in (g.A.ReaderArena.segments c.args.arena.now) in
    let m : Segments = words_in (g.A.ReaderArena.segments c.room_for.new.arena) in
    let u : Segments = words_in (g.A.ReaderArena.segments c.fill_list.new.arena) in
    let y : Segments = words_in (g.A.ReaderArena.segments c.clear_object.new.arena) in
    let p : Place = place_view c.args.slot in
    let n = c.args.levels in
    let o : Object = c.object_of-object.result in
    let is : c.object_of-object.result ≡ listed_object c.args.list = c.object_of-object.ensures in
    let e = c.in-Err.error in
    let begins : place_view c.begin_of-start.result ≡ begin_of p c.in_ok-room.room = c.begin_of-start.ensures in
    let made = subst (λ (x : Object). Refused from (met_in (visits n from) x) ((t : Tree) × Fills n m u (span (place_view c.begin_of-start.result) (copied_words x)) (copied_at (place_view c.begin_of-start.result) x) t) (limited_words m c.args.limiter.now) e (limited_words u c.fill_list.new.limiter)) (sym is) c.in-Err.ensures.copy in
    let left = subst (λ (r : Place). Refused from (met_in (visits n from) o) ((t : Tree) × Fills n m u (span r (copied_words o)) (copied_at r o) t) (limited_words m c.args.limiter.now) e (limited_words u c.fill_list.new.limiter)) begins made in
    let clears : ClearsObject u y (copied_at (begin_of p c.in_ok-room.room) o) = subst (λ (r : Place). ClearsObject u y (copied_at r o)) begins (subst (ClearsObject u y) c.copy_at.ensures c.clear_object.ensures.clears) in
    subst (λ (x : Object). ObjectRefused from x (met_in (visits n from) x) (limited_words s c.args.limiter.now) e (limited_words y c.fill_list.new.limiter)) is
    (refused_object n from s m u y p o c.in_ok-room.room (met_in (visits n from) o) c.args.limiter.now c.fill_list.new.limiter e c.requires.there c.in_ok-room.ensures.ok left clears c.clear_object.ensures.sizes)

pub returns-in_err-room-clause-cause : goal.returns-in_err-room-clause-cause
returns-in_err-room-clause-cause g c =
    let from : Segments = words_in (g.B.ReaderArena.segments c.args.source.now) in
    let r = err_from_is_err_and c.from_residual.result c.from_residual.ensures.1 in
    told_err (met_in (visits c.args.levels from) (listed_object c.args.list)) c.args.limiter.now c.args.limiter.now (IsSizeOrRefusal g.A.BuilderArena.refuses) c.from_residual.result r.0 c.in_err-room.field-0.0 r.1 r.2 (inr c.in_err-room.ensures.cause)

pub returns-in-Err-clause-cause : goal.returns-in-Err-clause-cause
returns-in-Err-clause-cause g c = c.in-Err.ensures.cause

pub returns-in_err-room-clause-fits : goal.returns-in_err-room-clause-fits
returns-in_err-room-clause-fits g c =
    let from : Segments = words_in (g.B.ReaderArena.segments c.args.source.now) in
    let n = c.args.levels in
    let o : Object = c.object_of-object.result in
    let is : c.object_of-object.result ≡ listed_object c.args.list = c.object_of-object.ensures in
    let there = listed_tree (tree_at n from) c.args.list c.args.bytes.now in
    let own : (t : Tree) → listed_tree (tree_at n from) c.args.list c.args.bytes.now ≡ Some t → object_words t ≡ copied_words c.object_of-object.result + words_behind t = λ t e. listed_own (tree_at n from) c.args.list (listed_section c.args.list c.args.bytes.now) c.args.list.size t e ∙ ap (λ (y : Object). copied_words y + words_behind t) (sym is) in
    let r = err_from_is_err_and c.from_residual.result c.from_residual.ensures.1 in
    let e = c.in_err-room.field-0.0 in
    subst (λ (y : Object). FitsWhereRoom (listed_tree (tree_at n from) c.args.list c.args.bytes.now) (met_in (visits n from) y) (wanted object_words (IsLong from y) c.args.slot.segment) (limited_arena (state_in g.A.ReaderArena.segments g.A.BuilderArena.room g.A.BuilderArena.books c.args.arena.now) c.args.limiter.now) c.from_residual.result (limited_arena (state_in g.A.ReaderArena.segments g.A.BuilderArena.room g.A.BuilderArena.books c.room_for.new.arena) c.args.limiter.now)) is
    (fits_err object_words there (met_in (visits n from) o) (IsLong from o) c.args.slot.segment (state_in g.A.ReaderArena.segments g.A.BuilderArena.room g.A.BuilderArena.books c.args.arena.now) (state_in g.A.ReaderArena.segments g.A.BuilderArena.room g.A.BuilderArena.books c.room_for.new.arena) c.args.limiter.now c.args.limiter.now c.from_residual.result r.0 e r.1 r.2
    (object_lacks object_words there (met_in (visits n from) o) (HasLongList from) o c.args.slot.segment (state_in g.A.ReaderArena.segments g.A.BuilderArena.room g.A.BuilderArena.books c.args.arena.now) c.args.limiter.now c.args.limiter.now e (λ t e. let sum = own t e in omega (arith, sum)) c.in_err-room.ensures.kind c.in_err-room.ensures.full))

pub returns-in-Ok-clause-fits : goal.returns-in-Ok-clause-fits
returns-in-Ok-clause-fits g c =
    let from : Segments = words_in (g.B.ReaderArena.segments c.args.source.now) in
    let n = c.args.levels in
    let o : Object = c.object_of-object.result in
    let is : c.object_of-object.result ≡ listed_object c.args.list = c.object_of-object.ensures in
    let there = listed_tree (tree_at n from) c.args.list c.args.bytes.now in
    let own : (t : Tree) → listed_tree (tree_at n from) c.args.list c.args.bytes.now ≡ Some t → object_words t ≡ copied_words c.object_of-object.result + words_behind t = λ t e. listed_own (tree_at n from) c.args.list (listed_section c.args.list c.args.bytes.now) c.args.list.size t e ∙ ap (λ (y : Object). copied_words y + words_behind t) (sym is) in
    let y : Segments = words_in (g.A.ReaderArena.segments c.clear.new.arena) in
    fits_kept object_words there (met_in (visits n from) (listed_object c.args.list)) (IsLong from (listed_object c.args.list)) c.args.slot.segment (state_in g.A.ReaderArena.segments g.A.BuilderArena.room g.A.BuilderArena.books c.args.arena.now) (state_in g.A.ReaderArena.segments g.A.BuilderArena.room g.A.BuilderArena.books c.fill_list.new.arena) (state_in g.A.ReaderArena.segments g.A.BuilderArena.room g.A.BuilderArena.books c.link.new.arena) c.args.limiter.now c.fill_list.new.limiter (ap (λ (v : Segments). map length v) c.link.ensures.words ∙ linked_sizes y (place_view c.args.slot) c.in_ok-room.room _ ∙ c.clear.ensures.sizes) (c.link.ensures.room ∙ c.clear.ensures.room)
    (subst (λ (y : Object). FitsWhereRoom (listed_tree (tree_at n from) c.args.list c.args.bytes.now) (met_in (visits n from) y) (wanted object_words (IsLong from y) c.args.slot.segment) (limited_arena (state_in g.A.ReaderArena.segments g.A.BuilderArena.room g.A.BuilderArena.books c.args.arena.now) c.args.limiter.now) (Ok tt) (limited_arena (state_in g.A.ReaderArena.segments g.A.BuilderArena.room g.A.BuilderArena.books c.fill_list.new.arena) c.fill_list.new.limiter)) is
    (fits_long object_words there (met_in (visits n from) o) (HasLongList from) (IsLong from o) c.args.slot.segment (state_in g.A.ReaderArena.segments g.A.BuilderArena.room g.A.BuilderArena.books c.args.arena.now) (state_in g.A.ReaderArena.segments g.A.BuilderArena.room g.A.BuilderArena.books c.fill_list.new.arena) c.args.limiter.now c.fill_list.new.limiter (Ok tt) (λ l. inr l)
    (object_fits object_words words_behind (copied_words o) there (met_in (visits n from) o) (HasLongList from) (place_view c.args.slot) c.in_ok-room.room c.begin_of-start.result.segment (state_in g.A.ReaderArena.segments g.A.BuilderArena.room g.A.BuilderArena.books c.args.arena.now) (state_in g.A.ReaderArena.segments g.A.BuilderArena.room g.A.BuilderArena.books c.room_for.new.arena) (state_in g.A.ReaderArena.segments g.A.BuilderArena.room g.A.BuilderArena.books c.fill_list.new.arena) c.args.limiter.now c.fill_list.new.limiter (Ok tt) own c.in_ok-room.ensures.ok c.in_ok-room.ensures.near c.in_ok-room.ensures.left (ap (λ (r : Place). r.segment) c.begin_of-start.ensures)
    (subst (λ (y : Object). FitsWhereRoom (listed_tree (tree_at n from) c.args.list c.args.bytes.now) (met_in (visits n from) y) (wanted words_behind (HasLongList from) c.begin_of-start.result.segment) (limited_arena (state_in g.A.ReaderArena.segments g.A.BuilderArena.room g.A.BuilderArena.books c.room_for.new.arena) c.args.limiter.now) (Ok tt) (limited_arena (state_in g.A.ReaderArena.segments g.A.BuilderArena.room g.A.BuilderArena.books c.fill_list.new.arena) c.fill_list.new.limiter)) (sym is) c.in-Ok.ensures.fits))))

pub returns-in-Err-clause-fits : goal.returns-in-Err-clause-fits
returns-in-Err-clause-fits g c =
    let from : Segments = words_in (g.B.ReaderArena.segments c.args.source.now) in
    let n = c.args.levels in
    let o : Object = c.object_of-object.result in
    let is : c.object_of-object.result ≡ listed_object c.args.list = c.object_of-object.ensures in
    let there = listed_tree (tree_at n from) c.args.list c.args.bytes.now in
    let own : (t : Tree) → listed_tree (tree_at n from) c.args.list c.args.bytes.now ≡ Some t → object_words t ≡ copied_words c.object_of-object.result + words_behind t = λ t e. listed_own (tree_at n from) c.args.list (listed_section c.args.list c.args.bytes.now) c.args.list.size t e ∙ ap (λ (y : Object). copied_words y + words_behind t) (sym is) in
    let e = c.in-Err.error in
    (subst (λ (y : Object). FitsWhereRoom (listed_tree (tree_at n from) c.args.list c.args.bytes.now) (met_in (visits n from) y) (wanted object_words (IsLong from y) c.args.slot.segment) (limited_arena (state_in g.A.ReaderArena.segments g.A.BuilderArena.room g.A.BuilderArena.books c.args.arena.now) c.args.limiter.now) (Err e) (limited_arena (state_in g.A.ReaderArena.segments g.A.BuilderArena.room g.A.BuilderArena.books c.clear_object.new.arena) c.fill_list.new.limiter)) is
    (fits_long object_words there (met_in (visits n from) o) (HasLongList from) (IsLong from o) c.args.slot.segment (state_in g.A.ReaderArena.segments g.A.BuilderArena.room g.A.BuilderArena.books c.args.arena.now) (state_in g.A.ReaderArena.segments g.A.BuilderArena.room g.A.BuilderArena.books c.clear_object.new.arena) c.args.limiter.now c.fill_list.new.limiter (Err e) (λ l. inr l)
    (object_fits object_words words_behind (copied_words o) there (met_in (visits n from) o) (HasLongList from) (place_view c.args.slot) c.in_ok-room.room c.begin_of-start.result.segment (state_in g.A.ReaderArena.segments g.A.BuilderArena.room g.A.BuilderArena.books c.args.arena.now) (state_in g.A.ReaderArena.segments g.A.BuilderArena.room g.A.BuilderArena.books c.room_for.new.arena) (state_in g.A.ReaderArena.segments g.A.BuilderArena.room g.A.BuilderArena.books c.clear_object.new.arena) c.args.limiter.now c.fill_list.new.limiter (Err e) own c.in_ok-room.ensures.ok c.in_ok-room.ensures.near c.in_ok-room.ensures.left (ap (λ (r : Place). r.segment) c.begin_of-start.ensures)
    (subst (λ (y : Object). FitsWhereRoom (listed_tree (tree_at n from) c.args.list c.args.bytes.now) (met_in (visits n from) y) (wanted words_behind (HasLongList from) c.begin_of-start.result.segment) (limited_arena (state_in g.A.ReaderArena.segments g.A.BuilderArena.room g.A.BuilderArena.books c.room_for.new.arena) c.args.limiter.now) (Err e) (limited_arena (state_in g.A.ReaderArena.segments g.A.BuilderArena.room g.A.BuilderArena.books c.clear_object.new.arena) c.fill_list.new.limiter)) (sym is) c.in-Err.ensures.fits))))
