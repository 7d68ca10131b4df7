-- The struct is made of zero words, and linked or given up.
use Rattle.std.proofs.Common.{inr, ◌≡◌, ℕ, ◌+◌, ◌*◌, ◌/◌, ◌≤◌, true, length, map, replicate, Some, Ok, Err, refl, ap, sym, ◌∙◌, subst, arith}
use Rattle.std.specs.Option.{is_some}
use Rattle.std.proofs.lemmas.Result.{err_from_is_err_and}
use Rattle.capnp_model.specs.Chains.{◌>>=◌}
use Rattle.capnp_model.specs.Sections.{number_of, words_for}
use Rattle.capnp_model.specs.Segments.{Segments, Place, words_at}
use Rattle.capnp_model.specs.Trees.{Tree, structure}
use Rattle.capnp_model.specs.Traversal.{tree_at, each}
use Rattle.capnp_model.specs.Coverage.{Grows, from_each, span}
use Rattle.capnp_model.specs.Visits.{visits}
use Rattle.capnp_units.specs.Segments.{words_in}
use Rattle.capnp_wire_objects.specs.Places.{place_view}
use Rattle.capnp_wire_objects.specs.declared.object.Object.TheVariants as object
use Rattle.capnp_copy_arenas.specs.Clearing.{ClearsObject}
use Rattle.capnp_copy_arenas.specs.Rooms.{begin_of, linked}
use Rattle.capnp_copy_arenas.proofs.lemmas.RoomLaws.{sizes_grow, still_some, room_addressed, room_grows, room_pad, pad_stays, room_near}
use Rattle.capnp_model.proofs.lemmas.WordsInBytes.{words_for_bytes}
use Rattle.capnp_copy_values.specs.Copies.{Copied, Refused, Fills, ObjectCopied, ObjectRefused, ObjectGives, copy_of, limited_words, object_put, struct_tree}
use Rattle.capnp_copy_values.specs.Objects.{copied_words, copied_at, copied_pointer}
use Rattle.capnp_copy_values.proofs.Allocated.{room_new}
use Rattle.capnp_copy_values.proofs.Parts.{front_there}
use Rattle.capnp_copy_values.proofs.Placed.{copied_object, refused_object, no_room, object_refused, struct_fits}
use Rattle.capnp_copy_values.proofs.SectionBytes.{bytes_grow, section_fills}
use Rattle.capnp_copy_arenas.specs.Refusals.{IsSizeOrRefusal}
use Rattle.capnp_copy_values.proofs.Told.{told_err}
use Rattle.capnp_model.specs.Sizes.{object_words, each_object_words}
use Rattle.capnp_copy_arenas.specs.States.{state_in}
use Rattle.capnp_copy_arenas.proofs.lemmas.Taken.{linked_sizes, bytes_sizes}
use Rattle.capnp_copy_values.specs.Copies.{struct_source}
use Rattle.capnp_copy_values.specs.Fits.{HasLongList, words_behind}
use Rattle.capnp_copy_values.proofs.Fitting.{fits_err, fits_after, fits_made, fits_kept, object_fits, struct_own, struct_lacks}
use Rattle.capnp_copy_values.proofs.structs.set_struct.Goals as goal

pub returns-in_err-room-clause-copy : goal.returns-in_err-room-clause-copy
returns-in_err-room-clause-copy g c =
    let from : Segments = words_in (g.B.ReaderArena.segments c.args.source.now) in
    let s : Segments = words_in (g.A.ReaderArena.segments c.args.arena.now) in
    let u : Segments = words_in (g.A.ReaderArena.segments c.room_for.new.arena) in
    let r = err_from_is_err_and c.from_residual.result c.from_residual.ensures.1 in
    let e = c.in_err-room.field-0.0 in
    subst (λ (d : ℕ). ObjectGives (copy_of from (each (tree_at c.args.levels from) (place_view c.args.first) c.args.pointers >>= λ ts. Some (structure d (number_of 8 c.args.section.now) ts)) (from_each (visits c.args.levels from) (place_view c.args.first) c.args.pointers)) (object_put c.args.levels (object.Struct c.args.first d c.args.pointers) (place_view c.args.slot)) (limited_words s c.args.limiter.now) c.from_residual.result (limited_words u c.args.limiter.now)) (words_for_bytes (length c.args.section.now))
    (object_refused c.args.levels from (object.Struct c.args.first ((length c.args.section.now + 7) / 8) c.args.pointers) (each (tree_at c.args.levels from) (place_view c.args.first) c.args.pointers >>= λ ts. Some (structure ((length c.args.section.now + 7) / 8) (number_of 8 c.args.section.now) ts)) (from_each (visits c.args.levels from) (place_view c.args.first) c.args.pointers) s u (place_view c.args.slot) c.args.limiter.now c.args.limiter.now c.from_residual.result r.0 e r.1 r.2
    (no_room from s u (object.Struct c.args.first ((length c.args.section.now + 7) / 8) c.args.pointers) (from_each (visits c.args.levels from) (place_view c.args.first) c.args.pointers) c.args.limiter.now e (ap words_in c.in_err-room.ensures.refused) c.in_err-room.ensures.kind))

pub begin_of-start-requires-clause-room : goal.begin_of-start-requires-clause-room
begin_of-start-requires-clause-room g c =
    let s : Segments = words_in (g.A.ReaderArena.segments c.args.arena.now) in
    let m : Segments = words_in (g.A.ReaderArena.segments c.room_for.new.arena) in
    room_addressed s m (place_view c.args.slot) (((length c.args.section.now + 7) / 8) + c.args.pointers) c.in_ok-room.room c.in_ok-room.ensures.ok

pub write_bytes-requires-clause-near : goal.write_bytes-requires-clause-near
write_bytes-requires-clause-near g c =
    let s : Segments = words_in (g.A.ReaderArena.segments c.args.arena.now) in
    let m : Segments = words_in (g.A.ReaderArena.segments c.room_for.new.arena) in
    let near = room_near s m (place_view c.args.slot) (((length c.args.section.now + 7) / 8) + c.args.pointers) c.in_ok-room.room c.requires.near.0 c.in_ok-room.ensures.ok in
    let at : c.begin_of-start.result.position ≡ (begin_of (place_view c.args.slot) c.in_ok-room.room).position = ap (λ (q : Place). q.position) c.begin_of-start.ensures in
    omega (arith, near, at)

pub write_bytes-requires-clause-there : goal.write_bytes-requires-clause-there
write_bytes-requires-clause-there g c =
    let s : Segments = words_in (g.A.ReaderArena.segments c.args.arena.now) in
    let m : Segments = words_in (g.A.ReaderArena.segments c.room_for.new.arena) in
    let new = room_new s m (place_view c.args.slot) (((length c.args.section.now + 7) / 8) + c.args.pointers) c.in_ok-room.room c.requires.there c.in_ok-room.ensures.ok in
    let there = front_there m (begin_of (place_view c.args.slot) c.in_ok-room.room) (((length c.args.section.now + 7) / 8) + c.args.pointers) (ap is_some new.zeros) ((length c.args.section.now + 7) / 8) (omega arith) in
    subst (λ (q : Place). is_some (words_at m q ((length c.args.section.now + 7) / 8)) ≡ true) (sym c.begin_of-start.ensures) there

pub fill_row-requires-clause-there : goal.fill_row-requires-clause-there
fill_row-requires-clause-there g c =
    let s : Segments = words_in (g.A.ReaderArena.segments c.args.arena.now) in
    let m : Segments = words_in (g.A.ReaderArena.segments c.room_for.new.arena) in
    let w : Segments = words_in (g.A.ReaderArena.segments c.write_bytes.new.arena) in
    let r : Place = place_view c.begin_of-start.result in
    let new = room_new s m (place_view c.args.slot) (((length c.args.section.now + 7) / 8) + c.args.pointers) c.in_ok-room.room c.requires.there c.in_ok-room.ensures.ok in
    let there : is_some (words_at m r (((length c.args.section.now + 7) / 8) + c.args.pointers)) ≡ true = subst (λ (q : Place). is_some (words_at m q (((length c.args.section.now + 7) / 8) + c.args.pointers)) ≡ true) (sym c.begin_of-start.ensures) (ap is_some new.zeros) in
    still_some m w r (((length c.args.section.now + 7) / 8) + c.args.pointers) (subst (λ (v : Segments). Grows m v) (sym c.write_bytes.ensures.words) (bytes_grow m r ((length c.args.section.now + 7) / 8) c.args.section.now)) there

pub fill_row-requires-clause-near : goal.fill_row-requires-clause-near
fill_row-requires-clause-near g c =
    let s : Segments = words_in (g.A.ReaderArena.segments c.args.arena.now) in
    let m : Segments = words_in (g.A.ReaderArena.segments c.room_for.new.arena) in
    let near = room_near s m (place_view c.args.slot) (((length c.args.section.now + 7) / 8) + c.args.pointers) c.in_ok-room.room c.requires.near.0 c.in_ok-room.ensures.ok in
    let at : c.begin_of-start.result.position ≡ (begin_of (place_view c.args.slot) c.in_ok-room.room).position = ap (λ (q : Place). q.position) c.begin_of-start.ensures in
    (omega (arith, near, at), c.requires.near.1)

pub link-requires-clause-slot : goal.link-requires-clause-slot
link-requires-clause-slot g c =
    let s : Segments = words_in (g.A.ReaderArena.segments c.args.arena.now) in
    let m : Segments = words_in (g.A.ReaderArena.segments c.room_for.new.arena) in
    let w : Segments = words_in (g.A.ReaderArena.segments c.write_bytes.new.arena) in
    let u : Segments = words_in (g.A.ReaderArena.segments c.fill_row.new.arena) in
    let y : Segments = words_in (g.A.ReaderArena.segments c.clear.new.arena) in
    let p : Place = place_view c.args.slot in
    let r : Place = place_view c.begin_of-start.result in
    let first = room_grows s m p (((length c.args.section.now + 7) / 8) + c.args.pointers) c.in_ok-room.room c.in_ok-room.ensures.ok in
    let then = subst (λ (v : Segments). Grows m v) (sym c.write_bytes.ensures.words) (bytes_grow m r ((length c.args.section.now + 7) / 8) c.args.section.now) in
    still_some u y p 1 (sizes_grow u y c.clear.ensures.sizes) (still_some w u p 1 c.in-Ok.ensures.copy.grows (still_some m w p 1 then (still_some s m p 1 first c.requires.there)))

pub link-requires-clause-pad : goal.link-requires-clause-pad
link-requires-clause-pad g c =
    let s : Segments = words_in (g.A.ReaderArena.segments c.args.arena.now) in
    let m : Segments = words_in (g.A.ReaderArena.segments c.room_for.new.arena) in
    let w : Segments = words_in (g.A.ReaderArena.segments c.write_bytes.new.arena) in
    let u : Segments = words_in (g.A.ReaderArena.segments c.fill_row.new.arena) in
    let y : Segments = words_in (g.A.ReaderArena.segments c.clear.new.arena) in
    let r : Place = place_view c.begin_of-start.result in
    let room = c.in_ok-room.room in
    let then = subst (λ (v : Segments). Grows m v) (sym c.write_bytes.ensures.words) (bytes_grow m r ((length c.args.section.now + 7) / 8) c.args.section.now) in
    pad_stays u y room (sizes_grow u y c.clear.ensures.sizes) (pad_stays w u room c.in-Ok.ensures.copy.grows (pad_stays m w room then (room_pad s m (place_view c.args.slot) (((length c.args.section.now + 7) / 8) + c.args.pointers) c.in_ok-room.room c.in_ok-room.ensures.ok)))

pub link-requires-clause-room : goal.link-requires-clause-room
link-requires-clause-room g c =
    let s : Segments = words_in (g.A.ReaderArena.segments c.args.arena.now) in
    let m : Segments = words_in (g.A.ReaderArena.segments c.room_for.new.arena) in
    room_addressed s m (place_view c.args.slot) (((length c.args.section.now + 7) / 8) + c.args.pointers) c.in_ok-room.room c.in_ok-room.ensures.ok

pub returns-in-Ok-clause-copy : goal.returns-in-Ok-clause-copy
returns-in-Ok-clause-copy g c =
    let from : Segments = words_in (g.B.ReaderArena.segments c.args.source.now) in
    let s : Segments = words_in (g.A.ReaderArena.segments c.args.arena.now) in
    let m : Segments = words_in (g.A.ReaderArena.segments c.room_for.new.arena) in
    let w : Segments = words_in (g.A.ReaderArena.segments c.write_bytes.new.arena) in
    let u : Segments = words_in (g.A.ReaderArena.segments c.fill_row.new.arena) in
    let y : Segments = words_in (g.A.ReaderArena.segments c.clear.new.arena) in
    let z : Segments = words_in (g.A.ReaderArena.segments c.link.new.arena) in
    let p : Place = place_view c.args.slot in
    let n = c.args.levels in
    let room = c.in_ok-room.room in
    let begins : place_view c.begin_of-start.result ≡ begin_of p c.in_ok-room.room = c.begin_of-start.ensures in
    let new = room_new s m p (((length c.args.section.now + 7) / 8) + c.args.pointers) c.in_ok-room.room c.requires.there c.in_ok-room.ensures.ok in
    let zeros = subst (λ (q : Place). words_at m q (((length c.args.section.now + 7) / 8) + c.args.pointers) ≡ Some (replicate (((length c.args.section.now + 7) / 8) + c.args.pointers) 0)) (sym begins) new.zeros in
    let made = section_fills n from (place_view c.args.first) from (each (tree_at c.args.levels from) (place_view c.args.first) c.args.pointers) (from_each (visits c.args.levels from) (place_view c.args.first) c.args.pointers) c.args.section.now m w u (place_view c.begin_of-start.result) ((length c.args.section.now + 7) / 8) c.args.pointers c.args.limiter.now c.fill_row.new.limiter (Ok tt) (λ i. let h = c.type_inv.section i in omega (arith, h)) (words_for_bytes (length c.args.section.now)) zeros c.write_bytes.ensures.words c.in-Ok.ensures.copy in
    let filled = subst (λ (r : Place). Copied (each (tree_at c.args.levels from) (place_view c.args.first) c.args.pointers >>= λ ts. Some (structure ((length c.args.section.now + 7) / 8) (number_of 8 c.args.section.now) ts)) (from_each (visits c.args.levels from) (place_view c.args.first) c.args.pointers) (λ v. (j : ℕ) → n ≤ j → Fills j m u (span r (copied_words (object.Struct c.args.first ((length c.args.section.now + 7) / 8) c.args.pointers))) (copied_at r (object.Struct c.args.first ((length c.args.section.now + 7) / 8) c.args.pointers)) v) (limited_words m c.args.limiter.now) (limited_words u c.fill_row.new.limiter)) begins made in
    let now : z ≡ linked y p room (copied_pointer (object.Struct c.args.first ((length c.args.section.now + 7) / 8) c.args.pointers)) = c.link.ensures.words ∙ ap (linked y p room) c.pointer_word.ensures.word in
    subst (λ (d : ℕ). ObjectCopied (each (tree_at c.args.levels from) (place_view c.args.first) c.args.pointers >>= λ ts. Some (structure d (number_of 8 c.args.section.now) ts)) (from_each (visits c.args.levels from) (place_view c.args.first) c.args.pointers) (object_put n (object.Struct c.args.first d c.args.pointers) p) (limited_words s c.args.limiter.now) (limited_words z c.fill_row.new.limiter)) (words_for_bytes (length c.args.section.now))
    (copied_object n s m u y z p (object.Struct c.args.first ((length c.args.section.now + 7) / 8) c.args.pointers) room (each (tree_at c.args.levels from) (place_view c.args.first) c.args.pointers >>= λ ts. Some (structure ((length c.args.section.now + 7) / 8) (number_of 8 c.args.section.now) ts)) (from_each (visits c.args.levels from) (place_view c.args.first) c.args.pointers) c.args.limiter.now c.fill_row.new.limiter c.requires.there refl c.in_ok-room.ensures.ok (struct_fits c.args.first ((length c.args.section.now + 7) / 8) c.args.pointers c.in_ok-room.ensures.spelled) filled c.clear.ensures.clears c.clear.ensures.sizes now)

pub returns-in-Err-clause-copy : goal.returns-in-Err-clause-copy
returns-in-Err-clause-copy g c =
    let from : Segments = words_in (g.B.ReaderArena.segments c.args.source.now) in
    let s : Segments = words_in (g.A.ReaderArena.segments c.args.arena.now) in
    let m : Segments = words_in (g.A.ReaderArena.segments c.room_for.new.arena) in
    let w : Segments = words_in (g.A.ReaderArena.segments c.write_bytes.new.arena) in
    let u : Segments = words_in (g.A.ReaderArena.segments c.fill_row.new.arena) in
    let y : Segments = words_in (g.A.ReaderArena.segments c.clear_object.new.arena) in
    let p : Place = place_view c.args.slot in
    let n = c.args.levels in
    let e = c.in-Err.error in
    let begins : place_view c.begin_of-start.result ≡ begin_of p c.in_ok-room.room = c.begin_of-start.ensures in
    let new = room_new s m p (((length c.args.section.now + 7) / 8) + c.args.pointers) c.in_ok-room.room c.requires.there c.in_ok-room.ensures.ok in
    let zeros = subst (λ (q : Place). words_at m q (((length c.args.section.now + 7) / 8) + c.args.pointers) ≡ Some (replicate (((length c.args.section.now + 7) / 8) + c.args.pointers) 0)) (sym begins) new.zeros in
    let made = section_fills n from (place_view c.args.first) from (each (tree_at c.args.levels from) (place_view c.args.first) c.args.pointers) (from_each (visits c.args.levels from) (place_view c.args.first) c.args.pointers) c.args.section.now m w u (place_view c.begin_of-start.result) ((length c.args.section.now + 7) / 8) c.args.pointers c.args.limiter.now c.fill_row.new.limiter (Err e) (λ i. let h = c.type_inv.section i in omega (arith, h)) (words_for_bytes (length c.args.section.now)) zeros c.write_bytes.ensures.words c.in-Err.ensures.copy in
    let left = subst (λ (r : Place). Refused from (from_each (visits c.args.levels from) (place_view c.args.first) c.args.pointers) ((t : Tree) × Fills n m u (span r (copied_words (object.Struct c.args.first ((length c.args.section.now + 7) / 8) c.args.pointers))) (copied_at r (object.Struct c.args.first ((length c.args.section.now + 7) / 8) c.args.pointers)) t) (limited_words m c.args.limiter.now) e (limited_words u c.fill_row.new.limiter)) begins made in
    let clears : ClearsObject u y (copied_at (begin_of p c.in_ok-room.room) (object.Struct c.args.first ((length c.args.section.now + 7) / 8) c.args.pointers)) = subst (λ (r : Place). ClearsObject u y (copied_at r (object.Struct c.args.first ((length c.args.section.now + 7) / 8) c.args.pointers))) begins (subst (ClearsObject u y) c.copy_at.ensures c.clear_object.ensures.clears) in
    subst (λ (d : ℕ). ObjectRefused from (object.Struct c.args.first d c.args.pointers) (from_each (visits c.args.levels from) (place_view c.args.first) c.args.pointers) (limited_words s c.args.limiter.now) e (limited_words y c.fill_row.new.limiter)) (words_for_bytes (length c.args.section.now))
    (refused_object n from s m u y p (object.Struct c.args.first ((length c.args.section.now + 7) / 8) c.args.pointers) c.in_ok-room.room (from_each (visits c.args.levels from) (place_view c.args.first) c.args.pointers) c.args.limiter.now c.fill_row.new.limiter e c.requires.there c.in_ok-room.ensures.ok left clears c.clear_object.ensures.sizes)

pub returns-in_err-room-clause-cause : goal.returns-in_err-room-clause-cause
returns-in_err-room-clause-cause g c =
    let from : Segments = words_in (g.B.ReaderArena.segments c.args.source.now) in
    let r = err_from_is_err_and c.from_residual.result c.from_residual.ensures.1 in
    told_err (from_each (visits c.args.levels from) (place_view c.args.first) c.args.pointers) c.args.limiter.now c.args.limiter.now (IsSizeOrRefusal g.A.BuilderArena.refuses) c.from_residual.result r.0 c.in_err-room.field-0.0 r.1 r.2 (inr c.in_err-room.ensures.cause)

pub returns-in-Err-clause-cause : goal.returns-in-Err-clause-cause
returns-in-Err-clause-cause g c = c.in-Err.ensures.cause

pub returns-in_err-room-clause-fits : goal.returns-in_err-room-clause-fits
returns-in_err-room-clause-fits g c =
    let from : Segments = words_in (g.B.ReaderArena.segments c.args.source.now) in
    let n = c.args.levels in
    let x = struct_source c.args.section.now c.args.first c.args.pointers in
    let q : Place = place_view c.args.first in
    let k = c.args.pointers in
    let own : (t : Tree) → struct_tree (tree_at n from) (struct_source c.args.section.now c.args.first c.args.pointers) ≡ Some t → object_words t ≡ ((length c.args.section.now + 7) / 8) + c.args.pointers + words_behind t = λ t is. (
    let e = words_for_bytes (length c.args.section.now) in
    let sum = struct_own (tree_at n from) q (words_for (8 * length c.args.section.now)) k (number_of 8 c.args.section.now) t is in
    omega (arith, e, sum)
    ) in
    let r = err_from_is_err_and c.from_residual.result c.from_residual.ensures.1 in
    let e = c.in_err-room.field-0.0 in
    fits_err object_words (struct_tree (tree_at n from) x) (from_each (visits n from) q k) (HasLongList from) c.args.slot.segment (state_in g.A.ReaderArena.segments g.A.BuilderArena.room g.A.BuilderArena.books c.args.arena.now) (state_in g.A.ReaderArena.segments g.A.BuilderArena.room g.A.BuilderArena.books c.room_for.new.arena) c.args.limiter.now c.args.limiter.now c.from_residual.result r.0 e r.1 r.2
    (λ t is h. absurd (struct_lacks (state_in g.A.ReaderArena.segments g.A.BuilderArena.room g.A.BuilderArena.books c.args.arena.now) c.args.slot.segment (((length c.args.section.now + 7) / 8) + c.args.pointers) (object_words t) c.in_err-room.ensures.full (let sum = own t is in omega (arith, sum)) h))

pub returns-in-Ok-clause-fits : goal.returns-in-Ok-clause-fits
returns-in-Ok-clause-fits g c =
    let from : Segments = words_in (g.B.ReaderArena.segments c.args.source.now) in
    let n = c.args.levels in
    let x = struct_source c.args.section.now c.args.first c.args.pointers in
    let q : Place = place_view c.args.first in
    let k = c.args.pointers in
    let own : (t : Tree) → struct_tree (tree_at n from) (struct_source c.args.section.now c.args.first c.args.pointers) ≡ Some t → object_words t ≡ ((length c.args.section.now + 7) / 8) + c.args.pointers + words_behind t = λ t is. (
    let e = words_for_bytes (length c.args.section.now) in
    let sum = struct_own (tree_at n from) q (words_for (8 * length c.args.section.now)) k (number_of 8 c.args.section.now) t is in
    omega (arith, e, sum)
    ) in
    let y : Segments = words_in (g.A.ReaderArena.segments c.clear.new.arena) in
    fits_kept object_words (struct_tree (tree_at n from) x) (from_each (visits n from) q k) (HasLongList from) c.args.slot.segment (state_in g.A.ReaderArena.segments g.A.BuilderArena.room g.A.BuilderArena.books c.args.arena.now) (state_in g.A.ReaderArena.segments g.A.BuilderArena.room g.A.BuilderArena.books c.fill_row.new.arena) (state_in g.A.ReaderArena.segments g.A.BuilderArena.room g.A.BuilderArena.books c.link.new.arena) c.args.limiter.now c.fill_row.new.limiter (ap (λ (v : Segments). map length v) c.link.ensures.words ∙ linked_sizes y (place_view c.args.slot) c.in_ok-room.room _ ∙ c.clear.ensures.sizes) (c.link.ensures.room ∙ c.clear.ensures.room)
    (object_fits object_words words_behind (((length c.args.section.now + 7) / 8) + c.args.pointers) (struct_tree (tree_at n from) x) (from_each (visits n from) q k) (HasLongList from) (place_view c.args.slot) c.in_ok-room.room c.begin_of-start.result.segment (state_in g.A.ReaderArena.segments g.A.BuilderArena.room g.A.BuilderArena.books c.args.arena.now) (state_in g.A.ReaderArena.segments g.A.BuilderArena.room g.A.BuilderArena.books c.room_for.new.arena) (state_in g.A.ReaderArena.segments g.A.BuilderArena.room g.A.BuilderArena.books c.fill_row.new.arena) c.args.limiter.now c.fill_row.new.limiter (Ok tt) own c.in_ok-room.ensures.ok c.in_ok-room.ensures.near c.in_ok-room.ensures.left (ap (λ (r : Place). r.segment) c.begin_of-start.ensures)
    (fits_made each_object_words words_behind (λ ts. structure (words_for (8 * length c.args.section.now)) (number_of 8 c.args.section.now) ts) (each (tree_at n from) q k) (from_each (visits n from) q k) (HasLongList from) c.begin_of-start.result.segment (state_in g.A.ReaderArena.segments g.A.BuilderArena.room g.A.BuilderArena.books c.room_for.new.arena) (state_in g.A.ReaderArena.segments g.A.BuilderArena.room g.A.BuilderArena.books c.fill_row.new.arena) c.args.limiter.now c.fill_row.new.limiter (Ok tt) (λ ts. refl)
    (fits_after each_object_words (each (tree_at n from) q k) (from_each (visits n from) q k) (HasLongList from) c.begin_of-start.result.segment (state_in g.A.ReaderArena.segments g.A.BuilderArena.room g.A.BuilderArena.books c.room_for.new.arena) (state_in g.A.ReaderArena.segments g.A.BuilderArena.room g.A.BuilderArena.books c.write_bytes.new.arena) (state_in g.A.ReaderArena.segments g.A.BuilderArena.room g.A.BuilderArena.books c.fill_row.new.arena) c.args.limiter.now c.fill_row.new.limiter (Ok tt) (ap (λ (v : Segments). map length v) c.write_bytes.ensures.words ∙ bytes_sizes (words_in (g.A.ReaderArena.segments c.room_for.new.arena)) (place_view c.begin_of-start.result) _ _) c.write_bytes.ensures.room c.in-Ok.ensures.fits)))

pub returns-in-Err-clause-fits : goal.returns-in-Err-clause-fits
returns-in-Err-clause-fits g c =
    let from : Segments = words_in (g.B.ReaderArena.segments c.args.source.now) in
    let n = c.args.levels in
    let x = struct_source c.args.section.now c.args.first c.args.pointers in
    let q : Place = place_view c.args.first in
    let k = c.args.pointers in
    let own : (t : Tree) → struct_tree (tree_at n from) (struct_source c.args.section.now c.args.first c.args.pointers) ≡ Some t → object_words t ≡ ((length c.args.section.now + 7) / 8) + c.args.pointers + words_behind t = λ t is. (
    let e = words_for_bytes (length c.args.section.now) in
    let sum = struct_own (tree_at n from) q (words_for (8 * length c.args.section.now)) k (number_of 8 c.args.section.now) t is in
    omega (arith, e, sum)
    ) in
    let e = c.in-Err.error in
    (object_fits object_words words_behind (((length c.args.section.now + 7) / 8) + c.args.pointers) (struct_tree (tree_at n from) x) (from_each (visits n from) q k) (HasLongList from) (place_view c.args.slot) c.in_ok-room.room c.begin_of-start.result.segment (state_in g.A.ReaderArena.segments g.A.BuilderArena.room g.A.BuilderArena.books c.args.arena.now) (state_in g.A.ReaderArena.segments g.A.BuilderArena.room g.A.BuilderArena.books c.room_for.new.arena) (state_in g.A.ReaderArena.segments g.A.BuilderArena.room g.A.BuilderArena.books c.clear_object.new.arena) c.args.limiter.now c.fill_row.new.limiter (Err e) own c.in_ok-room.ensures.ok c.in_ok-room.ensures.near c.in_ok-room.ensures.left (ap (λ (r : Place). r.segment) c.begin_of-start.ensures)
    (fits_made each_object_words words_behind (λ ts. structure (words_for (8 * length c.args.section.now)) (number_of 8 c.args.section.now) ts) (each (tree_at n from) q k) (from_each (visits n from) q k) (HasLongList from) c.begin_of-start.result.segment (state_in g.A.ReaderArena.segments g.A.BuilderArena.room g.A.BuilderArena.books c.room_for.new.arena) (state_in g.A.ReaderArena.segments g.A.BuilderArena.room g.A.BuilderArena.books c.clear_object.new.arena) c.args.limiter.now c.fill_row.new.limiter (Err e) (λ ts. refl)
    (fits_after each_object_words (each (tree_at n from) q k) (from_each (visits n from) q k) (HasLongList from) c.begin_of-start.result.segment (state_in g.A.ReaderArena.segments g.A.BuilderArena.room g.A.BuilderArena.books c.room_for.new.arena) (state_in g.A.ReaderArena.segments g.A.BuilderArena.room g.A.BuilderArena.books c.write_bytes.new.arena) (state_in g.A.ReaderArena.segments g.A.BuilderArena.room g.A.BuilderArena.books c.clear_object.new.arena) c.args.limiter.now c.fill_row.new.limiter (Err e) (ap (λ (v : Segments). map length v) c.write_bytes.ensures.words ∙ bytes_sizes (words_in (g.A.ReaderArena.segments c.room_for.new.arena)) (place_view c.begin_of-start.result) _ _) c.write_bytes.ensures.room c.in-Err.ensures.fits)))
