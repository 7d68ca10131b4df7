-- What each step writes and pays.
use Rattle.std.proofs.Common.{◌≡◌, ℕ, List, ◌+◌, ◌-◌, ◌*◌, ◌<◌, ◌≤◌, refl, ap, sym, ◌∙◌, subst, inl, inr, arith}
use Rattle.std.proofs.Common.{Result, Ok, Err}
use Rattle.std.specs.Option.{is_some}
use Rattle.std.proofs.lemmas.Result.{err_from_is_err_and}
use Rattle.capnp_model.specs.Sections.{needed_words}
use Rattle.capnp_model.specs.Segments.{Segments, Place, after, words_at}
use Rattle.capnp_model.specs.Trees.{Tree, no_elements, element, resized, have_capability, elements_have_capability}
use Rattle.capnp_model.specs.Traversal.{tree_at, each, each_element}
use Rattle.capnp_model.specs.Trimming.{trim_each, trim_elements, with_pointers}
use Rattle.capnp_model.specs.Coverage.{from_each, from_elements}
use Rattle.capnp_units.specs.declared.errors.Error.{Error}
use Rattle.capnp_units.specs.Segments.{words_in}
use Rattle.capnp_wire_objects.specs.declared.object.Object.{Object}
use Rattle.capnp_wire_objects.specs.declared.object.Object.TheVariants as object
use Rattle.capnp_units.specs.declared.limiter.ReadLimiter.{ReadLimiter}
use Rattle.capnp_wire_objects.specs.Places.{place_view}
use Rattle.capnp_wire_objects.specs.Near.{list_object, struct_object, IsMeasured, IsNear}
use Rattle.capnp_wire_objects.specs.Arenas.{segment_bytes}
use Rattle.capnp_wire_objects.specs.Objects.{IsInside}
use Rattle.capnp_wire_objects.specs.Inside.{section_at, words_there}
use Rattle.capnp_wire_objects.specs.Walks.{Stopped}
use Rattle.capnp_model.proofs.lemmas.Counts.{each_count, each_element_count}
use Rattle.capnp_wire_canonical.specs.Reaches.{reach}
use Rattle.capnp_wire_canonical.specs.Writes.{words_view, with_links, with_cells}
use Rattle.capnp_wire_canonical.specs.Widths.{kept}
use Rattle.capnp_wire_canonical.specs.Copies.{copy_visits, IsNoCapability, FollowsData, CopyState, Copying, Written, WritesCopy, Unwritten, copy_state}
use Rattle.capnp_wire_canonical.specs.Objects.{IsShort, WritesObject, write_spot, value_copy, object_copy}
use Rattle.capnp_wire_canonical.proofs.Copying.{unwritten_at, no_room, halts_is, over_used}
use Rattle.capnp_wire_canonical.proofs.lemmas.Faults.{stopped_otherwise}
use Rattle.capnp_wire_canonical.proofs.Rooms.{no_room_for_struct, no_room_for_pointers, no_room_for_structs}
use Rattle.capnp_wire_canonical.proofs.Rows.{least_words, least_pointers}
use Rattle.capnp_wire_canonical.proofs.Steps.{null_put, leaf_at, deep_at, short_at}
use Rattle.capnp_wire_objects.proofs.lemmas.NearObjects.{segment_of}
use Rattle.capnp_wire_canonical.proofs.NearFollowed.{some_left, untold, none_is}
use Rattle.capnp_wire_canonical.proofs.Kept.{widest_one, no_wider}
use Rattle.capnp_wire_canonical.proofs.Nulls.{kept_count}
use Rattle.capnp_wire_canonical.proofs.Parts.{part_there, front_there, there_length, word_is}
use Rattle.capnp_wire_canonical.proofs.Finals.{struct_gives, pointers_gives, same_words, element_halts, element_gives, structs_gives, cut_parts}
use Rattle.capnp_wire_canonical.proofs.Elements.{elements_put, elements_begun, elements_stopped, elements_next, elements_ended}
use Rattle.capnp_wire_canonical.proofs.Laying.{laid_begins, laid_first, laid_preserved, laid_stopped, laid_through}
use Rattle.capnp_wire_canonical.proofs.Pointers.{trees_put, pointers_begun, pointers_stopped, pointers_next, pointers_ended}
use Rattle.capnp_wire_canonical.proofs.value_copies.+write.Goals as goal

pub write_at-returns-in_err-list : goal.write_at-returns-in_err-list
write_at-returns-in_err-list g t c =
    let s : Segments = words_in (g.A.ReaderArena.segments c.args.arena.now) in
    let p : Place = place_view c.args.place in
    let n = c.args.levels in
    let old = c.args.into.now in
    let l = c.args.limiter.now in
    let k = c.follow_near_list.new.limiter in
    let e = c.in_err-list.field-0.0 in
    let r = err_from_is_err_and c.from_residual.result c.from_residual.ensures.1 in
    halts_is (value_copy (reach n s) p (write_spot c.args.at c.args.used)) (copy_state old l) (copy_state old k) c.from_residual.result r.0 e r.1 r.2
    (unwritten_at (value_copy (reach n s) p (write_spot c.args.at c.args.used)) (copy_state old l) e k c.in_err-list.ensures.copied (λ kind. stopped_otherwise n s p l k e c.in_err-list.ensures.copied kind))

pub write_at-returns-in-Some : goal.write_at-returns-in-Some
write_at-returns-in-Some g t c =
    let s : Segments = words_in (g.A.ReaderArena.segments c.args.arena.now) in
    let n = c.args.levels in
    let k = c.follow_near_list.new.limiter in
    let followed : FollowsData n s (place_view c.args.place) c.args.limiter.now (Ok (list_object c.in-Some.list)) k = rw c.in-Some.is at c.in_ok-list.ensures.copied in
    let some = some_left n followed.1 in
    deep_at n s (place_view c.args.place) c.args.at c.args.used (list_object c.in-Some.list) c.args.into.now c.write_list.new.into c.args.limiter.now k k
    (n - 1) c.write_list.result (omega arith) followed.0 followed.1 followed.2 (c.write_list.ensures (n - 1) k)

pub write_at-returns-in_err-near : goal.write_at-returns-in_err-near
write_at-returns-in_err-near g t c =
    let s : Segments = words_in (g.A.ReaderArena.segments c.args.arena.now) in
    let p : Place = place_view c.args.place in
    let n = c.args.levels in
    let old = c.args.into.now in
    let l = c.args.limiter.now in
    let k = c.follow_near_struct.new.limiter in
    let e = c.in_err-near.field-0.0 in
    let r = err_from_is_err_and c.from_residual-in_err-near.result c.from_residual-in_err-near.ensures.1 in
    let same = untold list_object (FollowsData n s p) l c.follow_near_list.new.limiter c.in_ok-list.field-0 c.in_default.not-Some c.in_ok-list.ensures.copied in
    let stop : Stopped (copy_visits n s p) l e k = subst (λ (x : ReadLimiter). Stopped (copy_visits n s p) x e k) same c.in_err-near.ensures.copied in
    halts_is (value_copy (reach n s) p (write_spot c.args.at c.args.used)) (copy_state old l) (copy_state old k) c.from_residual-in_err-near.result r.0 e r.1 r.2
    (unwritten_at (value_copy (reach n s) p (write_spot c.args.at c.args.used)) (copy_state old l) e k stop (λ kind. stopped_otherwise n s p l k e stop kind))

pub write_at-returns-in-Some-2 : goal.write_at-returns-in-Some-2
write_at-returns-in-Some-2 g t c =
    let s : Segments = words_in (g.A.ReaderArena.segments c.args.arena.now) in
    let p : Place = place_view c.args.place in
    let n = c.args.levels in
    let l = c.args.limiter.now in
    let k = c.follow_near_struct.new.limiter in
    let near = c.in-Some-2.near in
    let same = untold list_object (FollowsData n s p) l c.follow_near_list.new.limiter c.in_ok-list.field-0 c.in_default.not-Some c.in_ok-list.ensures.copied in
    let here : FollowsData n s p c.follow_near_list.new.limiter (Ok (struct_object near)) k = rw c.in-Some-2.is at c.in_ok-near.ensures.copied in
    let followed = subst (λ (x : ReadLimiter). FollowsData n s p x (Ok (struct_object near)) k) same here in
    let some = some_left n followed.1 in
    deep_at n s p c.args.at c.args.used (struct_object near) c.args.into.now c.write_struct.new.into l k c.write_struct.new.limiter (n - 1) c.write_struct.result (omega arith) followed.0 followed.1 followed.2 c.write_struct.ensures

pub write_at-write_list-requires : goal.write_at-write_list-requires
write_at-write_list-requires g t c =
    let s : Segments = words_in (g.A.ReaderArena.segments c.args.arena.now) in
    let n = c.args.levels in
    let k = c.follow_near_list.new.limiter in
    let followed : FollowsData n s (place_view c.args.place) c.args.limiter.now (Ok (list_object c.in-Some.list)) k = rw c.in-Some.is at c.in_ok-list.ensures.copied in
    let pays = followed.0 in
    let near : IsNear s (place_view c.args.place) (list_object c.in-Some.list) × IsMeasured c.in-Some.list × (c.in-Some.list.start.segment ≡ c.args.place.segment) = rw c.in-Some.is at c.in_ok-list.ensures.near in
    record { bytes = c.requires.bytes ∙ ap (segment_bytes (g.A.ReaderArena.segments c.args.arena.now)) (sym near.2); inside = pays.inside; measured = near.1; short = short_at s (place_view c.args.place) (list_object c.in-Some.list) c.args.limiter.now k pays; place = c.requires.place }

pub write_at-write_struct-requires : goal.write_at-write_struct-requires
write_at-write_struct-requires g t c =
    let segments = g.A.ReaderArena.segments c.args.arena.now in
    let s : Segments = words_in segments in
    let p : Place = place_view c.args.place in
    let n = c.args.levels in
    let near = c.in-Some-2.near in
    let here : FollowsData n s p c.follow_near_list.new.limiter (Ok (struct_object near)) c.follow_near_struct.new.limiter = rw c.in-Some-2.is at c.in_ok-near.ensures.copied in
    let some = some_left n here.1 in
    let there : IsNear s p (struct_object near) × (near.start.segment ≡ c.args.place.segment) = rw c.in-Some-2.is at c.in_ok-near.ensures.near in
    λ κs lives. (omega arith, (lives, (c.requires.bytes ∙ ap (segment_bytes segments) (sym there.1), (here.0.inside, c.requires.place))))

pub write_any-returns-in_err-object : goal.write_any-returns-in_err-object
write_any-returns-in_err-object g t c =
    let s : Segments = words_in (g.A.ReaderArena.segments c.args.arena.now) in
    let p : Place = place_view c.args.place in
    let n = c.args.levels in
    let old = c.args.into.now in
    let r = err_from_is_err_and c.from_residual.result c.from_residual.ensures.1 in
    halts_is (value_copy (reach n s) p (write_spot c.args.at c.args.used)) (copy_state old c.args.limiter.now) (copy_state old c.follow_data.new.limiter) c.from_residual.result r.0 c.in_err-object.field-0.0 r.1 r.2
    (unwritten_at (value_copy (reach n s) p (write_spot c.args.at c.args.used)) (copy_state old c.args.limiter.now) c.in_err-object.field-0.0 c.follow_data.new.limiter c.in_err-object.ensures (λ kind. stopped_otherwise n s p c.args.limiter.now c.follow_data.new.limiter c.in_err-object.field-0.0 c.in_err-object.ensures kind))

pub write_any-returns-then-levels-eq0 : goal.write_any-returns-then-levels-eq0
write_any-returns-then-levels-eq0 g t c =
    let s : Segments = words_in (g.A.ReaderArena.segments c.args.arena.now) in
    leaf_at c.args.levels s (place_view c.args.place) c.args.at c.args.used c.in_ok-object.object c.args.into.now c.put.new.into c.args.limiter.now c.follow_data.new.limiter c.follow_data.new.limiter
    c.if-levels-eq0.true c.in_ok-object.ensures.0 c.in_ok-object.ensures.1 c.in_ok-object.ensures.2 c.requires c.put.ensures.words c.put.ensures.behind

pub write_any-returns : goal.write_any-returns
write_any-returns g t c =
    let s : Segments = words_in (g.A.ReaderArena.segments c.args.arena.now) in
    let some = c.if-levels-eq0.false in
    deep_at c.args.levels s (place_view c.args.place) c.args.at c.args.used c.in_ok-object.object c.args.into.now c.write_object.new.into c.args.limiter.now c.follow_data.new.limiter c.write_object.new.limiter
    (c.args.levels - 1) c.write_object.result (omega arith) c.in_ok-object.ensures.0 c.in_ok-object.ensures.1 c.in_ok-object.ensures.2 c.write_object.ensures

pub write_object-returns-in-Struct : goal.write_object-returns-in-Struct
write_object-returns-in-Struct g t c =
    let s : Segments = words_in (g.A.ReaderArena.segments c.args.arena.now) in
    subst (λ (o : Object). WritesObject (reach c.args.levels s) o (write_spot c.args.at c.args.used) (copy_state c.args.into.now c.args.limiter.now) c.write_struct.result (copy_state c.write_struct.new.into c.write_struct.new.limiter)) (sym c.in-Struct.is) c.write_struct.ensures

pub write_object-returns-in-List : goal.write_object-returns-in-List
write_object-returns-in-List g t c =
    let s : Segments = words_in (g.A.ReaderArena.segments c.args.arena.now) in
    let l = c.args.limiter.now in
    subst (λ (o : Object). WritesObject (reach c.args.levels s) o (write_spot c.args.at c.args.used) (copy_state c.args.into.now l) c.write_list.result (copy_state c.write_list.new.into l)) (sym (c.in-List.is ∙ sym c.new-list.ensures.object)) (c.write_list.ensures c.args.levels l)

pub write_object-write_list-requires : goal.write_object-write_list-requires
write_object-write_list-requires g t c =
    let s : Segments = words_in (g.A.ReaderArena.segments c.args.arena.now) in
    let is : c.args.object ≡ list_object c.new-list.result = c.in-List.is ∙ sym c.new-list.ensures.object in
    record { bytes = c.segment_bytes-bytes-in-List.ensures ∙ ap (segment_bytes (g.A.ReaderArena.segments c.args.arena.now)) (sym (ap segment_of c.new-list.ensures.object)); inside = subst (IsInside s) is c.requires.inside; measured = c.new-list.ensures.measured; short = subst IsShort is c.requires.short; place = c.requires.place }

pub write_object-returns-in-StructList : goal.write_object-returns-in-StructList
write_object-returns-in-StructList g t c =
    let s : Segments = words_in (g.A.ReaderArena.segments c.args.arena.now) in
    subst (λ (o : Object). WritesObject (reach c.args.levels s) o (write_spot c.args.at c.args.used) (copy_state c.args.into.now c.args.limiter.now) c.write_structs.result (copy_state c.write_structs.new.into c.write_structs.new.limiter)) (sym c.in-StructList.is) c.write_structs.ensures

pub write_row-loop-i-init : goal.write_row-loop-i-init
write_row-loop-i-init g t c =
    let s : Segments = words_in (g.A.ReaderArena.segments c.args.arena.now) in
    pointers_begun c.args.levels s (place_view c.args.first) c.args.count c.args.at c.args.used c.args.into.now c.args.limiter.now c.requires.place.1 c.requires.place.2

-- what was written over words and a budget that nothing had changed
same_start : (copy : Copying Tree) (a b : List (List ℕ)) (l k : ReadLimiter) (r : Result ℕ Error) (new : CopyState) → (k ≡ l) × (b ≡ a) → WritesCopy copy (copy_state b k) r new → WritesCopy copy (copy_state a l) r new
same_start copy a b l k r new same w = subst (λ (x : ReadLimiter). WritesCopy copy (copy_state a x) r new) same.0 (subst (λ (x : List (List ℕ)). WritesCopy copy (copy_state x k) r new) same.1 w)

pub write_row-returns-in_err-next : goal.write_row-returns-in_err-next
write_row-returns-in_err-next g t c =
    let s : Segments = words_in (g.A.ReaderArena.segments c.args.arena.now) in
    let p : Place = place_view c.args.first in
    let n = c.args.levels in
    let count = c.args.count in
    let at = c.args.at in
    let r = err_from_is_err_and c.from_residual.result c.from_residual.ensures.1 in
    let e = c.in_err-next.field-0.0 in
    let same = c.write_common.ensures.untold (none_is c.write_common.result c.in_default.not-Some) in
    let here = same_start (value_copy (reach n s) (after p c.loop-i.i) (write_spot (at + c.loop-i.i) c.loop-i.end)) c.loop-i.into c.write_common.new.into c.loop-i.limiter c.write_common.new.limiter (Err e) (copy_state c.write_at.new.into c.write_at.new.limiter) same c.in_err-next.ensures in
    halts_is (over_used (each (tree_at n s) p count) have_capability (trees_put at (at + count)) (from_each (copy_visits n s) p count) c.args.used) (copy_state c.args.into.now c.args.limiter.now) (copy_state c.write_at.new.into c.write_at.new.limiter) c.from_residual.result r.0 e r.1 r.2
    (pointers_stopped c.args.levels s (place_view c.args.first) c.args.count c.args.at c.args.used c.args.into.now c.args.limiter.now c.loop-i.i c.loop-i.end c.loop-i.into c.write_at.new.into c.loop-i.limiter c.write_at.new.limiter e c.loop-i-test.true c.requires.place.0 here c.loop-i.invariant)

pub write_row-loop-i-preserved-in-Some : goal.write_row-loop-i-preserved-in-Some
write_row-loop-i-preserved-in-Some g t c =
    let s : Segments = words_in (g.A.ReaderArena.segments c.args.arena.now) in
    let p : Place = place_view c.args.first in
    let written : Written (value_copy (reach c.args.levels s) (after p c.loop-i.i) (write_spot (c.args.at + c.loop-i.i) c.loop-i.end)) (copy_state c.loop-i.into c.loop-i.limiter) c.in-Some.next (copy_state c.write_common.new.into c.write_common.new.limiter) = rw c.in-Some.is at c.write_common.ensures.written in
    pointers_next c.args.levels s p c.args.count c.args.at c.args.used c.args.into.now c.args.limiter.now c.loop-i.i c.loop-i.end c.in-Some.next c.loop-i.into c.write_common.new.into c.loop-i.limiter c.write_common.new.limiter
    c.loop-i-test.true c.requires.place.0 written c.loop-i.invariant

pub write_row-loop-i-preserved : goal.write_row-loop-i-preserved
write_row-loop-i-preserved g t c =
    let s : Segments = words_in (g.A.ReaderArena.segments c.args.arena.now) in
    let p : Place = place_view c.args.first in
    let same = c.write_common.ensures.untold (none_is c.write_common.result c.in_default.not-Some) in
    let here = same_start (value_copy (reach c.args.levels s) (after p c.loop-i.i) (write_spot (c.args.at + c.loop-i.i) c.loop-i.end)) c.loop-i.into c.write_common.new.into c.loop-i.limiter c.write_common.new.limiter (Ok c.in_ok-next.next) (copy_state c.write_at.new.into c.write_at.new.limiter) same c.in_ok-next.ensures in
    pointers_next c.args.levels s p c.args.count c.args.at c.args.used c.args.into.now c.args.limiter.now c.loop-i.i c.loop-i.end c.in_ok-next.next c.loop-i.into c.write_at.new.into c.loop-i.limiter c.write_at.new.limiter
    c.loop-i-test.true c.requires.place.0 here c.loop-i.invariant

pub write_row-returns : goal.write_row-returns
write_row-returns g t c =
    let s : Segments = words_in (g.A.ReaderArena.segments c.args.arena.now) in
    let past = c.loop-i-test.false in
    let last = c.loop-i.auto.i-end in
    pointers_ended c.args.levels s (place_view c.args.first) c.args.count c.args.at c.args.used c.args.into.now c.args.limiter.now c.loop-i.i c.loop-i.end c.loop-i.into c.loop-i.limiter (omega arith) c.loop-i.invariant

pub write_object-returns-in_err-end-in-PointerList : goal.write_object-returns-in_err-end-in-PointerList
write_object-returns-in_err-end-in-PointerList g t c =
    let s : Segments = words_in (g.A.ReaderArena.segments c.args.arena.now) in
    let n = c.args.levels in
    let p : Place = place_view c.in-PointerList.start in
    let count = c.in-PointerList.count in
    let o = object.PointerList c.in-PointerList.start count in
    let old = c.args.into.now in
    let l = c.args.limiter.now in
    let e = c.in_err-end-in-PointerList.field-0.0 in
    let r = err_from_is_err_and c.from_residual.result c.from_residual.ensures.1 in
    let full = c.in_err-end-in-PointerList.ensures.1 in
    subst (λ (o : Object). WritesObject (reach n s) o (write_spot c.args.at c.args.used) (copy_state old l) c.from_residual.result (copy_state old l)) (sym c.in-PointerList.is)
    (λ most room. no_room (object_copy (reach n s) o (write_spot c.args.at c.args.used) most) (copy_state old l) c.from_residual.result e (r.1 ∙ ap (λ (y : Error). Err y) r.2) c.in_err-end-in-PointerList.ensures.0 (omega arith)
    (no_room_for_pointers c.args.at c.args.used count old c.requires.place.1 full (each (tree_at n s) p count) (λ ts is. each_count (tree_at n s) p count ts is)))

pub write_object-returns-in_ok-end-in-PointerList : goal.write_object-returns-in_ok-end-in-PointerList
write_object-returns-in_ok-end-in-PointerList g t c =
    let s : Segments = words_in (g.A.ReaderArena.segments c.args.arena.now) in
    let n = c.args.levels in
    let p : Place = place_view c.in-PointerList.start in
    let count = c.in-PointerList.count in
    let old = c.args.into.now in
    let end = c.in_ok-end-in-PointerList.end in
    let end_is = c.in_ok-end-in-PointerList.ensures.0 in
    let bound = c.in_ok-end-in-PointerList.ensures.1 in
    let less = c.requires.place.0 in
    let same = c.put-in-PointerList.ensures.behind.0 in
    subst (λ (o : Object). WritesObject (reach n s) o (write_spot c.args.at c.args.used) (copy_state old c.args.limiter.now) c.write_row.result (copy_state c.write_row.new.into c.write_row.new.limiter)) (sym c.in-PointerList.is)
    (λ most room. pointers_gives (tree_at n s) p (from_each (copy_visits n s) p count) 0 count 0 0 0 c.args.at c.args.used end most c.pointer_to_list-word.result old c.put-in-PointerList.new.into c.write_row.new.into c.args.limiter.now c.write_row.new.limiter c.write_row.result
    end_is (omega arith) c.requires.place.1 (omega arith) (omega arith) c.put-in-PointerList.ensures.words c.put-in-PointerList.ensures.behind c.pointer_to_list-word.ensures
    (subst (λ (j : ℕ). WritesCopy (over_used (each (tree_at n s) p count) have_capability (λ ts. with_links c.args.used (c.args.used + count) (trim_each ts)) (from_each (copy_visits n s) p count) j) (copy_state c.put-in-PointerList.new.into c.args.limiter.now) c.write_row.result (copy_state c.write_row.new.into c.write_row.new.limiter)) refl c.write_row.ensures))

pub write_struct-returns-in_err-end : goal.write_struct-returns-in_err-end
write_struct-returns-in_err-end g t c = λ most room.
    let s : Segments = words_in (g.A.ReaderArena.segments c.args.arena.now) in
    let n = c.args.levels in
    let p : Place = place_view c.args.start in
    let d = c.args.data_words in
    let k = c.args.pointers in
    let o = object.Struct c.args.start d k in
    let old = c.args.into.now in
    let l = c.args.limiter.now in
    let e = c.in_err-end.field-0.0 in
    let r = err_from_is_err_and c.from_residual.result c.from_residual.ensures.1 in
    let full = c.in_err-end.ensures.1 in
    let cut = c.cut_of-cut.result in
    let few = c.cut_of-cut.ensures.sizes.2 in
    let few_too = c.cut_of-cut.ensures.sizes.3 in
    let there = part_there s p (d + k) c.requires.inside.0 d k (omega arith) in
    let ws = words_there s (after p d) k in
    let long = there_length s (after p d) k there in
    let is = c.cut_of-cut.ensures.pointers ∙ widest_one (λ q. kept (words_there s q k)) (after p d) (d + k) in
    let words = c.cut_of-cut.ensures.words ∙ widest_one (λ q. needed_words d (section_at s q d)) p (d + k) in
    no_room (object_copy (reach n s) o (write_spot c.args.at c.args.used) most) (copy_state old l) c.from_residual.result e (r.1 ∙ ap (λ (y : Error). Err y) r.2) c.in_err-end.ensures.0 (omega arith)
    (no_room_for_struct c.args.at c.args.used (cut.kept_words + cut.kept_pointers) old c.requires.place.1 full cut.kept_words cut.kept_pointers (section_at s p d) (each (tree_at n s) (after p d) k) d refl words
    (λ ts e. kept_count n s ws (after p d) ts (λ i h. word_is s (after p d) k there i (omega arith)) (ap (each (tree_at n s) (after p d)) long ∙ e) ∙ sym is))

pub write_element-returns-in_err-end : goal.write_element-returns-in_err-end
write_element-returns-in_err-end g t c =
    let s : Segments = words_in (g.A.ReaderArena.segments c.args.arena.now) in
    let n = c.args.levels in
    let cut = c.args.cut in
    let start : Place = place_view c.args.start in
    let p : Place = after start cut.data_words in
    let a = cut.kept_pointers in
    let b = cut.pointers - a in
    let at = c.args.at in
    let d = cut.data_words in
    let k = cut.pointers in
    let old = c.args.into.now in
    let there = c.requires.cut.0.0 in
    let few = c.requires.cut.2 in
    let sum : a + b ≡ cut.pointers = omega arith in
    let pointers = part_there s start (d + k) there d k (omega arith) in
    let all = ap (λ (j : ℕ). is_some (words_at s p j)) sum ∙ pointers in
    let small = subst (λ (j : ℕ). kept (words_there s p j) ≤ a) (sym sum) c.requires.cut.3 in
    let words = c.copy_words.ensures.words ∙ same_words s start d cut.kept_words at (words_view old) (front_there s start (d + k) there d (omega arith)) c.requires.cut.1 in
    let r = err_from_is_err_and c.from_residual.result c.from_residual.ensures.1 in
    let e = c.in_err-end.field-0.0 in
    let section = section_at s start cut.data_words in
    halts_is (over_used (each (tree_at n s) p cut.pointers) have_capability (λ ts. with_cells at (at + (cut.kept_words + a)) cut.kept_words a (element section (resized a (trim_each ts)) no_elements)) (from_each (copy_visits n s) p cut.pointers) c.args.used) (copy_state c.args.into.now c.args.limiter.now) (copy_state c.write_row.new.into c.write_row.new.limiter) c.from_residual.result r.0 e r.1 r.2
    (subst (λ (j : ℕ). Unwritten (over_used (each (tree_at n s) p j) have_capability (λ ts. with_cells at (at + (cut.kept_words + a)) cut.kept_words a (element section (resized a (trim_each ts)) no_elements)) (from_each (copy_visits n s) p j) c.args.used) (copy_state c.args.into.now c.args.limiter.now) e (copy_state c.write_row.new.into c.write_row.new.limiter)) sum
    (element_halts n s p a b at cut.kept_words c.args.used section c.args.into.now c.copy_words.new.into c.write_row.new.into c.args.limiter.now c.write_row.new.limiter e all small c.requires.place.0 c.requires.place.1 words c.copy_words.ensures.behind c.in_err-end.ensures))

pub write_element-returns : goal.write_element-returns
write_element-returns g t c =
    let s : Segments = words_in (g.A.ReaderArena.segments c.args.arena.now) in
    let n = c.args.levels in
    let cut = c.args.cut in
    let start : Place = place_view c.args.start in
    let d = cut.data_words in
    let k = cut.pointers in
    let p : Place = after start d in
    let a = cut.kept_pointers in
    let b = k - a in
    let at = c.args.at in
    let used = c.args.used in
    let old = c.args.into.now in
    let mid = c.copy_words.new.into in
    let new = c.write_row.new.into in
    let l = c.args.limiter.now in
    let end = c.in_ok-end.end in
    let there = c.requires.cut.0.0 in
    let few = c.requires.cut.2 in
    let sum : a + b ≡ k = omega arith in
    let section = section_at s start d in
    let pointers = part_there s start (d + k) there d k (omega arith) in
    let all = ap (λ (j : ℕ). is_some (words_at s p j)) sum ∙ pointers in
    let small = subst (λ (j : ℕ). kept (words_there s p j) ≤ a) (sym sum) c.requires.cut.3 in
    let words = c.copy_words.ensures.words ∙ same_words s start d cut.kept_words at (words_view old) (front_there s start (d + k) there d (omega arith)) c.requires.cut.1 in
    subst (λ (j : ℕ). WritesCopy (over_used (each (tree_at n s) p j) have_capability (λ ts. with_cells at (at + (cut.kept_words + a)) cut.kept_words a (element section (resized a (trim_each ts)) no_elements)) (from_each (copy_visits n s) p j) used) (copy_state old l) (Ok end) (copy_state new c.follow_nulls.new.limiter)) sum
    (element_gives n s p a b at cut.kept_words used section old mid new l c.write_row.new.limiter c.follow_nulls.new.limiter end all small c.requires.place.0 c.requires.place.1 words c.copy_words.ensures.behind c.follow_nulls.ensures.followed c.follow_nulls.ensures.granted c.in_ok-end.ensures)

pub write_struct-returns : goal.write_struct-returns
write_struct-returns g t c = λ most room.
    let s : Segments = words_in (g.A.ReaderArena.segments c.args.arena.now) in
    let n = c.args.levels in
    let f = tree_at n s in
    let v = copy_visits n s in
    let p : Place = place_view c.args.start in
    let cut = c.cut_of-cut.result in
    let sizes = c.cut_of-cut.ensures.sizes in
    let d = c.args.data_words in
    let k = c.args.pointers in
    let a = cut.kept_words in
    let b = cut.kept_pointers in
    let at = c.args.at in
    let used = c.args.used in
    let end = c.in_ok-end.end in
    let old = c.args.into.now in
    let mid = c.put.new.into in
    let new = c.write_element.new.into in
    let l = c.args.limiter.now in
    let m = c.write_element.new.limiter in
    let r = c.write_element.result in
    let less = c.requires.place.0 in
    let same = c.put.ensures.behind.0 in
    let end_is = c.in_ok-end.ensures.0 in
    let bound = c.in_ok-end.ensures.1 in
    let few = sizes.2 in
    let few_too = sizes.3 in
    let section = section_at s p d in
    let there = part_there s p (d + k) c.requires.inside.0 d k (omega arith) in
    let ws = words_there s (after p d) k in
    let long = there_length s (after p d) k there in
    let is = c.cut_of-cut.ensures.pointers ∙ widest_one (λ q. kept (words_there s q k)) (after p d) (d + k) in
    let words = c.cut_of-cut.ensures.words ∙ widest_one (λ q. needed_words d (section_at s q d)) p (d + k) in
    let x = subst (λ (j : ℕ). WritesCopy (over_used (each f (after p d) j) have_capability (λ ts. with_cells used (used + (a + b)) a b (element section (resized b (trim_each ts)) no_elements)) (from_each v (after p d) j) end) (copy_state mid l) r (copy_state new m)) sizes.1
    (subst (λ (j : ℕ). WritesCopy (over_used (each f (after p j) cut.pointers) have_capability (λ ts. with_cells used (used + (a + b)) a b (element (section_at s p j) (resized b (trim_each ts)) no_elements)) (from_each v (after p j) cut.pointers) end) (copy_state mid l) r (copy_state new m)) sizes.0 c.write_element.ensures) in
    struct_gives f (after p d) (from_each v (after p d) k) d k a b section at used end most c.pointer_to_cut-word.result old mid new l m r end_is (omega arith) c.requires.place.1 (omega arith) (omega arith) c.put.ensures.words c.put.ensures.behind words
    (λ ts e. kept_count n s ws (after p d) ts (λ i h. word_is s (after p d) k there i (omega arith)) (ap (each f (after p d)) long ∙ e) ∙ sym is)
    (λ ts e. c.pointer_to_cut-word.ensures section ts e) x

pub write_structs-returns-in_err-end : goal.write_structs-returns-in_err-end
write_structs-returns-in_err-end g t c = λ most room.
    let s : Segments = words_in (g.A.ReaderArena.segments c.args.arena.now) in
    let n = c.args.levels in
    let p : Place = place_view c.args.start in
    let count = c.args.count in
    let d = c.args.data_words in
    let k = c.args.pointers in
    let cut = c.cut_of-cut.result in
    let ws = words_there s p c.args.words in
    let o = object.StructList c.args.start c.args.words count d k in
    let old = c.args.into.now in
    let l = c.args.limiter.now in
    let e = c.in_err-end.field-0.0 in
    let r = err_from_is_err_and c.from_residual.result c.from_residual.ensures.1 in
    let full = c.in_err-end.ensures.1 in
    let fit = c.requires.fit in
    let own = no_wider c.args.count c.cut_of-cut.result.kept_words c.cut_of-cut.result.kept_pointers c.args.data_words c.args.pointers c.cut_of-cut.ensures.sizes.2 c.cut_of-cut.ensures.sizes.3 in
    no_room (object_copy (reach n s) o (write_spot c.args.at c.args.used) most) (copy_state old l) c.from_residual.result e (r.1 ∙ ap (λ (y : Error). Err y) r.2) c.in_err-end.ensures.0 (omega arith)
    (no_room_for_structs c.args.at c.args.used (1 + count * (cut.kept_words + cut.kept_pointers)) old c.requires.place.1 full count d k cut.kept_words cut.kept_pointers (each_element (tree_at n s) p ws d k count) refl
    (λ es is. (
      each_element_count (tree_at n s) p ws d k count es is,
      least_words count s p c.args.words d k (tree_at n s) es c.requires.inside.0 fit is ∙ sym c.cut_of-cut.ensures.words,
      least_pointers count n s p ws c.args.words d k es c.requires.inside.0 fit is ∙ sym c.cut_of-cut.ensures.pointers,
    )))

pub write_structs-returns : goal.write_structs-returns
write_structs-returns g t c = λ most room.
    let s : Segments = words_in (g.A.ReaderArena.segments c.args.arena.now) in
    let n = c.args.levels in
    let p : Place = place_view c.args.start in
    let cut = c.cut_of-cut.result in
    let sizes = c.cut_of-cut.ensures.sizes in
    let count = c.args.count in
    let d = c.args.data_words in
    let k = c.args.pointers in
    let a = cut.kept_words in
    let b = cut.kept_pointers in
    let at = c.args.at in
    let used = c.args.used in
    let end = c.in_ok-end.end in
    let old = c.args.into.now in
    let first = c.put.new.into in
    let mid = c.put-2.new.into in
    let new = c.write_elements.new.into in
    let l = c.args.limiter.now in
    let m = c.write_elements.new.limiter in
    let r = c.write_elements.result in
    let ws = words_there s p c.args.words in
    let less = c.requires.place.0 in
    let same = c.put.ensures.behind.0 in
    let same_too = c.put-2.ensures.behind.0 in
    let end_is = c.in_ok-end.ensures.0 in
    let bound = c.in_ok-end.ensures.1 in
    let fit = c.requires.fit in
    let own = no_wider count a b d k sizes.2 sizes.3 in
    let gives : ℕ → ℕ → Type 0 = λ i j. WritesCopy (over_used (each_element (tree_at n s) p ws i j count) elements_have_capability (λ es. with_cells (used + 1) (used + 1 + count * (a + b)) a b (with_pointers b (trim_elements es))) (from_elements (copy_visits n s) p i j count) end) (copy_state mid l) r (copy_state new m) in
    let x : gives d k = subst (λ (j : ℕ). gives d j) sizes.1 (subst (λ (j : ℕ). gives j cut.pointers) sizes.0 c.write_elements.ensures) in
    structs_gives n s p c.args.words count d k a b at used end most c.pointer_to_list-word.result c.pointer_to_struct-tag.result old first mid new l m r c.requires.inside.0 fit end_is (omega arith) (omega arith) c.requires.place.1 (omega arith) (omega arith)
    c.put.ensures.words c.put.ensures.behind c.put-2.ensures.words c.put-2.ensures.behind c.cut_of-cut.ensures.words c.cut_of-cut.ensures.pointers c.pointer_to_list-word.ensures c.pointer_to_struct-tag.ensures x

-- elements that keep all their words take as many as they have
wide_place : (at count used a b d k : ℕ) → d ≡ a → k ≡ b → at + count * (a + b) ≤ used → at + count * (d + k) ≤ used
wide_place at count used a b d k e f h = let same : a + b ≡ d + k = omega arith in subst (λ (x : ℕ). at + count * x ≤ used) same h

pub write_wide-loop-i-init : goal.write_wide-loop-i-init
write_wide-loop-i-init g t c =
    let s : Segments = words_in (g.A.ReaderArena.segments c.args.arena.now) in
    let p : Place = place_view c.args.start in
    let d = c.args.cut.data_words in
    let k = c.args.cut.pointers in
    let count = c.args.count in
    let at = c.args.at in
    let both = c.requires.whole in
    let place = wide_place at count c.args.used c.args.cut.kept_words c.args.cut.kept_pointers c.args.cut.data_words c.args.cut.pointers c.requires.whole.0 c.requires.whole.1 c.requires.place.0 in
    let bound = c.requires.place.1 in
    let there = front_there s p c.args.words c.requires.inside.0 (count * (d + k)) c.requires.fit in
    let section = section_at s p (count * (d + k)) in (
      laid_begins c.args.levels s p d k count at c.args.used c.args.into.now c.args.limiter.now (words_there s p c.args.words) section c.copy_words.new.into place bound c.requires.place.2 c.copy_words.ensures.words c.copy_words.ensures.behind,
      laid_first s p d k count at c.args.into.now c.copy_words.new.into there c.are_words.ensures (omega arith) c.copy_words.ensures.words,
    )

pub write_wide-returns-in_err-next : goal.write_wide-returns-in_err-next
write_wide-returns-in_err-next g t c =
    let s : Segments = words_in (g.A.ReaderArena.segments c.args.arena.now) in
    let p : Place = place_view c.args.start in
    let n = c.args.levels in
    let cut = c.args.cut in
    let d = cut.data_words in
    let k = cut.pointers in
    let count = c.args.count in
    let at = c.args.at in
    let ws = words_there s p c.args.words in
    let r = err_from_is_err_and c.from_residual.result c.from_residual.ensures.1 in
    let e = c.in_err-next.field-0.0 in
    let both = c.requires.whole in
    let place = wide_place at count c.args.used c.args.cut.kept_words c.args.cut.kept_pointers c.args.cut.data_words c.args.cut.pointers c.requires.whole.0 c.requires.whole.1 c.requires.place.0 in
    let gives : ℕ → ℕ → Type 0 = λ x y. WritesCopy (over_used (each_element (tree_at n s) p ws d k count) elements_have_capability (elements_put at (at + count * (x + y)) x y) (from_elements (copy_visits n s) p d k count) c.args.used) (copy_state c.args.into.now c.args.limiter.now) c.from_residual.result (copy_state c.write_row.new.into c.write_row.new.limiter) in
    let here : gives d k = halts_is (over_used (each_element (tree_at n s) p ws d k count) elements_have_capability (elements_put at (at + count * (d + k)) d k) (from_elements (copy_visits n s) p d k count) c.args.used) (copy_state c.args.into.now c.args.limiter.now) (copy_state c.write_row.new.into c.write_row.new.limiter) c.from_residual.result r.0 e r.1 r.2
    (laid_stopped n s p d k count at c.args.used c.args.into.now c.args.limiter.now c.args.words c.loop-i.i c.loop-i.end c.loop-i.into c.write_row.new.into c.loop-i.limiter c.write_row.new.limiter c.loop-i-test.true c.requires.inside c.requires.fit place c.loop-i.invariant e c.in_err-next.ensures) in
    subst (λ (x : ℕ). gives x cut.kept_pointers) both.0 (subst (λ (y : ℕ). gives d y) both.1 here)

pub write_wide-loop-i-preserved : goal.write_wide-loop-i-preserved
write_wide-loop-i-preserved g t c =
    let s : Segments = words_in (g.A.ReaderArena.segments c.args.arena.now) in
    let p : Place = place_view c.args.start in
    let cut = c.args.cut in
    let place = wide_place c.args.at c.args.count c.args.used cut.kept_words cut.kept_pointers cut.data_words cut.pointers c.requires.whole.0 c.requires.whole.1 c.requires.place.0 in
    laid_preserved c.args.levels s p cut.data_words cut.pointers c.args.count c.args.at c.args.used c.args.into.now c.args.limiter.now c.args.words c.loop-i.i c.loop-i.end c.loop-i.into c.write_row.new.into c.loop-i.limiter c.write_row.new.limiter
    c.loop-i-test.true c.requires.inside c.requires.fit place c.loop-i.invariant c.in_ok-next.next c.in_ok-next.ensures

pub write_wide-returns-then-cut-eq0 : goal.write_wide-returns-then-cut-eq0
write_wide-returns-then-cut-eq0 g t c =
    let s : Segments = words_in (g.A.ReaderArena.segments c.args.arena.now) in
    let p : Place = place_view c.args.start in
    let n = c.args.levels in
    let cut = c.args.cut in
    let d = cut.data_words in
    let k = cut.pointers in
    let count = c.args.count in
    let at = c.args.at in
    let used = c.args.used in
    let old = c.args.into.now in
    let mid = c.copy_words.new.into in
    let l = c.args.limiter.now in
    let ws = words_there s p c.args.words in
    let both = c.requires.whole in
    let place = wide_place at count used cut.kept_words cut.kept_pointers d k both.0 both.1 c.requires.place.0 in
    let there = front_there s p c.args.words c.requires.inside.0 (count * (d + k)) c.requires.fit in
    let bound = c.requires.place.1 in
    let section = section_at s p (count * (d + k)) in
    let begins = laid_begins n s p d k count at used old l ws section mid place bound c.requires.place.2 c.copy_words.ensures.words c.copy_words.ensures.behind in
    let first = laid_first s p d k count at old mid there c.are_words.ensures (omega arith) c.copy_words.ensures.words in
    let all = laid_through n s p d k count at used old l c.args.words mid c.if-cut-eq0.true c.requires.inside c.requires.fit place count (omega arith) (begins, first) in
    let gives : ℕ → ℕ → Type 0 = λ x y. WritesCopy (over_used (each_element (tree_at n s) p ws d k count) elements_have_capability (elements_put at (at + count * (x + y)) x y) (from_elements (copy_visits n s) p d k count) used) (copy_state old l) (Ok used) (copy_state mid l) in
    let here : gives d k = elements_ended n s p d k d k count at used old l ws count used mid l refl all.0 in
    subst (λ (x : ℕ). gives x cut.kept_pointers) both.0 (subst (λ (y : ℕ). gives d y) both.1 here)

pub write_wide-returns : goal.write_wide-returns
write_wide-returns g t c =
    let s : Segments = words_in (g.A.ReaderArena.segments c.args.arena.now) in
    let p : Place = place_view c.args.start in
    let n = c.args.levels in
    let cut = c.args.cut in
    let d = cut.data_words in
    let k = cut.pointers in
    let count = c.args.count in
    let at = c.args.at in
    let ws = words_there s p c.args.words in
    let past = c.loop-i-test.false in
    let last = c.loop-i.auto.i-end in
    let both = c.requires.whole in
    let gives : ℕ → ℕ → Type 0 = λ x y. WritesCopy (over_used (each_element (tree_at n s) p ws d k count) elements_have_capability (elements_put at (at + count * (x + y)) x y) (from_elements (copy_visits n s) p d k count) c.args.used) (copy_state c.args.into.now c.args.limiter.now) (Ok c.loop-i.end) (copy_state c.loop-i.into c.loop-i.limiter) in
    let here : gives d k = elements_ended n s p d k d k count at c.args.used c.args.into.now c.args.limiter.now ws c.loop-i.i c.loop-i.end c.loop-i.into c.loop-i.limiter (omega arith) c.loop-i.invariant.0 in
    subst (λ (x : ℕ). gives x cut.kept_pointers) both.0 (subst (λ (y : ℕ). gives d y) both.1 here)

pub write_elements-loop-i-init : goal.write_elements-loop-i-init
write_elements-loop-i-init g t c =
    let s : Segments = words_in (g.A.ReaderArena.segments c.args.arena.now) in
    let p : Place = place_view c.args.start in
    let cut = c.args.cut in
    elements_begun c.args.levels s p cut.data_words cut.pointers cut.kept_words cut.kept_pointers c.args.count c.args.at c.args.used c.args.into.now c.args.limiter.now (words_there s p c.args.words) c.requires.place.1 c.requires.place.2

pub write_elements-returns-in_err-next : goal.write_elements-returns-in_err-next
write_elements-returns-in_err-next g t c =
    let s : Segments = words_in (g.A.ReaderArena.segments c.args.arena.now) in
    let p : Place = place_view c.args.start in
    let n = c.args.levels in
    let cut = c.args.cut in
    let d = cut.data_words in
    let k = cut.pointers in
    let a = cut.kept_words in
    let b = cut.kept_pointers in
    let count = c.args.count in
    let at = c.args.at in
    let ws = words_there s p c.args.words in
    let r = err_from_is_err_and c.from_residual.result c.from_residual.ensures.1 in
    let e = c.in_err-next.field-0.0 in
    halts_is (over_used (each_element (tree_at n s) p ws d k count) elements_have_capability (elements_put at (at + count * (a + b)) a b) (from_elements (copy_visits n s) p d k count) c.args.used) (copy_state c.args.into.now c.args.limiter.now) (copy_state c.write_element.new.into c.write_element.new.limiter) c.from_residual.result r.0 e r.1 r.2
    (elements_stopped n s p d k a b count at c.args.used c.args.into.now c.args.limiter.now c.args.words c.loop-i.i c.loop-i.end c.loop-i.into c.write_element.new.into c.loop-i.limiter c.write_element.new.limiter e c.loop-i-test.true c.requires.inside c.requires.fit c.requires.place.0 c.in_err-next.ensures c.loop-i.invariant)

pub write_elements-loop-i-preserved : goal.write_elements-loop-i-preserved
write_elements-loop-i-preserved g t c =
    let s : Segments = words_in (g.A.ReaderArena.segments c.args.arena.now) in
    let p : Place = place_view c.args.start in
    let cut = c.args.cut in
    elements_next c.args.levels s p cut.data_words cut.pointers cut.kept_words cut.kept_pointers c.args.count c.args.at c.args.used c.args.into.now c.args.limiter.now c.args.words c.loop-i.i c.loop-i.end c.in_ok-next.next c.loop-i.into c.write_element.new.into c.loop-i.limiter c.write_element.new.limiter
    c.loop-i-test.true c.requires.inside c.requires.fit c.requires.place.0 c.in_ok-next.ensures c.loop-i.invariant

pub write_elements-returns : goal.write_elements-returns
write_elements-returns g t c =
    let s : Segments = words_in (g.A.ReaderArena.segments c.args.arena.now) in
    let p : Place = place_view c.args.start in
    let cut = c.args.cut in
    let past = c.loop-i-test.false in
    let last = c.loop-i.auto.i-end in
    elements_ended c.args.levels s p cut.data_words cut.pointers cut.kept_words cut.kept_pointers c.args.count c.args.at c.args.used c.args.into.now c.args.limiter.now (words_there s p c.args.words) c.loop-i.i c.loop-i.end c.loop-i.into c.loop-i.limiter (omega arith) c.loop-i.invariant

pub write_structs-write_elements-requires : goal.write_structs-write_elements-requires
write_structs-write_elements-requires g t c =
    let cut = c.cut_of-cut.result in
    let sizes = c.cut_of-cut.ensures.sizes in
    let s : Segments = words_in (g.A.ReaderArena.segments c.args.arena.now) in
    let p : Place = place_view c.args.start in
    let d = c.args.data_words in
    let k = c.args.pointers in
    let w = d + k in
    let width : cut.data_words + cut.pointers ≡ w = (let e = sizes.0 in let f = sizes.1 in omega arith) in
    let fit = subst (λ (j : ℕ). c.args.count * j ≤ c.args.words) (sym width) c.requires.fit in
    let end_is = c.in_ok-end.ensures.0 in
    let bound = c.in_ok-end.ensures.1 in
    let near = c.in_ok-end.ensures.2 in
    let same = c.put.ensures.behind.0 in
    let same_too = c.put-2.ensures.behind.0 in
    let e0 = sizes.0 in
    let e1 = sizes.1 in
    let few = sizes.2 in
    let few_too = sizes.3 in
    λ κs lives. (omega arith, (lives, (c.requires.bytes, (c.requires.inside, (fit, ((omega arith, omega arith), ((λ i h. cut_parts s p cut c.args.words c.args.count d k i h sizes.0 sizes.1 sizes.2 sizes.3 c.requires.inside c.requires.fit c.cut_of-cut.ensures.pointers), (omega arith, omega arith, near))))))))

pub write_any-write_object-requires : goal.write_any-write_object-requires
write_any-write_object-requires g t c =
    let s : Segments = words_in (g.A.ReaderArena.segments c.args.arena.now) in
    let some = c.if-levels-eq0.false in
    λ κs lives. (omega arith, (lives, (c.in_ok-object.ensures.0.inside, (c.in_ok-object.ensures.2, (short_at s (place_view c.args.place) c.in_ok-object.object c.args.limiter.now c.follow_data.new.limiter c.in_ok-object.ensures.0, c.requires)))))

pub write_object-returns-in-Null : goal.write_object-returns-in-Null
write_object-returns-in-Null g t c =
    let s : Segments = words_in (g.A.ReaderArena.segments c.args.arena.now) in
    let l = c.args.limiter.now in
    elim c.in-Null.is [
      | inl e ↦ subst (λ (o : Object). WritesObject (reach c.args.levels s) o (write_spot c.args.at c.args.used) (copy_state c.args.into.now l) (Ok c.args.used) (copy_state c.put.new.into l)) (sym e)
          (λ most room. null_put c.args.at most c.args.used c.args.into.now c.put.new.into l c.requires.place (omega arith) c.put.ensures.words c.put.ensures.behind)
      | inr e ↦ absurd (subst IsNoCapability e.1 c.requires.data)
    ]

pub write_at-returns-in-Some-follow_other : goal.write_at-returns-in-Some-follow_other
write_at-returns-in-Some-follow_other g t c =
    let s : Segments = words_in (g.A.ReaderArena.segments c.args.arena.now) in
    let p : Place = place_view c.args.place in
    let n = c.args.levels in
    let l = c.args.limiter.now in
    let m = c.follow_near_list.new.limiter in
    let k = c.follow_near_struct.new.limiter in
    let q = c.follow_other.new.limiter in
    let o = c.in-Some-follow_other.object in
    let same = untold list_object (FollowsData n s p) l m c.in_ok-list.field-0 c.in_default.not-Some c.in_ok-list.ensures.copied in
    let same_too = untold struct_object (FollowsData n s p) m k c.in_ok-near.field-0 c.in_default-2.not-Some c.in_ok-near.ensures.copied in
    let deep : 0 < n = rw c.in-Some-follow_other.is at c.follow_other.ensures.deep in
    let here : FollowsData n s p k (Ok o) q = rw c.in-Some-follow_other.is at c.follow_other.ensures.followed in
    let followed = subst (λ (x : ReadLimiter). FollowsData n s p x (Ok o) q) (same_too ∙ same) here in
    deep_at n s p c.args.at c.args.used o c.args.into.now c.write_object.new.into l q c.write_object.new.limiter (n - 1) c.write_object.result (omega arith) followed.0 followed.1 followed.2 c.write_object.ensures

pub write_at-write_object-requires : goal.write_at-write_object-requires
write_at-write_object-requires g t c =
    let s : Segments = words_in (g.A.ReaderArena.segments c.args.arena.now) in
    let p : Place = place_view c.args.place in
    let n = c.args.levels in
    let k = c.follow_near_struct.new.limiter in
    let q = c.follow_other.new.limiter in
    let o = c.in-Some-follow_other.object in
    let deep : 0 < n = rw c.in-Some-follow_other.is at c.follow_other.ensures.deep in
    let followed : FollowsData n s p k (Ok o) q = rw c.in-Some-follow_other.is at c.follow_other.ensures.followed in
    λ κs lives. (omega arith, (lives, (followed.0.inside, (followed.2, (short_at s p o k q followed.0, c.requires.place)))))

pub write_at-returns : goal.write_at-returns
write_at-returns g t c =
    let s : Segments = words_in (g.A.ReaderArena.segments c.args.arena.now) in
    let p : Place = place_view c.args.place in
    let n = c.args.levels in
    let l = c.args.limiter.now in
    let m = c.follow_near_list.new.limiter in
    let k = c.follow_near_struct.new.limiter in
    let q = c.follow_other.new.limiter in
    let same = untold list_object (FollowsData n s p) l m c.in_ok-list.field-0 c.in_default.not-Some c.in_ok-list.ensures.copied in
    let same_too = untold struct_object (FollowsData n s p) m k c.in_ok-near.field-0 c.in_default-2.not-Some c.in_ok-near.ensures.copied in
    let still = c.follow_other.ensures.untold (none_is c.follow_other.result c.in_default-follow_other.not-Some) in
    subst (λ (x : ReadLimiter). WritesCopy (value_copy (reach n s) p (write_spot c.args.at c.args.used)) (copy_state c.args.into.now x) c.write_any.result (copy_state c.write_any.new.into c.write_any.new.limiter)) (still ∙ same_too ∙ same) c.write_any.ensures
