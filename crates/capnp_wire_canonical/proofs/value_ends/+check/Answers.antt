-- What each step of the check tells.
use Rattle.std.proofs.Common.{◌≡◌, ℕ, ◌+◌, ◌-◌, ◌*◌, true, Some, None, Ok, Err, refl, ap, sym, ◌∙◌, subst, inl, inr, arith}
use Rattle.std.specs.Option.{is_some}
use Rattle.std.proofs.lemmas.Result.{err_from_is_err_and}
use Rattle.capnp_model.specs.Segments.{Segments, Place, place, after, words_at}
use Rattle.capnp_model.specs.Traversal.{tree_at}
use Rattle.capnp_model.specs.Trimming.{trim}
use Rattle.capnp_model.specs.Encoding.{struct_pointer, list_pointer}
use Rattle.capnp_model.specs.Spelling.{AreWords}
use Rattle.capnp_model.proofs.lemmas.Chaining.{some_is}
use Rattle.capnp_units.specs.Segments.{words_in}
use Rattle.capnp_wire_objects.specs.declared.object.Object.{Object}
use Rattle.capnp_wire_objects.specs.declared.object.Object.TheVariants as object
use Rattle.capnp_units.specs.declared.limiter.ReadLimiter.{ReadLimiter}
use Rattle.capnp_wire_objects.specs.Arenas.{segment_bytes}
use Rattle.capnp_wire_objects.specs.Places.{place_view}
use Rattle.capnp_wire_objects.specs.Near.{list_object, struct_object, IsMeasured, IsNear}
use Rattle.capnp_wire_objects.specs.Follow.{FollowsWithin}
use Rattle.capnp_wire_objects.specs.Objects.{AreThere}
use Rattle.capnp_wire_objects.proofs.lemmas.Measuring.{unfollowed_at}
use Rattle.capnp_wire_canonical.specs.Reaches.{reach}
use Rattle.capnp_wire_canonical.specs.Standing.{segment_words, HasHead, LeadsToObject}
use Rattle.capnp_wire_canonical.specs.Checks.{value_test, object_test, row_test, elements_test, Tests}
use Rattle.capnp_wire_canonical.specs.Objects.{IsShort}
use Rattle.capnp_wire_canonical.proofs.lemmas.Checking.{refused_is, differs_at}
use Rattle.capnp_wire_canonical.proofs.NearPlaces.{far_differs, near_leads}
use Rattle.capnp_wire_canonical.proofs.lemmas.NearStructs.{struct_stands, least_words, least_count, struct_there}
use Rattle.capnp_wire_canonical.proofs.CheckedRows.{row_begun, row_next, row_differs, row_stopped, row_ended}
use Rattle.capnp_wire_canonical.proofs.CheckedElements.{elements_begun, elements_next, elements_differ, elements_stopped, elements_ended, plain_elements}
use Rattle.capnp_wire_canonical.proofs.Parts.{part_there, front_there}
use Rattle.capnp_wire_canonical.proofs.StandingObjects.{within_reach, wide_pointer, struct_tests, struct_head, lead_word, word_matches, word_differs}
use Rattle.capnp_wire_canonical.proofs.StandingLists.{pointers_tests, pointers_word, structs_tests, structs_read, least_of}
use Rattle.capnp_wire_canonical.proofs.StandingPlaces.{pointers_where, structs_where}
use Rattle.capnp_wire_canonical.proofs.StandingValues.{null_tests, capability_tests, deep_tests, null_leaf, other_leaf}
use Rattle.capnp_wire_canonical.proofs.Steps.{short_at}
use Rattle.capnp_wire_canonical.proofs.NearFollowed.{some_left, untold, none_is}
use Rattle.capnp_wire_canonical.proofs.value_ends.+check.Goals as goal

pub row_end-loop-i-init : goal.row_end-loop-i-init
row_end-loop-i-init g t c = row_begun c.args.levels (words_in (g.A.ReaderArena.segments c.args.arena.now)) (place_view c.args.first) c.args.count c.args.head c.args.limiter.now c.requires.head

pub row_end-returns-in_err-next : goal.row_end-returns-in_err-next
row_end-returns-in_err-next g t c =
    let s : Segments = words_in (g.A.ReaderArena.segments c.args.arena.now) in
    let p : Place = place_view c.args.first in
    let n = c.args.levels in
    let count = c.args.count in
    let head = c.args.head in
    let l = c.args.limiter.now in
    let given = c.loop-i.invariant.there in
    let r = err_from_is_err_and c.from_residual.result c.from_residual.ensures.1 in
    let e = c.in_err-next.field-0.0 in
    refused_is (row_test (reach n s) p count head) l c.item_end.new.limiter c.from_residual.result r.0 e r.1 r.2
    (row_stopped n s p count head l c.loop-i.i c.loop-i.end c.loop-i-test.true given.behind c.loop-i.limiter c.item_end.new.limiter e c.in_err-next.ensures c.loop-i.invariant)

pub row_end-returns-in-None : goal.row_end-returns-in-None
row_end-returns-in-None g t c =
    let s : Segments = words_in (g.A.ReaderArena.segments c.args.arena.now) in
    let given = c.loop-i.invariant.there in
    row_differs c.args.levels s (place_view c.args.first) c.args.count c.args.head c.args.limiter.now c.loop-i.i c.loop-i.end c.loop-i-test.true given.behind c.loop-i.limiter c.item_end.new.limiter (rw c.in-None.is at c.in_ok-next.ensures) c.loop-i.invariant

pub row_end-loop-i-preserved : goal.row_end-loop-i-preserved
row_end-loop-i-preserved g t c =
    let s : Segments = words_in (g.A.ReaderArena.segments c.args.arena.now) in
    let given = c.loop-i.invariant.there in
    row_next c.args.levels s (place_view c.args.first) c.args.count c.args.head c.args.limiter.now c.loop-i.i c.loop-i.end c.loop-i-test.true given.behind c.in-Some.next c.loop-i.limiter c.item_end.new.limiter (rw c.in-Some.is at c.in_ok-next.ensures) c.loop-i.invariant

pub row_end-returns : goal.row_end-returns
row_end-returns g t c =
    let s : Segments = words_in (g.A.ReaderArena.segments c.args.arena.now) in
    let past = c.loop-i-test.false in
    let last = c.loop-i.auto.i-end in
    row_ended c.args.levels s (place_view c.args.first) c.args.count c.args.head c.args.limiter.now c.loop-i.i c.loop-i.end c.loop-i.limiter (omega arith) c.requires.inside c.loop-i.invariant

pub elements_end-loop-i-init : goal.elements_end-loop-i-init
elements_end-loop-i-init g t c = elements_begun c.args.levels (words_in (g.A.ReaderArena.segments c.args.arena.now)) (place_view c.args.start) c.args.count c.args.size.data_words c.args.size.pointers c.args.head c.args.limiter.now c.requires.head

pub elements_end-returns-then-size-eq0 : goal.elements_end-returns-then-size-eq0
elements_end-returns-then-size-eq0 g t c =
    let s : Segments = words_in (g.A.ReaderArena.segments c.args.arena.now) in
    let p : Place = place_view c.args.start in
    let n = c.args.levels in
    let count = c.args.count in
    let d = c.args.size.data_words in
    let l = c.args.limiter.now in
    let none = c.if-size-eq0.true in
    subst (λ (j : ℕ). Tests (elements_test (reach n s) p count d j c.args.head) l (Ok (Some c.args.head)) l) (sym none)
    (plain_elements n s p count d c.args.head l (subst (λ (j : ℕ). AreThere s p (count * (d + j))) none c.requires.inside) (subst (λ (j : ℕ). HasHead s p (count * (d + j)) c.args.head) none c.requires.head))

pub elements_end-returns-in_err-next : goal.elements_end-returns-in_err-next
elements_end-returns-in_err-next g t c =
    let s : Segments = words_in (g.A.ReaderArena.segments c.args.arena.now) in
    let p : Place = place_view c.args.start in
    let n = c.args.levels in
    let count = c.args.count in
    let d = c.args.size.data_words in
    let k = c.args.size.pointers in
    let head = c.args.head in
    let l = c.args.limiter.now in
    let r = err_from_is_err_and c.from_residual.result c.from_residual.ensures.1 in
    let e = c.in_err-next.field-0.0 in
    refused_is (elements_test (reach n s) p count d k head) l c.row_end.new.limiter c.from_residual.result r.0 e r.1 r.2
    (elements_stopped n s p count d k head l c.loop-i.i c.loop-i.end c.loop-i-test.true c.requires.inside c.loop-i.invariant.there c.loop-i.limiter c.row_end.new.limiter e c.in_err-next.ensures c.loop-i.invariant)

pub elements_end-returns-in-None : goal.elements_end-returns-in-None
elements_end-returns-in-None g t c =
    let s : Segments = words_in (g.A.ReaderArena.segments c.args.arena.now) in
    elements_differ c.args.levels s (place_view c.args.start) c.args.count c.args.size.data_words c.args.size.pointers c.args.head c.args.limiter.now c.loop-i.i c.loop-i.end c.loop-i-test.true c.requires.inside c.loop-i.invariant.there c.loop-i.limiter c.row_end.new.limiter
    (rw c.in-None.is at c.in_ok-next.ensures) c.loop-i.invariant

pub elements_end-loop-i-preserved : goal.elements_end-loop-i-preserved
elements_end-loop-i-preserved g t c =
    let s : Segments = words_in (g.A.ReaderArena.segments c.args.arena.now) in
    elements_next c.args.levels s (place_view c.args.start) c.args.count c.args.size.data_words c.args.size.pointers c.args.head c.args.limiter.now c.loop-i.i c.loop-i.end c.loop-i-test.true c.requires.inside c.loop-i.invariant.there c.in-Some.next c.loop-i.limiter c.row_end.new.limiter
    (rw c.in-Some.is at c.in_ok-next.ensures) c.loop-i.invariant

pub elements_end-returns : goal.elements_end-returns
elements_end-returns g t c =
    let s : Segments = words_in (g.A.ReaderArena.segments c.args.arena.now) in
    let past = c.loop-i-test.false in
    let last = c.loop-i.auto.i-end in
    elements_ended c.args.levels s (place_view c.args.start) c.args.count c.args.size.data_words c.args.size.pointers c.args.head c.args.limiter.now c.loop-i.i c.loop-i.end c.loop-i.limiter (omega arith) c.requires.inside c.loop-i.invariant

pub value_end-returns-in_err-list : goal.value_end-returns-in_err-list
value_end-returns-in_err-list g t c =
    let s : Segments = words_in (g.A.ReaderArena.segments c.args.arena.now) in
    let p : Place = place_view c.args.place in
    let n = c.args.levels in
    let l = c.args.limiter.now in
    let k = c.follow_near_list.new.limiter in
    let e = c.in_err-list.field-0.0 in
    let r = err_from_is_err_and c.from_residual.result c.from_residual.ensures.1 in
    refused_is (value_test (reach n s) p c.args.head) l k c.from_residual.result r.0 e r.1 r.2
    (unfollowed_at n s p l k (Err e) e e refl refl c.in_err-list.ensures.walked)

pub value_end-returns-in-Some : goal.value_end-returns-in-Some
value_end-returns-in-Some g t c =
    let s : Segments = words_in (g.A.ReaderArena.segments c.args.arena.now) in
    let n = c.args.levels in
    let k = c.follow_near_list.new.limiter in
    let followed : FollowsWithin n s (place_view c.args.place) c.args.limiter.now (Ok (list_object c.in-Some.list)) k = rw c.in-Some.is at c.in_ok-list.ensures.walked in
    let some = some_left n followed.1 in
    deep_tests n s (place_view c.args.place) c.args.head (list_object c.in-Some.list) c.args.limiter.now k k (Ok c.list_end.result) followed.0 (n - 1) (omega arith) (c.list_end.ensures (n - 1) k)

pub value_end-returns-in_err-near : goal.value_end-returns-in_err-near
value_end-returns-in_err-near g t c =
    let s : Segments = words_in (g.A.ReaderArena.segments c.args.arena.now) in
    let p : Place = place_view c.args.place in
    let n = c.args.levels in
    let l = c.args.limiter.now in
    let k = c.follow_near_struct.new.limiter in
    let e = c.in_err-near.field-0.0 in
    let r = err_from_is_err_and c.from_residual-in_err-near.result c.from_residual-in_err-near.ensures.1 in
    let same = untold list_object (FollowsWithin n s p) l c.follow_near_list.new.limiter c.in_ok-list.field-0 c.in_default.not-Some c.in_ok-list.ensures.walked in
    let stop : FollowsWithin n s p l (Err e) k = subst (λ (x : ReadLimiter). FollowsWithin n s p x (Err e) k) same c.in_err-near.ensures.walked in
    refused_is (value_test (reach n s) p c.args.head) l k c.from_residual-in_err-near.result r.0 e r.1 r.2
    (unfollowed_at n s p l k (Err e) e e refl refl stop)

pub value_end-returns-in-Some-2 : goal.value_end-returns-in-Some-2
value_end-returns-in-Some-2 g t c =
    let s : Segments = words_in (g.A.ReaderArena.segments c.args.arena.now) in
    let p : Place = place_view c.args.place in
    let n = c.args.levels in
    let l = c.args.limiter.now in
    let k = c.follow_near_struct.new.limiter in
    let o = struct_object c.in-Some-2.near in
    let same = untold list_object (FollowsWithin n s p) l c.follow_near_list.new.limiter c.in_ok-list.field-0 c.in_default.not-Some c.in_ok-list.ensures.walked in
    let here : FollowsWithin n s p c.follow_near_list.new.limiter (Ok o) k = rw c.in-Some-2.is at c.in_ok-near.ensures.walked in
    let followed = subst (λ (x : ReadLimiter). FollowsWithin n s p x (Ok o) k) same here in
    let some = some_left n followed.1 in
    deep_tests n s p c.args.head o l k c.struct_end.new.limiter c.struct_end.result followed.0 (n - 1) (omega arith) c.struct_end.ensures

pub value_end-list_end-requires : goal.value_end-list_end-requires
value_end-list_end-requires g t c =
    let s : Segments = words_in (g.A.ReaderArena.segments c.args.arena.now) in
    let k = c.follow_near_list.new.limiter in
    let followed : FollowsWithin c.args.levels s (place_view c.args.place) c.args.limiter.now (Ok (list_object c.in-Some.list)) k = rw c.in-Some.is at c.in_ok-list.ensures.walked in
    let pays = followed.0 in
    let near : IsNear s (place_view c.args.place) (list_object c.in-Some.list) × IsMeasured c.in-Some.list × (c.in-Some.list.start.segment ≡ c.args.place.segment) = rw c.in-Some.is at c.in_ok-list.ensures.near in
    record { bytes = c.segment_bytes-bytes.ensures ∙ ap (segment_bytes (g.A.ReaderArena.segments c.args.arena.now)) (sym near.2); near = near.0; measured = near.1; short = short_at s (place_view c.args.place) (list_object c.in-Some.list) c.args.limiter.now k pays; head = c.requires }

pub value_end-struct_end-requires : goal.value_end-struct_end-requires
value_end-struct_end-requires g t c =
    let s : Segments = words_in (g.A.ReaderArena.segments c.args.arena.now) in
    let p : Place = place_view c.args.place in
    let n = c.args.levels in
    let near : IsNear s p (struct_object c.in-Some-2.near) × (c.in-Some-2.near.start.segment ≡ c.args.place.segment) = rw c.in-Some-2.is at c.in_ok-near.ensures.near in
    let here : FollowsWithin n s p c.follow_near_list.new.limiter (Ok (struct_object c.in-Some-2.near)) c.follow_near_struct.new.limiter = rw c.in-Some-2.is at c.in_ok-near.ensures.walked in
    let some = some_left n here.1 in
    λ κs lives. (omega arith, (lives, (near.0, c.requires)))

pub any_end-returns-in_err-object : goal.any_end-returns-in_err-object
any_end-returns-in_err-object g t c =
    let s : Segments = words_in (g.A.ReaderArena.segments c.args.arena.now) in
    let p : Place = place_view c.args.place in
    let n = c.args.levels in
    let l = c.args.limiter.now in
    let e = c.in_err-object.field-0.0 in
    let r = err_from_is_err_and c.from_residual.result c.from_residual.ensures.1 in
    refused_is (value_test (reach n s) p c.args.head) l c.follow_within.new.limiter c.from_residual.result r.0 e r.1 r.2
    (unfollowed_at n s p l c.follow_within.new.limiter (Err e) e e refl refl c.in_err-object.ensures)

pub any_end-returns-in-Null : goal.any_end-returns-in-Null
any_end-returns-in-Null g t c =
    let s : Segments = words_in (g.A.ReaderArena.segments c.args.arena.now) in
    null_leaf c.args.levels s (place_view c.args.place) c.args.head c.in_ok-object.object c.args.limiter.now c.follow_within.new.limiter c.in_ok-object.ensures.0 c.if-levels-eq0.true c.in_ok-object.ensures.1 c.in-Null.is c.requires

pub any_end-returns-in_default : goal.any_end-returns-in_default
any_end-returns-in_default g t c =
    let s : Segments = words_in (g.A.ReaderArena.segments c.args.arena.now) in
    other_leaf c.args.levels s (place_view c.args.place) c.args.head c.in_ok-object.object c.args.limiter.now c.follow_within.new.limiter c.in_ok-object.ensures.0 c.if-levels-eq0.true c.in_ok-object.ensures.1 c.in_default.not-Null

pub any_end-object_end-requires : goal.any_end-object_end-requires
any_end-object_end-requires g t c =
    let s : Segments = words_in (g.A.ReaderArena.segments c.args.arena.now) in
    let some = c.if-levels-eq0.false in
    let pay = c.in_ok-object.ensures.0 in
    λ κs lives. (omega arith, (lives, (pay.inside, (short_at s (place_view c.args.place) c.in_ok-object.object c.args.limiter.now c.follow_within.new.limiter pay, ((pay.pads, pay.is), c.requires)))))

pub any_end-returns : goal.any_end-returns
any_end-returns g t c =
    let s : Segments = words_in (g.A.ReaderArena.segments c.args.arena.now) in
    let some = c.if-levels-eq0.false in
    deep_tests c.args.levels s (place_view c.args.place) c.args.head c.in_ok-object.object c.args.limiter.now c.follow_within.new.limiter c.object_end.new.limiter c.object_end.result c.in_ok-object.ensures.0 (c.args.levels - 1) (omega arith) c.object_end.ensures

pub object_end-returns-then-head-place-gt-REACH : goal.object_end-returns-then-head-place-gt-REACH
object_end-returns-then-head-place-gt-REACH g t c =
    let s : Segments = words_in (g.A.ReaderArena.segments c.args.arena.now) in
    let p : Place = place_view c.args.place in
    let n = c.args.levels in
    let o = c.args.object in
    let far = c.if-head-place-gt-REACH.true in
    differs_at (object_test (reach n s) p c.args.head o) c.args.limiter.now
    (λ small more u end is clean stand. let near = within_reach s p 1 c.args.head small c.requires.head in omega arith)

pub object_end-returns-then-word_or_zero-eq-FAR : goal.object_end-returns-then-word_or_zero-eq-FAR
object_end-returns-then-word_or_zero-eq-FAR g t c =
    let s : Segments = words_in (g.A.ReaderArena.segments c.args.arena.now) in
    let p : Place = place_view c.args.place in
    let n = c.args.levels in
    let o = c.args.object in
    differs_at (object_test (reach n s) p c.args.head o) c.args.limiter.now
    (λ small more u end is clean stand. far_differs s p c.args.head c.word_or_zero.result end (trim u) c.word_or_zero.ensures.word c.if-word_or_zero-eq-FAR.true stand)

pub object_end-struct_end-requires : goal.object_end-struct_end-requires
object_end-struct_end-requires g t c =
    let s : Segments = words_in (g.A.ReaderArena.segments c.args.arena.now) in
    let p : Place = place_view c.args.place in
    let near = near_leads s p c.args.object c.word_or_zero.result c.requires.leads c.word_or_zero.ensures.word c.if-word_or_zero-eq-FAR.false in
    λ κs lives. (omega arith, (lives, (subst (IsNear s p) c.in-Struct.is (near, c.requires.inside), c.requires.head)))

pub object_end-list_end-requires : goal.object_end-list_end-requires
object_end-list_end-requires g t c =
    let s : Segments = words_in (g.A.ReaderArena.segments c.args.arena.now) in
    let p : Place = place_view c.args.place in
    let near = near_leads s p c.args.object c.word_or_zero.result c.requires.leads c.word_or_zero.ensures.word c.if-word_or_zero-eq-FAR.false in
    let is : c.args.object ≡ list_object c.new-list.result = c.in-List.is ∙ sym c.new-list.ensures.object in
    record { bytes = c.segment_bytes-bytes.ensures; near = subst (IsNear s p) is (near, c.requires.inside); measured = c.new-list.ensures.measured; short = subst IsShort is c.requires.short; head = c.requires.head }

pub object_end-returns-in-Null : goal.object_end-returns-in-Null
object_end-returns-in-Null g t c =
    let s : Segments = words_in (g.A.ReaderArena.segments c.args.arena.now) in
    let p : Place = place_view c.args.place in
    let l = c.args.limiter.now in
    subst (λ (o : Object). Tests (object_test (reach c.args.levels s) p c.args.head o) l (Ok (Some c.args.head)) l) (sym c.in-Null.is)
    (null_tests s p c.args.head l (subst (LeadsToObject s p) c.in-Null.is c.requires.leads) c.requires.head)

pub object_end-returns-in-Capability : goal.object_end-returns-in-Capability
object_end-returns-in-Capability g t c =
    let s : Segments = words_in (g.A.ReaderArena.segments c.args.arena.now) in
    let p : Place = place_view c.args.place in
    let l = c.args.limiter.now in
    subst (λ (o : Object). Tests (object_test (reach c.args.levels s) p c.args.head o) l (Ok None) l) (sym c.in-Capability.is) (capability_tests s p c.args.head c.in-Capability.index l)

pub object_end-returns-in-List : goal.object_end-returns-in-List
object_end-returns-in-List g t c =
    let s : Segments = words_in (g.A.ReaderArena.segments c.args.arena.now) in
    let p : Place = place_view c.args.place in
    let l = c.args.limiter.now in
    subst (λ (o : Object). Tests (object_test (reach c.args.levels s) p c.args.head o) l (Ok c.list_end.result) l) (sym (c.in-List.is ∙ sym c.new-list.ensures.object)) (c.list_end.ensures c.args.levels l)

pub struct_here-returns-then-near-struct_start : goal.struct_here-returns-then-near-struct_start
struct_here-returns-then-near-struct_start g t c =
    let s : Segments = words_in (g.A.ReaderArena.segments c.args.arena.now) in
    let p : Place = place_view c.args.place in
    let n = c.args.levels in
    let o = struct_object c.args.near in
    let head = c.args.head in
    let begins = c.struct_start.ensures in
    differs_at (object_test (reach n s) p head o) c.args.limiter.now
    (λ small more u end e clean stand.
    let x = struct_stands (more + n) s p head c.args.near.start c.args.near.size.data_words c.args.near.size.pointers c.requires.near.1.0 c.requires.head.whole c.requires.near.0 c.requires.head.behind end u (within_reach s p 1 head small c.requires.head) e stand in
    elim x.1 [
      | inl here ↦ c.if-near-struct_start.true (ap (λ (r : Place). r.position) here.0 ∙ sym (begins.some (λ z. let more = here.1 in omega arith)))
      | inr here ↦ c.if-near-struct_start.true (ap (λ (r : Place). r.position) here.0 ∙ sym (begins.empty (let d_none = here.1 in let k_none = here.2 in omega arith)))
    ])

pub struct_here-returns-then-not-is_least : goal.struct_here-returns-then-not-is_least
struct_here-returns-then-not-is_least g t c =
    let s : Segments = words_in (g.A.ReaderArena.segments c.args.arena.now) in
    let p : Place = place_view c.args.place in
    let n = c.args.levels in
    let o = struct_object c.args.near in
    let head = c.args.head in
    differs_at (object_test (reach n s) p head o) c.args.limiter.now
    (λ small more u end e clean stand.
    let x = struct_stands (more + n) s p head c.args.near.start c.args.near.size.data_words c.args.near.size.pointers c.requires.near.1.0 c.requires.head.whole c.requires.near.0 c.requires.head.behind end u (within_reach s p 1 head small c.requires.head) e stand in
    c.if-not-is_least.ensures.less x.0)

pub struct_here-row_end-requires : goal.struct_here-row_end-requires
struct_here-row_end-requires g t c =
    let s : Segments = words_in (g.A.ReaderArena.segments c.args.arena.now) in
    let p : Place = place_view c.args.place in
    let start = c.args.near.start in
    let d = c.args.near.size.data_words in
    let k = c.args.near.size.pointers in
    let bound = c.requires.near.1.1 in
    let begins = c.struct_start.ensures in
    let there = struct_there c.args.levels s p c.args.head start d k c.requires.near.1.0 c.requires.head.whole c.requires.near.0 c.requires.head.behind c.struct_start.result c.if-near-struct_start.false begins.empty begins.some in
    λ κs lives. (omega arith, (lives, ((part_there s (place_view start) (d + k) c.requires.near.1.0 d k (omega arith), omega arith), struct_head c.args.levels s p c.args.head start d k c.requires.near.1 c.requires.head there.0)))

pub struct_here-returns : goal.struct_here-returns
struct_here-returns g t c =
    let s : Segments = words_in (g.A.ReaderArena.segments c.args.arena.now) in
    let p : Place = place_view c.args.place in
    let n = c.args.levels in
    let start = c.args.near.start in
    let d = c.args.near.size.data_words in
    let k = c.args.near.size.pointers in
    let head = c.args.head in
    let begins = c.struct_start.ensures in
    let least = c.if-not-is_least.ensures.least in
    let there = struct_there n s p head start d k c.requires.near.1.0 c.requires.head.whole c.requires.near.0 c.requires.head.behind c.struct_start.result c.if-near-struct_start.false begins.empty begins.some in
    struct_tests n s p head start d k c.requires.near.1 c.requires.head there.0 (least_words n s p head start d k c.requires.near.1.0 c.requires.head.whole c.requires.near.0 c.requires.head.behind least) (λ m. least_count m s p head start d k c.requires.near.1.0 c.requires.head.whole c.requires.near.0 c.requires.head.behind least) there.1
    c.args.limiter.now c.row_end.new.limiter c.row_end.result c.row_end.ensures

pub pointers_end-returns-then-count-ge-REACH : goal.pointers_end-returns-then-count-ge-REACH
pointers_end-returns-then-count-ge-REACH g t c =
    let s : Segments = words_in (g.A.ReaderArena.segments c.args.arena.now) in
    let p : Place = place_view c.args.place in
    let q : Place = place_view c.args.start in
    let n = c.args.levels in
    let o = object.PointerList c.args.start c.args.count in
    differs_at (object_test (reach n s) p c.args.head o) c.args.limiter.now
    (λ small more u end e clean stand. wide_pointer s p (c.args.head - p.position - 1) 6 c.args.count c.requires.link.given.whole c.if-count-ge-REACH.true (pointers_word s p q c.args.head c.args.count end (tree_at (more + n) s) u e stand))

pub pointers_end-returns-then-word_or_zero-pointer_to_list : goal.pointers_end-returns-then-word_or_zero-pointer_to_list
pointers_end-returns-then-word_or_zero-pointer_to_list g t c =
    let s : Segments = words_in (g.A.ReaderArena.segments c.args.arena.now) in
    let p : Place = place_view c.args.place in
    let q : Place = place_view c.args.start in
    let n = c.args.levels in
    let o = object.PointerList c.args.start c.args.count in
    differs_at (object_test (reach n s) p c.args.head o) c.args.limiter.now
    (λ small more u end e clean stand. word_differs s p c.word_or_zero.result c.pointer_to_list.result c.word_or_zero.ensures.word c.if-word_or_zero-pointer_to_list.true (pointers_word s p q c.args.head c.args.count end (tree_at (more + n) s) u e stand ∙ ap (λ (j : ℕ). Some j) (sym c.pointer_to_list.ensures)))

pub pointers_end-row_end-requires : goal.pointers_end-row_end-requires
pointers_end-row_end-requires g t c =
    let s : Segments = words_in (g.A.ReaderArena.segments c.args.arena.now) in
    let p : Place = place_view c.args.place in
    let q : Place = place_view c.args.start in
    let o = object.PointerList c.args.start c.args.count in
    let head = c.args.head in
    let behind = c.requires.link.given.behind in
    let near_enough = c.requires.link.near in
    let bound = c.requires.inside.1 in
    let w = lead_word s p o c.requires.link.leads in
    let word = word_matches s p c.word_or_zero.result c.pointer_to_list.result w.0 w.1 c.word_or_zero.ensures.word c.if-word_or_zero-pointer_to_list.false ∙ ap (λ (j : ℕ). Some j) c.pointer_to_list.ensures in
    let here = pointers_where s p head (head - p.position - 1) (omega arith) (omega arith) c.args.start c.args.count c.if-count-ge-REACH.false c.requires.link.leads word in
    let end : is_some (words_at s (after q c.args.count) 0) ≡ true = part_there s q c.args.count c.requires.inside.0 c.args.count 0 (omega arith) in
    λ κs lives. (omega arith, (lives, (c.requires.inside, record { behind = omega arith; there = (end, omega arith); whole = subst (λ (i : ℕ). AreWords (segment_words s i)) (sym (ap (λ (r : Place). r.segment) here)) c.requires.link.given.whole })))

pub pointers_end-returns : goal.pointers_end-returns
pointers_end-returns g t c =
    let s : Segments = words_in (g.A.ReaderArena.segments c.args.arena.now) in
    let p : Place = place_view c.args.place in
    let q : Place = place_view c.args.start in
    let o = object.PointerList c.args.start c.args.count in
    let head = c.args.head in
    let behind = c.requires.link.given.behind in
    let near_enough = c.requires.link.near in
    let w = lead_word s p o c.requires.link.leads in
    let word = word_matches s p c.word_or_zero.result c.pointer_to_list.result w.0 w.1 c.word_or_zero.ensures.word c.if-word_or_zero-pointer_to_list.false ∙ ap (λ (j : ℕ). Some j) c.pointer_to_list.ensures in
    let here = pointers_where s p head (head - p.position - 1) (omega arith) (omega arith) c.args.start c.args.count c.if-count-ge-REACH.false c.requires.link.leads word in
    pointers_tests c.args.levels s p head c.args.start c.args.count c.requires.inside c.requires.link.given.whole here word c.args.limiter.now c.row_end.new.limiter c.row_end.result c.row_end.ensures

pub structs_end-returns-then-own-ge-REACH : goal.structs_end-returns-then-own-ge-REACH
structs_end-returns-then-own-ge-REACH g t c =
    let s : Segments = words_in (g.A.ReaderArena.segments c.args.arena.now) in
    let p : Place = place_view c.args.place in
    let q : Place = place_view c.args.start in
    let n = c.args.levels in
    let count = c.args.count in
    let d = c.args.size.data_words in
    let k = c.args.size.pointers in
    let head = c.args.head in
    let cut = c.cut_of-cut.result in
    let o = object.StructList c.args.start c.args.words count d k in
    differs_at (object_test (reach n s) p head o) c.args.limiter.now
    (λ small more u end e clean stand. wide_pointer s p (head - p.position - 1) 7 (count * (cut.kept_words + cut.kept_pointers)) c.requires.link.given.whole c.if-own-ge-REACH.true
    (structs_read (more + n) s p q head c.args.words count d k cut.kept_words cut.kept_pointers end u c.requires.inside.0 c.requires.fit c.cut_of-cut.ensures.words c.cut_of-cut.ensures.pointers e stand).0)

pub structs_end-returns-then-word_or_zero-pointer_to_list : goal.structs_end-returns-then-word_or_zero-pointer_to_list
structs_end-returns-then-word_or_zero-pointer_to_list g t c =
    let s : Segments = words_in (g.A.ReaderArena.segments c.args.arena.now) in
    let p : Place = place_view c.args.place in
    let q : Place = place_view c.args.start in
    let n = c.args.levels in
    let count = c.args.count in
    let d = c.args.size.data_words in
    let k = c.args.size.pointers in
    let head = c.args.head in
    let cut = c.cut_of-cut.result in
    let o = object.StructList c.args.start c.args.words count d k in
    differs_at (object_test (reach n s) p head o) c.args.limiter.now
    (λ small more u end e clean stand. word_differs s p c.word_or_zero.result c.pointer_to_list.result c.word_or_zero.ensures.word c.if-word_or_zero-pointer_to_list.true
    ((structs_read (more + n) s p q head c.args.words count d k cut.kept_words cut.kept_pointers end u c.requires.inside.0 c.requires.fit c.cut_of-cut.ensures.words c.cut_of-cut.ensures.pointers e stand).0
    ∙ ap (λ (j : ℕ). Some j) (sym c.pointer_to_list.ensures)))

pub structs_end-returns-then-word_or_zero-tag : goal.structs_end-returns-then-word_or_zero-tag
structs_end-returns-then-word_or_zero-tag g t c =
    let s : Segments = words_in (g.A.ReaderArena.segments c.args.arena.now) in
    let p : Place = place_view c.args.place in
    let q : Place = place_view c.args.start in
    let n = c.args.levels in
    let count = c.args.count in
    let d = c.args.size.data_words in
    let k = c.args.size.pointers in
    let head = c.args.head in
    let cut = c.cut_of-cut.result in
    let o = object.StructList c.args.start c.args.words count d k in
    differs_at (object_test (reach n s) p head o) c.args.limiter.now
    (λ small more u end e clean stand. word_differs s (place p.segment head) c.word_or_zero-2.result c.pointer_to_struct-tag.result c.word_or_zero-2.ensures.word c.if-word_or_zero-tag.true
    ((structs_read (more + n) s p q head c.args.words count d k cut.kept_words cut.kept_pointers end u c.requires.inside.0 c.requires.fit c.cut_of-cut.ensures.words c.cut_of-cut.ensures.pointers e stand).1
    ∙ ap (λ (j : ℕ). Some j) (sym c.pointer_to_struct-tag.ensures)))

pub structs_end-elements_end-requires : goal.structs_end-elements_end-requires
structs_end-elements_end-requires g t c =
    let s : Segments = words_in (g.A.ReaderArena.segments c.args.arena.now) in
    let p : Place = place_view c.args.place in
    let q : Place = place_view c.args.start in
    let count = c.args.count in
    let d = c.args.size.data_words in
    let k = c.args.size.pointers in
    let head = c.args.head in
    let cut = c.cut_of-cut.result in
    let o = object.StructList c.args.start c.args.words count d k in
    let behind = c.requires.link.given.behind in
    let near_enough = c.requires.link.near in
    let bound = c.requires.inside.1 in
    let fit = c.requires.fit in
    let w = lead_word s p o c.requires.link.leads in
    let word = word_matches s p c.word_or_zero.result c.pointer_to_list.result w.0 w.1 c.word_or_zero.ensures.word c.if-word_or_zero-pointer_to_list.false ∙ ap (λ (j : ℕ). Some j) c.pointer_to_list.ensures in
    let here = structs_where s p head (head - p.position - 1) (omega arith) (omega arith) c.args.start c.args.words count d k cut.kept_words cut.kept_pointers (count * (cut.kept_words + cut.kept_pointers)) c.if-own-ge-REACH.false c.requires.few c.cut_of-cut.ensures.narrow.0 c.cut_of-cut.ensures.narrow.1 c.requires.link.leads word in
    let end : is_some (words_at s (after q c.args.words) 0) ≡ true = part_there s q c.args.words c.requires.inside.0 c.args.words 0 (omega arith) in
    λ κs lives. (omega arith, (lives, ((front_there s q c.args.words c.requires.inside.0 (count * (d + k)) fit, omega arith), record { behind = omega arith; there = (end, omega arith); whole = subst (λ (i : ℕ). AreWords (segment_words s i)) (sym (ap (λ (r : Place). r.segment) here.0)) c.requires.link.given.whole })))

pub structs_end-returns : goal.structs_end-returns
structs_end-returns g t c =
    let s : Segments = words_in (g.A.ReaderArena.segments c.args.arena.now) in
    let p : Place = place_view c.args.place in
    let q : Place = place_view c.args.start in
    let n = c.args.levels in
    let count = c.args.count in
    let d = c.args.size.data_words in
    let k = c.args.size.pointers in
    let head = c.args.head in
    let cut = c.cut_of-cut.result in
    let a = cut.kept_words in
    let b = cut.kept_pointers in
    let l = c.args.limiter.now in
    let m = c.elements_end.new.limiter in
    let o = object.StructList c.args.start c.args.words count d k in
    let behind = c.requires.link.given.behind in
    let near_enough = c.requires.link.near in
    let w = lead_word s p o c.requires.link.leads in
    let word = word_matches s p c.word_or_zero.result c.pointer_to_list.result w.0 w.1 c.word_or_zero.ensures.word c.if-word_or_zero-pointer_to_list.false ∙ ap (λ (j : ℕ). Some j) c.pointer_to_list.ensures in
    let here = structs_where s p head (head - p.position - 1) (omega arith) (omega arith) c.args.start c.args.words count d k a b (count * (a + b)) c.if-own-ge-REACH.false c.requires.few c.cut_of-cut.ensures.narrow.0 c.cut_of-cut.ensures.narrow.1 c.requires.link.leads word in
    let tag = word_matches s (place p.segment head) c.word_or_zero-2.result c.pointer_to_struct-tag.result here.2 here.3 c.word_or_zero-2.ensures.word c.if-word_or_zero-tag.false ∙ ap (λ (j : ℕ). Some j) c.pointer_to_struct-tag.ensures in
    let sizes = here.4 (some_is _ _ (sym here.3 ∙ tag)) in
    let rows : count * (a + b) ≡ count * (d + k) = ap (λ (j : ℕ). count * (j + b)) (sym sizes.0) ∙ ap (λ (j : ℕ). count * (d + j)) (sym sizes.1) in
    let own : c.args.words ≡ count * (d + k) = here.1 ∙ rows in
    let there = front_there s q c.args.words c.requires.inside.0 (count * (d + k)) c.requires.fit in
    structs_tests n s p head c.args.start c.args.words count d k here.0 own
    (λ m. least_of m s q (count * (d + k)) count d k d k there (omega arith) (sizes.0 ∙ c.cut_of-cut.ensures.words) (sizes.1 ∙ c.cut_of-cut.ensures.pointers))
    (word ∙ ap (λ (j : ℕ). Some (list_pointer (head - p.position - 1) 7 j)) rows)
    (tag ∙ ap (λ (j : ℕ). Some (struct_pointer count j b)) (sym sizes.0) ∙ ap (λ (j : ℕ). Some (struct_pointer count d j)) (sym sizes.1))
    l m c.elements_end.result (subst (λ (j : ℕ). Tests (elements_test (reach n s) q count d k (q.position + j)) l c.elements_end.result m) own c.elements_end.ensures)

pub item_end-returns-in-Some : goal.item_end-returns-in-Some
item_end-returns-in-Some g t c = rw c.in-Some.is at c.common_end.ensures.told

pub item_end-returns : goal.item_end-returns
item_end-returns g t c =
    let s : Segments = words_in (g.A.ReaderArena.segments c.args.arena.now) in
    let same : c.common_end.new.limiter ≡ c.args.limiter.now = c.common_end.ensures.untold (none_is c.common_end.result c.in_default.not-Some) in
    subst (λ (l : ReadLimiter). Tests (value_test (reach c.args.levels s) (place_view c.args.place) c.args.head) l c.other_end.result c.other_end.new.limiter) same c.other_end.ensures
