-- Null, or the list that stands at the head.
use Rattle.std.proofs.Common.{◌≡◌, ℕ, ◌-◌, Some, Ok, ap, sym, ◌∙◌, arith}
use Rattle.capnp_model.specs.Segments.{Segments, Place, word_at}
use Rattle.capnp_units.specs.Segments.{words_in}
use Rattle.capnp_wire_objects.specs.declared.object.Object.TheVariants as object
use Rattle.capnp_wire_objects.specs.Arenas.{segment_bytes}
use Rattle.capnp_wire_objects.specs.Places.{place_view}
use Rattle.capnp_wire_objects.specs.Near.{list_object, IsNear}
use Rattle.capnp_wire_canonical.proofs.Held.{word_held}
use Rattle.capnp_wire_canonical.proofs.NearFollowed.{near_paid, null_near, null_paid, bytes_cost}
use Rattle.capnp_wire_canonical.proofs.StandingValues.{null_tests, deep_tests}
use Rattle.capnp_wire_canonical.proofs.Steps.{near_short}
use Rattle.capnp_wire_canonical.proofs.list_ends.common_end.Goals as goal

pub returns-then-word-eq0-clause-told : goal.returns-then-word-eq0-clause-told
returns-then-word-eq0-clause-told g c =
    let segments = g.A.ReaderArena.segments c.args.arena.now in
    let s : Segments = words_in segments in
    let p : Place = place_view c.args.place in
    let n = c.args.levels in
    let l = c.args.limiter.now in
    let k = c.follow.new.self in
    let some = c.if-levels-eq0.false in
    let here : word_at s p ≡ Some 0 = sym (c.in_ok-word.ensures.word ∙ word_held segments p.segment c.args.bytes.now c.requires.bytes p.position) ∙ ap (λ (w : ℕ). Some w) c.if-word-eq0.true in
    let pay = null_paid s p here l k (c.follow.ensures.limit, c.follow.ensures.granted) c.follow.ensures.followed in
    deep_tests n s p c.args.head object.Null l k k (Ok (Some c.args.head)) pay (n - 1) (omega arith) (null_tests s p c.args.head k (0, (null_near s p here).0) c.requires.head)

pub list_end-requires : goal.list_end-requires
list_end-requires g c =
    let segments = g.A.ReaderArena.segments c.args.arena.now in
    let s : Segments = words_in segments in
    let p : Place = place_view c.args.place in
    let list = c.in_ok-list.list in
    let near : IsNear s p (list_object list) = c.in_ok-list.ensures.near segments c.requires.bytes in
    record { bytes = c.requires.bytes ∙ ap (segment_bytes segments) (sym c.in_ok-list.ensures.segment); near = near; measured = c.in_ok-list.ensures.measured; short = near_short s p (list_object list) near; head = c.requires.head }

pub returns-clause-told : goal.returns-clause-told
returns-clause-told g c =
    let segments = g.A.ReaderArena.segments c.args.arena.now in
    let s : Segments = words_in segments in
    let p : Place = place_view c.args.place in
    let n = c.args.levels in
    let l = c.args.limiter.now in
    let k = c.follow_for.new.self in
    let some = c.if-levels-eq0.false in
    let list = c.in_ok-list.list in
    let near : IsNear s p (list_object list) = c.in_ok-list.ensures.near segments c.requires.bytes in
    let pay = near_paid s p (list_object list) near l k list.words (bytes_cost list c.in_ok-list.ensures.measured c.in_ok-list.ensures.size) c.if-not-follow_for.ensures.granted c.if-not-follow_for.ensures.followed in
    deep_tests n s p c.args.head (list_object list) l k k (Ok (Some c.in_ok-end.end)) pay (n - 1) (omega arith) (c.in_ok-end.ensures (n - 1) k)
