-- Null, or a list of bytes.
use Rattle.std.proofs.Common.{◌≡◌, ℕ, ◌-◌, Some, Ok, ap, sym, ◌∙◌, arith}
use Rattle.capnp_model.specs.Segments.{Segments, Place, word_at}
use Rattle.capnp_units.specs.Segments.{words_in}
use Rattle.capnp_wire_objects.specs.declared.object.Object.TheVariants as object
use Rattle.capnp_wire_objects.specs.Arenas.{segment_bytes}
use Rattle.capnp_wire_objects.specs.Places.{place_view}
use Rattle.capnp_wire_objects.specs.Near.{list_object, IsNear}
use Rattle.capnp_wire_canonical.proofs.Held.{word_held}
use Rattle.capnp_wire_canonical.proofs.NearFollowed.{near_paid, null_paid, bytes_cost, levels_are}
use Rattle.capnp_wire_canonical.proofs.Steps.{near_short, null_put, deep_at}
use Rattle.capnp_wire_canonical.proofs.list_copies.write_common.Goals as goal

pub returns-then-word-eq0-clause-written : goal.returns-then-word-eq0-clause-written
returns-then-word-eq0-clause-written g c =
    let segments = g.A.ReaderArena.segments c.args.arena.now in
    let s : Segments = words_in segments in
    let p : Place = place_view c.args.place in
    let n = c.args.levels in
    let l = c.args.limiter.now in
    let k = c.follow.new.self in
    let at = c.args.at in
    let used = c.args.used in
    let old = c.args.into.now in
    let new = c.put.new.into in
    let some = c.if-levels-eq0.false in
    let here : word_at s p ≡ Some 0 = sym (c.in_ok-word.ensures.word ∙ word_held segments p.segment c.args.bytes.now c.requires.bytes p.position) ∙ ap (λ (w : ℕ). Some w) c.if-word-eq0.true in
    let pay = null_paid s p here l k (c.follow.ensures.limit, c.follow.ensures.granted) c.follow.ensures.followed in
    deep_at n s p at used object.Null old new l k k (n - 1) (Ok used) (omega arith) pay (levels_are n object.Null (omega arith)) tt
    (λ most room. null_put at most used old new k c.requires.place (omega arith) c.put.ensures.words c.put.ensures.behind)

pub lay_list-requires : goal.lay_list-requires
lay_list-requires g c =
    let segments = g.A.ReaderArena.segments c.args.arena.now in
    let s : Segments = words_in segments in
    let p : Place = place_view c.args.place in
    let list = c.in_ok-list.list in
    let near : IsNear s p (list_object list) = c.in_ok-list.ensures.near segments c.requires.bytes in
    record { bytes = c.requires.bytes ∙ ap (segment_bytes segments) (sym c.in_ok-list.ensures.segment); inside = near.1; measured = c.in_ok-list.ensures.measured; short = near_short s p (list_object list) near; place = c.requires.place; room = c.if-not-has_room.ensures }

pub returns-clause-written : goal.returns-clause-written
returns-clause-written g c =
    let segments = g.A.ReaderArena.segments c.args.arena.now in
    let s : Segments = words_in segments in
    let p : Place = place_view c.args.place in
    let n = c.args.levels in
    let l = c.args.limiter.now in
    let k = c.follow_for.new.self in
    let some = c.if-levels-eq0.false in
    let list = c.in_ok-list.list in
    let near : IsNear s p (list_object list) = c.in_ok-list.ensures.near segments c.requires.bytes in
    let pay = near_paid s p (list_object list) near l k list.words (bytes_cost list c.in_ok-list.ensures.measured c.in_ok-list.ensures.size) c.if-not-follow_for.ensures.granted c.if-not-follow_for.ensures.followed in
    deep_at n s p c.args.at c.args.used (list_object list) c.args.into.now c.lay_list.new.into l k k (n - 1) (Ok c.lay_list.result) (omega arith) pay (levels_are n (list_object list) (omega arith)) tt (c.lay_list.ensures (n - 1) k)
