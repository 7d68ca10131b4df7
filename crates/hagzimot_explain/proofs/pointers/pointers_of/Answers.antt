use Rattle.std.proofs.Common.{◌<◌, ◌+◌, ◌^◌, length, sym, ap, arith}
use Rattle.std.specs.List.{Contains}
use Rattle.capnp_model.specs.Segments.{Segments, root}
use Rattle.capnp_units.specs.Segments.{words_in}
use Rattle.capnp_wire_objects.specs.Places.{place_view, placed}
use Rattle.hagzimot_explain.specs.Reached.{IsPointerOf}
use Rattle.hagzimot_explain.proofs.RowLemmas.{never_true_there}
use Rattle.hagzimot_explain.proofs.PointerLemmas.{listed_none, absent_first, once_there, first_reached, more_reached, more_closed, more_spent, more_within, too_dear, all_reached, found_there, price_is, still}
use Rattle.hagzimot_explain.proofs.pointers.pointers_of.Goals as goal

pub add-requires : goal.add-requires
add-requires g c = listed_none c.in_ok-seen.seen.items c.new-places.result.items c.new-places.ensures.items (never_true_there (words_in (g.S.ReaderSegments.segments c.args.segments.now)) c.in_ok-seen.seen.items (2 ^ 32) c.in_ok-seen.ensures.words c.in_ok-seen.ensures.beyond)

pub loop-next-init : goal.loop-next-init
loop-next-init g c = record {
  listed = c.in_ok-add.ensures.adds.listed;
  absent = absent_first (words_in (g.S.ReaderSegments.segments c.args.segments.now)) (2 ^ 32) c.in_ok-seen.seen.items c.add.new.seen.items c.in_ok-seen.ensures.words c.in_ok-add.ensures.adds.kept;
  reached = first_reached (words_in (g.S.ReaderSegments.segments c.args.segments.now)) c.new-places.result.items c.add.new.places.items c.in_ok-seen.seen.items c.add.new.seen.items c.new-places.ensures.items c.in_ok-add.ensures.adds;
  root_in = c.in_ok-add.ensures.has;
  closed = λ p none. absurd (let some = none.1 in omega arith);
  spent = omega arith;
  within = omega arith;
}

pub returns-then-cost-left : goal.returns-then-cost-left
returns-then-cost-left g c =
    let s : Segments = words_in (g.S.ReaderSegments.segments c.args.segments.now) in
    let t : Segments = words_in (g.A.ReaderArena.segments c.args.arena.now) in
    let p = c.index.result.now in
    let its = found_there s t (place_view p) c.object_there-object.result (ap words_in c.requires) c.object_there-object.ensures.object in
    let fits = c.loop-next.places.ok.0 in
    let more : c.loop-next.next < length c.loop-next.places.items = omega (arith, c.len.ensures, c.loop-next-test.true, fits) in
    record {
      reached = c.loop-next.invariant.reached;
      once = once_there s (2 ^ 32) c.loop-next.seen.items c.loop-next.places.items c.loop-next.invariant.listed c.loop-next.invariant.absent;
      all = λ e. absurd cc;
      dear = λ e. too_dear s c.loop-next.next p c.loop-next.places.items c.loop-next.left (c.words_of-cost.result + 1) c.args.words more c.index.ensures (price_is s p c.object_there-object.result c.words_of-cost.result its c.words_of-cost.ensures.words) c.if-cost-left.true c.loop-next.invariant.spent;
    }

pub loop-next-preserved : goal.loop-next-preserved
loop-next-preserved g c =
    let s : Segments = words_in (g.S.ReaderSegments.segments c.args.segments.now) in
    let t : Segments = words_in (g.A.ReaderArena.segments c.args.arena.now) in
    let i = c.loop-next.next in
    let p = c.index.result.now in
    let o = c.object_there-object.result in
    let old = c.loop-next.places.items in
    let new = c.add_inside.new.places.items in
    let before = c.loop-next.seen.items in
    let seen = c.add_inside.new.seen.items in
    let its = found_there s t (place_view p) o (ap words_in c.requires) c.object_there-object.ensures.object in
    let fits = c.loop-next.places.ok.0 in
    let more : i < length old = omega (arith, c.len.ensures, c.loop-next-test.true, fits) in
    let adds = c.in_ok-add_inside.ensures.adds in
    let here : Contains old p = (i, more, sym c.index.ensures) in
    record {
      listed = adds.listed;
      absent = λ q h e. c.loop-next.invariant.absent q h (adds.kept q e);
      reached = more_reached s p o old new before seen its here adds c.loop-next.invariant.reached;
      root_in = still (IsPointerOf o) old new before seen (placed root) adds c.loop-next.invariant.root_in;
      closed = more_closed s i p o old new before seen more c.index.ensures its adds c.in_ok-add_inside.ensures.has c.loop-next.invariant.closed;
      spent = more_spent s (IsPointerOf o) i p old new before seen c.loop-next.left (c.words_of-cost.result + 1) c.args.words more c.index.ensures adds (price_is s p o c.words_of-cost.result its c.words_of-cost.ensures.words) (omega (arith, c.if-cost-left.false)) c.loop-next.invariant.spent;
      within = more_within (IsPointerOf o) i old new before seen more adds;
    }

pub returns : goal.returns
returns g c =
    let s : Segments = words_in (g.S.ReaderSegments.segments c.args.segments.now) in
    let fits = c.loop-next.places.ok.0 in
    record {
      reached = c.loop-next.invariant.reached;
      once = once_there s (2 ^ 32) c.loop-next.seen.items c.loop-next.places.items c.loop-next.invariant.listed c.loop-next.invariant.absent;
      all = λ e. all_reached s c.loop-next.places.items c.loop-next.next (omega (arith, c.len.ensures, c.loop-next-test.false, fits)) c.loop-next.invariant.root_in c.loop-next.invariant.closed;
      dear = λ e. absurd cc;
    }
