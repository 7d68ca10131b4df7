-- The row from the head on, or a head that lies elsewhere.
use Rattle.std.proofs.Common.{◌+◌, refl}
use Rattle.capnp_model.specs.Segments.{Segments, Place}
use Rattle.capnp_model.specs.Trees.{have_capability}
use Rattle.capnp_model.specs.Traversal.{tree_at, each}
use Rattle.capnp_model.specs.Trimming.{trim_each}
use Rattle.capnp_model.specs.Coverage.{from_each}
use Rattle.capnp_model.specs.Visits.{visits}
use Rattle.capnp_units.specs.Segments.{words_in}
use Rattle.capnp_wire_objects.specs.Places.{place_view}
use Rattle.capnp_wire_canonical.specs.Standing.{StandEach, IsSmall}
use Rattle.capnp_wire_canonical.specs.Checks.{IsBehind}
use Rattle.capnp_wire_canonical.proofs.lemmas.Checking.{began_none}
use Rattle.capnp_wire_canonical.proofs.Telling.{none_left, tells_moved}
use Rattle.capnp_wire_canonical.proofs.check.are_canonical.Goals as goal

pub returns-then-not-is_behind : goal.returns-then-not-is_behind
returns-then-not-is_behind g c =
    let s : Segments = words_in (g.A.ReaderArena.segments c.args.arena.now) in (
      refl,
      record {
        began = began_none (from_each (visits c.args.levels s) (place_view c.args.first) c.args.count) c.args.limiter.now;
        apart = λ small more ts end is clean stand. c.if-not-is_behind.ensures.elsewhere stand.0;
      },
    )

pub returns : goal.returns
returns g c =
    let s : Segments = words_in (g.A.ReaderArena.segments c.args.arena.now) in
    let p : Place = place_view c.args.first in
    let n = c.args.levels in
    let count = c.args.count in
    let h : Place = place_view c.args.head.now in
    let after : Place = place_view c.move_on.new.head in
    tells_moved (each (tree_at n s) p count) (λ more. each (tree_at (more + n) s) p count) have_capability (λ ts end. StandEach s p h.position (trim_each ts) end) (IsBehind s p count h) (IsSmall s p) (from_each (visits n s) p count) h after c.args.limiter.now c.row_end.new.limiter c.in_ok-end.end c.move_on.result
    c.if-not-is_behind.ensures.behind.0 c.move_on.ensures.some (none_left c.move_on.result c.in_ok-end.end c.move_on.new.head c.args.head.now c.move_on.ensures.none) c.in_ok-end.ensures
