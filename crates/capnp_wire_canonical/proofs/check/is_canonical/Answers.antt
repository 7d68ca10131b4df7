-- The walk from the head on, or the first pointer alone.
use Rattle.std.proofs.Common.{◌+◌, Result, Err, Bool, refl, ap, sym, ◌∙◌, subst}
use Rattle.std.proofs.lemmas.Result.{err_from_is_err_and}
use Rattle.capnp_model.specs.Segments.{Segments, Place}
use Rattle.capnp_model.specs.Trees.{has_capability}
use Rattle.capnp_model.specs.Traversal.{tree_at}
use Rattle.capnp_model.specs.Trimming.{trim}
use Rattle.capnp_model.specs.Visits.{visits}
use Rattle.capnp_units.specs.declared.errors.Error.{Error}
use Rattle.capnp_units.specs.Segments.{words_in}
use Rattle.capnp_wire_objects.specs.Places.{place_view}
use Rattle.capnp_wire_objects.proofs.lemmas.Measuring.{unfollowed_at}
use Rattle.capnp_wire_canonical.specs.Reaches.{reach}
use Rattle.capnp_wire_canonical.specs.Standing.{Stands, IsSmall}
use Rattle.capnp_wire_canonical.specs.Checks.{IsBehind, TellsValue, head_state}
use Rattle.capnp_wire_canonical.proofs.Telling.{none_left, tells_moved, first_began}
use Rattle.capnp_wire_canonical.proofs.check.is_canonical.Goals as goal

pub returns-in_err-follow_within : goal.returns-in_err-follow_within
returns-in_err-follow_within g c =
    let s : Segments = words_in (g.A.ReaderArena.segments c.args.arena.now) in
    let p : Place = place_view c.args.place in
    let n = c.args.levels in
    let h : Place = place_view c.args.head.now in
    let l = c.args.limiter.now in
    let m = c.follow_within.new.limiter in
    let e = c.in_err-follow_within.field-0.0 in
    let r = err_from_is_err_and c.from_residual.result c.from_residual.ensures.1 in
    subst (λ (y : Result Bool Error). TellsValue (reach n s) p (head_state h l) y (head_state h m)) (sym (r.1 ∙ ap (λ (y : Error). Err y) r.2)) (refl, unfollowed_at n s p l m (Err e) e e refl refl c.in_err-follow_within.ensures)

pub returns-then-not-is_behind : goal.returns-then-not-is_behind
returns-then-not-is_behind g c =
    let s : Segments = words_in (g.A.ReaderArena.segments c.args.arena.now) in (
      refl,
      record {
        began = first_began c.args.levels s (place_view c.args.place) c.in_ok-follow_within.field-0 c.args.limiter.now c.follow_within.new.limiter c.in_ok-follow_within.ensures.0 c.in_ok-follow_within.ensures.1;
        apart = λ small more t end is clean stand. c.if-not-is_behind.ensures.elsewhere stand.0;
      },
    )

pub returns : goal.returns
returns g c =
    let s : Segments = words_in (g.A.ReaderArena.segments c.args.arena.now) in
    let p : Place = place_view c.args.place in
    let n = c.args.levels in
    let h : Place = place_view c.args.head.now in
    let after : Place = place_view c.move_on.new.head in
    tells_moved (tree_at n s p) (λ more. tree_at (more + n) s p) has_capability (λ t end. Stands s p h.position (trim t) end) (IsBehind s p 1 h) (IsSmall s p) (visits n s p) h after c.args.limiter.now c.value_end.new.limiter c.in_ok-end.end c.move_on.result
    c.if-not-is_behind.ensures.behind.0 c.move_on.ensures.some (none_left c.move_on.result c.in_ok-end.end c.move_on.new.head c.args.head.now c.move_on.ensures.none) c.in_ok-end.ensures
