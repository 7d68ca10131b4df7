-- What is near is followed as what is told of any place.
use Rattle.std.proofs.Common.{◌≡◌, false, Some, Result, Ok, Err, ap, sym, ◌∙◌, subst}
use Rattle.std.proofs.lemmas.Result.{err_from_is_err_and}
use Rattle.capnp_units.specs.declared.errors.Error.{Error}
use Rattle.capnp_units.specs.Segments.{words_in}
use Rattle.capnp_wire_objects.specs.Places.{place_view}
use Rattle.capnp_wire.specs.declared.reached.Reached.{Reached}
use Rattle.capnp_wire.specs.Views.{seen_pointer, place_seen, is_paid}
use Rattle.capnp_wire.specs.Reads.{is_null_at, GetGives}
use Rattle.capnp_wire.proofs.Gets.{followed, placed_there}
use Rattle.capnp_wire.proofs.pointer.PointerReader.reach.Goals as goal

pub returns-in_err-object-clause-object : goal.returns-in_err-object-clause-object
returns-in_err-object-clause-object g c =
    let p = seen_pointer g.A.ReaderArena.segments c.args.self.now in
    let at = c.in-Arena-Some in
    let s = words_in (g.A.ReaderArena.segments at.arena.now) in
    let q = place_view at.place in
    let near = c.in-Some.ensures.near (g.A.ReaderArena.segments at.arena.now) c.segment_bytes-bytes.ensures in
    let there : is_null_at s (Some q) ≡ false = placed_there s q c.in-Some.object near.0 c.in-Some.ensures.there in
    let r = err_from_is_err_and c.from_residual.result c.from_residual.ensures.1 in
    let e = c.in_err-object.field-0.0 in
    let given = followed p q (ap place_seen at.is-1) (Err e) c.args.limiter.now c.follow_near.new.limiter (ap is_paid at.is-0) (rw (at.is-0, at.is-1) there) (rw at.is-0 c.in_err-object.ensures.followed) in
    subst (λ (x : Result Reached Error). GetGives (λ r. r.object) (λ o. Ok o) p c.args.limiter.now x c.follow_near.new.limiter) (sym (r.1 ∙ ap (λ (x : Error). Err x) r.2)) given

pub returns-in-Some-clause-object : goal.returns-in-Some-clause-object
returns-in-Some-clause-object g c =
    let p = seen_pointer g.A.ReaderArena.segments c.args.self.now in
    let at = c.in-Arena-Some in
    let s = words_in (g.A.ReaderArena.segments at.arena.now) in
    let q = place_view at.place in
    let near = c.in-Some.ensures.near (g.A.ReaderArena.segments at.arena.now) c.segment_bytes-bytes.ensures in
    let there : is_null_at s (Some q) ≡ false = placed_there s q c.in-Some.object near.0 c.in-Some.ensures.there in
    followed p q (ap place_seen at.is-1) (Ok c.in_ok-object.object) c.args.limiter.now c.follow_near.new.limiter (ap is_paid at.is-0) (rw (at.is-0, at.is-1) there) (rw at.is-0 c.in_ok-object.ensures.followed)
