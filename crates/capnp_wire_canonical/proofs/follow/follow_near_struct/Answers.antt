-- The struct is followed at its cost, or refused for want of it.
use Rattle.std.proofs.Common.{◌+◌, ◌<◌, refl, arith}
use Rattle.std.proofs.lemmas.Result.{err_from_is_err_and}
use Rattle.capnp_model.specs.Segments.{Segments}
use Rattle.capnp_units.specs.Segments.{words_in}
use Rattle.capnp_wire_objects.specs.Places.{place_view}
use Rattle.capnp_wire_objects.specs.Near.{struct_object}
use Rattle.capnp_wire_objects.specs.Follow.{FollowsWithin}
use Rattle.capnp_wire_canonical.specs.Copies.{FollowsData}
use Rattle.capnp_wire_canonical.proofs.NearFollowed.{some_level, near_pays, near_refused, near_stopped, refused_near}
use Rattle.capnp_wire_canonical.proofs.follow.follow_near_struct.Goals as goal

pub returns-in_err-charge-clause-copied : goal.returns-in_err-charge-clause-copied
returns-in_err-charge-clause-copied g c =
    let s : Segments = words_in (g.A.ReaderArena.segments c.args.arena.now) in
    let p = place_view c.args.place in
    let n = c.args.levels in
    let words = c.in-Some.near.size.data_words + c.in-Some.near.size.pointers in
    let some : 0 < n = omega (arith, c.if-levels-eq0.false) in
    let r = err_from_is_err_and c.from_residual.result c.from_residual.ensures.1 in
    let refused = c.in_err-charge.ensures.refused in
    refused_near struct_object (FollowsData n s p) c.args.limiter.now c.follow.new.self c.charge.new.self c.from_residual.result r.0 c.in_err-charge.field-0.0 r.1 r.2 refused.0
    (near_stopped n s p (struct_object c.in-Some.near) some (some_level n some) tt (c.in-Some.ensures.near (g.A.ReaderArena.segments c.args.arena.now) c.requires) c.args.limiter.now c.follow.new.self (c.follow.ensures.limit, c.follow.ensures.granted) c.follow.ensures.followed words refl c.in_err-charge.field-0.0 c.in_err-charge.ensures.kind refused.1)

pub returns-in_err-charge-clause-walked : goal.returns-in_err-charge-clause-walked
returns-in_err-charge-clause-walked g c =
    let s : Segments = words_in (g.A.ReaderArena.segments c.args.arena.now) in
    let p = place_view c.args.place in
    let n = c.args.levels in
    let words = c.in-Some.near.size.data_words + c.in-Some.near.size.pointers in
    let some : 0 < n = omega (arith, c.if-levels-eq0.false) in
    let r = err_from_is_err_and c.from_residual.result c.from_residual.ensures.1 in
    let refused = c.in_err-charge.ensures.refused in
    refused_near struct_object (FollowsWithin n s p) c.args.limiter.now c.follow.new.self c.charge.new.self c.from_residual.result r.0 c.in_err-charge.field-0.0 r.1 r.2 refused.0
    (near_refused n s p (struct_object c.in-Some.near) some (some_level n some) tt (c.in-Some.ensures.near (g.A.ReaderArena.segments c.args.arena.now) c.requires) c.args.limiter.now c.follow.new.self (c.follow.ensures.limit, c.follow.ensures.granted) c.follow.ensures.followed words refl c.in_err-charge.field-0.0 c.in_err-charge.ensures.kind refused.1)

pub returns-clause-copied : goal.returns-clause-copied
returns-clause-copied g c =
    let s : Segments = words_in (g.A.ReaderArena.segments c.args.arena.now) in
    let n = c.args.levels in
    let words = c.in-Some.near.size.data_words + c.in-Some.near.size.pointers in
    let some : 0 < n = omega (arith, c.if-levels-eq0.false) in
    let pays = near_pays n s (place_view c.args.place) (struct_object c.in-Some.near) some (some_level n some) tt (c.in-Some.ensures.near (g.A.ReaderArena.segments c.args.arena.now) c.requires) c.args.limiter.now c.follow.new.self (c.follow.ensures.limit, c.follow.ensures.granted) c.follow.ensures.followed words refl c.charge.new.self c.charge.ensures.followed c.in_ok-charge.ensures.ok in
    (pays, some_level n some, tt)

pub returns-clause-walked : goal.returns-clause-walked
returns-clause-walked g c =
    let s : Segments = words_in (g.A.ReaderArena.segments c.args.arena.now) in
    let n = c.args.levels in
    let words = c.in-Some.near.size.data_words + c.in-Some.near.size.pointers in
    let some : 0 < n = omega (arith, c.if-levels-eq0.false) in
    let pays = near_pays n s (place_view c.args.place) (struct_object c.in-Some.near) some (some_level n some) tt (c.in-Some.ensures.near (g.A.ReaderArena.segments c.args.arena.now) c.requires) c.args.limiter.now c.follow.new.self (c.follow.ensures.limit, c.follow.ensures.granted) c.follow.ensures.followed words refl c.charge.new.self c.charge.ensures.followed c.in_ok-charge.ensures.ok in
    (pays, some_level n some)

pub returns-clause-near : goal.returns-clause-near
returns-clause-near g c = (c.in-Some.ensures.near (g.A.ReaderArena.segments c.args.arena.now) c.requires, c.in-Some.ensures.segment)
