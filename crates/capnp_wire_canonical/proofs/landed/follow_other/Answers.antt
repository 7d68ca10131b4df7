-- The object is the one that is told first.
use Rattle.std.proofs.Common.{◌<◌, Ok, refl, ◌∙◌, subst, arith}
use Rattle.std.specs.Prelude.{IfSome}
use Rattle.capnp_model.specs.Segments.{Segments, Place}
use Rattle.capnp_units.specs.Segments.{words_in}
use Rattle.capnp_wire_objects.specs.Places.{place_view}
use Rattle.capnp_units.specs.declared.limiter.ReadLimiter.{ReadLimiter}
use Rattle.capnp_wire_objects.specs.declared.object.Object.TheVariants as object
use Rattle.capnp_wire_objects.specs.Follow.{Pays}
use Rattle.capnp_wire_objects.specs.Near.{structs_object}
use Rattle.capnp_wire_canonical.specs.Copies.{FollowsData}
use Rattle.capnp_wire_canonical.proofs.NearFollowed.{levels_are, none_is}
use Rattle.capnp_wire_canonical.proofs.landed.follow_other.Goals as goal

pub returns-then-follow_null-clause-followed : goal.returns-then-follow_null-clause-followed
returns-then-follow_null-clause-followed g c = (c.if-follow_null.ensures.paid, refl, tt)

pub returns-in-Some-clause-followed : goal.returns-in-Some-clause-followed
returns-in-Some-clause-followed g c =
    let s : Segments = words_in (g.A.ReaderArena.segments c.args.arena.now) in
    let p : Place = place_view c.args.place in
    let n = c.args.levels in
    let some : 0 < n = omega (arith, c.if-levels-eq0.false) in
    let o = structs_object c.in-Some.near in
    let k = c.follow_structs.new.limiter in
    let here : Pays s p c.follow_null.new.limiter o k = rw c.in-Some.is at c.follow_structs.ensures.paid in
    (subst (λ (x : ReadLimiter). Pays s p x o k) c.if-follow_null.ensures.untold here, levels_are n o some, tt)

pub returns-in-Some-follow_pointers-clause-followed : goal.returns-in-Some-follow_pointers-clause-followed
returns-in-Some-follow_pointers-clause-followed g c =
    let s : Segments = words_in (g.A.ReaderArena.segments c.args.arena.now) in
    let p : Place = place_view c.args.place in
    let n = c.args.levels in
    let some : 0 < n = omega (arith, c.if-levels-eq0.false) in
    let near = c.in-Some-follow_pointers.near in
    let o = object.PointerList near.start near.count in
    let k = c.follow_pointers.new.limiter in
    let first = c.if-follow_null.ensures.untold in
    let second = c.follow_structs.ensures.untold (none_is c.follow_structs.result c.in_default.not-Some) in
    let here : Pays s p c.follow_structs.new.limiter o k = rw c.in-Some-follow_pointers.is at c.follow_pointers.ensures.paid in
    (subst (λ (x : ReadLimiter). Pays s p x o k) (second ∙ first) here, levels_are n o some, tt)

pub returns-clause-followed : goal.returns-clause-followed
returns-clause-followed g c =
    let s : Segments = words_in (g.A.ReaderArena.segments c.args.arena.now) in
    let p : Place = place_view c.args.place in
    let n = c.args.levels in
    let k = c.follow_landed.new.limiter in
    let first = c.if-follow_null.ensures.untold in
    let second = c.follow_structs.ensures.untold (none_is c.follow_structs.result c.in_default.not-Some) in
    let third = c.follow_pointers.ensures.untold (none_is c.follow_pointers.result c.in_default-follow_pointers.not-Some) in
    subst (λ (x : ReadLimiter). IfSome c.follow_landed.result (λ o. FollowsData n s p x (Ok o) k)) (third ∙ second ∙ first) c.follow_landed.ensures.followed

pub returns-clause-untold : goal.returns-clause-untold
returns-clause-untold g c = λ none.
    let first = c.if-follow_null.ensures.untold in
    let second = c.follow_structs.ensures.untold (none_is c.follow_structs.result c.in_default.not-Some) in
    let third = c.follow_pointers.ensures.untold (none_is c.follow_pointers.result c.in_default-follow_pointers.not-Some) in
    c.follow_landed.ensures.untold none ∙ (third ∙ second ∙ first)
