-- The object is the one behind the pad.
use Rattle.std.proofs.Common.{◌<◌, ◌∙◌, subst, arith}
use Rattle.capnp_model.specs.Segments.{Segments, Place}
use Rattle.capnp_units.specs.declared.limiter.ReadLimiter.{ReadLimiter}
use Rattle.capnp_units.specs.Segments.{words_in}
use Rattle.capnp_wire_objects.specs.Places.{place_view}
use Rattle.capnp_wire_objects.specs.Follow.{Pays}
use Rattle.capnp_wire_objects.specs.Near.{list_object, struct_object, structs_object}
use Rattle.capnp_wire_canonical.proofs.NearFollowed.{levels_are, none_is}
use Rattle.capnp_wire_canonical.proofs.landed.follow_landed.Goals as goal

pub returns-in-Some-clause-followed : goal.returns-in-Some-clause-followed
returns-in-Some-clause-followed g c =
    let s : Segments = words_in (g.A.ReaderArena.segments c.args.arena.now) in
    let p : Place = place_view c.args.place in
    let n = c.args.levels in
    let some : 0 < n = omega (arith, c.if-levels-eq0.false) in
    let o = list_object c.in-Some.list in
    let pay : Pays s p c.args.limiter.now o c.follow_landed_list.new.limiter = rw c.in-Some.is at c.follow_landed_list.ensures.paid in
    (pay, levels_are n o some, tt)

pub returns-in-Some-follow_landed_struct-clause-followed : goal.returns-in-Some-follow_landed_struct-clause-followed
returns-in-Some-follow_landed_struct-clause-followed g c =
    let s : Segments = words_in (g.A.ReaderArena.segments c.args.arena.now) in
    let p : Place = place_view c.args.place in
    let n = c.args.levels in
    let some : 0 < n = omega (arith, c.if-levels-eq0.false) in
    let o = struct_object c.in-Some-follow_landed_struct.near in
    let k = c.follow_landed_struct.new.limiter in
    let first = c.follow_landed_list.ensures.untold (none_is c.follow_landed_list.result c.in_default.not-Some) in
    let here : Pays s p c.follow_landed_list.new.limiter o k = rw c.in-Some-follow_landed_struct.is at c.follow_landed_struct.ensures.paid in
    (subst (λ (x : ReadLimiter). Pays s p x o k) first here, levels_are n o some, tt)

pub returns-clause-followed : goal.returns-clause-followed
returns-clause-followed g c =
    let s : Segments = words_in (g.A.ReaderArena.segments c.args.arena.now) in
    let p : Place = place_view c.args.place in
    let n = c.args.levels in
    let some : 0 < n = omega (arith, c.if-levels-eq0.false) in
    let o = structs_object c.in_ok-near.near in
    let k = c.follow_landed_structs.new.limiter in
    let first = c.follow_landed_list.ensures.untold (none_is c.follow_landed_list.result c.in_default.not-Some) in
    let second = c.follow_landed_struct.ensures.untold (none_is c.follow_landed_struct.result c.in_default-follow_landed_struct.not-Some) in
    (subst (λ (x : ReadLimiter). Pays s p x o k) (second ∙ first) c.in_ok-near.ensures.paid, levels_are n o some, tt)
