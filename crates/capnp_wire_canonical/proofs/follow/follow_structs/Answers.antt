-- The list is followed at its cost.
use Rattle.capnp_model.specs.Segments.{Segments}
use Rattle.capnp_units.specs.Segments.{words_in}
use Rattle.capnp_wire_objects.specs.Places.{place_view}
use Rattle.capnp_wire_objects.specs.Near.{structs_object, IsNear}
use Rattle.capnp_wire_canonical.proofs.NearFollowed.{near_paid}
use Rattle.capnp_wire_canonical.proofs.follow.follow_structs.Goals as goal

pub returns-clause-paid : goal.returns-clause-paid
returns-clause-paid g c =
    let segments = g.A.ReaderArena.segments c.args.arena.now in
    let s : Segments = words_in segments in
    let near = c.in_ok-near.near in
    let there : IsNear s (place_view c.args.place) (structs_object near) = c.in_ok-near.ensures.near segments c.requires in
    near_paid s (place_view c.args.place) (structs_object near) there c.args.limiter.now c.follow_for.new.self c.structs_cost.result c.structs_cost.ensures.cost c.if-not-follow_for.ensures.granted c.if-not-follow_for.ensures.followed
