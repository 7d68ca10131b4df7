-- It is followed at its cost and that of the pad.
use Rattle.std.proofs.Common.{ℕ, ◌+◌, ap}
use Rattle.capnp_model.specs.Segments.{Segments}
use Rattle.capnp_units.specs.Segments.{words_in}
use Rattle.capnp_wire_objects.specs.Places.{place_view}
use Rattle.capnp_wire_objects.specs.Near.{structs_object, IsNear}
use Rattle.capnp_wire_canonical.proofs.Padded.{landed_paid}
use Rattle.capnp_wire_canonical.proofs.landed.follow_landed_structs.Goals as goal

pub returns-clause-paid : goal.returns-clause-paid
returns-clause-paid g c =
    let segments = g.A.ReaderArena.segments c.args.arena.now in
    let s : Segments = words_in segments in
    let near = c.in_ok-near.near in
    let there : IsNear s (place_view c.args.pad) (structs_object near) = c.in_ok-near.ensures.near segments c.requires.bytes in
    landed_paid s (place_view c.args.place) (place_view c.args.pad) (structs_object near) c.requires.pad tt there c.args.limiter.now c.follow_for.new.self (1 + c.structs_cost.result) (ap (λ (k : ℕ). 1 + k) c.structs_cost.ensures.cost) c.if-not-follow_for.ensures.granted c.if-not-follow_for.ensures.followed
