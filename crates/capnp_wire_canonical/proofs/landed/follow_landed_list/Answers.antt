-- It is followed at its cost and that of the pad.
use Rattle.std.proofs.Common.{ℕ, ◌+◌, ap}
use Rattle.capnp_model.specs.Segments.{Segments}
use Rattle.capnp_units.specs.Segments.{words_in}
use Rattle.capnp_wire_objects.specs.Places.{place_view}
use Rattle.capnp_wire_objects.specs.Near.{list_object, IsNear}
use Rattle.capnp_wire_canonical.proofs.Padded.{landed_paid}
use Rattle.capnp_wire_canonical.proofs.landed.follow_landed_list.Goals as goal

pub returns-clause-paid : goal.returns-clause-paid
returns-clause-paid g c =
    let segments = g.A.ReaderArena.segments c.args.arena.now in
    let s : Segments = words_in segments in
    let list = c.in_ok-list.list in
    let there : IsNear s (place_view c.args.pad) (list_object list) = c.in_ok-list.ensures.near segments c.requires.bytes in
    landed_paid s (place_view c.args.place) (place_view c.args.pad) (list_object list) c.requires.pad tt there c.args.limiter.now c.follow_for.new.self (1 + c.list_cost.result) (ap (λ (k : ℕ). 1 + k) c.list_cost.ensures) c.if-not-follow_for.ensures.granted c.if-not-follow_for.ensures.followed
