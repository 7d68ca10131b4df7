-- It is followed at its cost and that of the pad.
use Rattle.std.proofs.Common.{◌+◌, arith}
use Rattle.capnp_model.specs.Segments.{Segments}
use Rattle.capnp_units.specs.Segments.{words_in}
use Rattle.capnp_wire_objects.specs.Places.{place_view}
use Rattle.capnp_wire_objects.specs.Near.{struct_object, IsNear}
use Rattle.capnp_wire_canonical.proofs.Padded.{landed_paid}
use Rattle.capnp_wire_canonical.proofs.landed.follow_landed_struct.Goals as goal

pub returns-clause-paid : goal.returns-clause-paid
returns-clause-paid g c =
    let segments = g.A.ReaderArena.segments c.args.arena.now in
    let s : Segments = words_in segments in
    let near = c.in_ok-near.near in
    let there : IsNear s (place_view c.args.pad) (struct_object near) = c.in_ok-near.ensures.near segments c.requires.bytes in
    landed_paid s (place_view c.args.place) (place_view c.args.pad) (struct_object near) c.requires.pad tt there c.args.limiter.now c.follow_for.new.self (1 + c.in_ok-near.near.size.data_words + c.in_ok-near.near.size.pointers) (omega arith) c.if-not-follow_for.ensures.granted c.if-not-follow_for.ensures.followed
