-- Null is nothing, an arena's object is paid for.
use Rattle.std.proofs.Common.{Option, ap, sym}
use Rattle.capnp_wire_objects.specs.declared.place.Place.{Place}
use Rattle.capnp_wire_objects.specs.Places.{place_view}
use Rattle.capnp_wire.specs.Views.{seen_pointer, place_seen, is_paid}
use Rattle.capnp_wire.specs.Reads.{is_null_at}
use Rattle.capnp_wire.proofs.Gets.{null_reached, followed}
use Rattle.capnp_wire.proofs.pointer.PointerReader.object_here.Goals as goal

pub returns-in_default-clause-object : goal.returns-in_default-clause-object
returns-in_default-clause-object g c = null_reached (seen_pointer g.A.ReaderArena.segments c.args.self.now) c.args.limiter.now (ap (λ (o : Option Place). is_null_at (seen_pointer g.A.ReaderArena.segments c.args.self.now).basis.segments (place_seen o)) c.in_default.is)

pub returns-then-is_null-clause-object : goal.returns-then-is_null-clause-object
returns-then-is_null-clause-object g c = null_reached (seen_pointer g.A.ReaderArena.segments c.args.self.now) c.args.limiter.now (sym c.if-is_null.ensures)

pub returns-in-Arena-clause-object : goal.returns-in-Arena-clause-object
returns-in-Arena-clause-object g c =
    followed (seen_pointer g.A.ReaderArena.segments c.args.self.now) (place_view c.in-Some.place) (ap place_seen c.in-Some.is) c.follow_any.result c.args.limiter.now c.follow_any.new.limiter (ap is_paid c.in-Arena.is) (sym c.if-is_null.ensures) (rw c.in-Arena.is c.follow_any.ensures)
