-- A default is read without a limit.
use Rattle.std.proofs.Common.{ap, sym}
use Rattle.capnp_wire_objects.specs.Places.{place_view}
use Rattle.capnp_wire.specs.Views.{is_paid, seen_struct}
use Rattle.capnp_wire.specs.Canonical.{StructTellsIn}
use Rattle.capnp_wire.proofs.Telling.{told_freely}
use Rattle.capnp_wire.proofs.structs.StructReader.stands_at.Goals as goal

pub returns-in-Default : goal.returns-in-Default
returns-in-Default g c =
    told_freely (is_paid c.args.self.now.backing) (StructTellsIn c.args.levels (seen_struct g.A.ReaderArena.segments c.args.self.now) (place_view c.args.start) (place_view c.args.head.now) c.stands_in-in-Default.result (place_view c.stands_in-in-Default.new.head)) c.args.limiter.now
    c.new-unlimited.result c.stands_in-in-Default.new.limiter (sym (ap is_paid c.in-Default.is)) c.new-unlimited.ensures.limit c.stands_in-in-Default.ensures
