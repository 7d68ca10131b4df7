-- The word at the place is compared with zero.
use Rattle.capnp_units.specs.Segments.{words_in}
use Rattle.capnp_wire.specs.Views.{backing_bytes}
use Rattle.capnp_wire.proofs.Gets.{null_tested}
use Rattle.capnp_wire.proofs.pointer.PointerReader.is_null.Goals as goal

pub returns-in-Some : goal.returns-in-Some
returns-in-Some g c =
    null_tested (words_in (backing_bytes g.A.ReaderArena.segments c.args.self.now.backing)) c.args.self.now.place c.in-Some.place c.word_at.result c.eq.result c.in-Some.is c.word_at.ensures.word c.eq.ensures
