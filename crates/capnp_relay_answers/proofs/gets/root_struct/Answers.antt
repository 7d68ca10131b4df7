use Rattle.std.proofs.Common.{Ok}
use Rattle.capnp_model.specs.Segments.{root}
use Rattle.capnp_wire.specs.Views.{pointer_at, seen_pointer, seen_struct}
use Rattle.capnp_wire.specs.Reads.{read_struct}
use Rattle.capnp_values.specs.Standing.{LeadsToValue}
use Rattle.capnp_values.proofs.lemmas.Unlimited.{answers_reading}
use Rattle.capnp_relay_answers.proofs.Told.{reader_has_record}
use Rattle.capnp_relay_answers.proofs.gets.root_struct.Goals as goal

pub returns-in-Ok-clause-record : goal.returns-in-Ok-clause-record
returns-in-Ok-clause-record g c n left t limit enough there =
    let bytes = g.A.ReaderArena.segments in
    let p = seen_pointer bytes c.at.result in
    let e = answers_reading (seen_struct bytes) (read_struct p.basis p.levels) p c.new-unlimited.result c.get_struct.new.limiter (Ok c.in-Ok.reader) c.new-unlimited.ensures.left c.in-Ok.ensures in
    let q = pointer_at (bytes c.args.arena.now) (g.A.ReaderArena.nesting c.args.arena.now) root in
    let leads : LeadsToValue n q t = record { left = left; levels = limit; enough = enough; tree = there } in
    reader_has_record c.pointers_are_read.ensures bytes c.new.result n p q t (seen_struct bytes c.in-Ok.reader) c.at.ensures c.new.ensures.source leads e
