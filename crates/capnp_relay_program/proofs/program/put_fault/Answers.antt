use Rattle.capnp_relay_loop.specs.Streams.{sink_seen}
use Rattle.capnp_relay_program.proofs.program.put_fault.Goals as goal

pub returns : goal.returns
returns g c =
    let f = c.flush-flushed.ensures in (
      c.write_line-written.result,
      c.flush-flushed.result,
      sink_seen g.L.Write.contents g.L.Write.failures g.L.Write.room c.write_line-written.new.log,
      c.write_line-written.ensures,
      record { kept = f.kept; empty = f.empty; refusal = f.refusal; count = f.count },
    )
