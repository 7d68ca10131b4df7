use Rattle.capnp_relay_loop.specs.Streams.{sink_seen}
use Rattle.capnp_relay_program.proofs.program.put.Goals as goal

pub returns : goal.returns
returns g c =
    let w = c.write_all-written.ensures in
    let f = c.flush-flushed.ensures in (
      c.write_all-written.result,
      c.flush-flushed.result,
      sink_seen g.L.Write.contents g.L.Write.failures g.L.Write.room c.write_all-written.new.self,
      record { ok = w.ok; falls = w.falls; err = w.err; refusal = w.refusal; count = w.count },
      record { kept = f.kept; empty = f.empty; refusal = f.refusal; count = f.count },
    )
