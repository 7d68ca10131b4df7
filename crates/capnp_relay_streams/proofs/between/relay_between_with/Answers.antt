use Rattle.capnp_relay_loop.specs.Streams.{source_seen, sink_seen, streams}
use Rattle.capnp_calls_versions.specs.Renamed.{renamings_of}
use Rattle.capnp_relay_streams.proofs.RunsBetween.{between-never}
use Rattle.capnp_relay_streams.proofs.between.relay_between_with.Goals as goal

pub returns-clause-run : goal.returns-clause-run
returns-clause-run g c =
    let old = streams (source_seen g.R.Read.remaining g.R.Read.failures c.args.source.now) (sink_seen g.W.Write.contents g.W.Write.failures g.W.Write.room c.args.out.now) (sink_seen g.L.Write.contents g.L.Write.failures g.L.Write.room c.args.log.now) in
    let new = streams (source_seen g.R.Read.remaining g.R.Read.failures c.relay_between_pausing.new.source) (sink_seen g.W.Write.contents g.W.Write.failures g.W.Write.room c.relay_between_pausing.new.out) (sink_seen g.L.Write.contents g.L.Write.failures g.L.Write.room c.relay_between_pausing.new.log) in
    between-never (record { versions = record { renamings = renamings_of c.args.renamings.now; older = c.args.root; newer = c.args.newer }; calls = c.args.calls.now; options = c.args.options }) (record { out = g.W.Write.may_grow; log = g.L.Write.may_grow }) old new c.relay_between_pausing.result c.relay_between_pausing.ensures.run
