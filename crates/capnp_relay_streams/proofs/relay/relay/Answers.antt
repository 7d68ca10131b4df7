use Rattle.capnp_relay_loop.specs.Streams.{source_seen, sink_seen, streams}
use Rattle.capnp_relay_streams.specs.Relaying.{relay_work}
use Rattle.capnp_relay_loop.proofs.lemmas.PauseLemmas.{never_pausing}
use Rattle.capnp_relay_streams.proofs.relay.relay.Goals as goal

pub returns-clause-run : goal.returns-clause-run
returns-clause-run g c =
    let old = streams (source_seen g.R.Read.remaining g.R.Read.failures c.args.source.now) (sink_seen g.W.Write.contents g.W.Write.failures g.W.Write.room c.args.out.now) (sink_seen g.L.Write.contents g.L.Write.failures g.L.Write.room c.args.log.now) in
    let new = streams (source_seen g.R.Read.remaining g.R.Read.failures c.relay_pausing.new.source) (sink_seen g.W.Write.contents g.W.Write.failures g.W.Write.room c.relay_pausing.new.out) (sink_seen g.L.Write.contents g.L.Write.failures g.L.Write.room c.relay_pausing.new.log) in
    never_pausing (relay_work c.args.root c.args.calls.now c.args.options g.W.Write.may_grow g.L.Write.may_grow) old new c.relay_pausing.result c.relay_pausing.ensures.run
