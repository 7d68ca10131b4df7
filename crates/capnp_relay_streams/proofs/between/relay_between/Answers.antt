use Rattle.std.proofs.Common.{List, subst}
use Rattle.capnp_model.specs.Partners.{Renaming}
use Rattle.capnp_relay_loop.specs.Run.{RunEndsAs}
use Rattle.capnp_relay_loop.specs.Streams.{source_seen, sink_seen, streams}
use Rattle.capnp_relay_streams.specs.Ends.{RelaysBetween}
use Rattle.capnp_relay_streams.proofs.between.relay_between.Goals as goal

pub returns-clause-run : goal.returns-clause-run
returns-clause-run g c =
    let old = streams (source_seen g.R.Read.remaining g.R.Read.failures c.args.source.now) (sink_seen g.W.Write.contents g.W.Write.failures g.W.Write.room c.args.out.now) (sink_seen g.L.Write.contents g.L.Write.failures g.L.Write.room c.args.log.now) in
    let new = streams (source_seen g.R.Read.remaining g.R.Read.failures c.relay_between_with.new.source) (sink_seen g.W.Write.contents g.W.Write.failures g.W.Write.room c.relay_between_with.new.out) (sink_seen g.L.Write.contents g.L.Write.failures g.L.Write.room c.relay_between_with.new.log) in
    subst (λ (rs : List Renaming). RelaysBetween RunEndsAs (record { versions = record { renamings = rs; older = c.args.root; newer = c.args.newer }; calls = c.args.calls.now; options = c.args.options }) (record { out = g.W.Write.may_grow; log = g.L.Write.may_grow }) old new c.relay_between_with.result)
    c.none-none.ensures c.relay_between_with.ensures.run
