use Rattle.std.proofs.Common.{Ok, Err}
use Rattle.capnp_relay_loop.specs.Streams.{source_seen, sink_seen, streams}
use Rattle.capnp_calls_versions.specs.Renamed.{renamings_of}
use Rattle.capnp_relay_streams.proofs.PlainRecords.{NewerLaws}
use Rattle.capnp_relay_streams.proofs.RunsBetween.{relays-between}
use Rattle.capnp_relay_streams.proofs.between.relay_between_pausing.Goals as goal

pub returns-in-Ok-clause-run : goal.returns-in-Ok-clause-run
returns-in-Ok-clause-run g c =
    let root = c.args.root in
    let calls = c.args.calls.now in
    let may = c.in_ok-calls.ensures.may in
    let laws : NewerLaws = record { records = c.calls_across_renamed_versions.ensures.records; same_replies = c.calls_across_renamed_versions.ensures.replies; values = c.calls_across_renamed_versions.ensures.values; kinds = c.records_of_written_values.ensures.kinds; next = c.records_after_calls.ensures.next; trimmed = c.records_of_trimmed_values.ensures } in
    let old = streams (source_seen g.R.Read.remaining g.R.Read.failures c.args.source.now) (sink_seen g.W.Write.contents g.W.Write.failures g.W.Write.room c.args.out.now) (sink_seen g.L.Write.contents g.L.Write.failures g.L.Write.room c.args.log.now) in
    let new = streams (source_seen g.R.Read.remaining g.R.Read.failures c.relay_calls.new.source) (sink_seen g.W.Write.contents g.W.Write.failures g.W.Write.room c.relay_calls.new.out) (sink_seen g.L.Write.contents g.L.Write.failures g.L.Write.room c.relay_calls.new.log) in
    let relays = relays-between (renamings_of c.args.renamings.now) root c.args.newer calls c.args.options laws (c.roots_are_no_groups.ensures root c.requires.root) (c.calls_are_given.ensures root calls) may
    g.P.Pause.may_fail g.W.Write.may_grow g.L.Write.may_grow old new (Ok c.in-Ok.counts) (rw (c.in_ok-calls.ensures.schema, c.in_ok-calls.ensures.calls) at c.in-Ok.ensures.run) in
    record { may = may; relays = relays }

pub returns-in-Err-clause-run : goal.returns-in-Err-clause-run
returns-in-Err-clause-run g c =
    let root = c.args.root in
    let calls = c.args.calls.now in
    let may = c.in_ok-calls.ensures.may in
    let laws : NewerLaws = record { records = c.calls_across_renamed_versions.ensures.records; same_replies = c.calls_across_renamed_versions.ensures.replies; values = c.calls_across_renamed_versions.ensures.values; kinds = c.records_of_written_values.ensures.kinds; next = c.records_after_calls.ensures.next; trimmed = c.records_of_trimmed_values.ensures } in
    let old = streams (source_seen g.R.Read.remaining g.R.Read.failures c.args.source.now) (sink_seen g.W.Write.contents g.W.Write.failures g.W.Write.room c.args.out.now) (sink_seen g.L.Write.contents g.L.Write.failures g.L.Write.room c.args.log.now) in
    let new = streams (source_seen g.R.Read.remaining g.R.Read.failures c.relay_calls.new.source) (sink_seen g.W.Write.contents g.W.Write.failures g.W.Write.room c.relay_calls.new.out) (sink_seen g.L.Write.contents g.L.Write.failures g.L.Write.room c.relay_calls.new.log) in
    let relays = relays-between (renamings_of c.args.renamings.now) root c.args.newer calls c.args.options laws (c.roots_are_no_groups.ensures root c.requires.root) (c.calls_are_given.ensures root calls) may
    g.P.Pause.may_fail g.W.Write.may_grow g.L.Write.may_grow old new (Err c.in-Err.e) (rw (c.in_ok-calls.ensures.schema, c.in_ok-calls.ensures.calls) at c.in-Err.ensures.run) in
    record { may = may; relays = relays }

pub returns-in-Ok-clause-pauses : goal.returns-in-Ok-clause-pauses
returns-in-Ok-clause-pauses g c = rw (c.in_ok-calls.ensures.schema, c.in_ok-calls.ensures.calls) at c.in-Ok.ensures.pauses

pub returns-in-Err-clause-pauses : goal.returns-in-Err-clause-pauses
returns-in-Err-clause-pauses g c = rw (c.in_ok-calls.ensures.schema, c.in_ok-calls.ensures.calls) at c.in-Err.ensures.pauses
