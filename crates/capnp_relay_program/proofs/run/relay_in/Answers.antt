use Rattle.std.proofs.Common.{Ok, Err}
use Rattle.capnp_relay_loop.specs.Streams.{source_seen, sink_seen, streams}
use Rattle.capnp_relay_loop.specs.Pauses.{moment}
use Rattle.capnp_relay_program.specs.Flushing.{flushes_of}
use Rattle.capnp_relay_program.proofs.Running.{ran_alone, ran_beside, held_beside, flushing_alone, flushing_beside}
use Rattle.capnp_relay_program.proofs.run.relay_in.Goals as goal

pub returns-in_default-clause-ran : goal.returns-in_default-clause-ran
returns-in_default-clause-ran g c =
    let old = streams (source_seen g.R.Read.remaining g.R.Read.failures c.args.source.now) (sink_seen g.W.Write.contents g.W.Write.failures g.W.Write.room c.args.out.now) (sink_seen g.L.Write.contents g.L.Write.failures g.L.Write.room c.args.log.now) in
    let new = streams (source_seen g.R.Read.remaining g.R.Read.failures c.relay_pausing.new.source) (sink_seen g.W.Write.contents g.W.Write.failures g.W.Write.room c.relay_pausing.new.out) (sink_seen g.L.Write.contents g.L.Write.failures g.L.Write.room c.relay_pausing.new.log) in
    ran_alone c.root-root.result c.as_slice-calls.result.now c.args.settings.now g.W.Write.may_grow g.L.Write.may_grow old new c.root-root.ensures.nodes c.root-root.ensures.id c.as_slice-calls.ensures.value c.relay_pausing.result c.in_default.is c.relay_pausing.ensures.run

pub returns-in-Ok-clause-ran : goal.returns-in-Ok-clause-ran
returns-in-Ok-clause-ran g c =
    let old = streams (source_seen g.R.Read.remaining g.R.Read.failures c.args.source.now) (sink_seen g.W.Write.contents g.W.Write.failures g.W.Write.room c.args.out.now) (sink_seen g.L.Write.contents g.L.Write.failures g.L.Write.room c.args.log.now) in
    let new = streams (source_seen g.R.Read.remaining g.R.Read.failures c.relay_between_pausing.new.source) (sink_seen g.W.Write.contents g.W.Write.failures g.W.Write.room c.relay_between_pausing.new.out) (sink_seen g.L.Write.contents g.L.Write.failures g.L.Write.room c.relay_between_pausing.new.log) in
    ran_beside c.root-root.result c.as_slice-calls.result.now c.args.settings.now g.W.Write.may_grow g.L.Write.may_grow old new c.root-root.ensures.nodes c.root-root.ensures.id c.as_slice-calls.ensures.value
    c.root-newer.result c.in-Some.newer c.in-Some.is c.root-newer.ensures.nodes c.root-newer.ensures.id (Ok c.in-Ok.counts) c.in-Ok.ensures.run

pub returns-in-Err-Relay-clause-ran : goal.returns-in-Err-Relay-clause-ran
returns-in-Err-Relay-clause-ran g c =
    let old = streams (source_seen g.R.Read.remaining g.R.Read.failures c.args.source.now) (sink_seen g.W.Write.contents g.W.Write.failures g.W.Write.room c.args.out.now) (sink_seen g.L.Write.contents g.L.Write.failures g.L.Write.room c.args.log.now) in
    let new = streams (source_seen g.R.Read.remaining g.R.Read.failures c.relay_between_pausing.new.source) (sink_seen g.W.Write.contents g.W.Write.failures g.W.Write.room c.relay_between_pausing.new.out) (sink_seen g.L.Write.contents g.L.Write.failures g.L.Write.room c.relay_between_pausing.new.log) in
    let run = rw c.in-Err-Relay.field-0-is at c.in-Err-Relay.ensures.run in
    ran_beside c.root-root.result c.as_slice-calls.result.now c.args.settings.now g.W.Write.may_grow g.L.Write.may_grow old new c.root-root.ensures.nodes c.root-root.ensures.id c.as_slice-calls.ensures.value
    c.root-newer.result c.in-Some.newer c.in-Some.is c.root-newer.ensures.nodes c.root-newer.ensures.id (Err c.in-Err-Relay.e) run

pub returns-in-Err-NotAdmitted-clause-held : goal.returns-in-Err-NotAdmitted-clause-held
returns-in-Err-NotAdmitted-clause-held g c =
    let held = rw c.in-Err-NotAdmitted.field-0-is at c.in-Err-NotAdmitted.ensures.run in
    held_beside c.root-root.result c.root-newer.result c.as_slice-calls.result.now c.args.settings.now c.in-Some.newer c.in-Err-NotAdmitted.n c.root-root.ensures.nodes c.root-root.ensures.id c.as_slice-calls.ensures.value c.in-Some.is c.root-newer.ensures.nodes c.root-newer.ensures.id held

pub returns-in_default-clause-flushes : goal.returns-in_default-clause-flushes
returns-in_default-clause-flushes g c =
    let flushes = flushes_of g.R.Read g.W.Write g.L.Write g.R.Windowed.window g.W.Flush.held g.L.Flush.held in
    let old = moment c.args.source.now c.args.out.now c.args.log.now in
    let new = moment c.relay_pausing.new.source c.relay_pausing.new.out c.relay_pausing.new.log in
    flushing_alone flushes c.root-root.result c.as_slice-calls.result.now c.args.settings.now g.W.Write.may_grow g.L.Write.may_grow old new c.root-root.ensures.nodes c.root-root.ensures.id c.as_slice-calls.ensures.value g.F.MessageForm.reader c.requires.form
    c.relay_pausing.result c.in_default.is c.relay_pausing.ensures.pauses

pub returns-in-Ok-clause-flushes : goal.returns-in-Ok-clause-flushes
returns-in-Ok-clause-flushes g c =
    let flushes = flushes_of g.R.Read g.W.Write g.L.Write g.R.Windowed.window g.W.Flush.held g.L.Flush.held in
    let old = moment c.args.source.now c.args.out.now c.args.log.now in
    let new = moment c.relay_between_pausing.new.source c.relay_between_pausing.new.out c.relay_between_pausing.new.log in
    flushing_beside flushes c.root-root.result c.as_slice-calls.result.now c.args.settings.now g.W.Write.may_grow g.L.Write.may_grow old new c.root-root.ensures.nodes c.root-root.ensures.id c.as_slice-calls.ensures.value g.F.MessageForm.reader c.requires.form
    c.root-newer.result c.in-Some.newer c.in-Some.is c.root-newer.ensures.nodes (Ok c.in-Ok.counts) c.in-Ok.ensures.pauses

pub returns-in-Err-Relay-clause-flushes : goal.returns-in-Err-Relay-clause-flushes
returns-in-Err-Relay-clause-flushes g c =
    let flushes = flushes_of g.R.Read g.W.Write g.L.Write g.R.Windowed.window g.W.Flush.held g.L.Flush.held in
    let old = moment c.args.source.now c.args.out.now c.args.log.now in
    let new = moment c.relay_between_pausing.new.source c.relay_between_pausing.new.out c.relay_between_pausing.new.log in
    let paused = rw c.in-Err-Relay.field-0-is at c.in-Err-Relay.ensures.pauses in
    flushing_beside flushes c.root-root.result c.as_slice-calls.result.now c.args.settings.now g.W.Write.may_grow g.L.Write.may_grow old new c.root-root.ensures.nodes c.root-root.ensures.id c.as_slice-calls.ensures.value g.F.MessageForm.reader c.requires.form
    c.root-newer.result c.in-Some.newer c.in-Some.is c.root-newer.ensures.nodes (Err c.in-Err-Relay.e) paused
