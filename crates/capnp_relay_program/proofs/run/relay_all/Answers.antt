-- The run of the relay, with what is asked, and the flushes behind it.
use Rattle.std.proofs.Common.{◌≡◌, refl, inl, inr, Option, Some, None}
use Rattle.capnp_relay_loop.specs.declared.ends.Fault.TheVariants as faults
use Rattle.capnp_relay_loop.specs.Streams.{source_seen, sink_seen, streams}
use Rattle.capnp_relay_loop.specs.Pauses.{moment}
use Rattle.capnp_relay_program.specs.Settings.{asked_of}
use Rattle.capnp_relay_program.specs.Program.{seen_of, Flushes}
use Rattle.capnp_relay_program.proofs.Running.{runs, behind_run, behind_out, behind_log, behind_none}
use Rattle.capnp_relay_program.proofs.run.relay_all.Goals as goal

pub returns-clause-run : goal.returns-clause-run
returns-clause-run g c =
    let s = c.in_ok-settings.settings in
    let result = c.in_ok-end.end in
    let out = c.flush-flushed_out.result in
    let log = c.flush-flushed_log.result in
    let old = seen_of (streams (source_seen g.R.Read.remaining g.R.Read.failures c.args.source.now) (sink_seen g.W.Write.contents g.W.Write.failures g.W.Write.room c.args.out.now) (sink_seen g.L.Write.contents g.L.Write.failures g.L.Write.room c.args.log.now)) (g.W.Flush.held c.args.out.now) (g.L.Flush.held c.args.log.now) in
    let mid = streams (source_seen g.R.Read.remaining g.R.Read.failures c.relay_asked.new.source) (sink_seen g.W.Write.contents g.W.Write.failures g.W.Write.room c.relay_asked.new.out) (sink_seen g.L.Write.contents g.L.Write.failures g.L.Write.room c.relay_asked.new.log) in
    let new = seen_of (streams (source_seen g.R.Read.remaining g.R.Read.failures c.relay_asked.new.source) (sink_seen g.W.Write.contents g.W.Write.failures g.W.Write.room c.flush-flushed_out.new.self) (sink_seen g.L.Write.contents g.L.Write.failures g.L.Write.room c.flush-flushed_log.new.self)) (g.W.Flush.held c.flush-flushed_out.new.self) (g.L.Flush.held c.flush-flushed_log.new.self) in
    let flushed_out : Flushes mid.out out new.streams.out new.out_held = record { kept = c.flush-flushed_out.ensures.kept; empty = c.flush-flushed_out.ensures.empty; refusal = c.flush-flushed_out.ensures.refusal; count = c.flush-flushed_out.ensures.count } in
    let flushed_log : Flushes mid.log log new.streams.log new.log_held = record { kept = c.flush-flushed_log.ensures.kept; empty = c.flush-flushed_log.ensures.empty; refusal = c.flush-flushed_log.ensures.refusal; count = c.flush-flushed_log.ensures.count } in
    (asked_of s, c.in_ok-settings.ensures.ok, runs (asked_of s) g.W.Write.may_grow g.L.Write.may_grow old mid new result out log None c.in_ok-end.ensures.ran refl flushed_out flushed_log (behind_none result out log c.in-Ok-Ok-Ok.field-0-0 c.in-Ok-Ok-Ok.field-0-1 c.in-Ok-Ok-Ok.field-0-2 c.in-Ok-Ok-Ok.is-0 c.in-Ok-Ok-Ok.is-1 c.in-Ok-Ok-Ok.is-2))

pub returns-in-Err-default-default-clause-run : goal.returns-in-Err-default-default-clause-run
returns-in-Err-default-default-clause-run g c =
    let s = c.in_ok-settings.settings in
    let result = c.in_ok-end.end in
    let out = c.flush-flushed_out.result in
    let log = c.flush-flushed_log.result in
    let old = seen_of (streams (source_seen g.R.Read.remaining g.R.Read.failures c.args.source.now) (sink_seen g.W.Write.contents g.W.Write.failures g.W.Write.room c.args.out.now) (sink_seen g.L.Write.contents g.L.Write.failures g.L.Write.room c.args.log.now)) (g.W.Flush.held c.args.out.now) (g.L.Flush.held c.args.log.now) in
    let mid = streams (source_seen g.R.Read.remaining g.R.Read.failures c.relay_asked.new.source) (sink_seen g.W.Write.contents g.W.Write.failures g.W.Write.room c.relay_asked.new.out) (sink_seen g.L.Write.contents g.L.Write.failures g.L.Write.room c.relay_asked.new.log) in
    let new = seen_of (streams (source_seen g.R.Read.remaining g.R.Read.failures c.relay_asked.new.source) (sink_seen g.W.Write.contents g.W.Write.failures g.W.Write.room c.flush-flushed_out.new.self) (sink_seen g.L.Write.contents g.L.Write.failures g.L.Write.room c.flush-flushed_log.new.self)) (g.W.Flush.held c.flush-flushed_out.new.self) (g.L.Flush.held c.flush-flushed_log.new.self) in
    let flushed_out : Flushes mid.out out new.streams.out new.out_held = record { kept = c.flush-flushed_out.ensures.kept; empty = c.flush-flushed_out.ensures.empty; refusal = c.flush-flushed_out.ensures.refusal; count = c.flush-flushed_out.ensures.count } in
    let flushed_log : Flushes mid.log log new.streams.log new.log_held = record { kept = c.flush-flushed_log.ensures.kept; empty = c.flush-flushed_log.ensures.empty; refusal = c.flush-flushed_log.ensures.refusal; count = c.flush-flushed_log.ensures.count } in
    inr (asked_of s, c.in-Err-default-default.e.fault, c.in_ok-settings.ensures.ok, refl, runs (asked_of s) g.W.Write.may_grow g.L.Write.may_grow old mid new result out log (Some c.in-Err-default-default.e.fault) c.in_ok-end.ensures.ran refl flushed_out flushed_log (behind_run result out log c.in-Err-default-default.e c.in-Err-default-default.is-0))

pub returns-in-Ok-Err-default-clause-run : goal.returns-in-Ok-Err-default-clause-run
returns-in-Ok-Err-default-clause-run g c =
    let s = c.in_ok-settings.settings in
    let result = c.in_ok-end.end in
    let out = c.flush-flushed_out.result in
    let log = c.flush-flushed_log.result in
    let old = seen_of (streams (source_seen g.R.Read.remaining g.R.Read.failures c.args.source.now) (sink_seen g.W.Write.contents g.W.Write.failures g.W.Write.room c.args.out.now) (sink_seen g.L.Write.contents g.L.Write.failures g.L.Write.room c.args.log.now)) (g.W.Flush.held c.args.out.now) (g.L.Flush.held c.args.log.now) in
    let mid = streams (source_seen g.R.Read.remaining g.R.Read.failures c.relay_asked.new.source) (sink_seen g.W.Write.contents g.W.Write.failures g.W.Write.room c.relay_asked.new.out) (sink_seen g.L.Write.contents g.L.Write.failures g.L.Write.room c.relay_asked.new.log) in
    let new = seen_of (streams (source_seen g.R.Read.remaining g.R.Read.failures c.relay_asked.new.source) (sink_seen g.W.Write.contents g.W.Write.failures g.W.Write.room c.flush-flushed_out.new.self) (sink_seen g.L.Write.contents g.L.Write.failures g.L.Write.room c.flush-flushed_log.new.self)) (g.W.Flush.held c.flush-flushed_out.new.self) (g.L.Flush.held c.flush-flushed_log.new.self) in
    let flushed_out : Flushes mid.out out new.streams.out new.out_held = record { kept = c.flush-flushed_out.ensures.kept; empty = c.flush-flushed_out.ensures.empty; refusal = c.flush-flushed_out.ensures.refusal; count = c.flush-flushed_out.ensures.count } in
    let flushed_log : Flushes mid.log log new.streams.log new.log_held = record { kept = c.flush-flushed_log.ensures.kept; empty = c.flush-flushed_log.ensures.empty; refusal = c.flush-flushed_log.ensures.refusal; count = c.flush-flushed_log.ensures.count } in
    inr (asked_of s, faults.Out, c.in_ok-settings.ensures.ok, refl, runs (asked_of s) g.W.Write.may_grow g.L.Write.may_grow old mid new result out log (Some faults.Out) c.in_ok-end.ensures.ran refl flushed_out flushed_log (behind_out result out log c.in-Ok-Err-default.field-0-0 c.in-Ok-Err-default.field-0-1 c.in-Ok-Err-default.is-0 c.in-Ok-Err-default.is-1))

pub returns-in-Ok-Ok-Err-clause-run : goal.returns-in-Ok-Ok-Err-clause-run
returns-in-Ok-Ok-Err-clause-run g c =
    let s = c.in_ok-settings.settings in
    let result = c.in_ok-end.end in
    let out = c.flush-flushed_out.result in
    let log = c.flush-flushed_log.result in
    let old = seen_of (streams (source_seen g.R.Read.remaining g.R.Read.failures c.args.source.now) (sink_seen g.W.Write.contents g.W.Write.failures g.W.Write.room c.args.out.now) (sink_seen g.L.Write.contents g.L.Write.failures g.L.Write.room c.args.log.now)) (g.W.Flush.held c.args.out.now) (g.L.Flush.held c.args.log.now) in
    let mid = streams (source_seen g.R.Read.remaining g.R.Read.failures c.relay_asked.new.source) (sink_seen g.W.Write.contents g.W.Write.failures g.W.Write.room c.relay_asked.new.out) (sink_seen g.L.Write.contents g.L.Write.failures g.L.Write.room c.relay_asked.new.log) in
    let new = seen_of (streams (source_seen g.R.Read.remaining g.R.Read.failures c.relay_asked.new.source) (sink_seen g.W.Write.contents g.W.Write.failures g.W.Write.room c.flush-flushed_out.new.self) (sink_seen g.L.Write.contents g.L.Write.failures g.L.Write.room c.flush-flushed_log.new.self)) (g.W.Flush.held c.flush-flushed_out.new.self) (g.L.Flush.held c.flush-flushed_log.new.self) in
    let flushed_out : Flushes mid.out out new.streams.out new.out_held = record { kept = c.flush-flushed_out.ensures.kept; empty = c.flush-flushed_out.ensures.empty; refusal = c.flush-flushed_out.ensures.refusal; count = c.flush-flushed_out.ensures.count } in
    let flushed_log : Flushes mid.log log new.streams.log new.log_held = record { kept = c.flush-flushed_log.ensures.kept; empty = c.flush-flushed_log.ensures.empty; refusal = c.flush-flushed_log.ensures.refusal; count = c.flush-flushed_log.ensures.count } in
    inr (asked_of s, faults.Log, c.in_ok-settings.ensures.ok, refl, runs (asked_of s) g.W.Write.may_grow g.L.Write.may_grow old mid new result out log (Some faults.Log) c.in_ok-end.ensures.ran refl flushed_out flushed_log (behind_log result out log c.in-Ok-Ok-Err.field-0-0 c.in-Ok-Ok-Err.field-0-1 c.in-Ok-Ok-Err.field-0-2 c.in-Ok-Ok-Err.is-0 c.in-Ok-Ok-Err.is-1 c.in-Ok-Ok-Err.is-2))

pub returns-clause-flushes : goal.returns-clause-flushes
returns-clause-flushes g c = inr (asked_of c.in_ok-settings.settings, c.in_ok-settings.ensures.ok, moment c.relay_asked.new.source c.relay_asked.new.out c.relay_asked.new.log, c.in_ok-end.end, c.in_ok-end.ensures.flushes, refl)

pub returns-in-Err-default-default-clause-flushes : goal.returns-in-Err-default-default-clause-flushes
returns-in-Err-default-default-clause-flushes g c = inr (asked_of c.in_ok-settings.settings, c.in_ok-settings.ensures.ok, moment c.relay_asked.new.source c.relay_asked.new.out c.relay_asked.new.log, c.in_ok-end.end, c.in_ok-end.ensures.flushes, refl)

pub returns-in-Ok-Err-default-clause-flushes : goal.returns-in-Ok-Err-default-clause-flushes
returns-in-Ok-Err-default-clause-flushes g c = inr (asked_of c.in_ok-settings.settings, c.in_ok-settings.ensures.ok, moment c.relay_asked.new.source c.relay_asked.new.out c.relay_asked.new.log, c.in_ok-end.end, c.in_ok-end.ensures.flushes, refl)

pub returns-in-Ok-Ok-Err-clause-flushes : goal.returns-in-Ok-Ok-Err-clause-flushes
returns-in-Ok-Ok-Err-clause-flushes g c = inr (asked_of c.in_ok-settings.settings, c.in_ok-settings.ensures.ok, moment c.relay_asked.new.source c.relay_asked.new.out c.relay_asked.new.log, c.in_ok-end.end, c.in_ok-end.ensures.flushes, refl)

pub returns-in_err-settings-clause-flushes : goal.returns-in_err-settings-clause-flushes
returns-in_err-settings-clause-flushes g c = inl refl

pub returns-in_err-end-clause-flushes : goal.returns-in_err-end-clause-flushes
returns-in_err-end-clause-flushes g c = inl c.in_err-end.ensures.untouched.0
