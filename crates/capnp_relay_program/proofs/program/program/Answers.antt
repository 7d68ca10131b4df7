use Rattle.std.proofs.Common.{rules, arith, inl, ◌≡◌, ◌≤◌, refl, sym, ◌∙◌, map, string_bytes, true, false, List, ℕ, subst}
use Rattle.std.specs.Option.{option_copied}
use Rattle.capnp_relay_loop.specs.Streams.{source_seen, sink_seen, streams}
use Rattle.capnp_relay_program.specs.Arguments.{is_help}
use Rattle.capnp_relay_program.specs.Asked.{request}
use Rattle.capnp_relay_program.specs.Program.{seen_of, Told}
use Rattle.capnp_relay_program.specs.declared.stop.Stop.TheVariants as stop
use Rattle.capnp_relay_program.proofs.Telling.{meets_other, meets_help}
use Rattle.capnp_relay_program.proofs.program.program.Goals as goal

pub returns-then-asks_for_help-clause-ends : goal.returns-then-asks_for_help-clause-ends
returns-then-asks_for_help-clause-ends g c =
    let r = request (map string_bytes c.args.words.now) (option_copied c.args.schema) (option_copied c.args.calls) (option_copied c.args.newer) (option_copied c.args.renames) in
    let old = seen_of (streams (source_seen g.R.Read.remaining g.R.Read.failures c.args.source.now) (sink_seen g.W.Write.contents g.W.Write.failures g.W.Write.room c.args.out.now) (sink_seen g.L.Write.contents g.L.Write.failures g.L.Write.room c.args.log.now)) (g.W.Flush.held c.args.out.now) (g.L.Flush.held c.args.log.now) in
    let mid = seen_of (streams (source_seen g.R.Read.remaining g.R.Read.failures c.args.source.now) (sink_seen g.W.Write.contents g.W.Write.failures g.W.Write.room c.put.new.sink) (sink_seen g.L.Write.contents g.L.Write.failures g.L.Write.room c.args.log.now)) (g.W.Flush.held c.put.new.sink) (g.L.Flush.held c.args.log.now) in
    let P : List ℕ → Type 0 = λ text. Told g.W.Write.may_grow text old.streams.out mid.streams.out mid.out_held in
    let told = subst P c.as_bytes.ensures.value c.put.ensures in
    let help : is_help (map string_bytes c.args.words.now) ≡ true = sym c.asks_for_help.ensures ∙ c.if-asks_for_help.true in record {
      either = omega arith;
      done = λ h. absurd (cc h);
      fault = λ h. record {
        stop = stop.Arguments;
        mid = mid;
        meets = meets_help (is_help (map string_bytes c.args.words.now)) r g.W.Write.may_grow g.L.Write.may_grow old mid help refl refl told;
        source = refl;
        out = refl;
        out_held = refl;
        told = c.put_fault.ensures;
      };
    }

pub returns-in-Err-clause-ends : goal.returns-in-Err-clause-ends
returns-in-Err-clause-ends g c =
    let r = request (map string_bytes c.args.words.now) (option_copied c.args.schema) (option_copied c.args.calls) (option_copied c.args.newer) (option_copied c.args.renames) in
    let old = seen_of (streams (source_seen g.R.Read.remaining g.R.Read.failures c.args.source.now) (sink_seen g.W.Write.contents g.W.Write.failures g.W.Write.room c.args.out.now) (sink_seen g.L.Write.contents g.L.Write.failures g.L.Write.room c.args.log.now)) (g.W.Flush.held c.args.out.now) (g.L.Flush.held c.args.log.now) in
    let mid = seen_of (streams (source_seen g.R.Read.remaining g.R.Read.failures c.relay_all.new.source) (sink_seen g.W.Write.contents g.W.Write.failures g.W.Write.room c.relay_all.new.out) (sink_seen g.L.Write.contents g.L.Write.failures g.L.Write.room c.relay_all.new.log)) (g.W.Flush.held c.relay_all.new.out) (g.L.Flush.held c.relay_all.new.log) in
    let other : is_help (map string_bytes c.args.words.now) ≡ false = sym c.asks_for_help.ensures ∙ c.if-asks_for_help.false in record {
      either = omega arith;
      done = λ h. absurd (cc h);
      fault = λ h. record {
        stop = c.in-Err.stop;
        mid = mid;
        meets = meets_other (is_help (map string_bytes c.args.words.now)) r g.W.Write.may_grow g.L.Write.may_grow old mid c.in-Err.stop other c.in-Err.ensures.run;
        source = refl;
        out = refl;
        out_held = refl;
        told = c.put_fault-in-Err.ensures;
      };
    }

pub returns-then-asks_for_help-clause-flushes : goal.returns-then-asks_for_help-clause-flushes
returns-then-asks_for_help-clause-flushes g c = inl refl

pub returns-in-Err-clause-flushes : goal.returns-in-Err-clause-flushes
returns-in-Err-clause-flushes g c = c.in-Err.ensures.flushes
