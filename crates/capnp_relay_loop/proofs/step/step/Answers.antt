use Rattle.std.proofs.Common.{List, ℕ, ◌+◌, Some, Err, refl, ap, sym, subst, ◌∙◌}
use Rattle.std.proofs.KnownBytes.{Keeps-refl}
use Rattle.std.proofs.lemmas.Result.{err_from_is_err_and}
use Rattle.capnp_model.specs.Answers.{written}
use Rattle.capnp_stream.specs.Buffers.{found_segments}
use Rattle.capnp_stream.specs.Segments.{words_in}
use Rattle.capnp_relay_loop.specs.MessageAnswers.{answer_view}
use Rattle.capnp_relay_loop.specs.Answers.{refused_one}
use Rattle.capnp_relay_loop.specs.Streams.{source_seen, sink_seen, streams, SinkTakes}
use Rattle.capnp_relay_loop.specs.Work.{work}
use Rattle.capnp_relay_loop.specs.Stops.{SinkRefused}
use Rattle.capnp_relay_loop.specs.declared.ends.Fault.TheVariants as faults
use Rattle.capnp_relay_loop.proofs.StepLemmas.{Stops-of_read, Stops-of_want, Stops-of_out, Stops-of_log, number-after}
use Rattle.capnp_relay_loop.proofs.step.step.Goals as goal

pub returns-in_err-answer : goal.returns-in_err-answer
returns-in_err-answer g c =
    let p = err_from_is_err_and c.from_residual.result c.from_residual.ensures.1 in
    let taken = rw c.in-Ok-Some.field-0-is at c.in-Ok-Some.ensures.message.message in
    let failed = c.in_err-answer.ensures in
    let old = streams (source_seen g.R.Read.remaining g.R.Read.failures c.args.source.now) (sink_seen g.W.Write.contents g.W.Write.failures g.W.Write.room c.args.out.now) (sink_seen g.L.Write.contents g.L.Write.failures g.L.Write.room c.args.log.now) in
    let new = streams (source_seen g.R.Read.remaining g.R.Read.failures c.try_read_message.new.source) (sink_seen g.W.Write.contents g.W.Write.failures g.W.Write.room c.args.out.now) (sink_seen g.L.Write.contents g.L.Write.failures g.L.Write.room c.args.log.now) in
    rw (p.1, p.2) (record {
      run = Stops-of_want (work g.I.MessageForm.reader g.O.MessageForm.writer (Some c.args.limit) (g.A.Answers.is_answer c.args.answers.now) (g.A.Answers.is_too_large c.args.answers.now) g.W.Write.may_grow g.L.Write.may_grow) g.met.I.MessageForm.fronts (c.args.answered + 1) old new c.args.progress.now.counts c.args.progress.now.counts
          (words_in (found_segments c.in-Ok-Some.message)) taken c.in-Ok-Some.ensures.message.count _ failed.err
          (λ e. number-after _ _ (failed.size (ap Err e))) (Keeps-refl _, refl) (Keeps-refl _, refl) refl;
      line = tt;
      zeros = failed.zeros;
    })

pub returns-in_err-put_out : goal.returns-in_err-put_out
returns-in_err-put_out g c =
    let p = err_from_is_err_and c.from_residual-in_err-put_out.result c.from_residual-in_err-put_out.ensures.1 in
    let taken = rw c.in-Ok-Some.field-0-is at c.in-Ok-Some.ensures.message.message in
    let s = words_in (found_segments c.in-Ok-Some.message) in
    let is_answer = g.A.Answers.is_answer c.args.answers.now in
    let refused = c.in_err-put_out.ensures.err in
    let is_written = ap (λ words. answer_view words c.in_ok-answer.answer) (sym c.deref.ensures.value) ∙ refused.2 in
    let answers : is_answer s (written refused.0 refused.1) = subst (is_answer s) is_written c.in_ok-answer.ensures.answer in
    let old = streams (source_seen g.R.Read.remaining g.R.Read.failures c.args.source.now) (sink_seen g.W.Write.contents g.W.Write.failures g.W.Write.room c.args.out.now) (sink_seen g.L.Write.contents g.L.Write.failures g.L.Write.room c.args.log.now) in
    let new = streams (source_seen g.R.Read.remaining g.R.Read.failures c.try_read_message.new.source) (sink_seen g.W.Write.contents g.W.Write.failures g.W.Write.room c.put_out.new.out) (sink_seen g.L.Write.contents g.L.Write.failures g.L.Write.room c.args.log.now) in
    rw (p.1, p.2) (record {
      run = Stops-of_out (work g.I.MessageForm.reader g.O.MessageForm.writer (Some c.args.limit) (g.A.Answers.is_answer c.args.answers.now) (g.A.Answers.is_too_large c.args.answers.now) g.W.Write.may_grow g.L.Write.may_grow) g.met.I.MessageForm.fronts (c.args.answered + 1) old new c.args.progress.now.counts c.put_out.new.counts
          s taken c.in-Ok-Some.ensures.message.count _ refused.0 refused.1 answers refused.3 (Keeps-refl _, refl) refused.4;
      line = tt;
      zeros = c.in_ok-answer.ensures.zeros;
    })

pub returns-in_err-put_log : goal.returns-in_err-put_log
returns-in_err-put_log g c =
    let p = err_from_is_err_and c.from_residual-in_err-put_log.result c.from_residual-in_err-put_log.ensures.1 in
    let taken = rw c.in-Ok-Some.field-0-is at c.in-Ok-Some.ensures.message.message in
    let a = answer_view c.prepare.new.words.items c.in_ok-answer.answer in
    let put = rw c.deref.ensures.value at c.in_ok-put_out.ensures.ok in
    let stops = c.in_err-put_log.ensures.err in
    let P : List ℕ → Type 0 = λ bytes. SinkRefused faults.Log g.L.Write.may_grow c.in_err-put_log.field-0.0
    (sink_seen g.L.Write.contents g.L.Write.failures g.L.Write.room c.args.log.now) (sink_seen g.L.Write.contents g.L.Write.failures g.L.Write.room c.put_log.new.log) bytes in
    let old = streams (source_seen g.R.Read.remaining g.R.Read.failures c.args.source.now) (sink_seen g.W.Write.contents g.W.Write.failures g.W.Write.room c.args.out.now) (sink_seen g.L.Write.contents g.L.Write.failures g.L.Write.room c.args.log.now) in
    let new = streams (source_seen g.R.Read.remaining g.R.Read.failures c.try_read_message.new.source) (sink_seen g.W.Write.contents g.W.Write.failures g.W.Write.room c.put_out.new.out) (sink_seen g.L.Write.contents g.L.Write.failures g.L.Write.room c.put_log.new.log) in
    rw (p.1, p.2) (record {
      run = Stops-of_log (work g.I.MessageForm.reader g.O.MessageForm.writer (Some c.args.limit) (g.A.Answers.is_answer c.args.answers.now) (g.A.Answers.is_too_large c.args.answers.now) g.W.Write.may_grow g.L.Write.may_grow) g.met.I.MessageForm.fronts (c.args.answered + 1) old new c.args.progress.now.counts c.put_log.new.counts
          (words_in (found_segments c.in-Ok-Some.message)) taken c.in-Ok-Some.ensures.message.count _ a c.in_ok-answer.ensures.answer
          put.0 (subst P (c.deref-3.ensures.value ∙ c.in_ok-answer.ensures.line.0) stops.0)
          (c.in_err-put_log.ensures.written ∙ put.1) (stops.1 ∙ c.in_ok-put_out.ensures.refused);
      line = tt;
      zeros = c.in_ok-answer.ensures.zeros;
    })

pub returns-in-Err : goal.returns-in-Err
returns-in-Err g c =
    let read = c.in-Err.ensures.message in
    let told = err_from_is_err_and c.end_at_read.result c.end_at_read.ensures in
    let old = streams (source_seen g.R.Read.remaining g.R.Read.failures c.args.source.now) (sink_seen g.W.Write.contents g.W.Write.failures g.W.Write.room c.args.out.now) (sink_seen g.L.Write.contents g.L.Write.failures g.L.Write.room c.args.log.now) in
    let new = streams (source_seen g.R.Read.remaining g.R.Read.failures c.try_read_message.new.source) (sink_seen g.W.Write.contents g.W.Write.failures g.W.Write.room c.args.out.now) (sink_seen g.L.Write.contents g.L.Write.failures g.L.Write.room c.args.log.now) in
    rw told.1 (record {
      run = Stops-of_read (work g.I.MessageForm.reader g.O.MessageForm.writer (Some c.args.limit) (g.A.Answers.is_answer c.args.answers.now) (g.A.Answers.is_too_large c.args.answers.now) g.W.Write.may_grow g.L.Write.may_grow) (g.I.MessageForm.faults) (c.args.answered + 1) old new c.args.progress.now.counts read.part (Keeps-refl _, refl) (Keeps-refl _, refl) told.0 c.in-Err.e.kind
          read.kind read.refused read.count told.2.memory told.2.device told.2.other;
      line = tt;
      zeros = refl;
    })

pub returns-in-Ok-None : goal.returns-in-Ok-None
returns-in-Ok-None g c =
    let none = rw c.in-Ok-None.field-0-is at c.in-Ok-None.ensures.message.none in
    record { run = (none.0, (none.1, c.in-Ok-None.ensures.message.count), (Keeps-refl _, refl), (Keeps-refl _, refl), refl); line = c.requires.line; zeros = refl }

pub returns : goal.returns
returns g c =
    let taken = rw c.in-Ok-Some.field-0-is at c.in-Ok-Some.ensures.message.message in
    let a = answer_view c.prepare.new.words.items c.in_ok-answer.answer in
    let put = rw c.deref.ensures.value at c.in_ok-put_out.ensures.ok in
    let logged = c.in_ok-put_log.ensures.ok c.prepare.new.words.items in
    let line = c.in_ok-answer.ensures.line in
    let P : List ℕ → Type 0 = λ bytes. SinkTakes (sink_seen g.L.Write.contents g.L.Write.failures g.L.Write.room c.args.log.now) (sink_seen g.L.Write.contents g.L.Write.failures g.L.Write.room c.put_log.new.log) bytes in
    record {
      run = (
        c.in_ok-answer.ensures.room,
        (
          words_in (found_segments c.in-Ok-Some.message),
          a,
          taken,
          c.in_ok-answer.ensures.answer,
          put.0,
          subst P (c.deref-3.ensures.value ∙ line.0) logged.0,
          record { written = c.in_ok-put_log.ensures.written ∙ put.1; refused = logged.1 ∙ ap (λ k. k + refused_one a) c.in_ok-put_out.ensures.refused },
          c.in-Ok-Some.ensures.message.count,
        ),
      );
      line = line.1;
      zeros = c.in_ok-answer.ensures.zeros;
    }
