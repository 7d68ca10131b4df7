use Rattle.std.proofs.Common.{◌≡◌, ◌+◌, [], ◌∷◌, length, refl, sym, ap, subst, ◌∙◌}
use Rattle.capnp_model.specs.Segments.{Segments}
use Rattle.capnp_model.specs.Messages.{spelled}
use Rattle.capnp_model.specs.Answers.{Answer, written}
use Rattle.capnp_model.specs.Runs.{output_of}
use Rattle.capnp_stream.specs.Segments.{whole_words}
use Rattle.capnp_relay_loop.specs.Answers.{written_one}
use Rattle.capnp_relay_loop.specs.Streams.{sink_seen, SinkTakes}
use Rattle.capnp_relay_loop.specs.declared.ends.Fault.TheVariants as faults
use Rattle.capnp_relay_loop.proofs.StepLemmas.{SinkRefused-of_write}
use Rattle.capnp_relay_loop.proofs.step.put_out.Goals as goal

pub segment_of-segment-requires-clause-there : goal.segment_of-segment-requires-clause-there
segment_of-segment-requires-clause-there g c = (c.in-Some.ensures.front c.args.words.now c.requires.stands).2

pub segment_of-segment-requires-clause-few : goal.segment_of-segment-requires-clause-few
segment_of-segment-requires-clause-few g c = (c.in-Some.ensures.front c.args.words.now c.requires.stands).3

pub returns-in-Err-clause-err : goal.returns-in-Err-clause-err
returns-in-Err-clause-err g c =
    let segments = whole_words c.segment_of-segment.result.now ∷ [] in
    let text = spelled g.O.MessageForm.writer segments in
    let front = c.in-Some.ensures.front c.args.words.now c.requires.stands in
    let failed = c.in-Err.ensures in (
      segments,
      front.0,
      front.1 ∙ ap (λ ws. written (ws ∷ []) front.0) (sym c.segment_of-segment.ensures.words),
      SinkRefused-of_write faults.Out g.W.Write.may_grow c.sink_fault.result (sink_seen g.W.Write.contents g.W.Write.failures g.W.Write.room c.args.out.now) (sink_seen g.W.Write.contents g.W.Write.failures g.W.Write.room c.write_segment_in.new.out) text (length text) c.in-Err.e.kind refl
          failed.err failed.refusal failed.count c.sink_fault.ensures.memory c.sink_fault.ensures.other,
      refl,
    )

pub returns-clause-ok : goal.returns-clause-ok
returns-clause-ok g c =
    let done = c.in_default-write_segment_in.ensures in
    let front = c.in-Some.ensures.front c.args.words.now c.requires.stands in
    let old = sink_seen g.W.Write.contents g.W.Write.failures g.W.Write.room c.args.out.now in
    let new = sink_seen g.W.Write.contents g.W.Write.failures g.W.Write.room c.write_segment_in.new.out in
    let P : Segments → Type 0 = λ s. SinkTakes old new (spelled g.O.MessageForm.writer s) in
    let Q : Answer → Type 0 = λ a. SinkTakes old new (output_of g.O.MessageForm.writer a) × (c.args.counts.now.written + 1 ≡ c.args.counts.now.written + written_one a) in
    subst Q (sym front.1) (subst P (ap (λ ws. ws ∷ []) c.segment_of-segment.ensures.words) (record { appends = done.ok; falls = done.falls; failures = done.count }), refl)
