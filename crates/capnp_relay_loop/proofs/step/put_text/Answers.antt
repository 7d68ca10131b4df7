use Rattle.std.proofs.Common.{List, ℕ, map, refl, sym, subst}
use Rattle.std.proofs.lemmas.Result.{err_from_is_err_and}
use Rattle.capnp_units.specs.Segments.{words_in}
use Rattle.capnp_calls.specs.Replies.{reply_view}
use Rattle.capnp_relay_loop.specs.MessageAnswers.{each_segment_bytes, HasText}
use Rattle.capnp_relay_loop.specs.Streams.{sink_of}
use Rattle.capnp_relay_loop.specs.Stops.{SinkRefused}
use Rattle.capnp_relay_loop.specs.declared.ends.Fault.TheVariants as faults
use Rattle.capnp_relay_loop.proofs.step.put_text.Goals as goal

pub returns-in_err-put_bytes-clause-err : goal.returns-in_err-put_bytes-clause-err
returns-in_err-put_bytes-clause-err g c = λ words.
    let p = err_from_is_err_and c.from_residual.result c.from_residual.ensures.1 in
    let several = c.in-Several in
    let text = subst (λ a. HasText g.O.MessageForm.writer a c.args.text.now) several.is c.requires.text in
    let P : List ℕ → Type 0 = λ t. SinkRefused faults.Out g.W.Write.may_grow c.in_err-put_bytes.field-0.0 (sink_of g.W.Write c.args.out.now) (sink_of g.W.Write c.put_bytes.new.out) t in
    rw (several.is, p.1, p.2) (words_in (each_segment_bytes several.segments), map reply_view several.replies.items, refl, subst P text c.in_err-put_bytes.ensures.err, refl)
