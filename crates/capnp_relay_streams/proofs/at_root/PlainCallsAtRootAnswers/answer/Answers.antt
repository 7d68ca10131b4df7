use Rattle.std.proofs.lemmas.Result.{IfOk-weaker}
use Rattle.capnp_units.specs.Segments.{words_in}
use Rattle.capnp_stream.specs.Buffers.{found_segments}
use Rattle.capnp_calls.proofs.lemmas.ResolvedCalls.{given_resolved}
use Rattle.capnp_relay_loop.specs.MessageAnswers.{answer_view}
use Rattle.capnp_relay_answers.specs.RootCalls.{root_schema, root_calls}
use Rattle.capnp_relay_streams.proofs.Reading.{PlainRecords, plain_reads}
use Rattle.capnp_relay_streams.proofs.at_root.PlainCallsAtRootAnswers.answer.Goals as goal

pub returns-clause-value : goal.returns-clause-value
returns-clause-value c =
    let here = c.args.self.now in
    let root = root_schema here.calls in
    let s = words_in (found_segments c.args.message.now) in
    let into = c.answer_plain_in_place.new.words.items in
    let no_group = c.roots_are_no_groups.ensures root here.calls.root in
    let given = given_resolved here.calls.calls.items in
    let laws : PlainRecords = record { written_records = c.records_of_written_values.ensures.reads; start = c.records_of_written_values.ensures.start; next = c.records_after_calls.ensures.next; trimmed = c.records_of_trimmed_values.ensures } in
    IfOk-weaker c.answer_plain_in_place.result _ _ (λ a h. record {
      answers = h.answers;
      reads = plain_reads root (root_calls here.calls) here.bounds laws root.set.now.accepted no_group given s (answer_view into a) h.answers;
    }) c.answer_plain_in_place.ensures.answer
