use Rattle.std.proofs.lemmas.Result.{IfOk-weaker}
use Rattle.capnp_units.specs.Segments.{words_in}
use Rattle.capnp_stream.specs.Buffers.{found_segments}
use Rattle.capnp_calls.proofs.lemmas.ResolvedCalls.{given_resolved}
use Rattle.capnp_relay_loop.specs.MessageAnswers.{answer_view}
use Rattle.capnp_relay_answers.specs.RootCalls.{root_schema, root_calls}
use Rattle.capnp_relay_streams.proofs.Reading.{ReadsAsMade-of}
use Rattle.capnp_relay_streams.proofs.Small.{in_buffer, small_alone}
use Rattle.capnp_relay_streams.proofs.at_root.CallsAtRootAnswers.answer.Goals as goal

pub returns-clause-value : goal.returns-clause-value
returns-clause-value c =
    let here = c.args.self.now in
    let root = root_schema here.calls in
    let s = words_in (found_segments c.args.message.now) in
    let into = c.answer_in_place.new.words.items in
    let no_group = c.roots_are_no_groups.ensures root here.calls.root in
    let given = given_resolved here.calls.calls.items in
    IfOk-weaker c.answer_in_place.result _ _ (λ a h. record {
      same = h.same;
      means = h.means;
      reads = ReadsAsMade-of root (root_calls here.calls) here.bounds c.records_of_written_values.ensures.reads root.set.now.accepted no_group given s (answer_view into a) h.same h.means;
      small = small_alone into a h.stands;
    }) c.answer_in_place.ensures.answer

pub returns-clause-stands : goal.returns-clause-stands
returns-clause-stands c =
    IfOk-weaker c.answer_in_place.result _ _ (λ a h. in_buffer c.answer_in_place.new.words.items a h.stands) c.answer_in_place.ensures.answer
