use Rattle.std.proofs.Common.{◌≡◌, ℕ, length, sym, subst, ◌∙◌}
use Rattle.std.proofs.lemmas.List.{length-map}
use Rattle.std.proofs.lemmas.Result.{IfOk-weaker}
use Rattle.capnp_units.specs.Segments.{words_in}
use Rattle.capnp_calls.specs.Resolved.{call_of}
use Rattle.capnp_relay_loop.specs.declared.answer.MessageAnswer.TheVariants as answers
use Rattle.capnp_relay_answers.specs.Answers.{IsAnswered, TellsKnown}
use Rattle.capnp_relay_answers.specs.RootCalls.{root_schema, root_calls}
use Rattle.capnp_relay_answers.proofs.Whole.{at_value, too_large}
use Rattle.capnp_relay_answers.proofs.Fronts.{read_within}
use Rattle.capnp_relay_answers.proofs.answer.answer_in_place.Goals as goal

pub answer_standing-requires-clause-stands : goal.answer_standing-requires-clause-stands
answer_standing-requires-clause-stands g c =
    let s = words_in (g.M.ReaderArena.segments c.args.message.now) in
    let into = c.answer_known.new.words.items in
    read_within c.args.bounds s c.in-Stands.count into (subst (TellsKnown (root_schema c.args.calls.now) (root_calls c.args.calls.now) c.args.bounds s into) c.in-Stands.is c.in_ok-count.ensures.answer)

pub returns-in-Stands-clause-answer : goal.returns-in-Stands-clause-answer
returns-in-Stands-clause-answer g c =
    let s = words_in (g.M.ReaderArena.segments c.args.message.now) in
    let into = c.answer_known.new.words.items in
    let schema = root_schema c.args.calls.now in
    let calls = root_calls c.args.calls.now in
    let read = subst (TellsKnown schema calls c.args.bounds s into) c.in-Stands.is c.in_ok-count.ensures.answer in
    IfOk-weaker c.answer_standing.result _ _ (λ a h. at_value schema calls c.args.bounds s into c.answer_standing.new.words.items c.in-Stands.count a read.0 read.1 h) c.answer_standing.ensures.answer

pub returns-in-Stands-clause-size : goal.returns-in-Stands-clause-size
returns-in-Stands-clause-size g c err =
    let s = words_in (g.M.ReaderArena.segments c.args.message.now) in
    let into = c.answer_known.new.words.items in
    let schema = root_schema c.args.calls.now in
    let calls = root_calls c.args.calls.now in
    let read = subst (TellsKnown schema calls c.args.bounds s into) c.in-Stands.is c.in_ok-count.ensures.answer in
    too_large schema calls c.args.bounds s into c.in-Stands.count read.0 read.1 (c.answer_standing.ensures.size err)

pub returns-in-Done-clause-answer : goal.returns-in-Done-clause-answer
returns-in-Done-clause-answer g c =
    let s = words_in (g.M.ReaderArena.segments c.args.message.now) in
    let into = c.answer_known.new.words.items in
    let schema = root_schema c.args.calls.now in
    let calls = root_calls c.args.calls.now in
    let many : c.len-calls.result ≡ length calls = c.len-calls.ensures ∙ c.args.calls.now.calls.ok.0 ∙ sym (length-map c.args.calls.now.calls.items call_of) in
    subst (λ (n : ℕ). IsAnswered schema calls c.args.bounds s into (answers.Done c.in-Done.count n)) (sym many) (subst (TellsKnown schema calls c.args.bounds s into) c.in-Done.is c.in_ok-count.ensures.answer)

pub returns-in-Refused-clause-answer : goal.returns-in-Refused-clause-answer
returns-in-Refused-clause-answer g c =
    let s = words_in (g.M.ReaderArena.segments c.args.message.now) in
    let into = c.answer_known.new.words.items in
    subst (TellsKnown (root_schema c.args.calls.now) (root_calls c.args.calls.now) c.args.bounds s into) c.in-Refused.is c.in_ok-count.ensures.answer
