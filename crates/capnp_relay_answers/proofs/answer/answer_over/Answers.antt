use Rattle.std.proofs.Common.{subst}
use Rattle.std.proofs.lemmas.Result.{IfOk-weaker}
use Rattle.capnp_units.specs.Segments.{words_in}
use Rattle.capnp_relay_answers.specs.Answers.{ReadsRootValue}
use Rattle.capnp_relay_answers.specs.RootCalls.{root_schema, root_calls}
use Rattle.capnp_relay_answers.proofs.Whole.{at_value, too_large}
use Rattle.capnp_relay_answers.proofs.Fronts.{read_within}
use Rattle.capnp_relay_answers.proofs.answer.answer_over.Goals as goal

pub returns-in-Err-clause-answer : goal.returns-in-Err-clause-answer
returns-in-Err-clause-answer g c =
    let s = words_in (g.M.ReaderArena.segments c.args.message.now) in
    let into = c.read_root.new.words.items in
    subst (ReadsRootValue c.args.bounds s into) c.in-Err.is c.in_ok-count.ensures.root (root_schema c.args.calls.now) (root_calls c.args.calls.now) into

pub answer_read-requires-clause-stands : goal.answer_read-requires-clause-stands
answer_read-requires-clause-stands g c =
    let s = words_in (g.M.ReaderArena.segments c.args.message.now) in
    let into = c.read_root.new.words.items in
    read_within c.args.bounds s c.in-Ok.count into (subst (ReadsRootValue c.args.bounds s into) c.in-Ok.is c.in_ok-count.ensures.root)

pub returns-clause-answer : goal.returns-clause-answer
returns-clause-answer g c =
    let s = words_in (g.M.ReaderArena.segments c.args.message.now) in
    let into = c.read_root.new.words.items in
    let read = subst (ReadsRootValue c.args.bounds s into) c.in-Ok.is c.in_ok-count.ensures.root in
    IfOk-weaker c.answer_read.result _ _ (λ a h. at_value (root_schema c.args.calls.now) (root_calls c.args.calls.now) c.args.bounds s into c.answer_read.new.words.items c.in-Ok.count a read.0 read.1 h) c.answer_read.ensures.answer

pub returns-clause-size : goal.returns-clause-size
returns-clause-size g c err =
    let s = words_in (g.M.ReaderArena.segments c.args.message.now) in
    let into = c.read_root.new.words.items in
    let read = subst (ReadsRootValue c.args.bounds s into) c.in-Ok.is c.in_ok-count.ensures.root in
    too_large (root_schema c.args.calls.now) (root_calls c.args.calls.now) c.args.bounds s into c.in-Ok.count read.0 read.1 (c.answer_read.ensures.size err)
