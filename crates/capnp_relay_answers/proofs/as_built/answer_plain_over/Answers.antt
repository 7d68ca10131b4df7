use Rattle.std.proofs.Common.{◌≡◌, ap, subst}
use Rattle.std.proofs.lemmas.Result.{IfOk-weaker}
use Rattle.capnp_units.specs.Segments.{words_in}
use Rattle.capnp_calls.specs.Resolved.{calls_of}
use Rattle.capnp_relay_answers.specs.Answers.{ReadsRootValue}
use Rattle.capnp_relay_answers.specs.RootCalls.{root_schema, root_calls}
use Rattle.capnp_relay_answers.proofs.PlainWhole.{skipped, at_plain_value, too_large_plain}
use Rattle.capnp_relay_answers.proofs.as_built.answer_plain_over.Goals as goal

pub returns-in-Err-clause-answer : goal.returns-in-Err-clause-answer
returns-in-Err-clause-answer g c =
    let s = words_in (g.M.ReaderArena.segments c.args.message.now) in
    let into = c.read_root.new.words.items in
    let schema = root_schema c.args.calls.now in
    let calls = root_calls c.args.calls.now in
    skipped schema calls c.args.bounds s into c.in-Err.reason (subst (ReadsRootValue c.args.bounds s into) c.in-Err.is c.in_ok-count.ensures.root schema calls into)

pub answer_plain_built-answered-requires-clause-count : goal.answer_plain_built-answered-requires-clause-count
answer_plain_built-answered-requires-clause-count g c =
    let s = words_in (g.M.ReaderArena.segments c.args.message.now) in
    let read = subst (ReadsRootValue c.args.bounds s c.read_root.new.words.items) c.in-Ok.is c.in_ok-count.ensures.root in
    (read.0.some, read.0.few, read.0.inside)

pub returns-clause-answer : goal.returns-clause-answer
returns-clause-answer g c =
    let s = words_in (g.M.ReaderArena.segments c.args.message.now) in
    let into = c.read_root.new.words.items in
    let schema = root_schema c.args.calls.now in
    let calls = root_calls c.args.calls.now in
    let read = subst (ReadsRootValue c.args.bounds s into) c.in-Ok.is c.in_ok-count.ensures.root in
    let same : calls_of c.deref.result.now ≡ calls = ap calls_of c.deref.ensures.value in
    IfOk-weaker c.answer_plain_built-answered.result _ _ (λ a h. at_plain_value schema calls c.args.bounds s into c.answer_plain_built-answered.new.words.items c.in-Ok.count a read.0 read.1 h) (rw same at c.answer_plain_built-answered.ensures.all)

pub returns-clause-size : goal.returns-clause-size
returns-clause-size g c err =
    let s = words_in (g.M.ReaderArena.segments c.args.message.now) in
    let into = c.read_root.new.words.items in
    let read = subst (ReadsRootValue c.args.bounds s into) c.in-Ok.is c.in_ok-count.ensures.root in
    let same : calls_of c.deref.result.now ≡ root_calls c.args.calls.now = ap calls_of c.deref.ensures.value in
    too_large_plain (root_schema c.args.calls.now) (root_calls c.args.calls.now) c.args.bounds s into c.in-Ok.count read.0 read.1 (rw same at (c.answer_plain_built-answered.ensures.size err))
