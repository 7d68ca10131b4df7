use Rattle.std.proofs.Common.{◌≡◌, ap}
use Rattle.capnp_calls.specs.Resolved.{calls_of}
use Rattle.capnp_relay_answers.specs.RootCalls.{root_calls}
use Rattle.capnp_relay_answers.proofs.answer.answer_read.Goals as goal

pub answer_built-answered-requires-clause-count : goal.answer_built-answered-requires-clause-count
answer_built-answered-requires-clause-count g c = (c.requires.stands.some, c.requires.stands.few, c.requires.stands.inside)

pub returns-clause-answer : goal.returns-clause-answer
returns-clause-answer g c =
    let same : calls_of c.deref.result.now ≡ root_calls c.args.calls.now = ap calls_of c.deref.ensures.value in
    rw same at c.answer_built-answered.ensures.all

pub returns-clause-size : goal.returns-clause-size
returns-clause-size g c err =
    let same : calls_of c.deref.result.now ≡ root_calls c.args.calls.now = ap calls_of c.deref.ensures.value in
    rw same at (c.answer_built-answered.ensures.size err)
