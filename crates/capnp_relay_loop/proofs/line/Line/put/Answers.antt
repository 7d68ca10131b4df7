use Rattle.std.proofs.Common.{◌≡◌, [], subst}
use Rattle.capnp_model.specs.Runs.{line_of}
use Rattle.capnp_relay_loop.specs.MessageAnswers.{answer_view}
use Rattle.capnp_relay_loop.specs.declared.answer.MessageAnswer.{MessageAnswer}
use Rattle.capnp_relay_loop.proofs.line.Line.put.Goals as goal

pub returns-in-Done-clause-kept : goal.returns-in-Done-clause-kept
returns-in-Done-clause-kept c = λ some.
    let Says : MessageAnswer → Type 0 = λ a. c.log_line.new.line.items ≡ line_of c.args.number (answer_view [] a) in
    record {
      number = c.ranges.number.fits;
      digit = c.in_ok-digit.ensures.digit;
      says = subst Says c.in-Done.is (c.in_ok-digit.ensures.line []);
    }
