-- The pointer tells the list's words.
use Rattle.std.proofs.Common.{ℕ, ◌+◌, ap}
use Rattle.capnp_calls_splice.proofs.Pointing.{plain_is}
use Rattle.capnp_calls_splice.proofs.pointers.plain_list_behind.Goals as goal

pub returns-clause-behind : goal.returns-clause-behind
returns-clause-behind c = λ gap t f near e.
    let b = c.in_ok-bits.ensures.bits in
    let is = plain_is t c.args.word gap c.gap_of.result c.in_ok-bits.bits f near e c.if-word-ne1.false b.0 b.1 c.gap_of.ensures in
    (is.0, ap (λ (n : ℕ). c.args.end + n) is.1, is.2)
