use Rattle.std.proofs.lemmas.Result.{err_from_is_err_and}
use Rattle.capnp_stream_packed.proofs.GroupLemmas.{zeros-lead, verbatim-leads, verbatim-refused}
use Rattle.capnp_stream_packed.proofs.unpacking.next_word.Goals as goal

pub returns-in-Zeros-clause-word : goal.returns-in-Zeros-clause-word
returns-in-Zeros-clause-word g c = rw c.in-Zeros.is (zeros-lead c.args.left c.in-Zeros.k _ c.if-k-gt0.true)

pub returns-in_err-verbatim_word-in-Verbatim-clause-refused : goal.returns-in_err-verbatim_word-in-Verbatim-clause-refused
returns-in_err-verbatim_word-in-Verbatim-clause-refused g c =
    let p = err_from_is_err_and c.from_residual.result c.from_residual.ensures.1 in
    rw (p.1, p.2, c.in-Verbatim.is) (verbatim-refused c.args.left c.in-Verbatim.k c.if-k-gt0-2.true _ _ _ c.in_err-verbatim_word-in-Verbatim.ensures.refused)

pub returns-in_ok-verbatim_word-in-Verbatim-clause-word : goal.returns-in_ok-verbatim_word-in-Verbatim-clause-word
returns-in_ok-verbatim_word-in-Verbatim-clause-word g c =
    rw c.in-Verbatim.is (verbatim-leads c.args.left c.in-Verbatim.k c.if-k-gt0-2.true _ _ _ c.in_ok-verbatim_word-in-Verbatim.ensures.word)
