-- The words of the root's data are among its words.
use Rattle.std.proofs.Common.{ℕ, ◌+◌, ◌-◌, arith}
use Rattle.capnp_calls_splice.proofs.Roots.{words_after}
use Rattle.capnp_calls_splice.proofs.words.put_in_root.Goals as goal

pub returns-then-put_all-clause-words : goal.returns-then-put_all-clause-words
returns-then-put_all-clause-words c = λ t some fits is.
    let n : ℕ = c.in-Some.count in
    let whole = c.put_all.ensures in
    words_after c.args.words.now c.put_all.new.slice c.args.sets.now n (1 + n - 1) (omega arith) c.in-Some.ensures.inside (λ s data_is. whole.words s data_is c.if-put_all.true) whole.len (λ s data_is. c.ends_in_some.ensures s data_is some) t (c.in-Some.ensures.count t fits is) fits is
