-- They stay where they are.
use Rattle.std.proofs.Common.{ℕ, ◌+◌, ◌-◌, ◌++◌, take, drop, ap, sym, ◌∙◌}
use Rattle.capnp_calls_splice.proofs.Segmenting.{same_tail}
use Rattle.capnp_calls_splice.proofs.tails.move_tail.Goals as goal

pub returns-then-from-to-clause-words : goal.returns-then-from-to-clause-words
returns-then-from-to-clause-words c =
    let xs = c.args.words.now in
    let q : ℕ = c.args.end - c.args.from in
    same_tail xs c.args.to q ∙ ap (λ (k : ℕ). take c.args.to xs ++ (take q (drop k xs) ++ drop (c.args.to + q) xs)) (sym c.if-from-to.true)
