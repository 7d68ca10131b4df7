-- The words behind stand where the new ones end.
use Rattle.std.proofs.Common.{ℕ, ◌+◌, ◌-◌, List, ◌++◌, length, ap, ◌∙◌, arith}
use Rattle.capnp_wire_canonical.specs.Writes.{words_view}
use Rattle.capnp_calls_splice.proofs.Segmenting.{run_put}
use Rattle.capnp_calls_splice.proofs.tails.replace.Goals as goal

pub returns-clause-words : goal.returns-clause-words
returns-clause-words c = λ x l r e at long.
    let s : ℕ = c.args.run.start in
    let k : ℕ = c.args.run.len in
    let m : ℕ = length c.args.new.now in
    let q : ℕ = c.args.count - (s + k) in
    run_put c.args.words.now c.move_tail.new.words c.copy_from_slice.new.self c.args.count s k m q (s + m - s) x l r c.requires.count.0 (omega arith) e at long (omega arith) c.move_tail.ensures.words
    (ap length c.copy_from_slice.ensures.after) (omega arith)
    ∙ ap (λ (ys : List (List ℕ)). x ++ (words_view ys ++ r)) c.copy_from_slice.ensures.after
