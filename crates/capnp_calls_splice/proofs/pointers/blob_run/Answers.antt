-- The plain list there, or where it would begin.
use Rattle.std.proofs.Common.{◌+◌, max, length, sym, ◌∙◌, arith}
use Rattle.capnp_model.specs.Trees.{tree_count, depths}
use Rattle.capnp_model.specs.Encoding.{body}
use Rattle.capnp_calls_splice.proofs.Targets.{null_takes, null_bare, listed}
use Rattle.capnp_calls_splice.proofs.pointers.blob_run.Goals as goal

pub returns-then-word-ne0-clause-behind : goal.returns-then-word-ne0-clause-behind
returns-then-word-ne0-clause-behind c = λ n m k l t ts us f others front e ends.
    let near = others.near in
    listed t (max (depths us) (depths ts)) (length (body t)) (c.args.at + (tree_count ts + n + m)) c.plain_list_behind.result (c.plain_list_behind.ensures.behind (tree_count ts + n + m) t f (omega arith) e)

pub returns-in-Some-clause-behind : goal.returns-in-Some-clause-behind
returns-in-Some-clause-behind c = λ n m k l t ts us f others front e ends.
    let next = c.in-Some.ensures.start n (m + length (body t)) k l ts us others front ends in
    let zero = sym e ∙ c.if-word-ne0.false in
    let none = null_bare t (tree_count ts + n + m) f zero in
    let place = next.1 in
    (null_takes t (tree_count ts + n + m) (max (depths us) (depths ts)) f zero next.0, sym none, omega (arith, place, none))
