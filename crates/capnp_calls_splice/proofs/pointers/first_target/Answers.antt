-- One pointer more tells no distance, or it is the first that does.
use Rattle.std.proofs.Common.{ℕ, ◌+◌, drop, sym, ◌∙◌}
use Rattle.capnp_wire_canonical.specs.Writes.{words_view}
use Rattle.capnp_calls_splice.proofs.Targets.{all_left, next_left, stops_there, none_left, word_here}
use Rattle.capnp_calls_splice.proofs.pointers.first_target.Goals as goal

pub loop-i-init : goal.loop-i-init
loop-i-init c = λ n m ts are. all_left n m ts c.args.slice.now are

pub loop-i-preserved : goal.loop-i-preserved
loop-i-preserved c = λ n m ts are.
    let i : ℕ = c.loop-i.i in
    let w : ℕ = c.from_le_bytes-word.result in
    let ws = words_view c.args.slice.now in
    next_left i w n m (drop i ws) (drop (i + 1) ws) ts (c.loop-i.invariant n m ts are) (word_here c.args.slice.now i w c.loop-i-test.true c.from_le_bytes-word.ensures)
    (sym c.is_fixed.ensures ∙ c.if-not-is_fixed.false)

pub returns-then-not-is_fixed : goal.returns-then-not-is_fixed
returns-then-not-is_fixed c = record {
  begins = λ n m ts are.
      let i : ℕ = c.loop-i.i in
      let w : ℕ = c.from_le_bytes-word.result in
      let ws = words_view c.args.slice.now in
      stops_there i w c.gap_of.result c.args.at n m (drop i ws) (drop (i + 1) ws) ts (c.loop-i.invariant n m ts are) (word_here c.args.slice.now i w c.loop-i-test.true c.from_le_bytes-word.ensures)
      (sym c.is_fixed.ensures ∙ c.if-not-is_fixed.true) c.gap_of.ensures;
}

pub returns : goal.returns
returns c = record { begins = λ n m ts are. none_left c.loop-i.i n m c.args.slice.now ts (c.loop-i.invariant n m ts are) c.loop-i-test.false }
