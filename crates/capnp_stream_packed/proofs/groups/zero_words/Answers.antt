use Rattle.std.proofs.Common.{arith, sym, ◌∙◌, ◌+◌, ◌-◌, ◌≤◌, length}
use Rattle.std.proofs.lemmas.Bool.{ne_eqb, eq-eqb}
use Rattle.capnp_model.specs.Packing.{is_zero}
use Rattle.capnp_stream.specs.Segments.{whole_words}
use Rattle.capnp_stream_packed.proofs.RunLemmas.{run-none, run-full, run-stops, run-goes, words-front, no-words}
use Rattle.capnp_stream_packed.proofs.groups.zero_words.Goals as goal
use Rattle.capnp_stream_packed.proofs.groups.zero_words.Goals.{then-count-via-then-count, then-count-via-else-count+then-from_le_bytes-ne0}

pub returns-then-count-clause-count : goal.returns-then-count-clause-count
returns-then-count-clause-count c =
    let l = c.loop-word in
    let parts = c.in-Some.ensures.cases in
    let long : 8 ≤ length l.left.now = omega (arith, parts.2) in
    let front = words-front l.left.now c.in-Some.word.now c.in-Some.behind.now long parts.0 parts.1 in
    elim c.then-count.branch [
      | then-count-via-then-count w ↦ run-full is_zero _ l.count (255 - l.count) (whole_words l.left.now) (omega arith) l.invariant.counted
      | then-count-via-else-count+then-from_le_bytes-ne0 w ↦ run-stops is_zero _ l.count (255 - l.count) (whole_words l.left.now) _ _ front (ne_eqb _ 0 (λ e. w.if-from_le_bytes-ne0.true (w.from_le_bytes.ensures ∙ e))) l.invariant.counted
    ]

pub loop-word-preserved : goal.loop-word-preserved
loop-word-preserved c =
    let l = c.loop-word in
    let parts = c.in-Some.ensures.cases in
    let long : 8 ≤ length l.left.now = omega (arith, parts.2) in
    let front = words-front l.left.now c.in-Some.word.now c.in-Some.behind.now long parts.0 parts.1 in
    record { counted = run-goes is_zero _ l.count (255 - l.count) (255 - (l.count + 1)) (whole_words l.left.now) _ _ front (eq-eqb _ 0 (sym c.from_le_bytes.ensures ∙ c.if-from_le_bytes-ne0.false)) (omega arith) l.invariant.counted; taken = omega (arith, parts.2) }

pub returns-clause-count : goal.returns-clause-count
returns-clause-count c =
    let l = c.loop-word in
    run-none is_zero _ l.count (255 - l.count) (whole_words l.left.now) (no-words l.left.now (omega (arith, c.in_default.ensures.cases))) l.invariant.counted
