use Rattle.std.proofs.Common.{◌≤◌, ℕ, List, length, ap, ◌∙◌, arith}
use Rattle.std.specs.Int.{from_le_bytes, w64}
use Rattle.capnp_stream.proofs.lemmas.WordLemmas.{words-step}
use Rattle.capnp_stream.proofs.segments.words_of.Goals as goal

pub loop-first-preserved : goal.loop-first-preserved
loop-first-preserved c =
    let parts = c.in-Some.ensures.cases in
    let long : 8 ≤ length c.loop-first.left.now = omega (arith, parts.2) in
    let f : List ℕ → ℕ = from_le_bytes w64 in
    record {
      words = words-step c.loop-first.words.items c.push.new.self.items c.loop-first.left.now c.in-Some.rest.now c.from_le_bytes.result _
          long parts.1 (c.from_le_bytes.ensures ∙ ap f parts.0) c.in_ok-push.ensures.items c.loop-first.invariant.words;
      behind = omega (arith, parts.2, c.loop-first.invariant.behind);
    }
