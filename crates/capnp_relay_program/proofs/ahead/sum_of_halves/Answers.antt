use Rattle.std.proofs.Common.{◌≡◌, ◌+◌, ◌≤◌, List, ℕ, length, ap, ◌∙◌, arith, length-drop}
use Rattle.std.specs.Int.{w64, from_le_bytes}
use Rattle.capnp_stream.proofs.lemmas.WordLemmas.{from_le_bytes-take}
use Rattle.capnp_relay_program.proofs.Tables.{halves_of_front}
use Rattle.capnp_relay_program.proofs.ahead.sum_of_halves.Goals as goal

pub loop-word-preserved : goal.loop-word-preserved
loop-word-preserved c =
    let bytes = c.loop-word.left.now in
    let f : List ℕ → ℕ = from_le_bytes w64 in
    let parts = c.in-Some.ensures.cases in
    let long : 8 ≤ length bytes = omega (arith, parts.2) in
    let reads : c.from_le_bytes-word.result ≡ from_le_bytes w64 bytes = c.from_le_bytes-word.ensures ∙ ap f parts.0 ∙ from_le_bytes-take 8 bytes (omega arith) long in
    let behind = c.in-Some.behind.now in
    let halved = halves_of_front bytes c.from_le_bytes-word.result behind long reads parts.1 in
    let shorter : length behind + 8 ≡ length bytes = omega (arith, ap length parts.1, length-drop 8 bytes) in
    record {
      made = omega (arith, halved, c.loop-word.invariant.made);
      whole = omega (arith, shorter, c.loop-word.invariant.whole);
      small = omega (arith, shorter, c.loop-word.invariant.small);
    }
