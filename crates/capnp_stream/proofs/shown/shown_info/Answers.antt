use Rattle.std.proofs.Common.{◌≡◌, ◌/◌, ◌≤◌, List, ℕ, refl, ap, length, ◌∙◌, arith}
use Rattle.std.specs.Int.{from_le_bytes, w64}
use Rattle.capnp_stream.proofs.lemmas.WordLemmas.{from_le_bytes-take}
use Rattle.capnp_stream.proofs.lemmas.ShownLemmas.{Describes-one}
use Rattle.capnp_stream.proofs.shown.shown_info.Goals as goal

pub returns : goal.returns
returns c =
    let shown = c.args.shown.now in
    let word = c.from_le_bytes-word.result in
    let f : List ℕ → ℕ = from_le_bytes w64 in
    let parts = c.in_ok-first.ensures.cases in
    let long : 8 ≤ length shown = omega (arith, parts.2) in
    let reads : word ≡ f shown = c.from_le_bytes-word.ensures ∙ ap f parts.0 ∙ from_le_bytes-take 8 shown (omega arith) long in
    Describes-one shown word (word / 4294967296) reads (omega (arith, c.if-word-ne0.false)) refl (omega (arith, c.if-shown-words.false))
