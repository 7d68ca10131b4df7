-- The last word is one of the section's.
use Rattle.std.proofs.Common.{◌≡◌, true, not, nat_eq, ℕ, ◌∙◌, arith}
use Rattle.capnp_calls_splice.proofs.lemmas.DataWords.{least}
use Rattle.capnp_calls_splice.proofs.words.ends_in_some.Goals as goal

is_some : (n : ℕ) → not (nat_eq n 0) ≡ true → n ≡ 0 → ⊥
is_some n h e = grind arith

pub returns-in-Some : goal.returns-in-Some
returns-in-Some c = λ section is some.
    let word = c.from_le_bytes in
    least c.args.slice.now c.in-Some.word.now section is c.in-Some.ensures.value (λ e. is_some word.result some (word.ensures ∙ e))
