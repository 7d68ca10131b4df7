-- Pieces are fronts of the bytes.
use Rattle.std.proofs.Common.{◌≡◌, ℕ, suc, ◌+◌, ◌*◌, Bool, false, leb, List, [], Result, Ok, Err, take, drop, cond, sym, ap, subst, ◌∙◌}
use Rattle.std.proofs.Math.Nat.{mul-suc, add-suc}
use Rattle.std.proofs.Math.Dec.{leb-suc-zero}
use Rattle.capnp_model.specs.Kinds.{Kind, FailedToFillTheWholeBuffer}
use Rattle.capnp_model.specs.Chains.{◌and_then◌}
use Rattle.capnp_model.specs.Bytes.{words_in_bytes}
use Rattle.capnp_model.specs.Messages.{plain_words}
use Rattle.capnp_model.proofs.lemmas.MessagePrefixes.{plain_words_more}
use Rattle.capnp_stream.specs.Pieces.{EndsEarly, ReadsFronts}

-- no byte ends too early for a word
wants : (n : ℕ) → EndsEarly (plain_words (suc n) [])
wants n =
    let short : leb (8 * suc n) 0 ≡ false = ap (λ (m : ℕ). leb m 0) (mul-suc 8 n ∙ add-suc (8 * n) 7) ∙ leb-suc-zero (8 * n + 7) in
    let Taken : Bool → Result (List ℕ × List ℕ) Kind = λ b. cond b (Ok (take (8 * suc n) [], drop (8 * suc n) [])) (Err FailedToFillTheWholeBuffer) in
    subst (λ (b : Bool). EndsEarly (Taken b and_then λ x. let r : Result (List ℕ × List ℕ) Kind = Ok (words_in_bytes (suc n) x.0, x.1) in r)) (sym short) tt

pub plain_words_fronts : ReadsFronts plain_words
plain_words_fronts = record { no_further = plain_words_more; wants = wants }
