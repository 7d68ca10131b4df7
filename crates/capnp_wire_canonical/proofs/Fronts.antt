-- The first words of a section, one after the other.
use Rattle.std.proofs.Common.{◌≡◌, ℕ, zero, suc, ◌+◌, ◌*◌, ◌/◌, ◌%◌, ◌^◌, ◌<◌, List, [], ◌∷◌, take, refl, ap, sym, ◌∙◌}
use Rattle.std.proofs.Math.Nat.{mod-lt}
use Rattle.std.proofs.lemmas.Nat.{pow_pos}
use lib.Pow as pow
use Rattle.capnp_model.specs.Sections.{section_of, words_of}

words_step : (n x : ℕ) (xs : List ℕ) → words_of (suc n) (section_of (x ∷ xs)) ≡ x % 2 ^ 64 ∷ words_of n (section_of xs)
words_step n x xs =
    let small : x % 2 ^ 64 < 2 ^ 64 = mod-lt x (pow_pos 64) in
    ap (λ (w : ℕ). w ∷ words_of n ((section_of xs * 2 ^ 64 + x % 2 ^ 64) / 2 ^ 64)) (pow.low (section_of xs) 64 small)
    ∙ ap (λ (s : ℕ). x % 2 ^ 64 ∷ words_of n s) (pow.high (section_of xs) 64 small)

-- those behind don't matter
pub front_words : (n : ℕ) (xs : List ℕ) → words_of n (section_of (take n xs)) ≡ words_of n (section_of xs)
front_words zero xs = refl
front_words (suc n) [] = refl
front_words (suc n) (x ∷ xs) = words_step n x (take n xs) ∙ ap (λ (ws : List ℕ). x % 2 ^ 64 ∷ ws) (front_words n xs) ∙ sym (words_step n x xs)
