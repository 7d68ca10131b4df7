-- Bytes one by one, and as one number.
use Rattle.std.proofs.Common.{◌≡◌, ℕ, zero, suc, ◌*◌, ◌+◌, ◌/◌, ◌%◌, ◌^◌, ◌<◌, ◌≤◌, List, [], ◌∷◌, length, take, refl, ap, sym, ◌∙◌, arith}
use Rattle.std.proofs.lemmas.Nat.{pow_pos}
use Rattle.std.proofs.Math.Nat.{mod-lt}
use Rattle.std.proofs.Math.Seq.{take-length}
use lib.Pow as pow
use Rattle.capnp_model.specs.Sections.{numbers_in, number_of}
use Rattle.capnp_model.specs.Bytes.{AreBytes}
pub use Rattle.capnp_wire.proofs.lemmas.BackedBytes.{word_is, number_of-drop, number_of-take, section_of_part}

pub bytes_of_front : (n : ℕ) (bytes : List ℕ) → n ≤ length bytes → AreBytes bytes → numbers_in 8 n (number_of 8 bytes) ≡ take n bytes
bytes_of_front zero bytes h small = refl
bytes_of_front (suc n) [] h small = absurd (omega arith)
bytes_of_front (suc n) (b ∷ bytes) h small =
    let r = mod-lt b (pow_pos 8) in
    let byte : b < 256 = small 0 in
    let first : (number_of 8 bytes * 2 ^ 8 + b % 2 ^ 8) % 2 ^ 8 ≡ b = pow.low (number_of 8 bytes) 8 r ∙ omega arith in
    let rest : (number_of 8 bytes * 2 ^ 8 + b % 2 ^ 8) / 2 ^ 8 ≡ number_of 8 bytes = pow.high (number_of 8 bytes) 8 r in
    ap (λ (m : ℕ). m ∷ numbers_in 8 n ((number_of 8 bytes * 2 ^ 8 + b % 2 ^ 8) / 2 ^ 8)) first ∙ ap (λ (m : ℕ). b ∷ numbers_in 8 n m) rest
    ∙ ap (λ (xs : List ℕ). b ∷ xs) (bytes_of_front n bytes (omega arith) (λ i. small (suc i)))

-- bytes are told by their number, where there are as many
pub bytes_of_number : (xs ys : List ℕ) → length xs ≡ length ys → AreBytes xs → AreBytes ys → number_of 8 xs ≡ number_of 8 ys → xs ≡ ys
bytes_of_number xs ys long small few e =
    sym (take-length xs) ∙ sym (bytes_of_front (length xs) xs (omega arith) small) ∙ ap (numbers_in 8 (length xs)) e ∙ ap (λ (n : ℕ). numbers_in 8 n (number_of 8 ys)) long ∙ bytes_of_front (length ys) ys (omega arith) few ∙ take-length ys
