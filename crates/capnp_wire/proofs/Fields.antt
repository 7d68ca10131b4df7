-- Numbers in sections of bytes.
use Rattle.std.proofs.Common.{◌≡◌, ℕ, suc, ◌+◌, ◌-◌, ◌*◌, ◌/◌, ◌%◌, ◌^◌, ◌<◌, nat_le, if◌then◌else◌, Bool, true, false, bit_xor, List, ◌∷◌, length, get_or, take, drop, ap, sym, ◌∙◌, arith, drop-cons}
use Rattle.std.proofs.lemmas.List.{take_all, length-drop}
use Rattle.std.proofs.lemmas.Nat.{pow_pos}
use Rattle.std.proofs.Math.Nat.{mod-lt, mod-eq_of_lt}
use lib.Pow as pow
use Rattle.capnp_model.specs.Sections.{bits_at, number_of}
use Rattle.capnp_model.specs.Readings.{field_bits, just_bits}
use Rattle.capnp_wire.proofs.lemmas.Bytes.{number_of-drop}
use Rattle.capnp_wire.proofs.Elements.{bits_of_low}

-- what is behind so many bytes
pub rest_of : (n k at : ℕ) (bytes : List ℕ) → n ≡ length bytes - k → k ≡ at → number_of 8 (take n (drop k bytes)) ≡ number_of 8 bytes / 2 ^ (8 * at)
rest_of n k at bytes e f =
    let all : take n (drop k bytes) ≡ drop k bytes = take_all n (drop k bytes) (omega (arith, length-drop k bytes)) in
    ap (number_of 8) all ∙ number_of-drop 8 k bytes ∙ ap (λ (m : ℕ). number_of 8 bytes / 2 ^ (8 * m)) f

-- a bit is one of its byte's
pub bit_is : (i : ℕ) (bytes : List ℕ) → i < 8 * length bytes → get_or bytes (i / 8) 0 / (1 * 2 ^ (i % 8) % 256) % 2 ≡ bits_at i 1 (number_of 8 bytes)
bit_is i bytes h =
    let q = i / 8 in
    let r = i % 8 in
    let b : ℕ = get_or bytes q 0 in
    let rest : List ℕ = drop (suc q) bytes in
    let below : r < 8 = omega arith in
    let whole : i ≡ 8 * q + r = omega arith in
    let power : 2 ^ r < 2 ^ 8 = pow.pow-lt below in
    let shift : 1 * 2 ^ r % 256 ≡ 2 ^ r = let one : 1 * 2 ^ r ≡ 2 ^ r = omega arith in ap (λ (m : ℕ). m % 256) one ∙ mod-eq_of_lt power in
    let split : drop q bytes ≡ b ∷ rest = drop-cons bytes q 0 (omega arith) in
    let here : bits_at r 1 (number_of 8 (drop q bytes)) ≡ bits_at r 1 b =
    ap (λ (xs : List ℕ). bits_at r 1 (number_of 8 xs)) split
    ∙ sym (bits_of_low (number_of 8 rest * 2 ^ 8 + b % 2 ^ 8) r 1 8 (omega arith))
    ∙ ap (bits_at r 1) (pow.low (number_of 8 rest) 8 (mod-lt b (pow_pos 8))) ∙ bits_of_low b r 1 8 (omega arith) in
    ap (λ (m : ℕ). b / m % 2) shift ∙ sym here ∙ ap (bits_at r 1) (number_of-drop 8 q bytes)
    ∙ ap (λ (m : ℕ). m % 2 ^ 1) (pow.shr-shr (number_of 8 bytes) (8 * q) r) ∙ ap (λ (m : ℕ). bits_at m 1 (number_of 8 bytes)) (sym whole)

-- the number at the front of what is behind
pub front_bits : (n at width : ℕ) → bits_at 0 width (n / 2 ^ at) ≡ bits_at at width n
front_bits n at width = let one : n / 2 ^ at / 2 ^ 0 ≡ n / 2 ^ at = omega arith in ap (λ (m : ℕ). m % 2 ^ width) one

-- ---- masks

field_small : (all section at w : ℕ) → field_bits (just_bits all) section at w < 2 ^ w
field_small all section at w = by (nat_le (at + w) all)
  where
    by : (b : Bool) → (if b then bits_at at w section else 0) < 2 ^ w
    by true = mod-lt (section / 2 ^ at) (pow_pos w)
    by false = pow_pos w

-- The bits of a field that is read are those of the section, so that a mask is laid over those.
pub field_masked : {T : Type 0} (bits : T → ℕ) (from : ℕ → T) (w at all section m : ℕ) (field r : T) → ((n : ℕ) → n < 2 ^ w → bits (from n) ≡ n) → field ≡ from (field_bits (just_bits all) section at w)
    → r ≡ from (bit_xor (bits field) m) → r ≡ from (bit_xor (field_bits (just_bits all) section at w) m)
field_masked {T = T} bits from w at all section m field r same is_field is =
    is ∙ ap (λ (x : T). from (bit_xor (bits x) m)) is_field ∙ ap (λ (n : ℕ). from (bit_xor n m)) (same _ (field_small all section at w))
