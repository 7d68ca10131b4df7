-- A number with a sign, exclusive or another: by way of their bits.
use Rattle.std.proofs.Common.{◌≡◌, ◌∙◌, ap, sym, ℕ, ℤ, ◌<◌, ◌^◌, bit_xor}
use Rattle.std.specs.Prelude.{FitsSigned}
use mir.Val.{bits}
use Rattle.std.specs.Int.{Width, cast_signed, cast_unsigned}
use Rattle.std.proofs.lemmas.Int.{to_z-of_z, of_z-to_z}

-- The bits of a number that went there and back are its own.
pub own_bits : (w : Width) (v : ℤ) (a : ℕ) → FitsSigned w v → a ≡ cast_unsigned w (cast_signed w (cast_unsigned w v)) → a ≡ cast_unsigned w v
own_bits w v a fits is = is ∙ ap (cast_unsigned w) (to_z-of_z w v fits)

-- A number of bits that went there and back is theirs.
pub own_number : (w : Width) (x : ℕ) (r : ℤ) → x < 2 ^ bits w → r ≡ cast_signed w x → cast_signed w (cast_unsigned w r) ≡ cast_signed w x
own_number w x r fits is = ap (λ z. cast_signed w (cast_unsigned w z)) is ∙ ap (cast_signed w) (of_z-to_z w x fits)

-- The number of these bits.
pub number_masked : (w : Width) (v m : ℤ) (a b x : ℕ) (r : ℤ) → a ≡ cast_unsigned w v → b ≡ cast_unsigned w m → x ≡ bit_xor a b → r ≡ cast_signed w x → r ≡ cast_signed w (bit_xor (cast_unsigned w v) (cast_unsigned w m))
number_masked w v m a b x r is_a is_b is_x is_r = is_r ∙ ap (cast_signed w) (is_x ∙ ap (λ y. bit_xor y b) is_a ∙ ap (bit_xor (cast_unsigned w v)) is_b)

-- Its bits.
pub bits_masked : (w : Width) (v m : ℤ) (a b x : ℕ) (r : ℤ) → x < 2 ^ bits w → a ≡ cast_unsigned w v → b ≡ cast_unsigned w m → x ≡ bit_xor a b → r ≡ cast_signed w x → cast_unsigned w r ≡ bit_xor (cast_unsigned w v) (cast_unsigned w m)
bits_masked w v m a b x r fits is_a is_b is_x is_r = ap (cast_unsigned w) is_r ∙ of_z-to_z w x fits ∙ is_x ∙ ap (λ y. bit_xor y b) is_a ∙ ap (bit_xor (cast_unsigned w v)) is_b

-- Masked once more with the same mask, it is the number again.
pub masked_twice : (w : Width) (v m : ℤ) (a b x : ℕ) (r : ℤ) → FitsSigned w v → x < 2 ^ bits w → a ≡ cast_unsigned w v → b ≡ cast_unsigned w m → bit_xor x b ≡ a → r ≡ cast_signed w x → cast_signed w (bit_xor (cast_unsigned w r) (cast_unsigned w m)) ≡ v
masked_twice w v m a b x r is_signed fits is_a is_b back is_r =
    let same : cast_unsigned w r ≡ x = ap (cast_unsigned w) is_r ∙ of_z-to_z w x fits in
    ap (λ y. cast_signed w (bit_xor y (cast_unsigned w m))) same ∙ ap (λ y. cast_signed w (bit_xor x y)) (sym is_b) ∙ ap (cast_signed w) (back ∙ is_a) ∙ to_z-of_z w v is_signed
