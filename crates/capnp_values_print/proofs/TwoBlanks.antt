-- Blanks in front of lines, and signs of bytes in hex.
use Rattle.std.specs.Fmt.{digits}
use Rattle.std.proofs.Common.{◌≡◌, ℕ, zero, suc, ◌+◌, ◌*◌, ◌<◌, ◌≤◌, List, [], ◌∷◌, ◌++◌, replicate, ◌-◌, nat_lt, if◌then◌else◌, false, refl, ap, ◌∙◌, arith, append_assoc}

replicate-join : (m n x : ℕ) → replicate m x ++ replicate n x ≡ replicate (m + n) x
replicate-join zero n x = ap (λ k. replicate k x) (omega arith)
replicate-join (suc m) n x = ap (λ xs. x ∷ xs) (replicate-join m n x) ∙ ap (λ k. replicate k x) (let e : suc (m + n) ≡ suc m + n = omega arith in e)

-- two more blanks for one more level
pub more_blanks : (old : List ℕ) (n : ℕ) → (old ++ (10 ∷ replicate (2 * n) 32)) ++ (32 ∷ 32 ∷ []) ≡ old ++ (10 ∷ replicate (2 * (n + 1)) 32)
more_blanks old n =
    append_assoc old (10 ∷ replicate (2 * n) 32) (32 ∷ 32 ∷ [])
    ∙ ap (λ xs. old ++ (10 ∷ xs)) (replicate-join (2 * n) 2 32 ∙ ap (λ k. replicate k 32) (let e : 2 * n + 2 ≡ 2 * (n + 1) = omega arith in e))

-- a number below sixteen in hex
pub hex_sign : (n : ℕ) → n < 16 → digits 16 false n ≡ (if nat_lt n 10 then 48 + n else 97 + (n - 10)) ∷ []
unfolding digits
hex_sign zero h = refl
hex_sign (suc zero) h = refl
hex_sign (suc (suc zero)) h = refl
hex_sign (suc (suc (suc zero))) h = refl
hex_sign (suc (suc (suc (suc zero)))) h = refl
hex_sign (suc (suc (suc (suc (suc zero))))) h = refl
hex_sign (suc (suc (suc (suc (suc (suc zero)))))) h = refl
hex_sign (suc (suc (suc (suc (suc (suc (suc zero))))))) h = refl
hex_sign (suc (suc (suc (suc (suc (suc (suc (suc zero)))))))) h = refl
hex_sign (suc (suc (suc (suc (suc (suc (suc (suc (suc zero))))))))) h = refl
hex_sign (suc (suc (suc (suc (suc (suc (suc (suc (suc (suc zero)))))))))) h = refl
hex_sign (suc (suc (suc (suc (suc (suc (suc (suc (suc (suc (suc zero))))))))))) h = refl
hex_sign (suc (suc (suc (suc (suc (suc (suc (suc (suc (suc (suc (suc zero)))))))))))) h = refl
hex_sign (suc (suc (suc (suc (suc (suc (suc (suc (suc (suc (suc (suc (suc zero))))))))))))) h = refl
hex_sign (suc (suc (suc (suc (suc (suc (suc (suc (suc (suc (suc (suc (suc (suc zero)))))))))))))) h = refl
hex_sign (suc (suc (suc (suc (suc (suc (suc (suc (suc (suc (suc (suc (suc (suc (suc zero))))))))))))))) h = refl
hex_sign (suc (suc (suc (suc (suc (suc (suc (suc (suc (suc (suc (suc (suc (suc (suc (suc n)))))))))))))))) h = absurd (omega arith)

-- the numbers from sixteen to thirty-one
pub hex_signs : (n : ℕ) → n < 16 → digits 16 false (16 + n) ≡ 49 ∷ digits 16 false n
unfolding digits
hex_signs zero h = refl
hex_signs (suc zero) h = refl
hex_signs (suc (suc zero)) h = refl
hex_signs (suc (suc (suc zero))) h = refl
hex_signs (suc (suc (suc (suc zero)))) h = refl
hex_signs (suc (suc (suc (suc (suc zero))))) h = refl
hex_signs (suc (suc (suc (suc (suc (suc zero)))))) h = refl
hex_signs (suc (suc (suc (suc (suc (suc (suc zero))))))) h = refl
hex_signs (suc (suc (suc (suc (suc (suc (suc (suc zero)))))))) h = refl
hex_signs (suc (suc (suc (suc (suc (suc (suc (suc (suc zero))))))))) h = refl
hex_signs (suc (suc (suc (suc (suc (suc (suc (suc (suc (suc zero)))))))))) h = refl
hex_signs (suc (suc (suc (suc (suc (suc (suc (suc (suc (suc (suc zero))))))))))) h = refl
hex_signs (suc (suc (suc (suc (suc (suc (suc (suc (suc (suc (suc (suc zero)))))))))))) h = refl
hex_signs (suc (suc (suc (suc (suc (suc (suc (suc (suc (suc (suc (suc (suc zero))))))))))))) h = refl
hex_signs (suc (suc (suc (suc (suc (suc (suc (suc (suc (suc (suc (suc (suc (suc zero)))))))))))))) h = refl
hex_signs (suc (suc (suc (suc (suc (suc (suc (suc (suc (suc (suc (suc (suc (suc (suc zero))))))))))))))) h = refl
hex_signs (suc (suc (suc (suc (suc (suc (suc (suc (suc (suc (suc (suc (suc (suc (suc (suc n)))))))))))))))) h = absurd (omega arith)

-- the signs of a number from sixteen to thirty-one
pub two_signs : (b d : ℕ) → 16 ≤ b → b < 32 → digits 16 false (b - 16) ≡ d ∷ [] → digits 16 false b ≡ 49 ∷ d ∷ []
two_signs b d some few one =
    ap (digits 16 false) (let e : b ≡ 16 + (b - 16) = omega arith in e) ∙ hex_signs (b - 16) (omega arith) ∙ ap (λ xs. 49 ∷ xs) one
