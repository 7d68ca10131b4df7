-- The words of bytes: how many they are, and those in front and behind.
use Rattle.std.proofs.Common.{◌≡◌, ℕ, zero, suc, ◌-◌, ◌*◌, List, ◌∷◌, replicate, refl, ap, arith, ◌+◌, drop, ◌∙◌, length, [], take, ◌/◌}
use Rattle.std.proofs.lemmas.List.{drop-drop}
use Rattle.std.specs.Int.{from_le_bytes, w64}
use Rattle.capnp_model.specs.Bytes.{words_in_bytes}
use Rattle.capnp_model.specs.Spelling.{AreWords}
use Rattle.capnp_model.specs.Sections.{words_for}

pub words_in_bytes-zeros : (j : ℕ) → words_in_bytes j (replicate (8 * j) 0) ≡ replicate j 0
words_in_bytes-zeros zero = refl
words_in_bytes-zeros (suc j) =
    let wide : 8 * suc j ≡ suc (suc (suc (suc (suc (suc (suc (suc (8 * j)))))))) = omega arith in
    let rest = words_in_bytes-zeros j in
    rw wide (ap (λ (ws : List ℕ). 0 ∷ ws) rest)

pub words_in_bytes-drop : (n m : ℕ) (bytes : List ℕ) → drop n (words_in_bytes (n + m) bytes) ≡ words_in_bytes m (drop (8 * n) bytes)
words_in_bytes-drop zero m bytes = let same : zero + m ≡ m = omega arith in rw same refl
words_in_bytes-drop (suc n) m bytes =
    let next : suc n + m ≡ suc (n + m) = omega arith in
    let wide : 8 * suc n ≡ 8 + 8 * n = omega arith in
    rw (next, wide) (words_in_bytes-drop n m (drop 8 bytes) ∙ ap (words_in_bytes m) (drop-drop (8 * n) 8 bytes))

pub words_in_bytes-length : (n : ℕ) (bytes : List ℕ) → length (words_in_bytes n bytes) ≡ n
words_in_bytes-length zero bytes = refl
words_in_bytes-length (suc n) bytes = let rest = words_in_bytes-length n (drop 8 bytes) in omega arith

pub AreWords-take : (n : ℕ) (ws : List ℕ) → AreWords ws → AreWords (take n ws)
AreWords-take zero ws h = tt
AreWords-take (suc n) [] h = tt
AreWords-take (suc n) (w ∷ ws) h = (h.0, AreWords-take n ws h.1)

pub AreWords-drop : (n : ℕ) (ws : List ℕ) → AreWords ws → AreWords (drop n ws)
AreWords-drop zero ws h = h
AreWords-drop (suc n) [] h = tt
AreWords-drop (suc n) (w ∷ ws) h = AreWords-drop n ws h.1

pub words_for_bytes : (n : ℕ) → (n + 7) / 8 ≡ words_for (8 * n)
words_for_bytes n = omega arith

pub words_in_bytes-take : (n m : ℕ) (bytes : List ℕ) → take n (words_in_bytes (n + m) bytes) ≡ words_in_bytes n bytes
words_in_bytes-take zero m bytes = refl
words_in_bytes-take (suc n) m bytes =
    let next : suc n + m ≡ suc (n + m) = omega arith in
    rw next (ap (λ (ws : List ℕ). from_le_bytes w64 bytes ∷ ws) (words_in_bytes-take n m (drop 8 bytes)))
