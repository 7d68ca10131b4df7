-- Words of bytes that are written or put behind others.
use Rattle.std.proofs.Common.{◌≡◌, ℕ, zero, suc, ◌+◌, ◌*◌, ◌≤◌, List, [], ◌∷◌, ◌++◌, length, take, drop, refl, ap, sym, ◌∙◌, arith}
use Rattle.std.specs.Int.{from_le_bytes, w64}
use Rattle.std.proofs.lemmas.List.{length-take, length-drop, drop-drop, drop-take, take-take, take-append-le}
use Rattle.capnp_model.specs.Bytes.{words_in_bytes}
use Rattle.capnp_model.proofs.lemmas.ByteLists.{word_of_eight}
use Rattle.capnp_model_writes.specs.Writes.{spliced}
use Rattle.capnp_copy_arenas.specs.Memory.{overwritten}

-- a word is known by its eight bytes
word_alike : (xs ys : List ℕ) → take 8 xs ≡ take 8 ys → from_le_bytes w64 xs ≡ from_le_bytes w64 ys
word_alike xs ys e = let f : List ℕ → ℕ = from_le_bytes w64 in sym (word_of_eight xs) ∙ ap f e ∙ word_of_eight ys

next_eight : (k : ℕ) → 8 * suc k ≡ 8 + 8 * k
next_eight k = omega arith

-- ---- words behind others

drop_append : (n : ℕ) (xs ys : List ℕ) → n ≤ length xs → drop n (xs ++ ys) ≡ drop n xs ++ ys
drop_append zero xs ys l = refl
drop_append (suc n) [] ys l = absurd (omega (arith, l))
drop_append (suc n) (x ∷ xs) ys l = drop_append n xs ys (omega (arith, l))

pub words_append : (u w : ℕ) (xs ys : List ℕ) → length xs ≡ 8 * u → words_in_bytes (u + w) (xs ++ ys) ≡ words_in_bytes u xs ++ words_in_bytes w ys
words_append zero w [] ys e = let same : 0 + w ≡ w = omega arith in ap (λ (n : ℕ). words_in_bytes n ys) same
words_append zero w (x ∷ xs) ys e = absurd (omega (arith, e))
words_append (suc u) w xs ys e =
    let sum : suc u + w ≡ suc (u + w) = omega arith in
    let long : 8 ≤ length xs = omega (arith, e) in
    let head : from_le_bytes w64 (xs ++ ys) ≡ from_le_bytes w64 xs = word_alike (xs ++ ys) xs (take-append-le 8 xs ys long) in
    let tail : words_in_bytes (u + w) (drop 8 (xs ++ ys)) ≡ words_in_bytes u (drop 8 xs) ++ words_in_bytes w ys = ap (words_in_bytes (u + w)) (drop_append 8 xs ys long) ∙ words_append u w (drop 8 xs) ys (omega (arith, e, length-drop 8 xs)) in
    ap (λ (n : ℕ). words_in_bytes n (xs ++ ys)) sum ∙ ap (λ (x : ℕ). x ∷ words_in_bytes (u + w) (drop 8 (xs ++ ys))) head ∙ ap (λ (zs : List ℕ). from_le_bytes w64 xs ∷ zs) tail

-- ---- words written

overwritten_next : (k : ℕ) (from bs : List ℕ) → 8 * suc k + length from ≤ length bs → drop 8 (overwritten (8 * suc k) from bs) ≡ overwritten (8 * k) from (drop 8 bs)
overwritten_next k from bs l =
    let long : 8 ≤ length (take (8 * suc k) bs) = omega (arith, l, length-take (8 * suc k) bs) in
    let front : drop 8 (take (8 * suc k) bs) ≡ take (8 * k) (drop 8 bs) = ap (λ (n : ℕ). drop 8 (take n bs)) (next_eight k) ∙ drop-take 8 (8 * k) bs in
    let sum : 8 * suc k + length from ≡ 8 + (8 * k + length from) = omega arith in
    let back : drop (8 * suc k + length from) bs ≡ drop (8 * k + length from) (drop 8 bs) = ap (λ (n : ℕ). drop n bs) sum ∙ sym (drop-drop (8 * k + length from) 8 bs) in
    drop_append 8 (take (8 * suc k) bs) _ long ∙ ap (λ (xs : List ℕ). xs ++ (from ++ drop (8 * suc k + length from) bs)) front ∙ ap (λ (xs : List ℕ). take (8 * k) (drop 8 bs) ++ (from ++ xs)) back

written_next : (m : ℕ) (from bs : List ℕ) → 8 ≤ length from → drop 8 (overwritten 0 from bs) ≡ overwritten 0 (drop 8 from) (drop 8 bs)
written_next m from bs l =
    let sum : 0 + length from ≡ 8 + (0 + length (drop 8 from)) = omega (arith, l, length-drop 8 from) in
    drop_append 8 from (drop (0 + length from) bs) l ∙ ap (λ (xs : List ℕ). drop 8 from ++ xs) (ap (λ (n : ℕ). drop n bs) sum ∙ sym (drop-drop (0 + length (drop 8 from)) 8 bs))

pub words_overwritten : (n k m : ℕ) (from bs : List ℕ) → length from ≡ 8 * m → k + m ≤ n → 8 * n ≤ length bs → words_in_bytes n (overwritten (8 * k) from bs) ≡ spliced k (words_in_bytes m from) (words_in_bytes n bs)
unfolding spliced
words_overwritten zero zero m from bs e l b = refl
words_overwritten zero (suc k) m from bs e l b = refl
words_overwritten (suc n) zero zero [] bs e l b = refl
words_overwritten (suc n) zero zero (x ∷ from) bs e l b = absurd (omega (arith, e))
words_overwritten (suc n) zero (suc m) from bs e l b =
    let long : 8 ≤ length from = omega (arith, e) in
    let head : from_le_bytes w64 (overwritten 0 from bs) ≡ from_le_bytes w64 from = word_alike (overwritten 0 from bs) from (take-append-le 8 from (drop (0 + length from) bs) long) in
    let tail = ap (words_in_bytes n) (written_next m from bs long) ∙ words_overwritten n zero m (drop 8 from) (drop 8 bs) (omega (arith, e, length-drop 8 from)) (omega (arith, l)) (omega (arith, b, length-drop 8 bs)) in
    ap (λ (x : ℕ). x ∷ words_in_bytes n (drop 8 (overwritten 0 from bs))) head ∙ ap (λ (xs : List ℕ). from_le_bytes w64 from ∷ xs) tail
words_overwritten (suc n) (suc k) m from bs e l b =
    let room : 8 * suc k + length from ≤ length bs = omega (arith, e, l, b) in
    let long : 8 ≤ length (take (8 * suc k) bs) = omega (arith, room, length-take (8 * suc k) bs) in
    let eight : 8 ≤ 8 * suc k = omega arith in
    let head : from_le_bytes w64 (overwritten (8 * suc k) from bs) ≡ from_le_bytes w64 bs = word_alike (overwritten (8 * suc k) from bs) bs (take-append-le 8 (take (8 * suc k) bs) _ long ∙ take-take 8 (8 * suc k) bs eight) in
    let tail = ap (words_in_bytes n) (overwritten_next k from bs room) ∙ words_overwritten n k m from (drop 8 bs) e (omega (arith, l)) (omega (arith, b, length-drop 8 bs)) in
    ap (λ (x : ℕ). x ∷ words_in_bytes n (drop 8 (overwritten (8 * suc k) from bs))) head ∙ ap (λ (xs : List ℕ). from_le_bytes w64 bs ∷ xs) tail
