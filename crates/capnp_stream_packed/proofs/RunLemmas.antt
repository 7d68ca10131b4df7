-- The bytes of a word that is written, and the runs behind it.
use Rattle.std.proofs.Common.{◌≡◌, ℕ, zero, suc, ◌+◌, ◌*◌, ◌/◌, ◌^◌, ◌<◌, ◌≤◌, Bool, true, false, cond, eqb, List, [], ◌∷◌, ◌++◌, length, take, drop, get_or, refl, sym, ap, subst, ◌∙◌, arith}
use Rattle.std.specs.Int.{w64, from_le_bytes, to_le_bytes}
use Rattle.std.proofs.lemmas.Bool.{cond_both}
use Rattle.std.proofs.lemmas.List.{take_more}
use Rattle.std.proofs.lemmas.Nat.{le_bytes_8, pow_pos}
use mir.Val.{bool_byte}
use Rattle.capnp_model.specs.Bytes.{words_in_bytes, AreBytes}
use Rattle.capnp_model.specs.Packing.{byte_tag, nonzero, zero_bytes, run_of}
use Rattle.capnp_stream.specs.Segments.{whole_words}
use Rattle.capnp_stream.proofs.lemmas.WordLemmas.{whole_words-step}

-- ---- the bytes of a word

nonzero-append : (xs ys : List ℕ) → nonzero (xs ++ ys) ≡ nonzero xs ++ nonzero ys
nonzero-append [] ys = refl
nonzero-append (x ∷ xs) ys = by (eqb x 0) (nonzero-append xs ys)
  where
    by : (c : Bool) → nonzero (xs ++ ys) ≡ nonzero xs ++ nonzero ys → cond c (nonzero (xs ++ ys)) (x ∷ nonzero (xs ++ ys)) ≡ cond c (nonzero xs) (x ∷ nonzero xs) ++ nonzero ys
    by true rest = rest
    by false rest = ap (λ (l : List ℕ). x ∷ l) rest

zero_bytes-append : (xs ys : List ℕ) → zero_bytes (xs ++ ys) ≡ zero_bytes xs + zero_bytes ys
zero_bytes-append [] ys = omega arith
zero_bytes-append (x ∷ xs) ys = let rest = zero_bytes-append xs ys in omega arith

-- a byte more
pub nonzero-more : (xs : List ℕ) (i : ℕ) → i < length xs → nonzero (take (i + 1) xs) ≡ nonzero (take i xs) ++ nonzero (get_or xs i 0 ∷ [])
nonzero-more xs i below = ap nonzero (take_more xs i 0 below) ∙ nonzero-append (take i xs) (get_or xs i 0 ∷ [])

pub zero_bytes-more : (xs : List ℕ) (i : ℕ) → i < length xs → zero_bytes (take (i + 1) xs) ≡ zero_bytes (take i xs) + zero_bytes (get_or xs i 0 ∷ [])
zero_bytes-more xs i below = ap zero_bytes (take_more xs i 0 below) ∙ zero_bytes-append (take i xs) (get_or xs i 0 ∷ [])

pub tag-small : (n : ℕ) (xs : List ℕ) → length xs ≤ n → byte_tag xs < 2 ^ n
tag-small n [] fits = pow_pos n
tag-small zero (x ∷ xs) fits = absurd (omega arith)
tag-small (suc n) (x ∷ xs) fits =
    let rest = tag-small n xs (omega arith) in
    cond_both (eqb x 0) 0 1 (λ k. k + 2 * byte_tag xs < 2 ^ suc n) (λ e. omega arith) (λ e. omega arith)

-- the mark of a byte
pub mark-small : (b : Bool) → bool_byte b ≤ 1
mark-small true = omega arith
mark-small false = omega arith

-- the bytes of the number that bytes are
pub bytes-again : (word : List ℕ) → length word ≡ 8 → AreBytes word → to_le_bytes w64 (from_le_bytes w64 word) ≡ word
bytes-again word eight small = le_bytes_8 word (from_le_bytes w64 word) eight small refl

-- ---- how many words pass a test

module _ (test : ℕ → Bool) (total count k : ℕ) where
  pub run-none : (ws : List ℕ) → ws ≡ [] → count + run_of test k ws ≡ total → count ≡ total
  run-none ws e h = by k (subst (λ (l : List ℕ). count + run_of test k l ≡ total) e h)
    where
      by : (n : ℕ) → count + run_of test n [] ≡ total → count ≡ total
      by zero g = omega arith
      by (suc n) g = omega arith

  pub run-full : (ws : List ℕ) → k ≡ 0 → count + run_of test k ws ≡ total → count ≡ total
  run-full ws e h = let g : count + run_of test 0 ws ≡ total = subst (λ (n : ℕ). count + run_of test n ws ≡ total) e h in omega arith

  pub run-stops : (ws : List ℕ) (w : ℕ) (rest : List ℕ) → ws ≡ w ∷ rest → test w ≡ false → count + run_of test k ws ≡ total → count ≡ total
  run-stops ws w rest e fails h = by k (subst (λ (l : List ℕ). count + run_of test k l ≡ total) e h)
    where
      by : (n : ℕ) → count + run_of test n (w ∷ rest) ≡ total → count ≡ total
      by zero g = omega arith
      by (suc n) g = let f : count + 0 ≡ total = subst (λ (c : Bool). count + cond c (suc (run_of test n rest)) 0 ≡ total) fails g in omega arith

  pub run-goes : (m : ℕ) (ws : List ℕ) (w : ℕ) (rest : List ℕ) → ws ≡ w ∷ rest → test w ≡ true → k ≡ suc m → count + run_of test k ws ≡ total → count + 1 + run_of test m rest ≡ total
  run-goes m ws w rest e passes more h =
      let f : count + run_of test (suc m) (w ∷ rest) ≡ total = subst (λ (n : ℕ). count + run_of test n (w ∷ rest) ≡ total) more (subst (λ (l : List ℕ). count + run_of test k l ≡ total) e h) in
      let g : count + suc (run_of test m rest) ≡ total = subst (λ (c : Bool). count + cond c (suc (run_of test m rest)) 0 ≡ total) passes f in
      omega arith

-- a slice's first word and the words behind it
pub words-front : (left word behind : List ℕ) → 8 ≤ length left → word ≡ take 8 left → behind ≡ drop 8 left → whole_words left ≡ from_le_bytes w64 word ∷ whole_words behind
words-front left word behind long one rest = whole_words-step left long ∙ ap (λ (l : List ℕ). from_le_bytes w64 l ∷ whole_words (drop 8 left)) (sym one) ∙ ap (λ (l : List ℕ). from_le_bytes w64 word ∷ whole_words l) (sym rest)

pub no-words : (left : List ℕ) → length left < 8 → whole_words left ≡ []
no-words left short = let none : length left / 8 ≡ 0 = omega arith in ap (λ (n : ℕ). words_in_bytes n left) none
