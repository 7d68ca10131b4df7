-- How long packed pieces are.
use Rattle.std.proofs.Common.{◌≡◌, ◌≢◌, ℕ, zero, suc, ◌+◌, ◌-◌, ◌*◌, ◌/◌, ◌^◌, ◌<◌, ◌≤◌, Bool, true, false, cond, eqb, List, [], ◌∷◌, ◌++◌, length, refl, arith, length-append}
use Rattle.std.specs.Int.{w64, to_le_bytes}
use Rattle.std.proofs.lemmas.Bool.{eqb-true, eqb-false, leb-false}
use Rattle.capnp_model.specs.Packing.{Run, first, next, zeros, verbatim, byte_tag, nonzero, zero_bytes, count_byte, is_zero, is_dense, run_of, run_behind, packed_group, packed_from, packed}
use Rattle.capnp_stream_packed.proofs.RunLemmas.{tag-small}

-- ---- the bytes of a word

marked-all : (bs : List ℕ) → zero_bytes bs + length (nonzero bs) ≡ length bs
marked-all [] = refl
marked-all (b ∷ bs) = by (eqb b 0) (marked-all bs)
  where
    by : (c : Bool) → zero_bytes bs + length (nonzero bs) ≡ length bs → (cond c 1 0 + zero_bytes bs) + length (cond c (nonzero bs) (b ∷ nonzero bs)) ≡ suc (length bs)
    by true rest = omega arith
    by false rest = omega arith

tag-none : (bs : List ℕ) → byte_tag bs ≡ 0 → length (nonzero bs) ≡ 0
tag-none [] e = refl
tag-none (b ∷ bs) e = by (eqb b 0) (tag-none bs) e
  where
    by : (c : Bool) → (byte_tag bs ≡ 0 → length (nonzero bs) ≡ 0) → cond c 0 1 + 2 * byte_tag bs ≡ 0 → length (cond c (nonzero bs) (b ∷ nonzero bs)) ≡ 0
    by true rest h = rest (omega arith)
    by false rest h = absurd (omega arith)

-- every bit is set just where no byte is zero
tag-full : (bs : List ℕ) → zero_bytes bs ≡ 0 → byte_tag bs + 1 ≡ 2 ^ length bs
tag-full [] e = refl
tag-full (b ∷ bs) e = by (eqb b 0) (tag-full bs) e
  where
    by : (c : Bool) → (zero_bytes bs ≡ 0 → byte_tag bs + 1 ≡ 2 ^ length bs) → cond c 1 0 + zero_bytes bs ≡ 0 → (cond c 0 1 + 2 * byte_tag bs) + 1 ≡ 2 ^ suc (length bs)
    by true rest h = absurd (omega arith)
    by false rest h = let r = rest (omega arith) in omega arith

tag-gap : (bs : List ℕ) → byte_tag bs + 1 ≡ 2 ^ length bs → zero_bytes bs ≡ 0
tag-gap [] e = refl
tag-gap (b ∷ bs) e = by (eqb b 0) (tag-gap bs) (tag-small (length bs) bs (omega arith)) e
  where
    by : (c : Bool) → (byte_tag bs + 1 ≡ 2 ^ length bs → zero_bytes bs ≡ 0) → byte_tag bs < 2 ^ length bs → (cond c 0 1 + 2 * byte_tag bs) + 1 ≡ 2 ^ suc (length bs) → cond c 1 0 + zero_bytes bs ≡ 0
    by true rest small h = absurd (omega arith)
    by false rest small h = let r = rest (omega arith) in omega arith

-- ---- groups and what is behind them

-- how many bytes n words have at most, from a group on, and inside a verbatim run that may go on for j words
abbrev most : ℕ → ℕ
most n = 8 * n + (n + 3) / 2

abbrev most_in : ℕ → ℕ → ℕ
most_in j n = 8 * n + (n + (3 - j)) / 2

abbrev IsVerbatim : Run → Bool
IsVerbatim (verbatim k) = true
IsVerbatim _ = false

record Short (ws : List ℕ) : Type 0 where
  pub out : (run : Run) → IsVerbatim run ≡ false → length (packed_from run ws) ≤ most (length ws)
  pub inside : (j : ℕ) → length (packed_from (verbatim (run_of is_dense j ws)) ws) ≤ most_in j (length ws)

-- a group and what is behind it, where the words behind are short
abbrev grouped : ℕ → List ℕ → List ℕ
grouped w ws = packed_group w (run_behind w ws) ++ packed_from (run_behind w ws) ws

module _ (w : ℕ) (ws : List ℕ) (short : Short ws) where
  abbrev bytes : List ℕ
  bytes = to_le_bytes w64 w

  abbrev tag : ℕ
  tag = byte_tag bytes

  abbrev run_by : Bool → Bool → Run
  run_by c d = cond c (zeros (run_of is_zero 255 ws)) (cond d (verbatim (run_of is_dense 255 ws)) next)

  abbrev text : Run → List ℕ
  text run = (tag ∷ (nonzero bytes ++ count_byte run)) ++ packed_from run ws

  size : (run : Run) → length (text run) ≡ 1 + length (nonzero bytes) + length (count_byte run) + length (packed_from run ws)
  size run = omega (arith, length-append (tag ∷ (nonzero bytes ++ count_byte run)) (packed_from run ws), length-append (nonzero bytes) (count_byte run))

  by-tag : (c d : Bool) → eqb tag 0 ≡ c → eqb tag 255 ≡ d → length (text (run_by c d)) ≤ most (suc (length ws))
  by-tag true d e f =
      let none = tag-none bytes (eqb-true tag 0 e) in
      omega (arith, size (zeros (run_of is_zero 255 ws)), short.out (zeros (run_of is_zero 255 ws)) refl, none)
  by-tag false true e f =
      omega (arith, size (verbatim (run_of is_dense 255 ws)), short.inside 255, marked-all bytes)
  by-tag false false e f =
      let gap : zero_bytes bytes ≢ 0 = λ h. absurd (eqb-false tag 255 f (omega (arith, tag-full bytes h))) in
      omega (arith, size next, short.out next refl, marked-all bytes, gap)

  loose : (c d : Bool) → eqb tag 0 ≡ c → eqb tag 255 ≡ d → 1 < zero_bytes bytes → length (text (run_by c d)) ≤ most_in 3 (suc (length ws))
  loose true d e f two =
      let none = tag-none bytes (eqb-true tag 0 e) in
      omega (arith, size (zeros (run_of is_zero 255 ws)), short.out (zeros (run_of is_zero 255 ws)) refl, none)
  loose false true e f two = let full : tag ≡ 255 = eqb-true tag 255 f in absurd (omega (arith, tag-gap bytes (omega arith)))
  loose false false e f two = omega (arith, size next, short.out next refl, marked-all bytes)

  group-short : length (grouped w ws) ≤ most (suc (length ws))
  group-short = by-tag (eqb tag 0) (eqb tag 255) refl refl

  group-loose : is_dense w ≡ false → length (grouped w ws) ≤ most_in 3 (suc (length ws))
  group-loose e = loose (eqb tag 0) (eqb tag 255) refl refl (omega (arith, leb-false _ _ e))

length-verbatim : (k w : ℕ) (ws : List ℕ) → length (packed_from (verbatim (suc k)) (w ∷ ws)) ≡ 8 + length (packed_from (verbatim k) ws)
length-verbatim k w ws = length-append (to_le_bytes w64 w) (packed_from (verbatim k) ws)

module _ (w : ℕ) (ws : List ℕ) (short : Short ws) where
  out-more : (run : Run) → IsVerbatim run ≡ false → length (packed_from run (w ∷ ws)) ≤ most (suc (length ws))
  out-more first e = group-short w ws short
  out-more next e = group-short w ws short
  out-more (zeros zero) e = group-short w ws short
  out-more (zeros (suc k)) e = omega (arith, short.out (zeros k) refl)
  out-more (verbatim k) e = absurd cc

  dense-more : (j : ℕ) (c : Bool) → is_dense w ≡ c → length (packed_from (verbatim (cond c (suc (run_of is_dense j ws)) 0)) (w ∷ ws)) ≤ most_in (suc j) (suc (length ws))
  dense-more j true e = omega (arith, length-verbatim (run_of is_dense j ws) w ws, short.inside j)
  dense-more j false e = omega (arith, group-loose w ws short e)

  inside-more : (j : ℕ) → length (packed_from (verbatim (run_of is_dense j (w ∷ ws))) (w ∷ ws)) ≤ most_in j (suc (length ws))
  inside-more zero = group-short w ws short
  inside-more (suc j) = dense-more j (is_dense w) refl

short-all : (ws : List ℕ) → Short ws
short-all [] = record { out = out; inside = inside }
  where
    out : (run : Run) → IsVerbatim run ≡ false → length (packed_from run []) ≤ most 0
    out run e = omega arith

    inside : (j : ℕ) → length (packed_from (verbatim (run_of is_dense j [])) []) ≤ most_in j 0
    inside j = omega arith
short-all (w ∷ ws) = let short = short-all ws in record { out = out-more w ws short; inside = inside-more w ws short }

-- THE LAW: a piece of n words has at most so many bytes
pub packed-most : (ws : List ℕ) → length (packed ws) ≤ 8 * length ws + (length ws + 3) / 2
unfolding packed
packed-most ws = let short = short-all ws in short.out first refl

pub packed-none : packed [] ≡ []
unfolding packed
packed-none = refl
