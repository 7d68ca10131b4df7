-- Members that stand once.
use Rattle.std.proofs.Common.{◌≡◌, ℕ, suc, max, ◌+◌, ◌<◌, ◌≤◌, Bool, true, false, not, ◌&&◌, ◌||◌, ◌==◌, nat_lt, List, [], ◌∷◌, ◌++◌, map, length, take, drop, get_or, drop-cons, refl, sym, ◌∙◌, ap, arith}
use Rattle.std.specs.List.{list_all, list_any}
use Rattle.std.proofs.lemmas.Grind.{common_steps}
use Rattle.std.proofs.lemmas.Bool.Decides.{nat_tests}
use Rattle.capnp_model.specs.Accepted.{are_once}
use Rattle.capnp_records.specs.Marks.{Raised}
use Rattle.capnp_records.proofs.lemmas.ListTests.{list_any-append}
use Rattle.capnp_records.proofs.Forward.{pairs, forward, forward_all, forward_step}

-- two members are the same
abbrev pub same_member : ℕ → ℕ → Bool
same_member m k = k == m

once_is_pairs : (ms : List ℕ) → are_once ms ≡ pairs same_member ms
once_is_pairs [] = refl
once_is_pairs (m ∷ ms) = ap (λ b. not (list_any (λ k. k == m) ms) && b) (once_is_pairs ms)

pub from_the_front : (ms : List ℕ) → forward same_member [] ms ≡ are_once ms
from_the_front ms = forward_all same_member ms ∙ sym (once_is_pairs ms)

map_same : (xs : List ℕ) → map (λ x. x) xs ≡ xs
map_same [] = refl
map_same (x ∷ xs) = ap (λ ys. x ∷ ys) (map_same xs)

-- one step
pub member_step : (ms : List ℕ) (i m : ℕ) → i < length ms → m ≡ get_or ms i m → forward same_member (take i ms) (drop i ms) ≡ (not (list_any (λ d. same_member d m) (take i ms)) && forward same_member (take (i + 1) ms) (drop (i + 1) ms))
member_step ms i m lt is =
    sym (ap (λ done. forward same_member done (map (λ x. x) (drop i ms))) (map_same (take i ms)) ∙ ap (forward same_member (take i ms)) (map_same (drop i ms)))
    ∙ forward_step same_member (λ x. x) ms i m lt is
    ∙ ap (λ done. not (list_any (λ d. same_member d m) done) && forward same_member (map (λ x. x) (take (i + 1) ms)) (map (λ x. x) (drop (i + 1) ms))) (map_same (take i ms))
    ∙ ap (λ done. not (list_any (λ d. same_member d m) (take i ms)) && forward same_member done (map (λ x. x) (drop (i + 1) ms))) (map_same (take (i + 1) ms))
    ∙ ap (λ rest. not (list_any (λ d. same_member d m) (take i ms)) && forward same_member (take (i + 1) ms) rest) (map_same (drop (i + 1) ms))

pub cut_at : (ms : List ℕ) (i m : ℕ) → i < length ms → m ≡ get_or ms i m → drop i ms ≡ m ∷ drop (i + 1) ms
cut_at ms i m lt is =
    let next : suc i ≡ i + 1 = omega arith in
    drop-cons ms i m lt ∙ ap (λ z. z ∷ drop (suc i) ms) (sym is) ∙ ap (λ j. m ∷ drop j ms) next

-- what is decided after one more member
decided : (below : Bool) (rest_below clashes later : Bool) (all : Bool) → (below && rest_below && (not clashes && later)) ≡ all → below ≡ true → clashes ≡ false → (rest_below && later) ≡ all
decided true rb false later all h e f = h
decided true rb true later all h e f = absurd (cc f)
decided false rb c later all h e f = absurd (cc e)

pub next_member : (ms : List ℕ) (count i m : ℕ) (all : Bool) → i < length ms → m ≡ get_or ms i m → m < count → list_any (λ d. same_member d m) (take i ms) ≡ false
    → (list_all (λ k. nat_lt k count) (drop i ms) && forward same_member (take i ms) (drop i ms)) ≡ all
    → (list_all (λ k. nat_lt k count) (drop (i + 1) ms) && forward same_member (take (i + 1) ms) (drop (i + 1) ms)) ≡ all
next_member ms count i m all lt is small fresh h =
    decided (nat_lt m count) (list_all (λ k. nat_lt k count) (drop (i + 1) ms)) (list_any (λ d. same_member d m) (take i ms)) (forward same_member (take (i + 1) ms) (drop (i + 1) ms)) all
    (sym (ap (λ xs. list_all (λ k. nat_lt k count) xs && forward same_member (take i ms) (drop i ms)) (cut_at ms i m lt is) ∙ ap (λ b. (nat_lt m count && list_all (λ k. nat_lt k count) (drop (i + 1) ms)) && b) (member_step ms i m lt is)) ∙ h)
    (grind (arith, nat_tests)) fresh

refuted : (below : Bool) (rest_below clashes later : Bool) (all : Bool) → (below && rest_below && (not clashes && later)) ≡ all → clashes ≡ true → false ≡ all
refuted true true true later all h f = h
refuted true false true later all h f = h
refuted false rb true later all h f = h
refuted b rb false later all h f = absurd (cc f)

pub member_twice : (ms : List ℕ) (count i m : ℕ) (all : Bool) → i < length ms → m ≡ get_or ms i m → list_any (λ d. same_member d m) (take i ms) ≡ true
    → (list_all (λ k. nat_lt k count) (drop i ms) && forward same_member (take i ms) (drop i ms)) ≡ all → false ≡ all
member_twice ms count i m all lt is twice h =
    refuted (nat_lt m count) (list_all (λ k. nat_lt k count) (drop (i + 1) ms)) (list_any (λ d. same_member d m) (take i ms)) (forward same_member (take (i + 1) ms) (drop (i + 1) ms)) all
    (sym (ap (λ xs. list_all (λ k. nat_lt k count) xs && forward same_member (take i ms) (drop i ms)) (cut_at ms i m lt is) ∙ ap (λ b. (nat_lt m count && list_all (λ k. nat_lt k count) (drop (i + 1) ms)) && b) (member_step ms i m lt is)) ∙ h)
    twice

too_high : (below rest_below later : Bool) (all : Bool) → (below && rest_below && later) ≡ all → below ≡ false → false ≡ all
too_high false rb later all h e = h
too_high true rb later all h e = absurd (cc e)

pub member_past : (ms : List ℕ) (count i m : ℕ) (all : Bool) → i < length ms → m ≡ get_or ms i m → count ≤ m
    → (list_all (λ k. nat_lt k count) (drop i ms) && forward same_member (take i ms) (drop i ms)) ≡ all → false ≡ all
member_past ms count i m all lt is high h =
    too_high (nat_lt m count) (list_all (λ k. nat_lt k count) (drop (i + 1) ms)) (forward same_member (take i ms) (drop i ms)) all
    (sym (ap (λ xs. list_all (λ k. nat_lt k count) xs && forward same_member (take i ms) (drop i ms)) (cut_at ms i m lt is)) ∙ h)
    (grind (arith, nat_tests))

-- what is seen after one more
pub seen_more : (ms : List ℕ) (i m k : ℕ) → i < length ms → m ≡ get_or ms i m → list_any (λ d. same_member d k) (take (i + 1) ms) ≡ (list_any (λ d. same_member d k) (take i ms) || (k == m))
seen_more ms i m k lt is =
    let grown : take (i + 1) ms ≡ take i ms ++ m ∷ [] = grind (arith, common_steps) in
    ap (list_any (λ d. same_member d k)) grown ∙ list_any-append (λ d. same_member d k) (take i ms) (m ∷ []) ∙ ap (λ b. list_any (λ d. same_member d k) (take i ms) || b) (or_false (k == m))
  where
    or_false : (b : Bool) → (b || false) ≡ b
    or_false true = refl
    or_false false = refl

same_or : (k m : ℕ) (b : Bool) → (k == m) ≡ b → (b ≡ true → k ≡ m) × (b ≡ false → k ≡ m → ⊥)
same_or k m b e = (yes, no)
  where
    yes : b ≡ true → k ≡ m
    yes h = let t : (k == m) ≡ true = e ∙ h in grind (arith, nat_tests)

    itself : (n : ℕ) → (n == n) ≡ true
    itself n = grind arith

    no : b ≡ false → k ≡ m → ⊥
    no h g = let t : (k == m) ≡ false = e ∙ h in cc (sym t ∙ ap (λ x. k == x) (sym g) ∙ itself k)

-- what is marked after one more
pub marked_member : (old new : List ℕ) (m k : ℕ) → Raised old new m (m + 1) 1 → nat_lt 0 (get_or new k 0) ≡ (nat_lt 0 (get_or old k 0) || (k == m))
marked_member old new m k r = by (k == m) refl
  where
    or_true : (b : Bool) → (b || true) ≡ true
    or_true true = refl
    or_true false = refl

    or_false : (b : Bool) → (b || false) ≡ b
    or_false true = refl
    or_false false = refl

    high : (v : ℕ) → nat_lt 0 (max 1 v) ≡ true
    high v = grind (arith, nat_tests)

    by : (b : Bool) → (k == m) ≡ b → nat_lt 0 (get_or new k 0) ≡ (nat_lt 0 (get_or old k 0) || b)
    by true e =
        let here : k ≡ m = (same_or k m true e).0 refl in
        ap (nat_lt 0) (r.inside k (omega arith) (omega arith)) ∙ high (get_or old k 0) ∙ sym (or_true (nat_lt 0 (get_or old k 0)))
    by false e =
        let away : (k ≡ m → ⊥) = (same_or k m false e).1 refl in
        ap (nat_lt 0) (side (nat_lt k m) refl away) ∙ sym (or_false (nat_lt 0 (get_or old k 0)))
      where
        side : (c : Bool) → nat_lt k m ≡ c → (k ≡ m → ⊥) → get_or new k 0 ≡ get_or old k 0
        side true t away = let lt : k < m = grind (arith, nat_tests) in r.below k lt
        side false t away = let le : m ≤ k = grind (arith, nat_tests) in r.behind k (omega (arith, away, le))
