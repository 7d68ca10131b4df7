-- Bytes that end too early.
use Rattle.std.proofs.Common.{◌≡◌, inl, inr, ◌⊎◌, ℕ, zero, suc, ◌-◌, ◌<◌, ◌≤◌, Bool, true, false, List, [], ◌∷◌, ◌++◌, Result, Ok, Err, sym, ap, subst, ◌∙◌, arith, length, take, length-append}
use Rattle.std.proofs.lemmas.Bool.{cases_lt}
use Rattle.std.proofs.lemmas.List.{take-append-le}
use Rattle.capnp_model.specs.Kinds.{Kind}
use Rattle.capnp_model.specs.Chains.{◌and_then◌, guard}
use Rattle.capnp_model.specs.Messages.{Reader}
use Rattle.capnp_stream.specs.Pieces.{IsEarlyEnd, EndsEarly, EachIsNeeded, ReadsFronts}

pub EndsEarly-of : {A : Type 0} (r : Result A Kind) (k : Kind) → r ≡ Err k → IsEarlyEnd k → EndsEarly r
EndsEarly-of (Ok x) k e h = absurd cc
EndsEarly-of (Err d) k e h = let same : k ≡ d = cc in subst IsEarlyEnd same h

pub early-same : {A : Type 0} (r s : Result A Kind) → r ≡ s → EndsEarly s → EndsEarly r
early-same r s e h = subst EndsEarly (sym e) h

pub early-then : {A B : Type 0} (r : Result A Kind) (f : A → Result B Kind) → EndsEarly r → EndsEarly (r and_then f)
early-then (Ok x) f h = absurd h
early-then (Err k) f h = h

pub early-guard : {B : Type 0} (b : Bool) (k : Kind) (r : Result B Kind) → b ≡ true → EndsEarly r → EndsEarly (guard b k and_then λ _. r)
early-guard true k r e h = h
early-guard false k r e h = absurd cc

-- what ends early is no value
pub early-none : {A : Type 0} (r : Result A Kind) (x : A) → EndsEarly r → r ≡ Ok x → ⊥
early-none (Ok y) x h e = h
early-none (Err k) x h e = absurd cc

-- no byte ends too early for a word
pub wants-some : (read : Reader) → ReadsFronts read → (n : ℕ) → 0 < n → EndsEarly (read n [])
wants-some read fronts zero some = absurd (omega arith)
wants-some read fronts (suc n) some = fronts.wants n

-- no byte has a proper beginning
pub none-needed : {A : Type 0} (f : List ℕ → Result A Kind) → EachIsNeeded f []
none-needed f n below = absurd (omega arith)

take_over : (n : ℕ) (p q : List ℕ) → length p ≤ n → take n (p ++ q) ≡ p ++ take (n - length p) q
take_over n [] q over = ap (λ (m : ℕ). take m q) (omega arith)
take_over zero (x ∷ p) q over = absurd (omega arith)
take_over (suc n) (x ∷ p) q over = let less : n - length p ≡ suc n - suc (length p) = omega arith in ap (λ (l : List ℕ). x ∷ l) (take_over n p q (omega arith) ∙ ap (λ (m : ℕ). p ++ take m q) less)

module _ {A B : Type 0} (f : List ℕ → Result A Kind) (g : List ℕ → Result B Kind) (p q : List ℕ) where
  -- behind a front of which each byte is needed stand others of which each is
  pub needed-joined : ((more : List ℕ) → EndsEarly (g more) → EndsEarly (f (p ++ more))) → EachIsNeeded f p → EachIsNeeded g q → EachIsNeeded f (p ++ q)
  needed-joined says first second n below = by (cases_lt n (length p))
    where
      by : (n < length p) ⊎ (length p ≤ n) → EndsEarly (f (take n (p ++ q)))
      by (inl h) = let same : take n (p ++ q) ≡ take n p = take-append-le n p q (omega (arith, h)) in early-same _ _ (ap f same) (first n h)
      by (inr h) =
          let same = take_over n p q h in
          early-same _ _ (ap f same) (says (take (n - length p) q) (second (n - length p) (omega (arith, h, below, length-append p q))))
