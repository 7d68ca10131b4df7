-- The first call that is refused.
use Rattle.std.proofs.Common.{◌≡◌, ℕ, zero, suc, ◌+◌, ◌-◌, ◌<◌, Bool, true, false, ◌&&◌, List, [], ◌∷◌, ◌++◌, map, length, take, get_or, refl, sym, ◌∙◌, ap, arith}
use Rattle.std.specs.List.{list_all}
use Rattle.std.proofs.lemmas.List.{map_more}
use Rattle.std.proofs.lemmas.List.Folds.{list_all-append}
use Rattle.capnp_model.specs.Calls.{Call as ModelCall}
use Rattle.capnp_model.proofs.lemmas.Tests.{and_true}
use Rattle.capnp_records.proofs.lemmas.FieldPlaces.{length_mapped}
use Rattle.capnp_calls_versions.specs.Ways.{IsFirstRefused}

taken_map : {A B : Type 0} (f : A → B) (n : ℕ) (xs : List A) → take n (map f xs) ≡ map f (take n xs)
taken_map f zero xs = refl
taken_map f (suc n) [] = refl
taken_map f (suc n) (x ∷ xs) = ap (λ ys. f x ∷ ys) (taken_map f n xs)

-- one call more is tested
pub next_tested : {A : Type 0} (test : ModelCall → Bool) (f : A → ModelCall) (xs : List A) (i : ℕ) (x : A) (b : Bool) → i < length xs → x ≡ get_or xs i x → list_all test (map f (take i xs)) ≡ true → b ≡ test (f x) → list_all test (map f (take (i + 1) xs)) ≡ b
next_tested test f xs i x b lt is h e =
    let grown : map f (take (i + 1) xs) ≡ map f (take i xs) ++ f x ∷ [] = map_more f xs i x lt ∙ ap (λ y. map f (take i xs) ++ f y ∷ []) (sym is) in
    ap (list_all test) grown ∙ list_all-append test (map f (take i xs)) (f x ∷ []) ∙ ap (λ z. z && (test (f x) && true)) h ∙ and_true (test (f x)) ∙ sym e

pub first_refused : {A : Type 0} (test : ModelCall → Bool) (f : A → ModelCall) (xs : List A) (i : ℕ) (x : A) → i < length xs → x ≡ get_or xs i x → list_all test (map f (take i xs)) ≡ true → false ≡ test (f x) → IsFirstRefused test (map f xs) (i + 1)
first_refused test f xs i x lt is h e =
    let less : i + 1 - 1 ≡ i = omega arith in
    record {
      some = omega arith;
      within = omega (arith, length_mapped f xs);
      before = ap (λ k. list_all test (take k (map f xs))) less ∙ ap (list_all test) (taken_map f i xs) ∙ h;
      here = ap (list_all test) (taken_map f (i + 1) xs) ∙ next_tested test f xs i x false lt is h e;
    }
