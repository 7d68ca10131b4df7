-- Pairs of a list are tried with the earlier ones, one after the other.
use Rattle.std.proofs.Common.{◌≡◌, ℕ, suc, ◌+◌, ◌<◌, Bool, true, false, not, ◌&&◌, ◌||◌, List, [], ◌∷◌, ◌++◌, map, length, take, drop, get_or, drop-cons, refl, sym, ◌∙◌, ap, arith}
use Rattle.std.specs.List.{list_all, list_any}
use Rattle.std.proofs.lemmas.List.{map_more}
use Rattle.std.proofs.lemmas.List.Folds.{list_all-append}
use Rattle.capnp_model.proofs.lemmas.Tests.{and_true, and_assoc, and_swap}

not_or : (a b : Bool) → not (a || b) ≡ (not a && not b)
not_or true b = refl
not_or false b = refl

module _ {A : Type 0} (clash : A → A → Bool) where
  -- no two clash
  abbrev pub pairs : List A → Bool
  pairs [] = true
  pairs (x ∷ xs) = not (list_any (clash x) xs) && pairs xs

  -- none clashes with an earlier one
  abbrev pub forward : List A → List A → Bool
  forward done [] = true
  forward done (x ∷ xs) = not (list_any (λ d. clash d x) done) && forward (done ++ x ∷ []) xs

  none : List A → List A → Bool
  none done xs = list_all (λ d. not (list_any (clash d) xs)) done

  none_empty : (done : List A) → none done [] ≡ true
  unfolding none
  none_empty [] = refl
  none_empty (d ∷ done) = none_empty done

  none_cons : (done : List A) (x : A) (xs : List A) → none done (x ∷ xs) ≡ (not (list_any (λ d. clash d x) done) && none done xs)
  unfolding none
  none_cons [] x xs = refl
  none_cons (d ∷ done) x xs =
      ap (λ b. b && none done (x ∷ xs)) (not_or (clash d x) (list_any (clash d) xs))
      ∙ ap (λ b. (not (clash d x) && not (list_any (clash d) xs)) && b) (none_cons done x xs)
      ∙ and_swap (not (clash d x)) (not (list_any (clash d) xs)) (not (list_any (λ e. clash e x) done)) (none done xs)
      ∙ ap (λ b. b && (not (list_any (clash d) xs) && none done xs)) (sym (not_or (clash d x) (list_any (λ e. clash e x) done)))

  forward_is : (done xs : List A) → forward done xs ≡ (none done xs && pairs xs)
  unfolding none
  forward_is done [] = sym (ap (λ b. b && true) (none_empty done))
  forward_is done (x ∷ xs) =
      let fresh = not (list_any (λ d. clash d x) done) in
      let later = not (list_any (clash x) xs) in
      ap (λ b. fresh && b) (forward_is (done ++ x ∷ []) xs ∙ ap (λ b. b && pairs xs) (list_all-append (λ d. not (list_any (clash d) xs)) done (x ∷ []) ∙ ap (λ b. none done xs && b) (and_true later)))
      ∙ ap (λ b. fresh && b) (and_assoc (none done xs) later (pairs xs))
      ∙ sym (and_assoc fresh (none done xs) (later && pairs xs))
      ∙ ap (λ b. b && (later && pairs xs)) (sym (none_cons done x xs))

  -- from the front
  pub forward_all : (xs : List A) → forward [] xs ≡ pairs xs
  unfolding none
  forward_all xs = forward_is [] xs

  -- one step
  pub forward_step : {B : Type 0} (f : B → A) (ys : List B) (i : ℕ) (y : B) → i < length ys → y ≡ get_or ys i y
      → forward (map f (take i ys)) (map f (drop i ys)) ≡ (not (list_any (λ d. clash d (f y)) (map f (take i ys))) && forward (map f (take (i + 1) ys)) (map f (drop (i + 1) ys)))
  forward_step f ys i y lt is =
      let next : suc i ≡ i + 1 = omega arith in
      let cut : drop i ys ≡ y ∷ drop (suc i) ys = drop-cons ys i y lt ∙ ap (λ z. z ∷ drop (suc i) ys) (sym is) in
      let grown : map f (take i ys) ++ f y ∷ [] ≡ map f (take (i + 1) ys) = ap (λ z. map f (take i ys) ++ f z ∷ []) is ∙ sym (map_more f ys i y lt) in
      ap (λ zs. forward (map f (take i ys)) (map f zs)) cut
      ∙ ap (λ e. not (list_any (λ d. clash d (f y)) (map f (take i ys))) && forward e (map f (drop (suc i) ys))) grown
      ∙ ap (λ j. not (list_any (λ d. clash d (f y)) (map f (take i ys))) && forward (map f (take (i + 1) ys)) (map f (drop j ys))) next
