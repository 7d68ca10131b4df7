-- Steps of a path, some or none.
use Rattle.std.proofs.Common.{◌≡◌, ◌≢◌, ℕ, suc, length, arith, true, false, List, [], ◌∷◌, refl}
use Rattle.std.specs.Prelude.{map, ◌==◌}

pub none_is : {A B : Type 0} (f : A → B) (xs : List A) → (length xs == 0) ≡ true → map f xs ≡ []
none_is f [] h = refl
none_is f (x ∷ xs) h = absurd (not_zero (length xs) h)
  where
    not_zero : (k : ℕ) → (suc k == 0) ≡ true → ⊥
    not_zero k h = grind arith

pub some_is : {A B : Type 0} (f : A → B) (xs : List A) → (length xs == 0) ≡ false → map f xs ≢ []
some_is f [] h e = cc h
some_is f (x ∷ xs) h e = cc e
