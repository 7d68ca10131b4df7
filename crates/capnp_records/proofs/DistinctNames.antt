-- Names that differ.
use Rattle.std.proofs.Common.{◌≡◌, ℕ, Bool, true, false, not, ◌&&◌, ◌||◌, List, [], ◌∷◌, ◌++◌, refl, sym, ◌∙◌, ap}
use Rattle.std.specs.List.{list_any}
use Rattle.std.specs.Str.{bytes_eq}
use Rattle.std.proofs.lemmas.Cmp.{nat_list_eq_equiv}
use Rattle.capnp_model.specs.Accepted.{are_distinct}
use Rattle.capnp_records.proofs.lemmas.ListTests.{list_any-same, list_any-append}
use Rattle.capnp_records.proofs.Forward.{pairs, forward, forward_all}

distinct_is_pairs : (xs : List (List ℕ)) → are_distinct xs ≡ pairs bytes_eq xs
distinct_is_pairs [] = refl
distinct_is_pairs (x ∷ xs) = ap (λ b. not (list_any (bytes_eq x) xs) && b) (distinct_is_pairs xs)

pub from_the_front : (xs : List (List ℕ)) → forward bytes_eq [] xs ≡ are_distinct xs
from_the_front xs = forward_all bytes_eq xs ∙ sym (distinct_is_pairs xs)

-- the other way round
pub turned : (x : List ℕ) (xs : List (List ℕ)) → list_any (λ d. bytes_eq d x) xs ≡ list_any (bytes_eq x) xs
turned x xs = list_any-same (λ d. bytes_eq d x) (bytes_eq x) (λ d. nat_list_eq_equiv.symm d x) xs

-- one name more
pub one_more : (q x : List ℕ) (done : List (List ℕ)) → list_any (bytes_eq q) (done ++ x ∷ []) ≡ (bytes_eq q x || list_any (bytes_eq q) done)
one_more q x done = list_any-append (bytes_eq q) done (x ∷ []) ∙ swap (list_any (bytes_eq q) done) (bytes_eq q x)
  where
    swap : (a b : Bool) → (a || (b || false)) ≡ (b || a)
    swap true true = refl
    swap true false = refl
    swap false true = refl
    swap false false = refl
