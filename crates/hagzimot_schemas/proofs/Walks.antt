-- Walks over lists, one element further.
use Rattle.std.proofs.Common.{◌≡◌, ℕ, zero, suc, ◌+◌, ◌<◌, Option, Some, None, List, [], ◌∷◌, ◌++◌, length, get_or, take, refl, ap, sym, ◌∙◌, arith}
use Rattle.std.specs.List.{filter_map, cons_option, enumerate_from}
use Rattle.std.specs.Option.{option_to_list}
use Rattle.std.proofs.lemmas.List.FromFn.{length-enumerate_from, get_or-enumerate_from}

cons_append : {B : Type 0} (o : Option B) (xs ys : List B) → cons_option o (xs ++ ys) ≡ cons_option o xs ++ ys
cons_append None xs ys = refl
cons_append (Some y) xs ys = refl

cons_nil : {B : Type 0} (o : Option B) → cons_option o [] ≡ option_to_list o
cons_nil None = refl
cons_nil (Some y) = refl

-- what one element more gives comes behind the rest
filter_more_suc : {A B : Type 0} (h : A → Option B) (xs : List A) (i : ℕ) (x : A) → i < length xs → x ≡ get_or xs i x → filter_map h (take (suc i) xs) ≡ filter_map h (take i xs) ++ option_to_list (h x)
filter_more_suc h [] i x lt e = absurd (omega arith)
filter_more_suc h (y ∷ ys) zero x lt e = cons_nil (h y) ∙ ap (λ z. option_to_list (h z)) (sym e)
filter_more_suc h (y ∷ ys) (suc i) x lt e =
    ap (λ l. cons_option (h y) l) (filter_more_suc h ys i x (omega arith) e)
    ∙ cons_append (h y) (filter_map h (take i ys)) (option_to_list (h x))

pub filter_more : {A B : Type 0} (h : A → Option B) (xs : List A) (i : ℕ) (x : A) → i < length xs → x ≡ get_or xs i x → filter_map h (take (i + 1) xs) ≡ filter_map h (take i xs) ++ option_to_list (h x)
filter_more h xs i x lt e = let n : i + 1 ≡ suc i = omega arith in ap (λ k. filter_map h (take k xs)) n ∙ filter_more_suc h xs i x lt e

-- the same of elements with their indices
pub numbered_more : {A B : Type 0} (h : (ℕ × A) → Option B) (xs : List A) (i : ℕ) (x : A) → i < length xs → x ≡ get_or xs i x → filter_map h (take (i + 1) (enumerate_from 0 xs)) ≡ filter_map h (take i (enumerate_from 0 xs)) ++ option_to_list (h (i, x))
numbered_more h xs i x lt e =
    let long : length (enumerate_from 0 xs) ≡ length xs = length-enumerate_from 0 xs in
    let inside : i < length (enumerate_from 0 xs) = omega (arith, long) in
    let first : i ≡ 0 + i = omega arith in
    filter_more h (enumerate_from 0 xs) i (i, x) inside (ap (λ z. (i, z)) e ∙ ap (λ k. (k, get_or xs i x)) first ∙ sym (get_or-enumerate_from 0 xs i (i, x) lt))
