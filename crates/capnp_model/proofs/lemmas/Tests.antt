-- Tests of Bools and numbers, and what follows where they are true.
use Rattle.std.proofs.Common.{Bool, List, [], ◌∷◌, Option, Some, arith, false, nat_le, nat_lt, not, refl, suc, true, ℕ, ◌&&◌, ◌<◌, ◌==◌, ◌||◌, ◌≡◌, ◌≢◌, ◌≤◌}
use Rattle.std.specs.List.{list_all}
use Rattle.std.proofs.lemmas.Bool.Decides.{nat_tests}

pub same_number : (a b : ℕ) → (a == b) ≡ true → a ≡ b
same_number a b h = grind arith

pub number_is : (a : ℕ) → (a == a) ≡ true
number_is a = grind arith

pub same_some : {A : Type 0} {x y : A} → ◌≡◌ {A = Option A} (Some x) (Some y) → x ≡ y
same_some h = cc h

pub not_true : (b : Bool) → not b ≡ true → b ≡ false
not_true true h = absurd (cc h)
not_true false h = refl

pub and_true : (b : Bool) → (b && true) ≡ b
and_true true = refl
and_true false = refl

pub lt_is : (a b : ℕ) → nat_lt a b ≡ true → a < b
lt_is a b h = grind arith

pub both : (a b : Bool) → a ≡ true → b ≡ true → (a && b) ≡ true
both true b h k = k
both false b h k = absurd (cc h)

pub le_is : (a b : ℕ) → nat_le a b ≡ true → a ≤ b
le_is a b h = grind arith

pub or_assoc : (a b c : Bool) → ((a || b) || c) ≡ (a || (b || c))
or_assoc true b c = refl
or_assoc false b c = refl

pub not_is_false : (b : Bool) → false ≡ not b → b ≡ true
not_is_false true h = refl
not_is_false false h = absurd (cc h)

pub and_false : (b : Bool) → (b && false) ≡ false
and_false true = refl
and_false false = refl

pub and_assoc : (a b c : Bool) → ((a && b) && c) ≡ (a && (b && c))
and_assoc true b c = refl
and_assoc false b c = refl

pub never_true : (b : Bool) → (b ≡ true → ⊥) → b ≡ false
never_true true h = absurd (h refl)
never_true false h = refl

pub or_right : (a b : Bool) → b ≡ true → (a || b) ≡ true
or_right true b h = refl
or_right false b h = h

pub and_left : (a b : Bool) → (a && b) ≡ true → a ≡ true
and_left true b h = refl
and_left false b h = h

pub and_right : (a b : Bool) → (a && b) ≡ true → b ≡ true
and_right true b h = h
and_right false b h = absurd (cc h)

pub neither : (a b : Bool) → (a || b) ≡ false → (a ≡ false) × (b ≡ false)
neither false false h = (refl, refl)
neither false true h = absurd (cc h)
neither true b h = absurd (cc h)

pub both_true : (a b : Bool) → (a && b) ≡ true → (a ≡ true) × (b ≡ true)
both_true true true e = (refl, refl)
both_true true false e = absurd cc
both_true false b e = absurd cc

pub not_is_true : (b : Bool) → true ≡ not b → b ≡ false
not_is_true false h = refl
not_is_true true h = absurd (cc h)

pub test_is_true : (a b : ℕ) → a ≡ b → (a == b) ≡ true
test_is_true a b h = grind (arith, nat_tests)

pub not_zero : (c : ℕ) → (suc c == 0) ≡ false
not_zero c = grind (arith, nat_tests)

pub test_is_false : (a b : ℕ) → a ≢ b → (a == b) ≡ false
test_is_false a b h = grind (arith, nat_tests)

pub and_comm : (a b : Bool) → (a && b) ≡ (b && a)
and_comm true true = refl
and_comm true false = refl
and_comm false true = refl
and_comm false false = refl

pub and_right_false : (a b : Bool) → b ≡ false → (a && b) ≡ false
and_right_false true b e = e
and_right_false false b e = refl

pub never_false : (b : Bool) → (b ≡ false → ⊥) → b ≡ true
never_false true h = refl
never_false false h = absurd (h refl)

pub or_left_false : (a b : Bool) → (a || b) ≡ false → a ≡ false
or_left_false false b h = refl
or_left_false true b h = absurd (cc h)

pub or_right_false : (a b : Bool) → (a || b) ≡ false → b ≡ false
or_right_false false b h = h
or_right_false true b h = absurd (cc h)

pub or_left : (a b : Bool) → a ≡ true → (a || b) ≡ true
or_left true b h = refl
or_left false b h = absurd (cc h)

pub and_swap : (a b c d : Bool) → ((a && b) && (c && d)) ≡ ((a && c) && (b && d))
and_swap true true c d = refl
and_swap true false true d = refl
and_swap true false false d = refl
and_swap false b c d = refl

pub is_lt : (a b : ℕ) → a < b → nat_lt a b ≡ true
is_lt a b h = grind (arith, nat_tests)

pub all_both : {A : Type 0} (p q : A → Bool) (xs : List A) → list_all p xs ≡ true → list_all q xs ≡ true → list_all (λ x. p x && q x) xs ≡ true
all_both p q [] h k = refl
all_both p q (x ∷ xs) h k =
    both (p x && q x) (list_all (λ y. p y && q y) xs) (both (p x) (q x) (and_left (p x) (list_all p xs) h) (and_left (q x) (list_all q xs) k))
    (all_both p q xs (and_right (p x) (list_all p xs) h) (and_right (q x) (list_all q xs) k))
