-- Related types by their sorts, bits and ids.
use Rattle.std.proofs.Common.{◌≡◌, ◌≢◌, ℕ, zero, suc, Bool, true, false, ◌&&◌, ◌==◌, refl, sym, ◌∙◌, ap, arith}
use Rattle.std.proofs.lemmas.Bool.Decides.{nat_tests}
use Rattle.capnp_model.specs.Schemas.{bool, int, uint, «enum», Ty, void, plain, text, blob, untyped, interface, struct, list, lists_of, Schema}
use Rattle.capnp_model.specs.Compatible.{Pairs, related}
use Rattle.capnp_model.proofs.lemmas.Tests.{same_number, and_true, not_zero}
use Rattle.capnp_calls_versions.specs.Types.{sort, bits, id_in, keeps_id}

test_fails : (a b : ℕ) → (a == b) ≡ false → a ≢ b
test_fails a b h = grind (arith, nat_tests)

-- no list
abbrev pub is_base : Ty → Bool
is_base (list ty) = false
is_base _ = true

-- types that are no lists are related where their sorts and bits are equal and the ids that they name are related
pub related_by_sort : (o n : Schema) (pairs : Pairs) (a b : Ty) → is_base a ≡ true → is_base b ≡ true
    → related o n pairs a b ≡ ((sort a == sort b && bits a == bits b) && keeps_id o n pairs a (id_in b))
related_by_sort o n pairs void void h k = refl
related_by_sort o n pairs void (plain bool) h k = refl
related_by_sort o n pairs void (plain (int w)) h k = refl
related_by_sort o n pairs void (plain (uint w)) h k = refl
related_by_sort o n pairs void (plain («enum» j)) h k = refl
related_by_sort o n pairs void text h k = refl
related_by_sort o n pairs void blob h k = refl
related_by_sort o n pairs void untyped h k = refl
related_by_sort o n pairs void interface h k = refl
related_by_sort o n pairs void (struct j) h k = refl
related_by_sort o n pairs void (list b) h k = absurd (cc k)
related_by_sort o n pairs (plain bool) void h k = refl
related_by_sort o n pairs (plain bool) (plain bool) h k = refl
related_by_sort o n pairs (plain bool) (plain (int w)) h k = refl
related_by_sort o n pairs (plain bool) (plain (uint w)) h k = refl
related_by_sort o n pairs (plain bool) (plain («enum» j)) h k = refl
related_by_sort o n pairs (plain bool) text h k = refl
related_by_sort o n pairs (plain bool) blob h k = refl
related_by_sort o n pairs (plain bool) untyped h k = refl
related_by_sort o n pairs (plain bool) interface h k = refl
related_by_sort o n pairs (plain bool) (struct j) h k = refl
related_by_sort o n pairs (plain bool) (list b) h k = absurd (cc k)
related_by_sort o n pairs (plain (int v)) void h k = refl
related_by_sort o n pairs (plain (int v)) (plain bool) h k = refl
related_by_sort o n pairs (plain (int v)) (plain (int w)) h k = sym (and_true (v == w))
related_by_sort o n pairs (plain (int v)) (plain (uint w)) h k = refl
related_by_sort o n pairs (plain (int v)) (plain («enum» j)) h k = refl
related_by_sort o n pairs (plain (int v)) text h k = refl
related_by_sort o n pairs (plain (int v)) blob h k = refl
related_by_sort o n pairs (plain (int v)) untyped h k = refl
related_by_sort o n pairs (plain (int v)) interface h k = refl
related_by_sort o n pairs (plain (int v)) (struct j) h k = refl
related_by_sort o n pairs (plain (int v)) (list b) h k = absurd (cc k)
related_by_sort o n pairs (plain (uint v)) void h k = refl
related_by_sort o n pairs (plain (uint v)) (plain bool) h k = refl
related_by_sort o n pairs (plain (uint v)) (plain (int w)) h k = refl
related_by_sort o n pairs (plain (uint v)) (plain (uint w)) h k = sym (and_true (v == w))
related_by_sort o n pairs (plain (uint v)) (plain («enum» j)) h k = refl
related_by_sort o n pairs (plain (uint v)) text h k = refl
related_by_sort o n pairs (plain (uint v)) blob h k = refl
related_by_sort o n pairs (plain (uint v)) untyped h k = refl
related_by_sort o n pairs (plain (uint v)) interface h k = refl
related_by_sort o n pairs (plain (uint v)) (struct j) h k = refl
related_by_sort o n pairs (plain (uint v)) (list b) h k = absurd (cc k)
related_by_sort o n pairs (plain («enum» i)) void h k = refl
related_by_sort o n pairs (plain («enum» i)) (plain bool) h k = refl
related_by_sort o n pairs (plain («enum» i)) (plain (int w)) h k = refl
related_by_sort o n pairs (plain («enum» i)) (plain (uint w)) h k = refl
related_by_sort o n pairs (plain («enum» i)) (plain («enum» j)) h k = refl
related_by_sort o n pairs (plain («enum» i)) text h k = refl
related_by_sort o n pairs (plain («enum» i)) blob h k = refl
related_by_sort o n pairs (plain («enum» i)) untyped h k = refl
related_by_sort o n pairs (plain («enum» i)) interface h k = refl
related_by_sort o n pairs (plain («enum» i)) (struct j) h k = refl
related_by_sort o n pairs (plain («enum» i)) (list b) h k = absurd (cc k)
related_by_sort o n pairs text void h k = refl
related_by_sort o n pairs text (plain bool) h k = refl
related_by_sort o n pairs text (plain (int w)) h k = refl
related_by_sort o n pairs text (plain (uint w)) h k = refl
related_by_sort o n pairs text (plain («enum» j)) h k = refl
related_by_sort o n pairs text text h k = refl
related_by_sort o n pairs text blob h k = refl
related_by_sort o n pairs text untyped h k = refl
related_by_sort o n pairs text interface h k = refl
related_by_sort o n pairs text (struct j) h k = refl
related_by_sort o n pairs text (list b) h k = absurd (cc k)
related_by_sort o n pairs blob void h k = refl
related_by_sort o n pairs blob (plain bool) h k = refl
related_by_sort o n pairs blob (plain (int w)) h k = refl
related_by_sort o n pairs blob (plain (uint w)) h k = refl
related_by_sort o n pairs blob (plain («enum» j)) h k = refl
related_by_sort o n pairs blob text h k = refl
related_by_sort o n pairs blob blob h k = refl
related_by_sort o n pairs blob untyped h k = refl
related_by_sort o n pairs blob interface h k = refl
related_by_sort o n pairs blob (struct j) h k = refl
related_by_sort o n pairs blob (list b) h k = absurd (cc k)
related_by_sort o n pairs untyped void h k = refl
related_by_sort o n pairs untyped (plain bool) h k = refl
related_by_sort o n pairs untyped (plain (int w)) h k = refl
related_by_sort o n pairs untyped (plain (uint w)) h k = refl
related_by_sort o n pairs untyped (plain («enum» j)) h k = refl
related_by_sort o n pairs untyped text h k = refl
related_by_sort o n pairs untyped blob h k = refl
related_by_sort o n pairs untyped untyped h k = refl
related_by_sort o n pairs untyped interface h k = refl
related_by_sort o n pairs untyped (struct j) h k = refl
related_by_sort o n pairs untyped (list b) h k = absurd (cc k)
related_by_sort o n pairs interface void h k = refl
related_by_sort o n pairs interface (plain bool) h k = refl
related_by_sort o n pairs interface (plain (int w)) h k = refl
related_by_sort o n pairs interface (plain (uint w)) h k = refl
related_by_sort o n pairs interface (plain («enum» j)) h k = refl
related_by_sort o n pairs interface text h k = refl
related_by_sort o n pairs interface blob h k = refl
related_by_sort o n pairs interface untyped h k = refl
related_by_sort o n pairs interface interface h k = refl
related_by_sort o n pairs interface (struct j) h k = refl
related_by_sort o n pairs interface (list b) h k = absurd (cc k)
related_by_sort o n pairs (struct i) void h k = refl
related_by_sort o n pairs (struct i) (plain bool) h k = refl
related_by_sort o n pairs (struct i) (plain (int w)) h k = refl
related_by_sort o n pairs (struct i) (plain (uint w)) h k = refl
related_by_sort o n pairs (struct i) (plain («enum» j)) h k = refl
related_by_sort o n pairs (struct i) text h k = refl
related_by_sort o n pairs (struct i) blob h k = refl
related_by_sort o n pairs (struct i) untyped h k = refl
related_by_sort o n pairs (struct i) interface h k = refl
related_by_sort o n pairs (struct i) (struct j) h k = refl
related_by_sort o n pairs (struct i) (list b) h k = absurd (cc k)
related_by_sort o n pairs (list a) b h k = absurd (cc h)

zero_and_more : (d : ℕ) → (0 == suc d) ≡ false
zero_and_more d = grind (arith, nat_tests)

both_more : (c d : ℕ) → (c == d) ≡ (suc c == suc d)
both_more c d = by (c == d) (suc c == suc d) refl refl
  where
    by : (x y : Bool) → (c == d) ≡ x → (suc c == suc d) ≡ y → x ≡ y
    by true true p q = refl
    by false false p q = refl
    by true false p q = absurd (omega (arith, same_number c d p, test_fails (suc c) (suc d) q))
    by false true p q = absurd (omega (arith, same_number (suc c) (suc d) q, test_fails c d p))

-- lists of types are related where they are as deep and the types are
pub related_lists : (o n : Schema) (pairs : Pairs) (c d : ℕ) (a b : Ty) → is_base a ≡ true → is_base b ≡ true
    → related o n pairs (lists_of c a) (lists_of d b) ≡ (c == d && related o n pairs a b)
related_lists o n pairs zero zero a b h k = refl
related_lists o n pairs zero (suc d) a b h k = no_list a (lists_of d b) h ∙ ap (λ x. x && related o n pairs a b) (sym (zero_and_more d))
  where
    no_list : (x y : Ty) → is_base x ≡ true → related o n pairs x (list y) ≡ false
    no_list void y g = refl
    no_list (plain bool) y g = refl
    no_list (plain (int v)) y g = refl
    no_list (plain (uint v)) y g = refl
    no_list (plain («enum» i)) y g = refl
    no_list text y g = refl
    no_list blob y g = refl
    no_list untyped y g = refl
    no_list interface y g = refl
    no_list (struct i) y g = refl
    no_list (list x) y g = absurd (cc g)
related_lists o n pairs (suc c) zero a b h k = no_list (lists_of c a) b k ∙ ap (λ x. x && related o n pairs a b) (sym (not_zero c))
  where
    no_list : (x y : Ty) → is_base y ≡ true → related o n pairs (list x) y ≡ false
    no_list x void g = refl
    no_list x (plain bool) g = refl
    no_list x (plain (int v)) g = refl
    no_list x (plain (uint v)) g = refl
    no_list x (plain («enum» i)) g = refl
    no_list x text g = refl
    no_list x blob g = refl
    no_list x untyped g = refl
    no_list x interface g = refl
    no_list x (struct i) g = refl
    no_list x (list y) g = absurd (cc g)
related_lists o n pairs (suc c) (suc d) a b h k = related_lists o n pairs c d a b h k ∙ ap (λ x. x && related o n pairs a b) (both_more c d)
