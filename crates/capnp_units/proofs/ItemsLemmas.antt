-- The items of a list by index.
use Rattle.std.proofs.Common.{◌≡◌, ℕ, zero, suc, ◌+◌, ◌-◌, ◌<◌, ◌≤◌, [], ◌∷◌, ◌++◌, length, drop, refl, ap, ◌∙◌, arith, add-zero}
use Rattle.std.specs.List.{slice_get}
use Rattle.std.specs.declared.option.Option.TheVariants.{Some, None}
use Rattle.capnp_units.specs.Items.{items_from}

pub length_items : {T : Type 0} (at : ℕ → T) (i n : ℕ) → length (items_from at i n) ≡ n
length_items at i zero = refl
length_items at i (suc n) = let h = length_items at (i + 1) n in omega (arith, h)

one_more : {T : Type 0} (at : ℕ → T) (i n : ℕ) → items_from at i (suc n) ≡ items_from at i n ++ at (i + n) ∷ []
one_more at i zero = rw add-zero refl
one_more at i (suc n) =
    let same : i + 1 + n ≡ i + suc n = omega arith in
    ap (λ xs. at i ∷ xs) (one_more at (i + 1) n) ∙ ap (λ k. at i ∷ (items_from at (i + 1) n ++ at k ∷ [])) same

-- the last of the items before an index
pub items_back : {T : Type 0} (at : ℕ → T) (i size : ℕ) → i < size → items_from at i (size - i) ≡ items_from at i (size - 1 - i) ++ at (size - 1) ∷ []
items_back at i size h =
    let count : size - i ≡ suc (size - 1 - i) = omega arith in
    let last : i + (size - 1 - i) ≡ size - 1 = omega arith in
    ap (items_from at i) count ∙ one_more at i (size - 1 - i) ∙ ap (λ k. items_from at i (size - 1 - i) ++ at k ∷ []) last

-- the item at a place among those that are left
pub item_at : {T : Type 0} (at : ℕ → T) (i n k : ℕ) → k < n → slice_get (items_from at i n) k ≡ Some (at (i + k))
item_at at i zero k h = absurd (omega arith)
item_at at i (suc n) zero h = rw add-zero refl
item_at at i (suc n) (suc k) h = let same : i + 1 + k ≡ i + suc k = omega arith in item_at at (i + 1) n k (omega arith) ∙ ap (λ j. Some (at j)) same

pub no_item_at : {T : Type 0} (at : ℕ → T) (i n k : ℕ) → n ≤ k → slice_get (items_from at i n) k ≡ None
no_item_at at i zero k h = refl
no_item_at at i (suc n) zero h = absurd (omega arith)
no_item_at at i (suc n) (suc k) h = no_item_at at (i + 1) n k (omega arith)

-- the items behind a place
behind : {T : Type 0} (at : ℕ → T) (i k n : ℕ) → drop k (items_from at i (k + n)) ≡ items_from at (i + k) n
behind at i zero n =
    let all : 0 + n ≡ n = omega arith in
    let start : i ≡ i + 0 = omega arith in
    ap (items_from at i) all ∙ ap (λ j. items_from at j n) start
behind at i (suc k) n =
    let all : suc k + n ≡ suc (k + n) = omega arith in
    let start : i + 1 + k ≡ i + suc k = omega arith in
    ap (λ m. drop (suc k) (items_from at i m)) all ∙ behind at (i + 1) k n ∙ ap (λ j. items_from at j n) start

pub items_behind : {T : Type 0} (at : ℕ → T) (i size k : ℕ) → k < size - i → drop (k + 1) (items_from at i (size - i)) ≡ items_from at (i + k + 1) (size - (i + k + 1))
items_behind at i size k h =
    let count : size - i ≡ k + 1 + (size - (i + k + 1)) = omega arith in
    let start : i + (k + 1) ≡ i + k + 1 = omega arith in
    ap (λ n. drop (k + 1) (items_from at i n)) count ∙ behind at i (k + 1) (size - (i + k + 1)) ∙ ap (λ j. items_from at j (size - (i + k + 1))) start

passed : {T : Type 0} (at : ℕ → T) (i n k : ℕ) → n ≤ k → drop k (items_from at i n) ≡ []
passed at i zero zero h = refl
passed at i zero (suc k) h = refl
passed at i (suc n) zero h = absurd (omega arith)
passed at i (suc n) (suc k) h = passed at (i + 1) n k (omega arith)

-- no item is left behind the last
pub none_behind : {T : Type 0} (at : ℕ → T) (i size k : ℕ) → size - i ≤ k → drop (k + 1) (items_from at i (size - i)) ≡ items_from at size (size - size)
none_behind at i size k h =
    let none : 0 ≡ size - size = omega arith in
    passed at i (size - i) (k + 1) (omega arith) ∙ ap (items_from at size) none
