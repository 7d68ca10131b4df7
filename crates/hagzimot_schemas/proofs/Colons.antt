-- What stands behind the last colon of a name.
use Rattle.std.proofs.Common.{◌≡◌, ℕ, suc, ◌+◌, ◌<◌, ◌==◌, Bool, true, false, not, ◌||◌, cond, List, [], ◌∷◌, length, drop, refl, ap, sym, ◌∙◌, arith}
use Rattle.std.specs.List.{list_any, position_or_len, after_first}
use Rattle.hagzimot_schemas.specs.Nodes.{behind_colons}

abbrev is_colon : ℕ → Bool
is_colon b = b == 58

any_colon : (bs : List ℕ) → position_or_len is_colon bs < length bs → list_any is_colon bs ≡ true
any_colon [] h = absurd (omega (arith, h))
any_colon (b ∷ bs) h = by (is_colon b) h (any_colon bs)
  where
    by : (t : Bool) → cond (not t) (1 + position_or_len is_colon bs) 0 < length (b ∷ bs) → (position_or_len is_colon bs < length bs → list_any is_colon bs ≡ true) → (t || list_any is_colon bs) ≡ true
    by true h rest = refl
    by false h rest = rest (omega (arith, h))

no_colon : (bs : List ℕ) → position_or_len is_colon bs ≡ length bs → list_any is_colon bs ≡ false
no_colon [] h = refl
no_colon (b ∷ bs) h = by (is_colon b) h (no_colon bs)
  where
    by : (t : Bool) → cond (not t) (1 + position_or_len is_colon bs) 0 ≡ length (b ∷ bs) → (position_or_len is_colon bs ≡ length bs → list_any is_colon bs ≡ false) → (t || list_any is_colon bs) ≡ false
    by true h rest = absurd (omega (arith, h))
    by false h rest = rest (omega (arith, h))

onward : (b : ℕ) (bs : List ℕ) (n : ℕ) → drop (1 + n + 1) (b ∷ bs) ≡ drop (n + 1) bs
onward b bs n = let e : 1 + n + 1 ≡ suc (n + 1) = omega arith in ap (λ k. drop k (b ∷ bs)) e

-- a name with a colon is cut behind its first
pub colon_cut : (bs : List ℕ) → position_or_len is_colon bs < length bs → behind_colons bs ≡ behind_colons (after_first is_colon bs)
unfolding behind_colons
colon_cut [] h = absurd (omega (arith, h))
colon_cut (b ∷ bs) h = by (is_colon b) h (any_colon bs) (colon_cut bs)
  where
    by : (t : Bool) → cond (not t) (1 + position_or_len is_colon bs) 0 < length (b ∷ bs) → (position_or_len is_colon bs < length bs → list_any is_colon bs ≡ true) → (position_or_len is_colon bs < length bs → behind_colons bs ≡ behind_colons (after_first is_colon bs))
        → cond (t || list_any is_colon bs) (behind_colons bs) (b ∷ bs) ≡ behind_colons (drop (cond (not t) (1 + position_or_len is_colon bs) 0 + 1) (b ∷ bs))
    by true h any rest = refl
    by false h any rest =
        let inside : position_or_len is_colon bs < length bs = omega (arith, h) in
        ap (λ t. cond t (behind_colons bs) (b ∷ bs)) (any inside) ∙ rest inside ∙ ap behind_colons (sym (onward b bs (position_or_len is_colon bs)))

-- one without a colon stands
pub no_colon_stands : (bs : List ℕ) → position_or_len is_colon bs ≡ length bs → behind_colons bs ≡ bs
unfolding behind_colons
no_colon_stands [] h = refl
no_colon_stands (b ∷ bs) h = ap (λ t. cond t (behind_colons bs) (b ∷ bs)) (no_colon (b ∷ bs) h)
