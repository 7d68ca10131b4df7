-- Bytes, one after the other.
use Rattle.std.proofs.Common.{◌≡◌, ℕ, ◌-◌, ◌==◌, ◌<◌, ◌≤◌, Bool, true, false, List, [], ◌∷◌, ◌++◌, if◌then◌else◌, length, take, drop, slice_index_or, refl, ap, sym, ◌∙◌, append-nil, append_assoc, arith}
use Rattle.std.proofs.lemmas.Grind.{common_steps}
use Rattle.hagzimot_forms.specs.Ids.{is_digit_byte, digits_end, next_place, stays_told, numbers_from}
use Rattle.hagzimot_forms.specs.declared.id_numbers.Place.{Place}

pub split_off : (xs : List ℕ) → 1 ≤ length xs → xs ≡ slice_index_or xs 0 0 ∷ take (length xs - 1) (drop 1 xs)
split_off [] h = absurd (omega arith)
split_off (x ∷ xs) h = grind (arith, common_steps)

digits_at : (b : ℕ) (bytes : List ℕ) (is : Bool) → is_digit_byte b ≡ is → digits_end (b ∷ bytes) ≡ (if is then digits_end bytes else b == 34)
unfolding digits_end
digits_at b bytes is e = ap (λ (c : Bool). if c then digits_end bytes else b == 34) e

pub digit_gone : (bytes : List ℕ) → 1 ≤ length bytes → is_digit_byte (slice_index_or bytes 0 0) ≡ true → digits_end bytes ≡ digits_end (take (length bytes - 1) (drop 1 bytes))
digit_gone bytes some is = ap digits_end (split_off bytes some) ∙ digits_at _ _ true is

pub digits_stop : (bytes : List ℕ) → 1 ≤ length bytes → is_digit_byte (slice_index_or bytes 0 0) ≡ false → digits_end bytes ≡ (slice_index_or bytes 0 0 == 34)
digits_stop bytes some is = ap digits_end (split_off bytes some) ∙ digits_at _ _ false is

pub no_digits : (bytes : List ℕ) → length bytes < 1 → digits_end bytes ≡ false
unfolding digits_end
no_digits [] h = refl
no_digits (b ∷ bytes) h = absurd (omega arith)

-- the front byte is told, and those behind it
numbers_at : (p : Place) (b : ℕ) (bytes : List ℕ) (kept : Bool) → stays_told p b (next_place p b bytes) ≡ kept → numbers_from p (b ∷ bytes) ≡ (if kept then b ∷ [] else []) ++ numbers_from (next_place p b bytes) bytes
unfolding numbers_from
numbers_at p b bytes kept e = ap (λ (k : Bool). (if k then b ∷ [] else []) ++ numbers_from (next_place p b bytes) bytes) e

-- what was told before stands in front
pub told_more : (p n : Place) (told bytes : List ℕ) → 1 ≤ length bytes → n ≡ next_place p (slice_index_or bytes 0 0) (take (length bytes - 1) (drop 1 bytes)) → stays_told p (slice_index_or bytes 0 0) n ≡ true
    → (told ++ slice_index_or bytes 0 0 ∷ []) ++ numbers_from n (take (length bytes - 1) (drop 1 bytes)) ≡ told ++ numbers_from p bytes
told_more p n told bytes some next kept =
    let b = slice_index_or bytes 0 0 in
    let rest = take (length bytes - 1) (drop 1 bytes) in
    let kept_there : stays_told p b (next_place p b rest) ≡ true = ap (stays_told p b) (sym next) ∙ kept in
    append_assoc told (b ∷ []) (numbers_from n rest) ∙ ap (λ (x : Place). told ++ b ∷ numbers_from x rest) next
    ∙ ap (λ (xs : List ℕ). told ++ xs) (sym (numbers_at p b rest true kept_there) ∙ ap (numbers_from p) (sym (split_off bytes some)))

pub told_less : (p n : Place) (told bytes : List ℕ) → 1 ≤ length bytes → n ≡ next_place p (slice_index_or bytes 0 0) (take (length bytes - 1) (drop 1 bytes)) → stays_told p (slice_index_or bytes 0 0) n ≡ false
    → told ++ numbers_from n (take (length bytes - 1) (drop 1 bytes)) ≡ told ++ numbers_from p bytes
told_less p n told bytes some next kept =
    let b = slice_index_or bytes 0 0 in
    let rest = take (length bytes - 1) (drop 1 bytes) in
    let kept_there : stays_told p b (next_place p b rest) ≡ false = ap (stays_told p b) (sym next) ∙ kept in
    ap (λ (x : Place). told ++ numbers_from x rest) next
    ∙ ap (λ (xs : List ℕ). told ++ xs) (sym (numbers_at p b rest false kept_there) ∙ ap (numbers_from p) (sym (split_off bytes some)))

pub all_told : (p : Place) (told bytes : List ℕ) → length bytes < 1 → told ++ numbers_from p bytes ≡ told
unfolding numbers_from
all_told p told [] h = append-nil told
all_told p told (b ∷ bytes) h = absurd (omega arith)
