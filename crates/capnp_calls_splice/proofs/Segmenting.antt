-- Parts of words in use, and what is put in their place.
use Rattle.std.proofs.Common.{◌≡◌, ℕ, ◌+◌, ◌<◌, ◌≤◌, List, [], ◌∷◌, ◌++◌, length, take, drop, get_or, set, ap, sym, ◌∙◌, append_assoc, arith}
use Rattle.std.specs.Int.{from_le_bytes, w64}
use Rattle.std.proofs.lemmas.List.{length-append, length-take-le, length-map, take_at, drop_at, take-append-drop, take-map, drop-map, map-append, map-set, get_or-map, get_or_at, set_at, drop-drop, take-take, take-append-le}
use Rattle.capnp_wire_canonical.specs.Writes.{words_view, filled}

-- ---- the words in use, and those behind them

whole : (xs : List (List ℕ)) (n : ℕ) (x l r : List ℕ) → filled n xs ≡ x ++ (l ++ r) → words_view xs ≡ x ++ (l ++ (r ++ drop n (words_view xs)))
whole xs n x l r e =
    let z = drop n (words_view xs) in
    sym (take-append-drop n (words_view xs)) ∙ ap (λ (ws : List ℕ). ws ++ drop n (words_view xs)) e
    ∙ append_assoc x (l ++ r) (drop n (words_view xs)) ∙ ap (λ (ws : List ℕ). x ++ ws) (append_assoc l r (drop n (words_view xs)))

pub filled_length : (xs : List (List ℕ)) (n : ℕ) → n ≤ length xs → length (filled n xs) ≡ n
filled_length xs n h = length-take-le n (words_view xs) (let e = length-map xs (from_le_bytes w64) in omega arith)

-- A part of the words in use.
pub part_is : (xs : List (List ℕ)) (n a m : ℕ) (x l r : List ℕ) → filled n xs ≡ x ++ (l ++ r) → length x ≡ a → length l ≡ m → words_view (take m (drop a xs)) ≡ l
part_is xs n a m x l r e at long =
    let z = drop n (words_view xs) in
    sym (take-map (from_le_bytes w64) m (drop a xs)) ∙ ap (take m) (sym (drop-map (from_le_bytes w64) a xs) ∙ ap (drop a) (whole xs n x l r e) ∙ drop_at x (l ++ (r ++ drop n (words_view xs))) a at)
    ∙ take_at l (r ++ drop n (words_view xs)) m long

-- Other words, as many, in its place.
pub part_put : (xs ys : List (List ℕ)) (n a m : ℕ) (x l r new : List ℕ) → n ≤ length xs → filled n xs ≡ x ++ (l ++ r) → length x ≡ a → length l ≡ m → words_view ys ≡ new → length new ≡ m
    → filled n (take a xs ++ (ys ++ drop m (drop a xs))) ≡ x ++ (new ++ r)
part_put xs ys n a m x l r new room e at long is same =
    let f = from_le_bytes w64 in
    let ws = words_view xs in
    let z = drop n (words_view xs) in
    let all : words_view xs ≡ x ++ (l ++ (r ++ drop n (words_view xs))) = whole xs n x l r e in
    let front : words_view (take a xs) ≡ x = sym (take-map (from_le_bytes w64) a xs) ∙ ap (take a) all ∙ take_at x (l ++ (r ++ drop n (words_view xs))) a at in
    let back : words_view (drop m (drop a xs)) ≡ r ++ drop n (words_view xs) =
    sym (drop-map (from_le_bytes w64) m (drop a xs)) ∙ ap (drop m) (sym (drop-map (from_le_bytes w64) a xs) ∙ ap (drop a) all ∙ drop_at x (l ++ (r ++ drop n (words_view xs))) a at)
    ∙ drop_at l (r ++ drop n (words_view xs)) m long in
    let view : words_view (take a xs ++ (ys ++ drop m (drop a xs))) ≡ (x ++ (new ++ r)) ++ drop n (words_view xs) =
    map-append (from_le_bytes w64) (take a xs) (ys ++ drop m (drop a xs)) ∙ ap (λ (ws : List ℕ). ws ++ words_view (ys ++ drop m (drop a xs))) front
    ∙ ap (λ (ws : List ℕ). x ++ ws) (map-append (from_le_bytes w64) ys (drop m (drop a xs)) ∙ ap (λ (ws : List ℕ). ws ++ words_view (drop m (drop a xs))) is ∙ ap (λ (ws : List ℕ). new ++ ws) back)
    ∙ simp append_assoc in
    let count : length (x ++ (new ++ r)) ≡ n =
    length-append x (new ++ r) ∙ ap (λ (k : ℕ). length x + k) (length-append new r ∙ ap (λ (k : ℕ). k + length r) (same ∙ sym long) ∙ sym (length-append l r)) ∙ sym (length-append x (l ++ r)) ∙ sym (ap length e) ∙ filled_length xs n room in
    ap (take n) view ∙ take_at (x ++ (new ++ r)) (drop n (words_view xs)) n count

-- ---- one word

pub word_is : (xs : List (List ℕ)) (n a p w : ℕ) (x r : List ℕ) → filled n xs ≡ x ++ w ∷ r → length x ≡ a → a < length xs → p ≡ from_le_bytes w64 (get_or xs a []) → p ≡ w
word_is xs n a p w x r e at inside is =
    is ∙ sym (get_or-map (from_le_bytes w64) xs a [] 0 inside) ∙ ap (λ (ws : List ℕ). get_or ws a 0) (whole xs n x (w ∷ []) r e) ∙ get_or_at x w (r ++ drop n (words_view xs)) 0 a at

pub word_put : (xs : List (List ℕ)) (n a w v : ℕ) (b : List ℕ) (x r : List ℕ) → n ≤ length xs → filled n xs ≡ x ++ w ∷ r → length x ≡ a → from_le_bytes w64 b ≡ v → filled n (set xs a b) ≡ x ++ v ∷ r
word_put xs n a w v b x r room e at is =
    let z = drop n (words_view xs) in
    let view : words_view (set xs a b) ≡ (x ++ v ∷ r) ++ drop n (words_view xs) =
    map-set (from_le_bytes w64) xs a b ∙ ap (λ (k : ℕ). set (words_view xs) a k) is ∙ ap (λ (ws : List ℕ). set ws a v) (whole xs n x (w ∷ []) r e)
    ∙ set_at x w (r ++ drop n (words_view xs)) v a at ∙ sym (append_assoc x (v ∷ r) (drop n (words_view xs))) in
    let count : length (x ++ v ∷ r) ≡ n = length-append x (v ∷ r) ∙ sym (length-append x (w ∷ r)) ∙ sym (ap length e) ∙ filled_length xs n room in
    ap (take n) view ∙ take_at (x ++ v ∷ r) (drop n (words_view xs)) n count

-- ---- words in place of more or fewer

-- Where a tail stays.
pub same_tail : (xs : List (List ℕ)) (a q : ℕ) → xs ≡ take a xs ++ (take q (drop a xs) ++ drop (a + q) xs)
same_tail xs a q =
    sym (ap (λ (ys : List (List ℕ)). take a xs ++ ys) (ap (λ (ys : List (List ℕ)). take q (drop a xs) ++ ys) (sym (drop-drop q a xs)) ∙ take-append-drop q (drop a xs)) ∙ take-append-drop a xs)

pub run_put : (xs moved ys : List (List ℕ)) (n s k m q p : ℕ) (x l r : List ℕ) → n ≤ length xs → s + m + q ≤ length xs → filled n xs ≡ x ++ (l ++ r) → length x ≡ s → length l ≡ k → s + k + q ≡ n
    → moved ≡ take (s + m) xs ++ (take q (drop (s + k) xs) ++ drop (s + m + q) xs) → length ys ≡ m → p ≡ m
    → filled (s + m + q) (take s moved ++ (ys ++ drop p (drop s moved))) ≡ x ++ (words_view ys ++ r)
run_put xs moved ys n s k m q p x l r room more e at long sum is size same =
    let f = from_le_bytes w64 in
    let ws = words_view xs in
    let z = drop n (words_view xs) in
    let t : List ℕ = take q (drop (s + k) (words_view xs)) ++ drop (s + m + q) (words_view xs) in
    let count : length (words_view xs) ≡ length xs = length-map xs (from_le_bytes w64) in
    let all : words_view xs ≡ x ++ (l ++ (r ++ drop n (words_view xs))) = whole xs n x l r e in
    let rest : length r ≡ q = (let a = length-append x (l ++ r) in let b = length-append l r in let d = ap length e in let g = filled_length xs n room in omega arith) in
    let first : take s (words_view xs) ≡ x = ap (take s) all ∙ take_at x (l ++ (r ++ drop n (words_view xs))) s at in
    let edge : length (x ++ l) ≡ s + k = length-append x l ∙ (omega arith) in
    let tail : take q (drop (s + k) (words_view xs)) ≡ r =
    ap (take q) (ap (drop (s + k)) (all ∙ sym (append_assoc x l (r ++ drop n (words_view xs)))) ∙ drop_at (x ++ l) (r ++ drop n (words_view xs)) (s + k) edge) ∙ take_at r (drop n (words_view xs)) q rest in
    let view : words_view moved ≡ take (s + m) (words_view xs) ++ t =
    ap words_view is ∙ map-append (from_le_bytes w64) (take (s + m) xs) (take q (drop (s + k) xs) ++ drop (s + m + q) xs)
    ∙ ap (λ (vs : List ℕ). vs ++ words_view (take q (drop (s + k) xs) ++ drop (s + m + q) xs)) (sym (take-map (from_le_bytes w64) (s + m) xs))
    ∙ ap (λ (vs : List ℕ). take (s + m) (words_view xs) ++ vs) (map-append (from_le_bytes w64) (take q (drop (s + k) xs)) (drop (s + m + q) xs)
    ∙ ap (λ (vs : List ℕ). vs ++ words_view (drop (s + m + q) xs)) (sym (take-map (from_le_bytes w64) q (drop (s + k) xs)) ∙ ap (take q) (sym (drop-map (from_le_bytes w64) (s + k) xs)))
    ∙ ap (λ (vs : List ℕ). take q (drop (s + k) (words_view xs)) ++ vs) (sym (drop-map (from_le_bytes w64) (s + m + q) xs))) in
    let wide : length (take (s + m) (words_view xs)) ≡ s + m = length-take-le (s + m) (words_view xs) (omega arith) in
    let front : words_view (take s moved) ≡ x =
    sym (take-map (from_le_bytes w64) s moved) ∙ ap (take s) view ∙ take-append-le s (take (s + m) (words_view xs)) t (omega arith) ∙ take-take s (s + m) (words_view xs) (omega arith) ∙ first in
    let back : words_view (drop p (drop s moved)) ≡ t =
    ap words_view (drop-drop p s moved) ∙ sym (drop-map (from_le_bytes w64) (s + p) moved) ∙ ap (λ (j : ℕ). drop (s + j) (words_view moved)) same ∙ ap (drop (s + m)) view ∙ drop_at (take (s + m) (words_view xs)) t (s + m) wide in
    let joined : words_view (take s moved ++ (ys ++ drop p (drop s moved))) ≡ (x ++ (words_view ys ++ r)) ++ drop (s + m + q) (words_view xs) =
    map-append (from_le_bytes w64) (take s moved) (ys ++ drop p (drop s moved)) ∙ ap (λ (vs : List ℕ). vs ++ words_view (ys ++ drop p (drop s moved))) front
    ∙ ap (λ (vs : List ℕ). x ++ vs) (map-append (from_le_bytes w64) ys (drop p (drop s moved)) ∙ ap (λ (vs : List ℕ). words_view ys ++ vs) (back ∙ ap (λ (vs : List ℕ). vs ++ drop (s + m + q) (words_view xs)) tail))
    ∙ simp append_assoc in
    let used : length (x ++ (words_view ys ++ r)) ≡ s + m + q = length-append x (words_view ys ++ r) ∙ (let a = length-append (words_view ys) r in let b = length-map ys (from_le_bytes w64) in omega arith) in
    ap (take (s + m + q)) joined ∙ take_at (x ++ (words_view ys ++ r)) (drop (s + m + q) (words_view xs)) (s + m + q) used
