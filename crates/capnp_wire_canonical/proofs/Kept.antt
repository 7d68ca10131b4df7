-- Words without zeros at the end, and the nulls behind them.
use Rattle.std.proofs.Common.{◌≡◌, ℕ, zero, suc, ◌+◌, ◌-◌, ◌*◌, ◌<◌, ◌≤◌, max, Bool, true, false, eqb, if◌then◌else◌, List, [], ◌∷◌, length, get_or, drop, refl, ap, sym, ◌∙◌, arith}
use Rattle.std.proofs.Math.Nat.{mul-le-mul_left}
use Rattle.std.proofs.lemmas.Bool.{ne_eqb}
use Rattle.capnp_model.specs.Segments.{Place, place, after}
use Rattle.capnp_wire_canonical.specs.Widths.{keeps, kept, widest}

keeps_zero : (w n : ℕ) → w ≡ 0 → n ≡ 0 → keeps w n ≡ 0
keeps_zero w n e f = ap (λ (k : ℕ). keeps k n) e ∙ ap (keeps 0) f

keeps_some : (w : ℕ) → (w ≡ 0 → ⊥) → keeps w 0 ≡ 1
keeps_some w h = let t : eqb w 0 ≡ false = ne_eqb w 0 h in rw t refl

pub kept_all : (ws : List ℕ) → kept (drop (length ws) ws) ≡ 0
kept_all [] = refl
kept_all (w ∷ ws) = kept_all ws

pub kept_less : (n : ℕ) (ws : List ℕ) → 0 < n → kept (drop n ws) ≡ 0 → get_or ws (n - 1) 0 ≡ 0 → kept (drop (n - 1) ws) ≡ 0
kept_less zero ws h e z = absurd (omega arith)
kept_less (suc n) ws h e z = ap (λ (j : ℕ). kept (drop j ws)) (let i : suc n - 1 ≡ n = omega arith in i) ∙ go n ws e (ap (λ (j : ℕ). get_or ws j 0) (let i : n ≡ suc n - 1 = omega arith in i) ∙ z)
  where
    go : (k : ℕ) (xs : List ℕ) → kept (drop (suc k) xs) ≡ 0 → get_or xs k 0 ≡ 0 → kept (drop k xs) ≡ 0
    go zero [] e z = refl
    go zero (x ∷ xs) e z = keeps_zero x (kept xs) z e
    go (suc k) [] e z = refl
    go (suc k) (x ∷ xs) e z = go k xs e z

pub kept_here : (n m : ℕ) (ws : List ℕ) (w : ℕ) → n ≡ m + 1 → kept (drop n ws) ≡ 0 → w ≡ get_or ws m 0 → (w ≡ 0 → ⊥) → n ≡ kept ws
kept_here n m ws w one e is some = one ∙ go m ws (ap (λ (j : ℕ). kept (drop j ws)) (let i : suc m ≡ n = omega arith in i) ∙ e) is
  where
    go : (k : ℕ) (xs : List ℕ) → kept (drop (suc k) xs) ≡ 0 → w ≡ get_or xs k 0 → k + 1 ≡ kept xs
    go zero [] e f = absurd (some f)
    go zero (x ∷ xs) e f = let first : (x ≡ 0 → ⊥) = λ z. some (f ∙ z) in (let i : zero + 1 ≡ 1 = omega arith in i) ∙ sym (ap (keeps x) e ∙ keeps_some x first)
    go (suc k) [] e f = absurd (some f)
    go (suc k) (x ∷ xs) e f =
        let rest = go k xs e f in
        let next : kept xs ≡ suc k = omega arith in
        (let i : suc k + 1 ≡ suc (suc k) = omega arith in i) ∙ sym (ap (keeps x) next)

keeps_few : (w n : ℕ) → keeps w n ≤ suc n
keeps_few w zero = by (eqb w 0)
  where
    by : (b : Bool) → (if b then 0 else 1) ≤ 1
    by true = omega arith
    by false = omega arith
keeps_few w (suc n) = omega arith

-- where all words behind are 0 no more are kept
pub kept_within : (n : ℕ) (ws : List ℕ) → kept (drop n ws) ≡ 0 → kept ws ≤ n
kept_within zero ws e = omega arith
kept_within (suc n) [] e = omega arith
kept_within (suc n) (w ∷ ws) e = let rest = kept_within n ws e in let one = keeps_few w (kept ws) in omega arith

pub kept_few : (ws : List ℕ) → kept ws ≤ length ws
kept_few ws = kept_within (length ws) ws (kept_all ws)

-- ---- the most of several

widest_below : (f : Place → ℕ) (p : Place) (width n w : ℕ) → ((i : ℕ) → i < n → f (after p (i * width)) ≤ w) → widest f p width n ≤ w
widest_below f p width zero w h = omega arith
widest_below f p width (suc n) w h =
    let z : p.position + 0 * width ≡ p.position = omega arith in
    let here : f (after p (0 * width)) ≡ f p = ap (λ (q : ℕ). f (place p.segment q)) z in
    let first = h 0 (omega arith) in
    let rest = widest_below f (after p width) width n w (λ i less.
    let there : p.position + width + i * width ≡ p.position + suc i * width = omega arith in
    let same : f (after (after p width) (i * width)) ≡ f (after p (suc i * width)) = ap (λ (q : ℕ). f (place p.segment q)) there in
    let one = h (suc i) (omega arith) in
    omega arith) in
    omega arith

widest_grows : (f : Place → ℕ) (p : Place) (width i n : ℕ) → i ≤ n → widest f p width i ≤ widest f p width n
widest_grows f p width zero n h = omega arith
widest_grows f p width (suc i) zero h = absurd (omega arith)
widest_grows f p width (suc i) (suc n) h = let rest = widest_grows f (after p width) width i n (omega arith) in omega arith

-- where the first need all that any may need, all do
pub widest_full : (f : Place → ℕ) (p : Place) (width i n w : ℕ) → ((j : ℕ) → j < n → f (after p (j * width)) ≤ w) → i ≤ n → widest f p width i ≡ w → widest f p width n ≡ w
widest_full f p width i n w h less e =
    let most = widest_below f p width n w h in
    let least = widest_grows f p width i n less in
    omega arith

widest_more : (f : Place → ℕ) (p : Place) (width n : ℕ) → widest f p width (suc n) ≡ max (widest f p width n) (f (after p (n * width)))
widest_more f p width zero = let z : p.position + 0 * width ≡ p.position = omega arith in ap (λ (q : ℕ). max (f (place p.segment q)) 0) (sym z) ∙ (let m : max (f (after p (0 * width))) 0 ≡ max 0 (f (after p (0 * width))) = omega arith in m)
widest_more f p width (suc n) =
    let rest = widest_more f (after p width) width n in
    let there : p.position + width + n * width ≡ p.position + suc n * width = omega arith in
    let last : f (after (after p width) (n * width)) ≡ f (after p (suc n * width)) = ap (λ (q : ℕ). f (place p.segment q)) there in
    ap (max (f p)) rest ∙ (let m : max (f p) (max (widest f (after p width) width n) (f (after (after p width) (n * width)))) ≡ max (max (f p) (widest f (after p width) width n)) (f (after (after p width) (n * width))) = omega arith in m)
    ∙ ap (max (max (f p) (widest f (after p width) width n))) last

pub widest_none : (f : Place → ℕ) (p : Place) (width n : ℕ) → ((q : Place) → f q ≡ 0) → widest f p width n ≡ 0
widest_none f p width zero h = refl
widest_none f p width (suc n) h = let a = h p in let b = widest_none f (after p width) width n h in omega arith

pub widest_one : (f : Place → ℕ) (p : Place) (width : ℕ) → widest f p width 1 ≡ f p
widest_one f p width = let m : max (f p) 0 ≡ f p = omega arith in m

-- each of several needs no more
pub widest_at : (f : Place → ℕ) (p : Place) (width n i : ℕ) → i < n → f (after p (i * width)) ≤ widest f p width n
widest_at f p width zero i h = absurd (omega arith)
widest_at f p width (suc n) zero h =
    let z : p.position + 0 * width ≡ p.position = omega arith in
    let here : f (after p (0 * width)) ≡ f p = ap (λ (q : ℕ). f (place p.segment q)) z in
    omega arith
widest_at f p width (suc n) (suc i) h =
    let rest = widest_at f (after p width) width n i (omega arith) in
    let there : p.position + width + i * width ≡ p.position + suc i * width = omega arith in
    let same : f (after (after p width) (i * width)) ≡ f (after p (suc i * width)) = ap (λ (q : ℕ). f (place p.segment q)) there in
    omega arith

-- one part more
pub widest_next : (f : Place → ℕ) (p : Place) (width i most r : ℕ) → most ≡ widest f p width i → r ≡ max most (f (after p (i * width))) → r ≡ widest f p width (i + 1)
widest_next f p width i most r e is =
    let one : suc i ≡ i + 1 = omega arith in
    is ∙ ap (λ (m : ℕ). max m (f (after p (i * width)))) e ∙ sym (widest_more f p width i) ∙ ap (widest f p width) one

-- one that needs all that any may need is the last to be asked
pub widest_stops : (f : Place → ℕ) (p : Place) (width i n w most r : ℕ) → ((j : ℕ) → j < n → f (after p (j * width)) ≤ w) → i < n → most ≡ widest f p width i → r ≡ max most (f (after p (i * width))) → r ≡ w → r ≡ widest f p width n
widest_stops f p width i n w most r h less e is all =
    let so_far = widest_next f p width i most r e is in
    all ∙ sym (widest_full f p width (i + 1) n w h (omega arith) (sym so_far ∙ all))

-- narrower parts take no more words
pub no_wider : (n v m d k : ℕ) → v ≤ d → m ≤ k → n * (v + m) ≤ n * (d + k)
no_wider n v m d k h j = mul-le-mul_left n (omega arith)
