-- Spans of words: how often they hold a word, and what is there.
use Rattle.std.proofs.Common.{◌≡◌, ℕ, zero, suc, ◌+◌, ◌<◌, ◌≤◌, true, false, cond, leb, List, [], ◌∷◌, ◌++◌, length, take, drop, Option, Some, None, refl, ap, sym, ◌∙◌, arith}
use Rattle.std.specs.List.{slice_get}
use Rattle.std.specs.Option.{is_some}
use Rattle.std.proofs.lemmas.Bool.{le-leb, leb-true}
use Rattle.std.proofs.lemmas.Bool.Decides.{nat_tests}
use Rattle.std.proofs.lemmas.List.{drop-drop, drop-take, take-take}
use Rattle.std.proofs.Math.Seq.{take-add}
use Rattle.capnp_model.specs.Segments.{Segments, Place, after, word_at, words_at}
use Rattle.capnp_model.specs.Coverage.{Span, span, holds, times_held, Keeps, Grows}
use Rattle.capnp_model.proofs.lemmas.Chaining.{bind_some, provided_some, some_is}
use Rattle.capnp_model_writes.specs.Changes.{absent}

-- ---- counts

pub times_held_append : (xs ys : List Span) (q : Place) → times_held (xs ++ ys) q ≡ times_held xs q + times_held ys q
times_held_append [] ys q = omega arith
times_held_append (x ∷ xs) ys q = let rest = times_held_append xs ys q in omega (arith, rest)

-- a word lies in so many words from a place on
pub held : Place → ℕ → Place → ℕ
held p n q = times_held (span p n ∷ []) q

pub held_is : (p : Place) (n : ℕ) (xs : List Span) (q : Place) → times_held (span p n ∷ xs) q ≡ held p n q + times_held xs q
unfolding held
held_is p n xs q = omega arith

pub held_le : (p : Place) (n : ℕ) (q : Place) → held p n q ≤ 1
unfolding held
held_le p n q = elim (holds (span p n) q) as (λ b. cond b 1 0 + 0 ≤ 1) [ true ↦ omega arith | false ↦ omega arith ]

pub held_split : (p : Place) (a b : ℕ) (q : Place) → held p (a + b) q ≡ held p a q + held (after p a) b q
unfolding held
held_split p a b q = grind (arith, nat_tests)

pub held_segment : (p : Place) (n : ℕ) (q : Place) → 0 < held p n q → p.segment ≡ q.segment
unfolding held
held_segment p n q h = grind (arith, nat_tests)

pub held_low : (p : Place) (n : ℕ) (q : Place) → 0 < held p n q → p.position ≤ q.position
unfolding held
held_low p n q h = grind (arith, nat_tests)

pub held_high : (p : Place) (n : ℕ) (q : Place) → 0 < held p n q → q.position < p.position + n
unfolding held
held_high p n q h = grind (arith, nat_tests)

pub held_in : (p : Place) (n : ℕ) (q : Place) → p.segment ≡ q.segment → p.position ≤ q.position → q.position < p.position + n → held p n q ≡ 1
unfolding held
held_in p n q e h k = grind (arith, nat_tests)

pub held_self : (p : Place) → held p 1 p ≡ 1
held_self p = held_in p 1 p refl (omega arith) (omega arith)

-- ---- what is there

pub there : (s : Segments) (q : Place) (w : ℕ) → word_at s q ≡ Some w → absent s q ≡ 0
unfolding absent
there s q w e = rw e refl

pub absent_le : (s : Segments) (q : Place) → absent s q ≤ 1
unfolding absent
absent_le s q = elim (is_some (word_at s q)) as (λ b. cond b 0 1 ≤ 1) [ true ↦ omega arith | false ↦ omega arith ]

-- a word is there, or it is absent
pub data Whether (s : Segments) (q : Place) : Type 0 where
  it_is : (w : ℕ) → word_at s q ≡ Some w → absent s q ≡ 0 → Whether s q
  it_is_not : word_at s q ≡ None → absent s q ≡ 1 → Whether s q

whether_by : (s : Segments) (q : Place) (o : Option ℕ) → word_at s q ≡ o → Whether s q
unfolding absent
whether_by s q None e = it_is_not e (rw e refl)
whether_by s q (Some w) e = it_is w e (there s q w e)

pub whether : (s : Segments) (q : Place) → Whether s q
whether s q = whether_by s q (word_at s q) refl

pub not_there : (s : Segments) (q : Place) (w : ℕ) → word_at s q ≡ Some w → word_at s q ≡ None → ⊥
not_there s q w e f = let g : Some w ≡ None = sym e ∙ f in absurd cc

-- a word of segments that grew
grown_word : (xs ys : List ℕ) (k w : ℕ) → length xs ≤ length ys → slice_get xs k ≡ Some w → (v : ℕ) × (slice_get ys k ≡ Some v)
grown_word [] ys k w l e = absurd cc
grown_word (x ∷ xs) [] k w l e = absurd (omega (arith, l))
grown_word (x ∷ xs) (y ∷ ys) zero w l e = (y, refl)
grown_word (x ∷ xs) (y ∷ ys) (suc k) w l e = grown_word xs ys k w (omega (arith, l)) e

pub still_there : (s u : Segments) (q : Place) (w : ℕ) → Grows s u → word_at s q ≡ Some w → (v : ℕ) × (word_at u q ≡ Some v)
still_there s u q w g e =
    let a = bind_some (slice_get s q.segment) _ w e in
    let b = g q.segment a.0 a.1 in
    let c = grown_word a.0 b.0 q.position w b.2 a.2 in
    let is : slice_get u q.segment ≡ Some b.0 = b.1 in
    (c.0, rw is c.1)

pub absent_shrinks : (s u : Segments) (q : Place) → Grows s u → absent u q ≤ absent s q
absent_shrinks s u q g =
    elim (whether s q) [ it_is w e z ↦ (let v = still_there s u q w g e in let z' = there u q v.0 v.1 in omega (arith, z')) | it_is_not e o ↦ (let l = absent_le u q in omega (arith, o, l)) ]

pub grows_same : (s : Segments) → Grows s s
grows_same s i xs e = (xs, e, omega arith)

pub grows_then : (s u v : Segments) → Grows s u → Grows u v → Grows s v
grows_then s u v g h i xs e =
    let a = g i xs e in
    let b = h i a.0 a.1 in
    (b.0, b.1, omega (arith, a.2, b.2))

-- ---- parts of spans

front_of : (xs : List ℕ) (k a b : ℕ) → take a (take (a + b) (drop k xs)) ≡ take a (drop k xs)
front_of xs k a b = let l : a ≤ a + b = omega arith in take-take a (a + b) (drop k xs) l

back_of : (xs : List ℕ) (k a b : ℕ) → drop a (take (a + b) (drop k xs)) ≡ take b (drop (k + a) xs)
back_of xs k a b = drop-take a b (drop k xs) ∙ ap (λ (ys : List ℕ). take b ys) (drop-drop a k xs)

pub words_front : (s : Segments) (p : Place) (a b : ℕ) (ws : List ℕ) → words_at s p (a + b) ≡ Some ws → words_at s p a ≡ Some (take a ws)
words_front s p a b ws e =
    let x = bind_some (slice_get s p.segment) _ ws e in
    let is : slice_get s p.segment ≡ Some x.0 = x.1 in
    let g = provided_some _ _ _ x.2 in
    let fits = leb-true _ _ g.0 in
    let l : leb (p.position + a) (length x.0) ≡ true = le-leb _ _ (omega (arith, fits)) in
    rw (is, l) (ap (λ (ys : List ℕ). Some ys) (sym (front_of x.0 p.position a b) ∙ ap (λ (ys : List ℕ). take a ys) g.1))

pub words_back : (s : Segments) (p : Place) (a b : ℕ) (ws : List ℕ) → words_at s p (a + b) ≡ Some ws → words_at s (after p a) b ≡ Some (drop a ws)
words_back s p a b ws e =
    let x = bind_some (slice_get s p.segment) _ ws e in
    let is : slice_get s p.segment ≡ Some x.0 = x.1 in
    let g = provided_some _ _ _ x.2 in
    let fits = leb-true _ _ g.0 in
    let l : leb (p.position + a + b) (length x.0) ≡ true = le-leb _ _ (omega (arith, fits)) in
    rw (is, l) (ap (λ (ys : List ℕ). Some ys) (sym (back_of x.0 p.position a b) ∙ ap (λ (ys : List ℕ). drop a ys) g.1))

-- two parts side by side
pub words_join : (s : Segments) (p : Place) (a b : ℕ) (xs ys : List ℕ) → words_at s p a ≡ Some xs → words_at s (after p a) b ≡ Some ys → words_at s p (a + b) ≡ Some (xs ++ ys)
words_join s p a b xs ys e f =
    let x = bind_some (slice_get s p.segment) _ xs e in
    let y = bind_some (slice_get s p.segment) _ ys f in
    let is : slice_get s p.segment ≡ Some x.0 = x.1 in
    let same : y.0 ≡ x.0 = some_is _ _ (sym y.1 ∙ x.1) in
    let g = provided_some _ _ _ x.2 in
    let h = provided_some _ _ _ y.2 in
    let fits = leb-true _ _ h.0 in
    let long : length y.0 ≡ length x.0 = ap length same in
    let l : leb (p.position + (a + b)) (length x.0) ≡ true = le-leb _ _ (omega (arith, fits, long)) in
    let back : take b (drop (p.position + a) x.0) ≡ ys = ap (λ (zs : List ℕ). take b (drop (p.position + a) zs)) (sym same) ∙ h.1 in
    rw (is, l) (ap (λ (zs : List ℕ). Some zs) (take-add a b (drop p.position x.0) ∙ ap (λ (zs : List ℕ). zs ++ take b (drop a (drop p.position x.0))) g.1 ∙ ap (λ (zs : List ℕ). xs ++ take b zs) (drop-drop a p.position x.0) ∙ ap (λ (zs : List ℕ). xs ++ zs) back))

pub keeps_front : (s u : Segments) (p : Place) (a b : ℕ) (ws : List ℕ) → words_at s p (a + b) ≡ Some ws → Keeps s u (span p (a + b)) → Keeps s u (span p a)
keeps_front s u p a b ws e k vs f =
    let is : take a ws ≡ vs = some_is _ _ (sym (words_front s p a b ws e) ∙ f) in
    words_front u p a b ws (k ws e) ∙ ap (λ (ys : List ℕ). Some ys) is

pub keeps_back : (s u : Segments) (p : Place) (a b : ℕ) (ws : List ℕ) → words_at s p (a + b) ≡ Some ws → Keeps s u (span p (a + b)) → Keeps s u (span (after p a) b)
keeps_back s u p a b ws e k vs f =
    let is : drop a ws ≡ vs = some_is _ _ (sym (words_back s p a b ws e) ∙ f) in
    words_back u p a b ws (k ws e) ∙ ap (λ (ys : List ℕ). Some ys) is
