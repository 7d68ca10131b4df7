-- Pointers in a row, of which one gets another value.
use Rattle.std.proofs.Common.{◌≡◌, ℕ, zero, suc, ◌+◌, List, drop, Some, refl, subst, sym, ◌∙◌, arith, ◌≤◌, ◌<◌, ap, true, [], ◌∷◌, leb, length, take, Option}
use Rattle.std.proofs.lemmas.Bool.{le-leb, leb-true}
use Rattle.std.specs.List.{slice_get}
use Rattle.capnp_model.specs.Coverage.{Span, times_held, Grows, span, from_each}
use Rattle.capnp_model.specs.Segments.{Segments, Place, after, words_at, place}
use Rattle.capnp_model.specs.Traversal.{each, tree_at}
use Rattle.capnp_model.specs.Trees.{Tree, Trees, with_child, child}
use Rattle.capnp_model.proofs.lemmas.Chaining.{bind_some, some_is, provided_some}
use Rattle.capnp_model.proofs.lemmas.SoundRules.{apart}
use Rattle.capnp_model_writes.specs.Changes.{Changes}
use Rattle.capnp_model_writes.specs.Footprints.{behind, footprint}
use Rattle.capnp_model_writes.proofs.lemmas.Algebra.{beside_kept}
use Rattle.capnp_model_writes.proofs.lemmas.Kept.{value_same, each_same}
use Rattle.capnp_model_writes.proofs.lemmas.Spans.{words_back, held, held_is, held_split, times_held_append}

-- ---- places

pub after_none : (p : Place) → after p 0 ≡ p
after_none p = let e : p.position + 0 ≡ p.position = omega arith in ap (place p.segment) e

pub after_sum : (p : Place) (a b c : ℕ) → a + b ≡ c → after (after p a) b ≡ after p c
after_sum p a b c h = let e : p.position + a + b ≡ p.position + c = omega (arith, h) in ap (place p.segment) e

-- ---- grown segments

pub words_grown : (s u : Segments) (p : Place) (n : ℕ) (ws : List ℕ) → Grows s u → words_at s p n ≡ Some ws → (vs : List ℕ) × (words_at u p n ≡ Some vs)
words_grown s u p n ws g e =
    let x = bind_some (slice_get s p.segment) _ ws e in
    let y = g p.segment x.0 x.1 in
    let is : slice_get u p.segment ≡ Some y.0 = y.1 in
    let fits = leb-true _ _ (provided_some _ _ _ x.2).0 in
    let l : leb (p.position + n) (length y.0) ≡ true = le-leb _ _ (omega (arith, fits, y.2)) in
    (take n (drop p.position y.0), rw (is, l) refl)

-- ---- rows

-- how often so many pointers in a row, with what lies behind them, take a word
abbrev pub row : ℕ → Segments → Place → ℕ → Place → ℕ
row n s p k q = held p k q + times_held (from_each (behind n s) p k) q

pub footprint_is : (n : ℕ) (s : Segments) (p q : Place) → footprint n s p q ≡ held p 1 q + times_held (behind n s p) q
footprint_is n s p q = held_is p 1 (behind n s p) q

pub row_next : (n : ℕ) (s : Segments) (p : Place) (k : ℕ) (q : Place) → row n s p (suc k) q ≡ footprint n s p q + row n s (after p 1) k q
row_next n s p k q =
    let e : held p (1 + k) q ≡ held p 1 q + held (after p 1) k q = held_split p 1 k q in
    let sum : suc k ≡ 1 + k = omega arith in
    let e' : held p (suc k) q ≡ held p 1 q + held (after p 1) k q = ap (λ (m : ℕ). held p m q) sum ∙ e in
    let f = footprint_is n s p q in
    let g = times_held_append (behind n s p) (from_each (behind n s) (after p 1) k) q in
    omega (arith, e', f, g)

pub child_le : (n : ℕ) (s : Segments) (p r : Place) (k i : ℕ) → r ≡ after p i → i < k → (q : Place) → footprint n s r q ≤ row n s p k q
child_le n s p r zero i e l q = absurd (omega (arith, l))
child_le n s p r (suc k) zero e l q =
    let is : footprint n s r q ≡ footprint n s p q = ap (λ (x : Place). footprint n s x q) (e ∙ after_none p) in
    omega (arith, is, row_next n s p k q)
child_le n s p r (suc k) (suc i) e l q =
    let one : 1 + i ≡ suc i = omega arith in
    omega (arith, row_next n s p k q, child_le n s (after p 1) r k i (e ∙ sym (after_sum p 1 i (suc i) one)) (omega (arith, l)) q)

pub child_read : (f : Place → Option Tree) (p r : Place) (k i : ℕ) (ts : Trees) → r ≡ after p i → i < k → each f p k ≡ Some ts → f r ≡ Some (child ts i)
child_read f p r zero i ts e l h = absurd (omega (arith, l))
child_read f p r (suc k) zero ts e l h =
    let x = bind_some (f p) _ ts h in
    let y = bind_some (each f (after p 1) k) _ ts x.2 in
    ap f (e ∙ after_none p) ∙ x.1 ∙ ap (λ (us : Trees). Some (child us 0)) (some_is _ _ y.2)
child_read f p r (suc k) (suc i) ts e l h =
    let one : 1 + i ≡ suc i = omega arith in
    let x = bind_some (f p) _ ts h in
    let y = bind_some (each f (after p 1) k) _ ts x.2 in
    child_read f (after p 1) r k i y.0 (e ∙ sym (after_sum p 1 i (suc i) one)) (omega (arith, l)) y.1 ∙ ap (λ (us : Trees). Some (child us (suc i))) (some_is _ _ y.2)

-- the value at r becomes t, and other words change with it
module _ (n : ℕ) (s u : Segments) (r : Place) (t : Tree) (c d e : Place → ℕ) (h : Changes s u c d) (le : (q : Place) → c q ≡ footprint n s r q + e q) (m : tree_at n u r ≡ Some t) where
  -- a value beside it stays
  value_beside : (p : Place) (v : Tree) → ((q : Place) → footprint n s p q + c q ≤ 1) → tree_at n s p ≡ Some v → (tree_at n u p ≡ Some v) × (behind n u p ≡ behind n s p)
  value_beside p v apart g = value_same n n s u p v (omega arith) (beside_kept s u c d (span p 1 ∷ behind n s p) h apart) g

  pub row_beside : (p : Place) (k : ℕ) (ws : List ℕ) (ts : Trees) → words_at s p k ≡ Some ws → ((q : Place) → row n s p k q + c q ≤ 1) → each (tree_at n s) p k ≡ Some ts → (each (tree_at n u) p k ≡ Some ts) × (from_each (behind n u) p k ≡ from_each (behind n s) p k)
  row_beside p k ws ts w apart g =
      each_same s u (tree_at n s) (tree_at n u) (behind n s) (behind n u) (λ q v a f. value_same n n s u q v (omega arith) a f) p k ws ts w
      (beside_kept s u c d (span p k ∷ []) h (λ q. omega (arith, apart q, held_is p k [] q))).0
      (beside_kept s u c d (from_each (behind n s) p k) h (λ q. omega (arith, apart q))) g

  pub row_replaced : (p : Place) (k i : ℕ) (ws : List ℕ) (ts : Trees) → r ≡ after p i → i < k → words_at s p k ≡ Some ws → ((q : Place) → row n s p k q + e q ≤ 1) → each (tree_at n s) p k ≡ Some ts → (each (tree_at n u) p k ≡ Some (with_child ts i t)) × ((q : Place) → row n u p k q + footprint n s r q ≡ row n s p k q + footprint n u r q)
  row_replaced p zero i ws ts ei l w apart f = absurd (omega (arith, l))
  row_replaced p (suc k) zero ws ts ei l w apart f =
      let at : r ≡ p = ei ∙ after_none p in
      let sum : suc k ≡ 1 + k = omega arith in
      let w' : words_at s p (1 + k) ≡ Some ws = subst (λ (j : ℕ). words_at s p j ≡ Some ws) sum w in
      let x = bind_some (tree_at n s p) _ ts f in
      let y = bind_some (each (tree_at n s) (after p 1) k) _ ts x.2 in
      let beside = row_beside (after p 1) k _ y.0 (words_back s p 1 k ws w') (λ q. (let same : footprint n s r q ≡ footprint n s p q = ap (λ (z : Place). footprint n s z q) at in omega (arith, apart q, row_next n s p k q, same, le q))) y.1 in
      let new : tree_at n u p ≡ Some t = subst (λ (z : Place). tree_at n u z ≡ Some t) at m in
      let rest : each (tree_at n u) (after p 1) k ≡ Some y.0 = beside.0 in (
        rw (new, rest) (ap (λ (us : Trees). Some (with_child us 0 t)) (some_is _ _ y.2)),
        λ q. (
            let same : footprint n s r q ≡ footprint n s p q = ap (λ (z : Place). footprint n s z q) at in
            let same' : footprint n u r q ≡ footprint n u p q = ap (λ (z : Place). footprint n u z q) at in
            let tail : times_held (from_each (behind n u) (after p 1) k) q ≡ times_held (from_each (behind n s) (after p 1) k) q = ap (λ (xs : List Span). times_held xs q) beside.1 in
            omega (arith, row_next n s p k q, row_next n u p k q, same, same', tail)
            ),
      )
  row_replaced p (suc k) (suc i) ws ts ei l w apart f =
      let one : 1 + i ≡ suc i = omega arith in
      let at : r ≡ after (after p 1) i = ei ∙ sym (after_sum p 1 i (suc i) one) in
      let sum : suc k ≡ 1 + k = omega arith in
      let w' : words_at s p (1 + k) ≡ Some ws = subst (λ (j : ℕ). words_at s p j ≡ Some ws) sum w in
      let x = bind_some (tree_at n s p) _ ts f in
      let y = bind_some (each (tree_at n s) (after p 1) k) _ ts x.2 in
      let beside = value_beside p x.0 (λ q. omega (arith, apart q, le q, row_next n s p k q, child_le n s (after p 1) r k i at (omega (arith, l)) q)) x.1 in
      let inner = row_replaced (after p 1) k i _ y.0 at (omega (arith, l)) (words_back s p 1 k ws w') (λ q. omega (arith, apart q, row_next n s p k q)) y.1 in
      let head : tree_at n u p ≡ Some x.0 = beside.0 in
      let rest : each (tree_at n u) (after p 1) k ≡ Some (with_child y.0 i t) = inner.0 in (
        rw (head, rest) (ap (λ (us : Trees). Some (with_child us (suc i) t)) (some_is _ _ y.2)),
        λ q. (
            let same : footprint n u p q ≡ footprint n s p q = ap (λ (xs : List Span). times_held (span p 1 ∷ xs) q) beside.1 in
            omega (arith, row_next n s p k q, row_next n u p k q, same, inner.1 q)
            ),
      )
