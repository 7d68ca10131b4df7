-- The pointers of a row that move one after the other.
use Rattle.std.proofs.Common.{◌≡◌, ℕ, zero, suc, ◌+◌, ◌-◌, ◌*◌, ◌<◌, ◌≤◌, List, [], ◌∷◌, ◌++◌, Option, Some, None, Ok, refl, ap, ◌∙◌, subst, arith}
use Rattle.std.specs.Option.{ok_or}
use Rattle.capnp_model.specs.Kinds.{OutOfBounds}
use Rattle.capnp_model.specs.Segments.{Segments, Place, place, after, word_at}
use Rattle.capnp_model.specs.Pointers.{Object, Found, found_at}
use Rattle.capnp_model.specs.Trees.{Tree, null, Trees, none, child, with_child, tree_count, resized}
use Rattle.capnp_model.specs.Traversal.{tree_at}
use Rattle.capnp_model.specs.Coverage.{Span, span}
use Rattle.capnp_model.proofs.lemmas.Chaining.{bind_found, bind_ok, ok_or_some}
use Rattle.capnp_wire_objects.specs.Places.{place_view}
use Rattle.capnp_wire_objects.specs.declared.place.Place as code
use Rattle.capnp_model_writes.specs.Children.{with_first}
use Rattle.capnp_model_writes.specs.Detached.{Detached}
use Rattle.capnp_model_writes.specs.Rows.{IsRowOf}
use Rattle.capnp_model_writes.proofs.lemmas.Detached.{detached_owns, detached_split, detached_fewer}
use Rattle.capnp_model_writes.proofs.lemmas.Lift.{object_of_pointer}
use Rattle.capnp_model_writes.proofs.lemmas.PointerRows.{row_movable, row_moved}
use Rattle.capnp_model_writes.proofs.lemmas.Rows.{after_sum}
use Rattle.capnp_model_writes.proofs.lemmas.SpareMoves.{detached_swapped}
use Rattle.capnp_model_writes.proofs.lemmas.Turns.{first_here, first_next, first_all, first_wider}
use Rattle.capnp_model.proofs.lemmas.TrimmedKinds.{no_child}
use Rattle.capnp_copy_arenas.proofs.lemmas.Parts.{section_there}
use Rattle.capnp_model.proofs.lemmas.Stripping.{count-resized}
use Rattle.capnp_copy_widening.specs.Moves.{pads_of, pad_from, HasPads, HasPadIfFar, IsNearPad, MovesValue, MovesRow}

-- ---- the pads that are left

unfoldable pub pads_left : Option code.Place → ℕ → ℕ → List Span
pads_left None k i = []
pads_left (Some p) k i = span (after (place_view p) (2 * i)) (2 * (k - i)) ∷ []

pub all_left_first : (pads : Option code.Place) (k : ℕ) → pads_of pads k ≡ pads_left pads k 0
unfolding pads_left
all_left_first None k = refl
all_left_first (Some p) k =
    let at : p.position ≡ p.position + 2 * 0 = omega arith in
    let many : 2 * k ≡ 2 * (k - 0) = omega arith in
    ap (λ (j : ℕ). span (place p.segment j) (2 * k) ∷ []) at ∙ ap (λ (m : ℕ). span (after (place_view p) (2 * 0)) m ∷ []) many

one_taken : (n : ℕ) (z u : Segments) (p : Place) (t v : Tree) (pads : Option code.Place) (k i : ℕ) (spare : List Span) (o : Object) → i < k → Detached n z u p t (pads_left pads k i ++ spare) o v → Detached n z u p t (pads_of (pad_from pads i) 1 ++ (pads_left pads k (suc i) ++ spare)) o v
unfolding pads_left
one_taken n z u p t v None k i spare o l h = h
one_taken n z u p t v (Some q) k i spare o l h =
    let sum : 2 * (k - i) ≡ 2 + 2 * (k - suc i) = omega (arith, l) in
    let h1 : Detached n z u p t (span (after (place_view q) (2 * i)) (2 + 2 * (k - suc i)) ∷ spare) o v = subst (λ (m : ℕ). Detached n z u p t (span (after (place_view q) (2 * i)) m ∷ spare) o v) sum h in
    let h2 = detached_split n z u p t v (after (place_view q) (2 * i)) 2 (2 * (k - suc i)) spare o h1 in
    let h3 = detached_swapped n z u p t v (span (after (after (place_view q) (2 * i)) 2) (2 * (k - suc i))) (span (after (place_view q) (2 * i)) 2) spare o h2 in
    let at : after (after (place_view q) (2 * i)) 2 ≡ after (place_view q) (2 * suc i) = after_sum (place_view q) (2 * i) 2 (2 * suc i) (omega arith) in
    subst (λ (r : Place). Detached n z u p t (span (after (place_view q) (2 * i)) 2 ∷ (span r (2 * (k - suc i)) ∷ spare)) o v) at h3

pub none_left : (n : ℕ) (z u : Segments) (p : Place) (t v : Tree) (pads : Option code.Place) (k : ℕ) (spare : List Span) (o : Object) → Detached n z u p t (pads_left pads k k ++ spare) o v → Detached n z u p t spare o v
unfolding pads_left
none_left n z u p t v None k spare o h = h
none_left n z u p t v (Some q) k spare o h = detached_fewer n z u p t v spare (span (after (place_view q) (2 * k)) (2 * (k - k))) o h

-- ---- the row

-- a value that is read has a word that leads somewhere
pub record Led (s : Segments) (p : Place) : Type 0 where
  pub word : ℕ
  pub found : Found
  pub there : word_at s p ≡ Some word
  pub leads : found_at s p ≡ Ok found

pub led : (n : ℕ) (s : Segments) (p : Place) (t : Tree) → tree_at n s p ≡ Some t → Led s p
unfolding tree_at
led zero s p t e =
    let x = bind_found (found_at s p) _ t e in
    let y = bind_ok (ok_or (word_at s p) OutOfBounds) _ x.0 x.1 in
    record { word = y.0; found = x.0; there = ok_or_some _ _ _ y.1; leads = x.1 }
led (suc n) s p t e =
    let x = bind_found (found_at s p) _ t e in
    let y = bind_ok (ok_or (word_at s p) OutOfBounds) _ x.0 x.1 in
    record { word = y.0; found = x.0; there = ok_or_some _ _ _ y.1; leads = x.1 }

-- the first i moved
pub RowSoFar : Segments → Segments → Place → Place → ℕ → Option code.Place → ℕ → Type 0
RowSoFar s u a b k pads i =
    (n m : ℕ) (z : Segments) (p : Place) (f : Found) (o : Object) (v v' : Trees → Tree) (kids : Trees) (spare : List Span)
    → k ≤ m → IsRowOf n f.object a k v → IsRowOf n o b m v' → found_at s p ≡ Ok f → Detached n z s p (v kids) (pads_of pads k ++ spare) o (v' (resized m none))
    → Detached n z u p (v (with_first i none kids)) (pads_left pads k i ++ spare) o (v' (with_first i kids (resized m none))) × (found_at u p ≡ Ok f)

pub row_none : (s : Segments) (a b : Place) (k : ℕ) (pads : Option code.Place) → RowSoFar s s a b k pads 0
unfolding RowSoFar
row_none s a b k pads = λ n m z p f o v v' kids spare l row row' e h. (subst (λ (xs : List Span). Detached n z s p (v kids) (xs ++ spare) o (v' (resized m none))) (all_left_first pads k) h, e)

pub row_next : (s u w : Segments) (a b : Place) (k : ℕ) (pads : Option code.Place) (i : ℕ) → i < k → RowSoFar s u a b k pads i → MovesValue u w (after a i) (after b i) (pads_of (pad_from pads i) 1) → RowSoFar s w a b k pads (suc i)
unfolding RowSoFar
row_next s u w a b k pads i li before moves = λ n m z p f o v v' kids spare l row row' e h. (
    let x = before n m z p f o v v' kids spare l row row' e h in
    let ks : Trees = with_first i none kids in
    let ks' : Trees = with_first i kids (resized m none) in
    let first = object_of_pointer n s p f (v kids) e (detached_owns n z s p (v kids) (v' (resized m none)) (pads_of pads k ++ spare) o h).0 in
    let count : tree_count kids ≡ k = row.counted s kids first in
    let d = one_taken n z u p (v (with_first i none kids)) (v' (with_first i kids (resized m none))) pads k i spare o li x.0 in
    let inner = object_of_pointer n u p f (v (with_first i none kids)) x.1 (detached_owns n z u p (v (with_first i none kids)) (v' (with_first i kids (resized m none))) (pads_left pads k i ++ spare) o x.0).0 in
    let mine = row.owned u (with_first i none kids) i li inner in
    let there = led n u (after a i) (child (with_first i none kids) i) mine.means in
    let empty : child (with_first i kids (resized m none)) i ≡ null = first_here i kids (resized m none) ∙ no_child m i in
    let movable = row_movable n z u p a b k m i i there.word v v' (with_first i none kids) (with_first i kids (resized m none)) (pads_of (pad_from pads i) 1) (pads_left pads k (suc i) ++ spare) f there.found o li (omega (arith, li, l)) row row' x.1 d there.there there.leads empty in
    let moved = moves n there.word there.found (child (with_first i none kids) i) movable in
    let y = row_moved n z u w p a b k m i i v v' (with_first i none kids) (with_first i kids (resized m none)) (child (with_first i none kids) i) (pads_of (pad_from pads i) 1) (pads_left pads k (suc i) ++ spare) f o li (omega (arith, li, l)) row row' x.1 d moved in
    let source : with_child (with_first i none kids) i null ≡ with_first (suc i) none kids = first_next i none kids (omega (arith, li, count)) in
    let target : with_child (with_first i kids (resized m none)) i (child (with_first i none kids) i) ≡ with_first (suc i) kids (resized m none) = ap (with_child (with_first i kids (resized m none)) i) (first_here i none kids) ∙ first_next i kids (resized m none) (omega (arith, li, l, count-resized m none)) in
    let now = subst (λ (ts : Trees). Detached n z w p (v ts) (pads_left pads k (suc i) ++ spare) o (v' (with_child (with_first i kids (resized m none)) i (child (with_first i none kids) i)))) source y.0 in
    (subst (λ (ts : Trees). Detached n z w p (v (with_first (suc i) none kids)) (pads_left pads k (suc i) ++ spare) o (v' ts)) target now, y.1)
    )

pub row_all : (s u : Segments) (a b : Place) (k : ℕ) (pads : Option code.Place) → RowSoFar s u a b k pads k → MovesRow s u a b k (pads_of pads k)
unfolding RowSoFar
row_all s u a b k pads before = λ n m z p f o v v' kids spare l row row' e h. (
    let x = before n m z p f o v v' kids spare l row row' e h in
    let first = object_of_pointer n s p f (v kids) e (detached_owns n z s p (v kids) (v' (resized m none)) (pads_of pads k ++ spare) o h).0 in
    let count : tree_count kids ≡ k = row.counted s kids first in
    let d = none_left n z u p (v (with_first k none kids)) (v' (with_first k kids (resized m none))) pads k spare o x.0 in
    let source = first_all k none kids count in
    let target = first_wider k m kids l count in
    let now = subst (λ (ts : Trees). Detached n z u p (v ts) spare o (v' (with_first k kids (resized m none)))) source d in
    (subst (λ (ts : Trees). Detached n z u p (v (resized k none)) spare o (v' ts)) target now, x.1)
    )

-- ---- what the call of one move asks

pub one_pad : (s : Segments) (pads : Option code.Place) (k i : ℕ) → i < k → HasPads s pads k → HasPads s (pad_from pads i) 1
one_pad s None k i l h = tt
one_pad s (Some p) k i l h = (section_there s (place_view p) (2 * i) 2 (2 * k) (omega (arith, l)) h.0, (let n = h.1 in omega (arith, l, n)))

pub near_pad : (s : Segments) (pads : Option code.Place) (k i : ℕ) → i < k → HasPads s pads k → IsNearPad pads i
near_pad s None k i l h = tt
near_pad s (Some p) k i l h = let n = h.1 in omega (arith, l, n)

pub reached_pad : (pads : Option code.Place) (i a b : ℕ) → HasPadIfFar pads a b → HasPadIfFar (pad_from pads i) a b
reached_pad None i a b h = h
reached_pad (Some p) i a b h = tt
