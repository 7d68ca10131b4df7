-- Pointers in a row, checked one after the other.
use Rattle.std.proofs.Common.{◌≡◌, ℕ, zero, suc, ◌+◌, ◌-◌, ◌^◌, ◌<◌, ◌≤◌, ◌||◌, true, false, List, length, Option, Some, refl, ap, sym, ◌∙◌, subst, arith}
use Rattle.std.specs.Option.{is_some}
use Rattle.capnp_model.specs.Segments.{Segments, Place, place, after, words_at}
use Rattle.capnp_model.specs.Trees.{Tree, Trees, none, ◌▸◌, has_capability, have_capability}
use Rattle.capnp_model.specs.Traversal.{tree_at, each}
use Rattle.capnp_model.specs.Trimming.{trim, trim_each}
use Rattle.capnp_model.specs.Coverage.{from_each}
use Rattle.capnp_model.specs.Visits.{visits}
use Rattle.capnp_model.specs.Encoding.{body}
use Rattle.capnp_model.proofs.lemmas.Chaining.{bind_some, some_is}
use Rattle.capnp_model.proofs.lemmas.Depth.{tree_at_more}
use Rattle.capnp_model.proofs.lemmas.TrimFits.{count-trim_each}
use Rattle.capnp_units.specs.declared.errors.Error.{Error}
use Rattle.capnp_units.specs.declared.limiter.ReadLimiter.{ReadLimiter}
use Rattle.capnp_wire_objects.specs.Objects.{AreThere}
use Rattle.capnp_wire_objects.specs.Walks.{Stopped}
use Rattle.capnp_wire_objects.proofs.lemmas.Rows.{row_start, row_end, met_next, each_next}
use Rattle.capnp_model.proofs.lemmas.Counts.{each_count}
use Rattle.capnp_wire_canonical.specs.Reaches.{reach}
use Rattle.capnp_wire_canonical.specs.Standing.{Stands, StandEach, IsSmall, HasHead}
use Rattle.capnp_wire_canonical.specs.Checks.{Agrees, Differs, value_test, row_test}
use Rattle.capnp_wire_canonical.proofs.lemmas.Checking.{SoFar, Parts, begun, next, differs, stopped, ended}
use Rattle.capnp_wire_canonical.proofs.Holding.{hold_none, hold_end}
use Rattle.capnp_wire_canonical.proofs.Parts.{part_there}
use Rattle.capnp_wire_canonical.proofs.SameVisits.{or_left, or_right}
use Rattle.capnp_wire_canonical.proofs.StandingRows.{row_both, row_parts}

-- pointers in a row have with more levels the values that they have
pub each_more : (n m : ℕ) (s : Segments) (p : Place) (count : ℕ) (ts : Trees) → n ≤ m → each (tree_at n s) p count ≡ Some ts → each (tree_at m s) p count ≡ Some ts
each_more n m s p zero ts h is = is
each_more n m s p (suc count) ts h is =
    let a = bind_some (tree_at n s p) _ ts is in
    let b = bind_some (each (tree_at n s) (after p 1) count) _ ts a.2 in
    let here : tree_at m s p ≡ Some a.0 = tree_at_more n m s p a.0 h a.1 in
    let rest : each (tree_at m s) (after p 1) count ≡ Some b.0 = each_more n m s (after p 1) count b.0 h b.1 in
    rw (here, rest) b.2

-- a head further on
pub head_next : (s : Segments) (p : Place) (n head e : ℕ) (ws : List ℕ) → HasHead s p n head → is_some (words_at s (place p.segment (head + length ws)) 0) ≡ true → e ≡ head + length ws → e < 2 ^ 61 → HasHead s p n e
head_next s p n head e ws h there is near =
    let before = h.behind in
    let end : e + 0 < 2 ^ 61 = omega arith in
    record { behind = omega arith; there = (subst (λ (j : ℕ). is_some (words_at s (place p.segment j) 0) ≡ true) (sym is) there, end); whole = h.whole }

-- What stands from one of the pointers on.
abbrev pub RowFrom : Segments → Place → ℕ → ℕ → Trees → ℕ → Type 0
RowFrom s p i e ts = StandEach s (after p i) e (trim_each ts)

-- The pointers before one of them stand, with what they lead to, which is paid.
pub record RowSoFar (n : ℕ) (s : Segments) (p : Place) (count head : ℕ) (l : ReadLimiter) (i e : ℕ) (m : ReadLimiter) : Type 0 where
  pub so_far : SoFar (each (tree_at n s) p count) (each (tree_at n s) (after p i) (count - i)) (λ more. each (tree_at (more + n) s) p count) (λ more. each (tree_at (more + n) s) (after p i) (count - i)) have_capability (λ ts. StandEach s p head (trim_each ts)) (RowFrom s p i e) (from_each (visits n s) p count) (from_each (visits n s) (after p i) (count - i)) l m
  pub there : HasHead s p count e

module _ (n : ℕ) (s : Segments) (p : Place) (count head : ℕ) (l : ReadLimiter) where
  pub row_begun : HasHead s p count head → RowSoFar n s p count head l 0 head l
  row_begun there =
      let f = tree_at n s in
      let t : ℕ → Place → Option Tree = λ more. tree_at (more + n) s in
      let v = visits n s in
      let here : p.position + 0 ≡ p.position = omega arith in
      record {
        so_far = begun (each f p count) (each f (after p 0) (count - 0)) (λ more. each (t more) p count) (λ more. each (t more) (after p 0) (count - 0)) have_capability (λ ts. StandEach s p head (trim_each ts)) (RowFrom s p 0 head) (from_each v p count) (from_each v (after p 0) (count - 0)) l
            (row_start p count (each f)) (λ more. row_start p count (each (t more))) (row_start p count (from_each v))
            (λ ts end x. subst (λ (q : ℕ). StandEach s (place p.segment q) head (trim_each ts) end) here x) (λ ts end x. subst (λ (q : ℕ). StandEach s (place p.segment q) head (trim_each ts) end) (sym here) x);
        there = there;
      }

  module _ (i e : ℕ) (h : i < count) (behind : p.position + count ≤ e) where
    -- a pointer and those behind it
    next_place : p.position + i + 1 ≡ p.position + (i + 1)
    next_place = omega arith

    row_split : (more : ℕ) (z : Trees) (end : ℕ) → each (tree_at (more + n) s) (after p i) (count - i) ≡ Some z → have_capability z ≡ false → RowFrom s p i e z end
        → Parts (tree_at (more + n) s (after p i)) has_capability (λ t. Stands s (after p i) e (trim t)) (each (tree_at (more + n) s) (after p (i + 1)) (count - (i + 1))) have_capability (RowFrom s p (i + 1)) end
    unfolding has_capability trim
    row_split more z end is clean stand =
        let f = tree_at (more + n) s in
        let a = bind_some (f (after p i)) _ z (sym (each_next p i count h f) ∙ is) in
        let b = bind_some (each f (after p (i + 1)) (count - (i + 1))) _ z a.2 in
        let whole : a.0 ▸ b.0 ≡ z = some_is _ _ b.2 in
        let cleans : has_capability a.0 || have_capability b.0 ≡ false = ap have_capability whole ∙ clean in
        let long = each_count f (after p (i + 1)) (count - (i + 1)) b.0 b.1 in
        let trimmed = count-trim_each b.0 in
        let x = row_parts s (after p i) e end (trim a.0) (trim_each b.0) (omega arith) (subst (λ (ts : Trees). RowFrom s p i e ts end) (sym whole) stand) in
        record {
          first = a.0;
          first_is = a.1;
          first_clean = or_left _ _ cleans;
          others = b.0;
          others_are = b.1;
          others_clean = or_right (has_capability a.0) _ cleans;
          place = e + length (body (trim a.0));
          first_stands = x.0;
          others_stand = subst (λ (q : ℕ). StandEach s (place p.segment q) (e + length (body (trim a.0))) (trim_each b.0) end) next_place x.1;
        }

    row_join : (e' : ℕ) (t : Tree) (ts : Trees) (end : ℕ) → tree_at n s (after p i) ≡ Some t → each (tree_at n s) (after p (i + 1)) (count - (i + 1)) ≡ Some ts → has_capability t ≡ false → have_capability ts ≡ false → Stands s (after p i) e (trim t) e' → RowFrom s p (i + 1) e' ts end
        → (z : Trees) × (each (tree_at n s) (after p i) (count - i) ≡ Some z) × (have_capability z ≡ false) × RowFrom s p i e z end
    unfolding has_capability trim
    row_join e' t ts end is are clean cleans x y =
        let f = tree_at n s in
        let long = each_count f (after p (i + 1)) (count - (i + 1)) ts are in
        let trimmed = count-trim_each ts in (
          t ▸ ts,
          each_next p i count h f ∙ rw (is, are) refl,
          rw (clean, cleans) refl,
          row_both s (after p i) e end (trim t) (trim_each ts) (omega arith) e' x (subst (λ (q : ℕ). StandEach s (place p.segment q) e' (trim_each ts) end) (sym next_place) y),
        )

    ends_alike : (t : Tree) (j k : ℕ) → Stands s (after p i) e (trim t) j → Stands s (after p i) e (trim t) k → j ≡ k
    ends_alike t j k x y = x.ends ∙ sym y.ends

    -- with more levels the pointer has the value that it has
    kept : (more : ℕ) (t : Tree) → tree_at n s (after p i) ≡ Some t → tree_at (more + n) s (after p i) ≡ Some t
    kept more t is = tree_at_more n (more + n) s (after p i) t (omega arith) is

    pub row_next : (e' : ℕ) (k m : ReadLimiter) → Agrees (value_test (reach n s) (after p i) e) k e' m → RowSoFar n s p count head l i e k → RowSoFar n s p count head l (i + 1) e' m
    row_next e' k m x f =
        let g = tree_at n s in
        let t : ℕ → Place → Option Tree = λ more. tree_at (more + n) s in
        let v = visits n s in
        let stand = x.stand in
        record {
          so_far = next (each g p count) (each g (after p i) (count - i)) (each g (after p (i + 1)) (count - (i + 1))) (λ more. each (t more) p count) (λ more. each (t more) (after p i) (count - i)) (λ more. each (t more) (after p (i + 1)) (count - (i + 1))) have_capability (λ ts. StandEach s p head (trim_each ts)) (RowFrom s p i e) (RowFrom s p (i + 1))
              (g (after p i)) (λ more. t more (after p i)) has_capability (λ u. Stands s (after p i) e (trim u)) (from_each v p count) (from_each v (after p i) (count - i)) (from_each v (after p (i + 1)) (count - (i + 1))) (v (after p i)) l k m (met_next p i count h v) row_split
              (IsSmall s p) e' kept ends_alike (λ u us end is are clean cleans a b. row_join e' u us end is are clean cleans a b) x f.so_far;
          there = head_next s p count e e' (body (trim x.what)) f.there (hold_end s (place p.segment e) (body (trim x.what)) stand.targets) stand.ends x.near;
        }

    pub row_differs : (k m : ReadLimiter) → Differs (value_test (reach n s) (after p i) e) k m → RowSoFar n s p count head l i e k
        → Differs (row_test (reach n s) p count head) l m
    row_differs k m x f =
        let g = tree_at n s in
        let t : ℕ → Place → Option Tree = λ more. tree_at (more + n) s in
        let v = visits n s in
        differs (each g p count) (each g (after p i) (count - i)) (each g (after p (i + 1)) (count - (i + 1))) (λ more. each (t more) p count) (λ more. each (t more) (after p i) (count - i)) (λ more. each (t more) (after p (i + 1)) (count - (i + 1))) have_capability (λ ts. StandEach s p head (trim_each ts)) (RowFrom s p i e) (RowFrom s p (i + 1))
        (g (after p i)) (λ more. t more (after p i)) has_capability (λ u. Stands s (after p i) e (trim u)) (from_each v p count) (from_each v (after p i) (count - i)) (from_each v (after p (i + 1)) (count - (i + 1))) (v (after p i)) l k m (met_next p i count h v) row_split (IsSmall s p) x f.so_far

    pub row_stopped : (k m : ReadLimiter) (x : Error) → Stopped (visits n s (after p i)) k x m → RowSoFar n s p count head l i e k → Stopped (from_each (visits n s) p count) l x m
    row_stopped k m x w f =
        let g = tree_at n s in
        let t : ℕ → Place → Option Tree = λ more. tree_at (more + n) s in
        let v = visits n s in
        stopped (each g p count) (each g (after p i) (count - i)) (each g (after p (i + 1)) (count - (i + 1))) (λ more. each (t more) p count) (λ more. each (t more) (after p i) (count - i)) (λ more. each (t more) (after p (i + 1)) (count - (i + 1))) have_capability (λ ts. StandEach s p head (trim_each ts)) (RowFrom s p i e) (RowFrom s p (i + 1))
        (g (after p i)) (λ more. t more (after p i)) has_capability (λ u. Stands s (after p i) e (trim u)) (from_each v p count) (from_each v (after p i) (count - i)) (from_each v (after p (i + 1)) (count - (i + 1))) (v (after p i)) l k m (met_next p i count h v) row_split x w f.so_far

  pub row_ended : (i e : ℕ) (m : ReadLimiter) → i ≡ count → AreThere s p count → RowSoFar n s p count head l i e m → Agrees (row_test (reach n s) p count head) l e m
  unfolding has_capability trim
  row_ended i e m same inside f =
      let g = tree_at n s in
      let t : ℕ → Place → Option Tree = λ more. tree_at (more + n) s in
      let v = visits n s in
      let past : count ≤ i = omega arith in
      let at_end = f.there.there in
      let near = at_end.1 in
      let nothing : e ≡ e + 0 = omega arith in
      ended (each g p count) (each g (after p i) (count - i)) (λ more. each (t more) p count) (λ more. each (t more) (after p i) (count - i)) have_capability (λ ts. StandEach s p head (trim_each ts)) (RowFrom s p i e) (from_each v p count) (from_each v (after p i) (count - i)) l m (IsSmall s p) none e
      (row_end count i (each g (after p i)) past) refl (record { row = hold_none s (after p i) (part_there s p count inside.0 i 0 (omega arith)); targets = hold_none s (place p.segment e) at_end.0; ends = nothing }) (omega arith) (row_end count i (from_each v (after p i)) past) f.so_far
