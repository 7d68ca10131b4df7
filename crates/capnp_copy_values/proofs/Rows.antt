-- Pointers in a row, copied one after the other.
use Rattle.std.proofs.Common.{◌≡◌, ℕ, zero, suc, ◌+◌, ◌-◌, ◌<◌, ◌≤◌, List, [], ◌++◌, Option, Some, refl, ap, sym, ◌∙◌, subst, arith}
use Rattle.std.proofs.lemmas.List.{append_assoc, append-nil}
use Rattle.capnp_model.specs.Chains.{◌>>=◌}
use Rattle.capnp_model.specs.Segments.{Segments, Place, after}
use Rattle.capnp_model.specs.Pointers.{a_struct}
use Rattle.capnp_model.specs.Trees.{Tree, structure, Trees, none, ◌▸◌, tree_count, child, with_child}
use Rattle.capnp_model.specs.Traversal.{tree_at, each}
use Rattle.capnp_model.specs.Coverage.{Grows, from_each}
use Rattle.capnp_model.specs.Visits.{Visit, visits}
use Rattle.capnp_units.specs.declared.errors.Error.{Error}
use Rattle.capnp_units.specs.declared.limiter.ReadLimiter.{ReadLimiter}
use Rattle.capnp_wire_objects.specs.Walks.{Walked}
use Rattle.capnp_model.proofs.lemmas.Chaining.{bind_some, some_is}
use Rattle.capnp_wire_objects.proofs.lemmas.Rows.{each_next, met_next, row_start, row_end}
use Rattle.capnp_wire_objects.proofs.lemmas.Walks.{walked_none, walked_both}
use Rattle.capnp_model_writes.specs.Children.{with_first}
use Rattle.capnp_model_writes.specs.Footprints.{OwnsObject}
use Rattle.capnp_model_writes.specs.Changes.{Replaces, ReplacesObject}
use Rattle.capnp_model_writes.proofs.lemmas.Algebra.{changes_nothing}
use Rattle.capnp_model_writes.proofs.lemmas.Lift.{struct_parts, child_of_struct, struct_of_child, object_replaced_owned, object_replaced_then}
use Rattle.capnp_model_writes.proofs.lemmas.Spans.{grows_same, grows_then}
use Rattle.capnp_model_writes.proofs.lemmas.Rows.{after_none, after_sum}
use Rattle.capnp_model_writes.proofs.lemmas.Turns.{struct_here, struct_next, struct_done}
use Rattle.capnp_model.proofs.lemmas.Counts.{each_count}
use Rattle.capnp_model.proofs.lemmas.Stripping.{resized_all}
use Rattle.capnp_copy_values.specs.Copies.{TakesFew, BecomesCopy, GrowsByZeros, Copied, Refused, FillsRow, LeavesRow, copy_source, limited_words, sized_at}
use Rattle.capnp_copy_values.proofs.lemmas.Filling.{value_stands}
use Rattle.capnp_copy_values.proofs.Refusals.{why_later}
use Rattle.capnp_copy_values.proofs.Taking.{takes_none, takes_both}

-- ---- trees one behind the other

pub joined : Trees → Trees → Trees
joined none us = us
joined (t ▸ ts) us = t ▸ joined ts us

pub joined_none : (ts : Trees) → joined ts none ≡ ts
unfolding joined
joined_none none = refl
joined_none (t ▸ ts) = ap (λ (xs : Trees). t ▸ xs) (joined_none ts)

joined_next : (ts : Trees) (t : Tree) (us : Trees) → joined ts (t ▸ us) ≡ joined (joined ts (t ▸ none)) us
unfolding joined
joined_next none t us = refl
joined_next (u ▸ ts) t us = ap (λ (xs : Trees). u ▸ xs) (joined_next ts t us)

joined_count : (ts : Trees) (t : Tree) (i : ℕ) → tree_count ts ≡ i → tree_count (joined ts (t ▸ none)) ≡ i + 1
unfolding joined
joined_count none t i e = omega (arith, e)
joined_count (u ▸ ts) t i e = let more : tree_count (joined ts (t ▸ none)) ≡ tree_count ts + 1 = joined_count ts t (tree_count ts) refl in omega (arith, e, more)

joined_child : (ts : Trees) (t : Tree) (i : ℕ) → tree_count ts ≡ i → child (joined ts (t ▸ none)) i ≡ t
unfolding joined
joined_child none t zero e = refl
joined_child none t (suc i) e = absurd (omega (arith, e))
joined_child (u ▸ ts) t zero e = absurd (omega (arith, e))
joined_child (u ▸ ts) t (suc i) e = joined_child ts t i (omega (arith, e))

-- what is behind the first of them isn't looked at
first_joined : (ts : Trees) (us kids : Trees) (i : ℕ) → tree_count ts ≡ i → with_first i (joined ts us) kids ≡ with_first i ts kids
unfolding joined
first_joined none us kids zero e = refl
first_joined none us kids (suc i) e = absurd (omega (arith, e))
first_joined (t ▸ ts) us kids zero e = absurd (omega (arith, e))
first_joined (t ▸ ts) us none (suc i) e = refl
first_joined (t ▸ ts) us (k ▸ kids) (suc i) e = ap (λ (xs : Trees). t ▸ xs) (first_joined ts us kids i (omega (arith, e)))

-- a child in its own place
same_child : (ts : Trees) (i : ℕ) → i < tree_count ts → with_child ts i (child ts i) ≡ ts
same_child none i l = absurd (omega (arith, l))
same_child (t ▸ ts) zero l = refl
same_child (t ▸ ts) (suc i) l = ap (λ (xs : Trees). t ▸ xs) (same_child ts i (omega (arith, l)))

-- one more that is read
each_more : (f : Place → Option Tree) (p : Place) (i : ℕ) (ts : Trees) (t : Tree) → each f p i ≡ Some ts → f (after p i) ≡ Some t → each f p (i + 1) ≡ Some (joined ts (t ▸ none))
unfolding joined
each_more f p zero ts t e g =
    let nothing : ts ≡ none = sym (some_is _ _ e) in
    let here : f p ≡ Some t = ap f (sym (after_none p)) ∙ g in
    rw (here, nothing) refl
each_more f p (suc i) ts t e g =
    let x = bind_some (f p) _ ts e in
    let y = bind_some (each f (after p 1) i) _ ts x.2 in
    let next : f (after (after p 1) i) ≡ Some t = ap f (after_sum p 1 i (suc i) (omega arith)) ∙ g in
    let more = each_more f (after p 1) i y.0 t y.1 next in
    let first : x.0 ▸ y.0 ≡ ts = some_is _ _ y.2 in
    let front = x.1 in
    let number : suc i + 1 ≡ suc (i + 1) = omega arith in
    let whole : each f p (suc (i + 1)) ≡ Some (joined (x.0 ▸ y.0) (t ▸ none)) = both x.0 (joined y.0 (t ▸ none)) front more in
    ap (each f p) number ∙ whole ∙ ap (λ (xs : Trees). Some (joined xs (t ▸ none))) first
  where
    both : (u : Tree) (us : Trees) → f p ≡ Some u → each f (after p 1) (i + 1) ≡ Some us → (f p >>= λ v. each f (after p 1) (i + 1) >>= λ vs. Some (v ▸ vs)) ≡ Some (u ▸ us)
    both u us a b = rw (a, b) refl

-- the whole row
pub row_whole : (n : ℕ) (s : Segments) (r : Place) (d k own : ℕ) (ts kids : Trees) → tree_count ts ≡ k → OwnsObject n s (a_struct r d k) (structure d own kids) → with_first k ts kids ≡ ts
row_whole n s r d k own ts kids count o = struct_done n s r d k d own ts kids o ∙ resized_all k ts count

-- ---- the row

-- the first i are copied, and paid
pub record RowSoFar (levels : ℕ) (from : Segments) (p : Place) (k i : ℕ) (s u : Segments) (r : Place) (d : ℕ) (old new : ReadLimiter) : Type 0 where
  pub first : Trees
  pub count : tree_count first ≡ i
  pub past : List Visit
  pub walked : Walked past old new
  pub path_is : from_each (visits levels from) p k ≡ past ++ from_each (visits levels from) (after p i) (k - i)
  pub grows : Grows s u
  pub takes : TakesFew s u old new
  pub read : (ts : Trees) → each (tree_at levels from) (after p i) (k - i) ≡ Some ts → each (tree_at levels from) p k ≡ Some (joined first ts)
  pub read_is : each (tree_at levels from) p i ≡ Some first
  pub made : (n own w : ℕ) (kids : Trees) → levels ≤ n → k ≤ w → OwnsObject n s (a_struct r d w) (structure d own kids) → ReplacesObject n s u (a_struct r d w) (structure d own (with_first i first kids))

module _ (levels : ℕ) (from : Segments) (p : Place) (k : ℕ) (s : Segments) (r : Place) (d : ℕ) (l : ReadLimiter) where
  f : Place → Option Tree
  f = tree_at levels from

  v : Place → List Visit
  v = visits levels from

  pub row_begun : RowSoFar levels from p k 0 s s r d l l
  unfolding joined f v
  row_begun = record {
    first = none;
    count = refl;
    past = [];
    walked = walked_none l;
    path_is = sym (row_start p k (from_each (visits levels from)));
    grows = grows_same s;
    takes = takes_none s s l refl;
    read = λ ts e. sym (row_start p k (each (tree_at levels from))) ∙ e;
    read_is = refl;
    made = λ n own w kids h l o. record { means = o.means; changes = changes_nothing s _ };
  }

  module _ (i : ℕ) (u w : Segments) (m m' : ReadLimiter) (in_row : i < k) (so : RowSoFar levels from p k i s u r d l m) where
    pub row_next : Copied (tree_at levels from (after p i)) (visits levels from (after p i)) (BecomesCopy levels u w (after (after r d) i)) (limited_words u m) (limited_words w m') → RowSoFar levels from p k (i + 1) s w r d l m'
    row_next x = record {
      first = joined so.first (x.value ▸ none);
      count = joined_count so.first x.value i so.count;
      past = so.past ++ visits levels from (after p i);
      walked = walked_both so.past (visits levels from (after p i)) l m m' so.walked x.walked;
      path_is = so.path_is ∙ ap (λ (vs : List Visit). so.past ++ vs) (met_next p i k in_row (visits levels from)) ∙ sym (append_assoc so.past (visits levels from (after p i)) (from_each (visits levels from) (after p (i + 1)) (k - (i + 1))));
      grows = grows_then s u w so.grows x.grows;
      takes = takes_both s u w l m m' so.takes x.takes;
      read = λ ts e. so.read (x.value ▸ ts) (each_next p i k in_row (tree_at levels from) ∙ found x.value ts x.there_is e) ∙ ap (λ (us : Trees). Some us) (more x.value ts);
      read_is = each_more (tree_at levels from) p i so.first x.value so.read_is x.there_is;
      made = λ n own w' kids h l o. (
          let now = so.made n own w' kids h l o in
          let in_all : i < w' = omega (arith, in_row, l) in
          let first = joined so.first (x.value ▸ none) in
          let same : with_first i (joined so.first (x.value ▸ none)) kids ≡ with_first i so.first kids = first_joined so.first (x.value ▸ none) kids i so.count in
          let before : ReplacesObject n s u (a_struct r d w') (structure d own (with_first i (joined so.first (x.value ▸ none)) kids)) = subst (λ (ts : Trees). ReplacesObject n s u (a_struct r d w') (structure d own ts)) (sym same) now in
          let slot = struct_here n s u r d w' i d own (joined so.first (x.value ▸ none)) kids in_all o before in
          let one = x.made n _ h slot in
          let one' : Replaces n u w (after (after r d) i) (child (joined so.first (x.value ▸ none)) i) = subst (Replaces n u w (after (after r d) i)) (sym (joined_child so.first x.value i so.count)) one in
          let all = struct_next n s u w r d w' i d own (joined so.first (x.value ▸ none)) kids in_all o before one' in
          let number : suc i ≡ i + 1 = omega arith in
          subst (λ (j : ℕ). ReplacesObject n s w (a_struct r d w') (structure d own (with_first j (joined so.first (x.value ▸ none)) kids))) number all
          );
    }
      where
        found : (t : Tree) (ts : Trees) → tree_at levels from (after p i) ≡ Some t → each (tree_at levels from) (after p (i + 1)) (k - (i + 1)) ≡ Some ts → (tree_at levels from (after p i) >>= λ t. each (tree_at levels from) (after p (i + 1)) (k - (i + 1)) >>= λ ts. Some (t ▸ ts)) ≡ Some (t ▸ ts)
        found t ts e g = rw (e, g) refl

        more : (t : Tree) (ts : Trees) → joined so.first (t ▸ ts) ≡ joined (joined so.first (t ▸ none)) ts
        more t ts = joined_next so.first t ts

    -- a child that is refused leaves the row as it was
    pub row_stopped : (e : Error) → Refused from (visits levels from (after p i)) (GrowsByZeros u w) (limited_words u m) e (limited_words w m') → Refused from (from_each (visits levels from) p k) (LeavesRow (copy_source levels from p) s w (sized_at r d k)) (limited_words s l) e (limited_words w m')
    row_stopped e x = record {
      left = record {
        grows = grows_then s u w so.grows x.left.grows;
        copied = i;
        few = omega (arith, in_row);
        read = so.first;
        read_is = so.read_is;
        left = λ n own w' kids h few o. (
            let now = so.made n own w' kids h few o in
            let in_all : i < w' = omega (arith, in_row, few) in
            let mine = object_replaced_owned n s u (a_struct r d w') _ _ o now in
            let slot = child_of_struct n u r d w' i d own (with_first i so.first kids) in_all mine in
            let stands = value_stands n u w (after (after r d) i) (child (with_first i so.first kids) i) slot x.left in
            let next = struct_of_child n u w r d w' i d own (with_first i so.first kids) (child (with_first i so.first kids) i) in_all mine stands in
            let many = each_count (tree_at n u) (after r d) w' (with_first i so.first kids) (struct_parts n u r d w' d own (with_first i so.first kids) mine.means).1.kids_are in
            let unchanged = same_child (with_first i so.first kids) i (omega (arith, in_all, many)) in
            object_replaced_then n s u w (a_struct r d w') _ _ now (subst (λ (ts : Trees). ReplacesObject n u w (a_struct r d w') (structure d own ts)) unchanged next)
            );
      };
      takes = takes_both s u w l m m' so.takes x.takes;
      why = why_later from so.past (visits levels from (after p i)) (from_each (visits levels from) p k) (from_each (visits levels from) (after p (i + 1)) (k - (i + 1))) w w l m m' e
          (so.path_is ∙ ap (λ (vs : List Visit). so.past ++ vs) (met_next p i k in_row (visits levels from))) refl so.walked x.why;
    }

  pub row_ended : (i : ℕ) (u : Segments) (m : ReadLimiter) → i ≡ k → RowSoFar levels from p k i s u r d l m → Copied (each (tree_at levels from) p k) (from_each (visits levels from) p k) (FillsRow levels s u (sized_at r d k)) (limited_words s l) (limited_words u m)
  row_ended i u m all so =
      let past : k ≤ i = omega (arith, all) in
      let nothing : each (tree_at levels from) (after p i) (k - i) ≡ Some none = row_end k i (each (tree_at levels from) (after p i)) past in
      let no_more : from_each (visits levels from) (after p i) (k - i) ≡ [] = row_end k i (from_each (visits levels from) (after p i)) past in
      let whole : from_each (visits levels from) p k ≡ so.past = so.path_is ∙ ap (λ (vs : List Visit). so.past ++ vs) no_more ∙ append-nil so.past in
      record {
        value = so.first;
        there_is = so.read none nothing ∙ ap (λ (ts : Trees). Some ts) (joined_none so.first);
        walked = subst (λ (vs : List Visit). Walked vs l m) (sym whole) so.walked;
        grows = so.grows;
        takes = so.takes;
        made = record {
          count = so.count ∙ all;
          first = λ n own w kids h l o. subst (λ (j : ℕ). ReplacesObject n s u (a_struct r d w) (structure d own (with_first j so.first kids))) all (so.made n own w kids h l o);
        };
      }
