-- The structs of a list, copied one after the other, or all as one slice.
use Rattle.std.proofs.Common.{◌≡◌, ℕ, zero, suc, ◌+◌, ◌-◌, ◌*◌, ◌<◌, ◌≤◌, true, List, [], ◌∷◌, ◌++◌, length, take, drop, Option, Some, Ok, refl, ap, sym, ◌∙◌, subst, arith}
use Rattle.std.specs.Option.{is_some}
use Rattle.std.specs.Result.{result_ok}
use Rattle.std.proofs.Math.Nat.{mul-le-mul_right}
use Rattle.std.proofs.lemmas.List.{append_assoc, append-nil, take-take, drop-take, length-take, take_all}
use Rattle.capnp_model.specs.Chains.{◌>>=◌}
use Rattle.capnp_model.specs.Sections.{section_of}
use Rattle.capnp_model.specs.Segments.{Segments, Place, after, words_at}
use Rattle.capnp_model.specs.Pointers.{a_struct, a_list}
use Rattle.capnp_model.specs.Trees.{Tree, structure, struct_list, Trees, none, Elements, no_elements, element, element_count}
use Rattle.capnp_model.specs.Traversal.{Tag, tag_in, tree_at, each, each_element}
use Rattle.capnp_model.specs.Coverage.{Span, span, times_held, Grows, from_each, from_elements, covered_tag, covered_object}
use Rattle.capnp_model.specs.Visits.{Visit, visits}
use Rattle.capnp_model.proofs.lemmas.Chaining.{some_is}
use Rattle.capnp_units.specs.declared.errors.Error.{Error}
use Rattle.capnp_units.specs.declared.limiter.ReadLimiter.{ReadLimiter}
use Rattle.capnp_wire_objects.specs.Inside.{words_there}
use Rattle.capnp_wire_objects.specs.Walks.{Walked}
use Rattle.capnp_wire_objects.proofs.lemmas.Rows.{element_next, elements_met_next, elements_start, row_end, nothing_met, plain_elements_read}
use Rattle.capnp_wire_objects.proofs.lemmas.Walks.{walked_none, walked_both}
use Rattle.capnp_model_writes.specs.Children.{with_first_elements}
use Rattle.capnp_model_writes.specs.Elements.{element_at, with_element}
use Rattle.capnp_model_writes.specs.Footprints.{behind, object_footprint, OwnsObject}
use Rattle.capnp_model_writes.specs.Changes.{ReplacesObject}
use Rattle.capnp_model_writes.specs.Writes.{with_words}
use Rattle.capnp_model_writes.proofs.lemmas.Algebra.{changes_nothing}
use Rattle.capnp_model_writes.proofs.lemmas.Cells.{ElementParts, element_parts, list_of_parts, tag_alike, list_of_element}
use Rattle.capnp_model_writes.proofs.lemmas.Lift.{object_replaced_owned, object_replaced_then}
use Rattle.capnp_model_writes.proofs.lemmas.Rows.{after_none}
use Rattle.capnp_model_writes.proofs.lemmas.Spans.{held, held_is, grows_same, grows_then}
use Rattle.capnp_model_writes.proofs.lemmas.Splices.{Rewrites, splice_rewrites, splice_words, splice_grows}
use Rattle.capnp_model_writes.proofs.lemmas.Turns.{structs_here, structs_next, elements_done, element_shape, elements_counted}
use Rattle.capnp_model_writes.proofs.lemmas.Writing.{wider, changes_inside}
use Rattle.capnp_model_writes.proofs.lemmas.Prepared.{behind_first}
use Rattle.capnp_model.proofs.lemmas.ReadFits.{words_length}
use Rattle.capnp_model.proofs.lemmas.Counts.{each_element_count}
use Rattle.capnp_copy_values.specs.Copies.{TakesFew, Copied, Refused, FillsStruct, LeavesStruct, FillsElements, LeavesElements, limited_words, sized_at}
use Rattle.capnp_copy_values.proofs.Parts.{there_length, part_is}
use Rattle.capnp_copy_values.proofs.Refusals.{why_later}
use Rattle.capnp_copy_arenas.specs.Allocations.{total_words}
use Rattle.capnp_copy_values.proofs.Taking.{takes_none, takes_both, written_total}

-- ---- elements one behind the other

pub chained : Elements → Elements → Elements
chained no_elements fs = fs
chained (element a ts es) fs = element a ts (chained es fs)

chained_none : (es : Elements) → chained es no_elements ≡ es
unfolding chained
chained_none no_elements = refl
chained_none (element a ts es) = ap (λ (xs : Elements). element a ts xs) (chained_none es)

chained_next : (es : Elements) (b : ℕ) (us : Trees) (fs : Elements) → chained es (element b us fs) ≡ chained (chained es (element b us no_elements)) fs
unfolding chained
chained_next no_elements b us fs = refl
chained_next (element a ts es) b us fs = ap (λ (xs : Elements). element a ts xs) (chained_next es b us fs)

chained_count : (es : Elements) (b : ℕ) (us : Trees) (i : ℕ) → element_count es ≡ i → element_count (chained es (element b us no_elements)) ≡ i + 1
unfolding chained
chained_count no_elements b us i e = omega (arith, e)
chained_count (element a ts es) b us i e = let more : element_count (chained es (element b us no_elements)) ≡ element_count es + 1 = chained_count es b us (element_count es) refl in omega (arith, e, more)

chained_at : (d : ℕ) (es : Elements) (b : ℕ) (us : Trees) (i : ℕ) → element_count es ≡ i → element_at d (chained es (element b us no_elements)) i ≡ structure d b us
unfolding chained
chained_at d no_elements b us zero e = refl
chained_at d no_elements b us (suc i) e = absurd (omega (arith, e))
chained_at d (element a ts es) b us zero e = absurd (omega (arith, e))
chained_at d (element a ts es) b us (suc i) e = chained_at d es b us i (omega (arith, e))

first_chained : (es gs fs : Elements) (i : ℕ) → element_count es ≡ i → with_first_elements i (chained es gs) fs ≡ with_first_elements i es fs
unfolding chained
first_chained no_elements gs fs zero e = refl
first_chained no_elements gs fs (suc i) e = absurd (omega (arith, e))
first_chained (element a ts es) gs fs zero e = absurd (omega (arith, e))
first_chained (element a ts es) gs no_elements (suc i) e = refl
first_chained (element a ts es) gs (element b us fs) (suc i) e = ap (λ (xs : Elements). element a ts xs) (first_chained es gs fs i (omega (arith, e)))

-- an element lies within its list
pub element_within : (i count w d words : ℕ) → i < count → d ≤ w → count * w ≤ words → i * w + d ≤ words
element_within i count w d words l h fit =
    let up : (i + 1) * w ≤ count * w = mul-le-mul_right w (omega (arith, l)) in
    let one : (i + 1) * w ≡ i * w + w = omega arith in
    omega (arith, up, one, h, fit)

-- ---- the list

-- the first i are copied, and paid
pub record ElementsSoFar (levels : ℕ) (from : Segments) (p : Place) (ws : List ℕ) (d k count i : ℕ) (s u : Segments) (r : Place) (old new : ReadLimiter) : Type 0 where
  pub first : Elements
  pub number : element_count first ≡ i
  pub past : List Visit
  pub walked : Walked past old new
  pub path_is : from_elements (visits levels from) p d k count ≡ past ++ from_elements (visits levels from) (after p (i * (d + k))) d k (count - i)
  pub grows : Grows s u
  pub takes : TakesFew s u old new
  pub read : (es : Elements) → each_element (tree_at levels from) (after p (i * (d + k))) (drop (i * (d + k)) ws) d k (count - i) ≡ Some es → each_element (tree_at levels from) p ws d k count ≡ Some (chained first es)
  pub made : (n : ℕ) (fs : Elements) → levels ≤ n → element_count fs ≡ count → OwnsObject n s (a_list r 7 (count * (d + k))) (struct_list d k fs) → ReplacesObject n s u (a_list r 7 (count * (d + k))) (struct_list d k (with_first_elements i first fs))

module _ (levels : ℕ) (from : Segments) (p : Place) (ws : List ℕ) (d k count : ℕ) (s : Segments) (r : Place) (l : ReadLimiter) where
  pub elements_begun : ElementsSoFar levels from p ws d k count 0 s s r l l
  unfolding chained
  elements_begun =
      let none_before : 0 * (d + k) ≡ 0 = omega arith in
      let words : drop (0 * (d + k)) ws ≡ ws = ap (λ (m : ℕ). drop m ws) none_before in
      let same : each_element (tree_at levels from) (after p (0 * (d + k))) (drop (0 * (d + k)) ws) d k (count - 0) ≡ each_element (tree_at levels from) p ws d k count = ap (λ (xs : List ℕ). each_element (tree_at levels from) (after p (0 * (d + k))) xs d k (count - 0)) words ∙ elements_start p d k count (λ q m. each_element (tree_at levels from) q ws d k m) in
      record {
        first = no_elements;
        number = refl;
        past = [];
        walked = walked_none l;
        path_is = sym (elements_start p d k count (λ q m. from_elements (visits levels from) q d k m));
        grows = grows_same s;
        takes = takes_none s s l refl;
        read = λ es e. sym same ∙ e;
        made = λ n fs h c o. record { means = o.means; changes = changes_nothing s _ };
      }

  module _ (i : ℕ) (u w : Segments) (m m' : ReadLimiter) (in_row : i < count) (so : ElementsSoFar levels from p ws d k count i s u r l m) where
    pub elements_next : (section : ℕ) → section ≡ section_of (take d (drop (i * (d + k)) ws))
        → Copied (each (tree_at levels from) (after (after p (i * (d + k))) d) k) (from_each (visits levels from) (after (after p (i * (d + k))) d) k) (FillsStruct levels u w (sized_at (after (after r 1) (i * (d + k))) d k) section) (limited_words u m) (limited_words w m')
        → ElementsSoFar levels from p ws d k count (i + 1) s w r l m'
    elements_next section is x = record {
      first = chained so.first (element section x.value no_elements);
      number = chained_count so.first section x.value i so.number;
      past = so.past ++ from_each (visits levels from) (after (after p (i * (d + k))) d) k;
      walked = walked_both so.past (from_each (visits levels from) (after (after p (i * (d + k))) d) k) l m m' so.walked x.walked;
      path_is = so.path_is ∙ ap (λ (vs : List Visit). so.past ++ vs) (elements_met_next p d k i count in_row (visits levels from)) ∙ sym (append_assoc so.past (from_each (visits levels from) (after (after p (i * (d + k))) d) k) (from_elements (visits levels from) (after p ((i + 1) * (d + k))) d k (count - (i + 1))));
      grows = grows_then s u w so.grows x.grows;
      takes = takes_both s u w l m m' so.takes x.takes;
      read = λ es e. so.read (element section x.value es) (element_next p d k i count in_row (tree_at levels from) ws ∙ found x.value es x.there_is e ∙ ap (λ (a : ℕ). Some (element a x.value es)) (sym is)) ∙ ap (λ (gs : Elements). Some gs) (chained_next so.first section x.value es);
      made = λ n fs h c o. (
          let now = so.made n fs h c o in
          let es = chained so.first (element section x.value no_elements) in
          let same : with_first_elements i (chained so.first (element section x.value no_elements)) fs ≡ with_first_elements i so.first fs = first_chained so.first (element section x.value no_elements) fs i so.number in
          let before : ReplacesObject n s u (a_list r 7 (count * (d + k))) (struct_list d k (with_first_elements i (chained so.first (element section x.value no_elements)) fs)) = subst (λ (gs : Elements). ReplacesObject n s u (a_list r 7 (count * (d + k))) (struct_list d k gs)) (sym same) now in
          let inside : i < element_count fs = omega (arith, c, in_row) in
          let here = structs_here n s u r (count * (d + k)) d k i (chained so.first (element section x.value no_elements)) fs inside o before in
          let shape = element_shape d i fs inside in
          let mine : OwnsObject n u (a_struct (after (after r 1) (i * (d + k))) d k) (structure d shape.0 shape.1) = subst (OwnsObject n u (a_struct (after (after r 1) (i * (d + k))) d k)) shape.2 here in
          let one = x.made n shape.0 shape.1 h mine in
          let long = chained_count so.first section x.value i so.number in
          let all = structs_next n s u w r (count * (d + k)) d k i section x.value (chained so.first (element section x.value no_elements)) fs (omega (arith, long)) inside (chained_at d so.first section x.value i so.number) o before one in
          let number : suc i ≡ i + 1 = omega arith in
          subst (λ (j : ℕ). ReplacesObject n s w (a_list r 7 (count * (d + k))) (struct_list d k (with_first_elements j (chained so.first (element section x.value no_elements)) fs))) number all
          );
    }
      where
        found : (ts : Trees) (es : Elements) → each (tree_at levels from) (after (after p (i * (d + k))) d) k ≡ Some ts → each_element (tree_at levels from) (after p ((i + 1) * (d + k))) (drop ((i + 1) * (d + k)) ws) d k (count - (i + 1)) ≡ Some es
            → (each (tree_at levels from) (after (after p (i * (d + k))) d) k >>= λ ts. each_element (tree_at levels from) (after p ((i + 1) * (d + k))) (drop ((i + 1) * (d + k)) ws) d k (count - (i + 1)) >>= λ es. Some (element (section_of (take d (drop (i * (d + k)) ws))) ts es)) ≡ Some (element (section_of (take d (drop (i * (d + k)) ws))) ts es)
        found ts es e g = rw (e, g) refl

    pub elements_stopped : (e : Error) → Refused from (from_each (visits levels from) (after (after p (i * (d + k))) d) k) (LeavesStruct levels u w (sized_at (after (after r 1) (i * (d + k))) d k)) (limited_words u m) e (limited_words w m')
        → Refused from (from_elements (visits levels from) p d k count) (LeavesElements levels s w (sized_at r d k) count) (limited_words s l) e (limited_words w m')
    elements_stopped e x = record {
      left = λ n fs h c o. (
          let now = so.made n fs h c o in
          let es = with_first_elements i so.first fs in
          let mine = object_replaced_owned n s u (a_list r 7 (count * (d + k))) _ _ o now in
          let inside : i < element_count fs = omega (arith, c, in_row) in
          let here = structs_here n s u r (count * (d + k)) d k i so.first fs inside o now in
          let shape = element_shape d i fs inside in
          let slot : OwnsObject n u (a_struct (after (after r 1) (i * (d + k))) d k) (structure d shape.0 shape.1) = subst (OwnsObject n u (a_struct (after (after r 1) (i * (d + k))) d k)) shape.2 here in
          let y = x.left n shape.0 shape.1 h slot in
          let long = elements_counted i so.first fs in
          let next = list_of_element n u w r (count * (d + k)) d k i y.0 y.1 (with_first_elements i so.first fs) (omega (arith, long, inside)) mine y.2 in
          (with_element (with_first_elements i so.first fs) i y.0 y.1, object_replaced_then n s u w (a_list r 7 (count * (d + k))) _ _ now next)
          );
      takes = takes_both s u w l m m' so.takes x.takes;
      why = why_later from so.past (from_each (visits levels from) (after (after p (i * (d + k))) d) k) (from_elements (visits levels from) p d k count) (from_elements (visits levels from) (after p ((i + 1) * (d + k))) d k (count - (i + 1))) w w l m m' e
          (so.path_is ∙ ap (λ (vs : List Visit). so.past ++ vs) (elements_met_next p d k i count in_row (visits levels from))) refl so.walked x.why;
    }

  pub elements_ended : (i : ℕ) (u : Segments) (m : ReadLimiter) → i ≡ count → ElementsSoFar levels from p ws d k count i s u r l m
      → Copied (each_element (tree_at levels from) p ws d k count) (from_elements (visits levels from) p d k count) (FillsElements levels s u (sized_at r d k) count) (limited_words s l) (limited_words u m)
  elements_ended i u m all so =
      let past : count ≤ i = omega (arith, all) in
      let at = after p (i * (d + k)) in
      let nothing : each_element (tree_at levels from) (after p (i * (d + k))) (drop (i * (d + k)) ws) d k (count - i) ≡ Some no_elements = row_end count i (each_element (tree_at levels from) (after p (i * (d + k))) (drop (i * (d + k)) ws) d k) past in
      let no_more : from_elements (visits levels from) (after p (i * (d + k))) d k (count - i) ≡ [] = row_end count i (from_elements (visits levels from) (after p (i * (d + k))) d k) past in
      let whole : from_elements (visits levels from) p d k count ≡ so.past = so.path_is ∙ ap (λ (vs : List Visit). so.past ++ vs) no_more ∙ append-nil so.past in
      record {
        value = so.first;
        there_is = so.read no_elements nothing ∙ ap (λ (es : Elements). Some es) (chained_none so.first);
        walked = subst (λ (vs : List Visit). Walked vs l m) (sym whole) so.walked;
        grows = so.grows;
        takes = so.takes;
        made = λ n fs h c o. (
            let now = so.made n fs h c o in
            let same : with_first_elements i so.first fs ≡ so.first = ap (λ (j : ℕ). with_first_elements j so.first fs) (all ∙ sym c) ∙ elements_done so.first fs (so.number ∙ all ∙ sym c) in
            subst (λ (es : Elements). ReplacesObject n s u (a_list r 7 (count * (d + k))) (struct_list d k es)) same now
            );
      }

-- ---- elements without pointers

-- they are just their words
front_elements : (f g : Place → Option Tree) (p q : Place) (ws : List ℕ) (d count : ℕ) → each_element g q (take (count * d) ws) d 0 count ≡ each_element f p ws d 0 count
front_elements f g p q ws d zero = refl
front_elements f g p q ws d (suc c) =
    let sum : suc c * d ≡ d + c * d = omega arith in
    let wide : d + 0 ≡ d = omega arith in
    let part : d ≤ d + c * d = omega arith in
    let front : take d (take (suc c * d) ws) ≡ take d ws = ap (λ (m : ℕ). take d (take m ws)) sum ∙ take-take d (d + c * d) ws part in
    let back : drop (d + 0) (take (suc c * d) ws) ≡ take (c * d) (drop (d + 0) ws) = ap (λ (m : ℕ). drop m (take (suc c * d) ws)) wide ∙ ap (λ (m : ℕ). drop d (take m ws)) sum ∙ drop-take d (c * d) ws ∙ ap (λ (m : ℕ). take (c * d) (drop m ws)) (sym wide) in
    let rest : each_element g (after q (d + 0)) (drop (d + 0) (take (suc c * d) ws)) d 0 c ≡ each_element f (after p (d + 0)) (drop (d + 0) ws) d 0 c = ap (λ (xs : List ℕ). each_element g (after q (d + 0)) xs d 0 c) back ∙ front_elements f g (after p (d + 0)) (after q (d + 0)) (drop (d + 0) ws) d c in
    by_parts (take d (take (suc c * d) ws)) (take d ws) _ _ front rest
  where
    by_parts : (xs ys : List ℕ) (a b : Option Elements) → xs ≡ ys → a ≡ b → (a >>= λ es. Some (element (section_of xs) none es)) ≡ (b >>= λ es. Some (element (section_of ys) none es))
    by_parts xs ys a b e h = ap (λ (zs : List ℕ). a >>= λ es. Some (element (section_of zs) none es)) e ∙ ap (λ (o : Option Elements). o >>= λ es. Some (element (section_of ys) none es)) h

list_alone : (n : ℕ) (s : Segments) (p : Place) (m d : ℕ) (es : Elements) (q : Place) → ElementParts n s p m d 0 es → object_footprint n s (a_list p 7 m) q ≡ held p (1 + m) q
list_alone n s p m d es q x =
    let there : words_at s p (1 + m) ≡ Some x.words = x.there in
    let read : (words_at s p (1 + m) >>= λ ws. result_ok (tag_in ws)) ≡ Some (record { count = element_count es; data_words = d; pointers = 0 }) = rw there (ap result_ok x.tag_is) in
    let e : times_held (covered_object s (behind n s) (a_list p 7 m)) q ≡ times_held (span p (1 + m) ∷ from_elements (behind n s) (after p 1) d 0 (element_count es)) q = ap (λ (t : Option Tag). times_held (span p (1 + m) ∷ covered_tag (behind n s) p t) q) read in
    let none_behind : times_held (span p (1 + m) ∷ from_elements (behind n s) (after p 1) d 0 (element_count es)) q ≡ times_held (span p (1 + m) ∷ []) q = ap (λ (xs : List Span). times_held (span p (1 + m) ∷ xs) q) (nothing_met (behind n s) (after p 1) d (element_count es)) in
    omega (arith, e, none_behind, held_is p (1 + m) [] q)

-- the words of the elements become others
plain_replaced : (n : ℕ) (s u : Segments) (r : Place) (m d : ℕ) (fs es : Elements) (vs : List ℕ) → length vs ≡ m → element_count fs ≡ element_count es → u ≡ with_words s (after r 1) vs → ((f : Place → Option Tree) (q : Place) → each_element f q vs d 0 (element_count es) ≡ Some es)
    → OwnsObject n s (a_list r 7 m) (struct_list d 0 fs) → ReplacesObject n s u (a_list r 7 m) (struct_list d 0 es)
plain_replaced n s u r m d fs es vs long number now read o =
    let x = element_parts n s r m d 0 fs o.means in
    by x.words x.there (words_length s r (1 + m) x.words x.there) x
  where
    by : (words : List ℕ) → words_at s r (1 + m) ≡ Some words → length words ≡ 1 + m → (x : ElementParts n s r m d 0 fs) → ReplacesObject n s u (a_list r 7 m) (struct_list d 0 es)
    by [] there e x = absurd (omega (arith, e))
    by (tag ∷ rest) there e x =
        let v : Segments = with_words s (after r 1) vs in
        let short : length vs ≡ length rest = omega (arith, e, long) in
        let fit : 1 + length vs ≤ 1 + m = omega (arith, long) in
        let words : words_at (with_words s (after r 1) vs) r (1 + m) ≡ Some (tag ∷ vs) = splice_words s r 1 (1 + m) vs (tag ∷ rest) fit there ∙ ap (λ (ws : List ℕ). Some ws) (behind_first tag vs rest short) in
        let same : tag ∷ rest ≡ x.words = some_is _ _ (sym there ∙ x.there) in
        let tag_was : tag_in (tag ∷ rest) ≡ Ok (record { count = element_count fs; data_words = d; pointers = 0 }) = ap tag_in same ∙ x.tag_is in
        let tag_now : tag_in (tag ∷ vs) ≡ Ok (record { count = element_count fs; data_words = d; pointers = 0 }) = tag_alike (tag ∷ rest) (tag ∷ vs) _ refl (omega (arith, short)) tag_was in
        let parts : ElementParts n (with_words s (after r 1) vs) r m d 0 es = record {
          words = tag ∷ vs;
          there = words;
          tag_is = tag_now ∙ ap (λ (c : ℕ). let t : Tag = record { count = c; data_words = d; pointers = 0 } in Ok t) number;
          elements_are = read (tree_at n (with_words s (after r 1) vs)) (after r 1);
        } in
        let y : Rewrites s (with_words s (after r 1) vs) r (1 + m) = wider s (with_words s (after r 1) vs) r 1 (length vs) (1 + m) fit (splice_rewrites s (after r 1) vs) in
        let before : (q : Place) → object_footprint n s (a_list r 7 m) q ≡ held r (1 + m) q = λ q. list_alone n s r m d fs q x in
        let after_it : (q : Place) → object_footprint n (with_words s (after r 1) vs) (a_list r 7 m) q ≡ held r (1 + m) q = λ q. list_alone n (with_words s (after r 1) vs) r m d es q parts in
        subst (λ (z : Segments). ReplacesObject n s z (a_list r 7 m) (struct_list d 0 es)) (sym now) (record {
          means = list_of_parts n (with_words s (after r 1) vs) r m d 0 es parts;
          changes = changes_inside s (with_words s (after r 1) vs) r (1 + m) (object_footprint n s (a_list r 7 m)) (object_footprint n (with_words s (after r 1) vs) (a_list r 7 m)) y (λ q. after_it q ∙ sym (before q)) (λ q. omega (arith, before q));
        })

words_at_once : (levels : ℕ) (from : Segments) (p : Place) (ws : List ℕ) (d count : ℕ) (s u : Segments) (r : Place) (l : ReadLimiter) → count * d ≤ length ws → u ≡ with_words s (after r 1) (take (count * d) ws)
    → Copied (each_element (tree_at levels from) p ws d 0 count) (from_elements (visits levels from) p d 0 count) (FillsElements levels s u (sized_at r d 0) count) (limited_words s l) (limited_words u l)
words_at_once levels from p ws d count s u r l fit now =
    let read = plain_elements_read (tree_at levels from) p ws d count in
    let number : element_count read.0 ≡ count = each_element_count (tree_at levels from) p ws d 0 count read.0 read.1 in
    let long : length (take (count * d) ws) ≡ count * (d + 0) = length-take (count * d) ws ∙ omega (arith, fit) ∙ ap (λ (w : ℕ). count * w) (no_more d) in
    let reads : (f : Place → Option Tree) (q : Place) → each_element f q (take (count * d) ws) d 0 (element_count read.0) ≡ Some read.0 = λ f q. ap (λ (c : ℕ). each_element f q (take (count * d) ws) d 0 c) number ∙ front_elements (tree_at levels from) f p q ws d count ∙ read.1 in
    record {
      value = read.0;
      there_is = read.1;
      walked = subst (λ (vs : List Visit). Walked vs l l) (sym (nothing_met (visits levels from) p d count)) (walked_none l);
      grows = subst (λ (v : Segments). Grows s v) (sym now) (splice_grows s (after r 1) (take (count * d) ws));
      takes = takes_none s u l (ap total_words now ∙ written_total s (after r 1) (take (count * d) ws));
      made = λ n fs h c o. plain_replaced n s u r (count * (d + 0)) d fs read.0 (take (count * d) ws) long (c ∙ sym number) now reads o;
    }
  where
    no_more : (d : ℕ) → d ≡ d + 0
    no_more d = omega arith

-- the same, of a list of structs that are told to have no pointers
pub all_at_once : (levels : ℕ) (from : Segments) (p : Place) (ws : List ℕ) (d k count : ℕ) (s u : Segments) (r : Place) (l : ReadLimiter) → k ≡ 0 → length ws ≡ count * (d + k) → u ≡ with_words s (after r 1) ws
    → Copied (each_element (tree_at levels from) p ws d k count) (from_elements (visits levels from) p d k count) (FillsElements levels s u (sized_at r d k) count) (limited_words s l) (limited_words u l)
all_at_once levels from p ws d k count s u r l nil long now =
    let same : count * (d + k) ≡ count * d = ap (λ (j : ℕ). count * (d + j)) nil ∙ ap (λ (w : ℕ). count * w) (no_more d) in
    let few : length ws ≤ count * d = omega (arith, long, same) in
    let whole : u ≡ with_words s (after r 1) (take (count * d) ws) = now ∙ ap (with_words s (after r 1)) (sym (take_all (count * d) ws few)) in
    subst (λ (j : ℕ). Copied (each_element (tree_at levels from) p ws d j count) (from_elements (visits levels from) p d j count) (FillsElements levels s u (sized_at r d j) count) (limited_words s l) (limited_words u l)) (sym nil)
    (words_at_once levels from p ws d count s u r l (omega (arith, long, same)) whole)
  where
    no_more : (d : ℕ) → d + 0 ≡ d
    no_more d = omega arith

plain_at_once : (levels : ℕ) (from : Segments) (p : Place) (words d count : ℕ) (s u : Segments) (r : Place) (l : ReadLimiter) → is_some (words_at from p words) ≡ true → count * d ≤ words → u ≡ with_words s (after r 1) (words_there from p (count * d))
    → Copied (each_element (tree_at levels from) p (words_there from p words) d 0 count) (from_elements (visits levels from) p d 0 count) (FillsElements levels s u (sized_at r d 0) count) (limited_words s l) (limited_words u l)
plain_at_once levels from p words d count s u r l there fit now =
    let front : words_there from p (count * d) ≡ take (count * d) (words_there from p words) = ap (λ (q : Place). words_there from q (count * d)) (sym (after_none p)) ∙ part_is from p words there 0 (count * d) (omega (arith, fit)) in
    let long = there_length from p words there in
    words_at_once levels from p (words_there from p words) d count s u r l (omega (arith, long, fit)) (now ∙ ap (with_words s (after r 1)) front)

pub elements_at_once : (levels : ℕ) (from : Segments) (p : Place) (words d k count : ℕ) (s u : Segments) (r : Place) (l : ReadLimiter) → k ≡ 0 → is_some (words_at from p words) ≡ true → count * (d + k) ≤ words → u ≡ with_words s (after r 1) (words_there from p (count * d))
    → Copied (each_element (tree_at levels from) p (words_there from p words) d k count) (from_elements (visits levels from) p d k count) (FillsElements levels s u (sized_at r d k) count) (limited_words s l) (limited_words u l)
elements_at_once levels from p words d k count s u r l nil there fit now =
    let less : count * d ≤ words = (let e : count * (d + k) ≡ count * d = ap (λ (j : ℕ). count * (d + j)) nil ∙ ap (λ (w : ℕ). count * w) (no_more d) in omega (arith, e, fit)) in
    subst (λ (j : ℕ). Copied (each_element (tree_at levels from) p (words_there from p words) d j count) (from_elements (visits levels from) p d j count) (FillsElements levels s u (sized_at r d j) count) (limited_words s l) (limited_words u l)) (sym nil)
    (plain_at_once levels from p words d count s u r l there less now)
  where
    no_more : (d : ℕ) → d + 0 ≡ d
    no_more d = omega arith
