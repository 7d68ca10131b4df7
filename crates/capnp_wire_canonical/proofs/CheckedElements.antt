-- The elements of a list of structs, checked one after the other.
use Rattle.std.proofs.Common.{◌≡◌, ℕ, zero, suc, ◌+◌, ◌-◌, ◌*◌, ◌<◌, ◌≤◌, ◌||◌, false, List, length, drop, take, Option, Some, refl, ap, sym, ◌∙◌, subst, arith}
use Rattle.capnp_model.specs.Sections.{words_of, section_of}
use Rattle.capnp_model.specs.Segments.{Segments, Place, place, after}
use Rattle.capnp_model.specs.Trees.{Tree, Trees, Elements, no_elements, element, has_capability, have_capability, elements_have_capability, tree_count, element_count}
use Rattle.capnp_model.specs.Traversal.{tree_at, each, each_element}
use Rattle.capnp_model.specs.Trimming.{trim, trim_each, trim_elements}
use Rattle.capnp_model.specs.Coverage.{from_each, from_elements}
use Rattle.capnp_model.specs.Visits.{visits}
use Rattle.capnp_model.specs.Encoding.{bodies}
use Rattle.capnp_model.proofs.lemmas.Chaining.{bind_some, some_is}
use Rattle.capnp_model.proofs.lemmas.TrimFits.{count-trim_each, count-trim_elements}
use Rattle.capnp_units.specs.declared.errors.Error.{Error}
use Rattle.capnp_units.specs.declared.limiter.ReadLimiter.{ReadLimiter}
use Rattle.capnp_wire_objects.specs.Objects.{AreThere}
use Rattle.capnp_wire_objects.specs.Inside.{words_there}
use Rattle.capnp_wire_objects.specs.Walks.{Stopped}
use Rattle.capnp_wire_objects.proofs.lemmas.Rows.{row_end, elements_start, element_next, elements_met_next}
use Rattle.capnp_model.proofs.lemmas.Counts.{each_count, each_element_count}
use Rattle.capnp_wire_canonical.specs.Reaches.{reach}
use Rattle.capnp_wire_canonical.specs.Standing.{Hold, StandEach, StandElements, IsSmall, HasHead}
use Rattle.capnp_wire_canonical.specs.Checks.{Agrees, Differs, row_test, elements_test}
use Rattle.capnp_wire_canonical.proofs.lemmas.Checking.{SoFar, Parts, begun, next, differs, stopped, ended}
use Rattle.capnp_wire_canonical.proofs.CheckedRows.{each_more, head_next, row_begun, row_ended}
use Rattle.capnp_wire_canonical.proofs.Holding.{hold_none, hold_end, hold_own}
use Rattle.capnp_wire_canonical.proofs.Parts.{part_there, part_room}
use Rattle.capnp_wire_canonical.proofs.Rows.{part_section}
use Rattle.capnp_wire_canonical.proofs.SameVisits.{or_left, or_right}
use Rattle.capnp_wire_canonical.proofs.StandingRows.{element_both, element_parts}

-- The elements from one of them on.
abbrev pub elements_from : ℕ → Segments → Place → ℕ → ℕ → ℕ → ℕ → Option Elements
elements_from n s p count d k i = each_element (tree_at n s) (after p (i * (d + k))) (drop (i * (d + k)) (words_there s p (count * (d + k)))) d k (count - i)

-- What stands from one of them on.
abbrev pub ElementsFrom : Segments → Place → ℕ → ℕ → ℕ → ℕ → Elements → ℕ → Type 0
ElementsFrom s p d k i e es = StandElements s (after p (i * (d + k))) d k e (trim_elements es)

-- The elements before one of them stand, with what their pointers lead to, which is paid.
pub record ElementsSoFar (n : ℕ) (s : Segments) (p : Place) (count d k head : ℕ) (l : ReadLimiter) (i e : ℕ) (m : ReadLimiter) : Type 0 where
  pub so_far : SoFar (each_element (tree_at n s) p (words_there s p (count * (d + k))) d k count) (elements_from n s p count d k i) (λ more. each_element (tree_at (more + n) s) p (words_there s p (count * (d + k))) d k count) (λ more. elements_from (more + n) s p count d k i) elements_have_capability (λ es. StandElements s p d k head (trim_elements es)) (ElementsFrom s p d k i e)
      (from_elements (visits n s) p d k count) (from_elements (visits n s) (after p (i * (d + k))) d k (count - i)) l m
  pub there : HasHead s p (count * (d + k)) e

module _ (n : ℕ) (s : Segments) (p : Place) (count d k head : ℕ) (l : ReadLimiter) where
  pub elements_begun : HasHead s p (count * (d + k)) head → ElementsSoFar n s p count d k head l 0 head l
  elements_begun there =
      let g = tree_at n s in
      let f : ℕ → Place → Option Tree = λ more. tree_at (more + n) s in
      let v = visits n s in
      let ws = words_there s p (count * (d + k)) in
      let here : p.position + 0 * (d + k) ≡ p.position = omega arith in
      let none_before : 0 * (d + k) ≡ 0 = omega arith in
      let words : drop (0 * (d + k)) ws ≡ ws = ap (λ (m : ℕ). drop m ws) none_before in
      record {
        so_far = begun (each_element g p ws d k count) (elements_from n s p count d k 0) (λ more. each_element (f more) p ws d k count) (λ more. elements_from (more + n) s p count d k 0) elements_have_capability (λ es. StandElements s p d k head (trim_elements es)) (ElementsFrom s p d k 0 head) (from_elements v p d k count) (from_elements v (after p (0 * (d + k))) d k (count - 0)) l
            (ap (λ (xs : List ℕ). each_element g (after p (0 * (d + k))) xs d k (count - 0)) words ∙ elements_start p d k count (λ q m. each_element g q ws d k m))
            (λ more. ap (λ (xs : List ℕ). each_element (f more) (after p (0 * (d + k))) xs d k (count - 0)) words ∙ elements_start p d k count (λ q m. each_element (f more) q ws d k m)) (elements_start p d k count (λ q m. from_elements v q d k m))
            (λ es end x. subst (λ (q : ℕ). StandElements s (place p.segment q) d k head (trim_elements es) end) here x) (λ es end x. subst (λ (q : ℕ). StandElements s (place p.segment q) d k head (trim_elements es) end) (sym here) x);
        there = there;
      }

  module _ (i e : ℕ) (h : i < count) (inside : AreThere s p (count * (d + k))) (given : HasHead s p (count * (d + k)) e) where
    next_place : p.position + i * (d + k) + (d + k) ≡ p.position + (i + 1) * (d + k)
    next_place = omega arith

    -- the room for an element and those behind it
    room : (c : ℕ) → c ≡ count - (i + 1) → p.position + i * (d + k) + suc c * (d + k) ≤ e
    room c is =
        let behind = given.behind in
        let count_is : count ≡ i + suc c = omega arith in
        let all : count * (d + k) ≡ (i + suc c) * (d + k) = ap (λ (j : ℕ). j * (d + k)) count_is in
        let spread : (i + suc c) * (d + k) ≡ i * (d + k) + suc c * (d + k) = grind arith in
        omega arith

    rest_count : (m : ℕ) (es : Elements) → elements_from m s p count d k (i + 1) ≡ Some es → element_count (trim_elements es) ≡ count - (i + 1)
    rest_count m es is = count-trim_elements es ∙ each_element_count (tree_at m s) (after p ((i + 1) * (d + k))) (drop ((i + 1) * (d + k)) (words_there s p (count * (d + k)))) d k (count - (i + 1)) es is

    kids_count : (m : ℕ) (ts : Trees) → each (tree_at m s) (after (after p (i * (d + k))) d) k ≡ Some ts → tree_count (trim_each ts) ≡ k
    kids_count m ts is = count-trim_each ts ∙ each_count (tree_at m s) (after (after p (i * (d + k))) d) k ts is

    -- an element's own words
    own : Hold s (after p (i * (d + k))) (words_of d (section_of (take d (drop (i * (d + k)) (words_there s p (count * (d + k)))))))
    own =
        let w = d + k in
        let all = count * w in
        let fit = part_room i count w h in
        subst (λ (x : ℕ). Hold s (after p (i * w)) (words_of d x)) (sym (part_section s p all inside.0 (i * w) d (omega arith))) (hold_own s (after p (i * w)) d (part_there s p all inside.0 (i * w) d (omega arith)) given.whole)

    elements_split : (more : ℕ) (z : Elements) (end : ℕ) → elements_from (more + n) s p count d k i ≡ Some z → elements_have_capability z ≡ false → ElementsFrom s p d k i e z end
        → Parts (each (tree_at (more + n) s) (after (after p (i * (d + k))) d) k) have_capability (λ ts. StandEach s (after (after p (i * (d + k))) d) e (trim_each ts)) (elements_from (more + n) s p count d k (i + 1)) elements_have_capability (ElementsFrom s p d k (i + 1)) end
    unfolding has_capability trim
    elements_split more z end is clean stand =
        let f = tree_at (more + n) s in
        let w = d + k in
        let ws = words_there s p (count * w) in
        let section = section_of (take d (drop (i * w) ws)) in
        let a = bind_some (each f (after (after p (i * w)) d) k) _ z (sym (element_next p d k i count h f ws) ∙ is) in
        let b = bind_some (elements_from (more + n) s p count d k (i + 1)) _ z a.2 in
        let whole : element section a.0 b.0 ≡ z = some_is _ _ b.2 in
        let cleans : have_capability a.0 || elements_have_capability b.0 ≡ false = ap elements_have_capability whole ∙ clean in
        let x = element_parts s (after p (i * w)) d k e end section (trim_each a.0) (trim_elements b.0) (kids_count (more + n) a.0 a.1) (room _ (rest_count (more + n) b.0 b.1)) (subst (λ (es : Elements). ElementsFrom s p d k i e es end) (sym whole) stand) in
        record {
          first = a.0;
          first_is = a.1;
          first_clean = or_left _ _ cleans;
          others = b.0;
          others_are = b.1;
          others_clean = or_right (have_capability a.0) _ cleans;
          place = e + length (bodies (trim_each a.0));
          first_stands = x.0;
          others_stand = subst (λ (q : ℕ). StandElements s (place p.segment q) d k (e + length (bodies (trim_each a.0))) (trim_elements b.0) end) next_place x.1;
        }

    elements_join : (e' : ℕ) (ts : Trees) (es : Elements) (end : ℕ) → each (tree_at n s) (after (after p (i * (d + k))) d) k ≡ Some ts → elements_from n s p count d k (i + 1) ≡ Some es → have_capability ts ≡ false → elements_have_capability es ≡ false
        → StandEach s (after (after p (i * (d + k))) d) e (trim_each ts) e' → ElementsFrom s p d k (i + 1) e' es end
        → (z : Elements) × (elements_from n s p count d k i ≡ Some z) × (elements_have_capability z ≡ false) × ElementsFrom s p d k i e z end
    unfolding has_capability trim
    elements_join e' ts es end is are clean cleans x y =
        let f = tree_at n s in
        let w = d + k in
        let ws = words_there s p (count * w) in
        let section = section_of (take d (drop (i * w) ws)) in (
          element section ts es,
          element_next p d k i count h f ws ∙ rw (is, are) refl,
          rw (clean, cleans) refl,
          element_both s (after p (i * w)) d k e end section (trim_each ts) (trim_elements es) (kids_count n ts is) (room _ (rest_count n es are)) e' own x (subst (λ (q : ℕ). StandElements s (place p.segment q) d k e' (trim_elements es) end) (sym next_place) y),
        )

    ends_alike : (ts : Trees) (j m : ℕ) → StandEach s (after (after p (i * (d + k))) d) e (trim_each ts) j → StandEach s (after (after p (i * (d + k))) d) e (trim_each ts) m → j ≡ m
    ends_alike ts j m x y = x.ends ∙ sym y.ends

    -- with more levels an element's pointers have the values that they have
    kept : (more : ℕ) (ts : Trees) → each (tree_at n s) (after (after p (i * (d + k))) d) k ≡ Some ts → each (tree_at (more + n) s) (after (after p (i * (d + k))) d) k ≡ Some ts
    kept more ts is = each_more n (more + n) s (after (after p (i * (d + k))) d) k ts (omega arith) is

    pub elements_next : (e' : ℕ) (j m : ReadLimiter) → Agrees (row_test (reach n s) (after (after p (i * (d + k))) d) k e) j e' m
        → ElementsSoFar n s p count d k head l i e j → ElementsSoFar n s p count d k head l (i + 1) e' m
    elements_next e' j m x f =
        let g = tree_at n s in
        let t : ℕ → Place → Option Tree = λ more. tree_at (more + n) s in
        let v = visits n s in
        let w = d + k in
        let stand = x.stand in
        let here = after (after p (i * w)) d in
        record {
          so_far = next (each_element g p (words_there s p (count * w)) d k count) (elements_from n s p count d k i) (elements_from n s p count d k (i + 1)) (λ more. each_element (t more) p (words_there s p (count * w)) d k count) (λ more. elements_from (more + n) s p count d k i) (λ more. elements_from (more + n) s p count d k (i + 1)) elements_have_capability (λ es. StandElements s p d k head (trim_elements es)) (ElementsFrom s p d k i e) (ElementsFrom s p d k (i + 1))
              (each g here k) (λ more. each (t more) here k) have_capability (λ ts. StandEach s here e (trim_each ts)) (from_elements v p d k count) (from_elements v (after p (i * w)) d k (count - i)) (from_elements v (after p ((i + 1) * w)) d k (count - (i + 1))) (from_each v here k) l j m (elements_met_next p d k i count h v) elements_split
              (IsSmall s p) e' kept ends_alike (λ us es end is are clean cleans a b. elements_join e' us es end is are clean cleans a b) x f.so_far;
          there = head_next s p (count * w) e e' (bodies (trim_each x.what)) f.there (hold_end s (place p.segment e) (bodies (trim_each x.what)) stand.targets) stand.ends x.near;
        }

    pub elements_differ : (j m : ReadLimiter) → Differs (row_test (reach n s) (after (after p (i * (d + k))) d) k e) j m
        → ElementsSoFar n s p count d k head l i e j → Differs (elements_test (reach n s) p count d k head) l m
    elements_differ j m x f =
        let g = tree_at n s in
        let t : ℕ → Place → Option Tree = λ more. tree_at (more + n) s in
        let v = visits n s in
        let w = d + k in
        let here = after (after p (i * w)) d in
        differs (each_element g p (words_there s p (count * w)) d k count) (elements_from n s p count d k i) (elements_from n s p count d k (i + 1)) (λ more. each_element (t more) p (words_there s p (count * w)) d k count) (λ more. elements_from (more + n) s p count d k i) (λ more. elements_from (more + n) s p count d k (i + 1)) elements_have_capability (λ es. StandElements s p d k head (trim_elements es)) (ElementsFrom s p d k i e) (ElementsFrom s p d k (i + 1))
        (each g here k) (λ more. each (t more) here k) have_capability (λ ts. StandEach s here e (trim_each ts)) (from_elements v p d k count) (from_elements v (after p (i * w)) d k (count - i)) (from_elements v (after p ((i + 1) * w)) d k (count - (i + 1))) (from_each v here k) l j m (elements_met_next p d k i count h v) elements_split
        (IsSmall s p) x f.so_far

    pub elements_stopped : (j m : ReadLimiter) (x : Error) → Stopped (from_each (visits n s) (after (after p (i * (d + k))) d) k) j x m → ElementsSoFar n s p count d k head l i e j → Stopped (from_elements (visits n s) p d k count) l x m
    elements_stopped j m x y f =
        let g = tree_at n s in
        let t : ℕ → Place → Option Tree = λ more. tree_at (more + n) s in
        let v = visits n s in
        let w = d + k in
        let here = after (after p (i * w)) d in
        stopped (each_element g p (words_there s p (count * w)) d k count) (elements_from n s p count d k i) (elements_from n s p count d k (i + 1)) (λ more. each_element (t more) p (words_there s p (count * w)) d k count) (λ more. elements_from (more + n) s p count d k i) (λ more. elements_from (more + n) s p count d k (i + 1)) elements_have_capability (λ es. StandElements s p d k head (trim_elements es)) (ElementsFrom s p d k i e) (ElementsFrom s p d k (i + 1))
        (each g here k) (λ more. each (t more) here k) have_capability (λ ts. StandEach s here e (trim_each ts)) (from_elements v p d k count) (from_elements v (after p (i * w)) d k (count - i)) (from_elements v (after p ((i + 1) * w)) d k (count - (i + 1))) (from_each v here k) l j m (elements_met_next p d k i count h v) elements_split
        x y f.so_far

  pub elements_ended : (i e : ℕ) (m : ReadLimiter) → i ≡ count → AreThere s p (count * (d + k)) → ElementsSoFar n s p count d k head l i e m
      → Agrees (elements_test (reach n s) p count d k head) l e m
  unfolding has_capability trim
  elements_ended i e m same inside f =
      let g = tree_at n s in
      let t : ℕ → Place → Option Tree = λ more. tree_at (more + n) s in
      let v = visits n s in
      let w = d + k in
      let past : count ≤ i = omega arith in
      let at_end = f.there.there in
      let near = at_end.1 in
      let nothing : e ≡ e + 0 = omega arith in
      let no_further : i * w + 0 ≤ count * w = (let same_width : i * w ≡ count * w = ap (λ (j : ℕ). j * w) same in omega arith) in
      ended (each_element g p (words_there s p (count * w)) d k count) (elements_from n s p count d k i) (λ more. each_element (t more) p (words_there s p (count * w)) d k count) (λ more. elements_from (more + n) s p count d k i) elements_have_capability (λ es. StandElements s p d k head (trim_elements es)) (ElementsFrom s p d k i e) (from_elements v p d k count) (from_elements v (after p (i * w)) d k (count - i)) l m (IsSmall s p) no_elements e
      (row_end count i (each_element g (after p (i * w)) (drop (i * w) (words_there s p (count * w))) d k) past) refl (record { row = hold_none s (after p (i * w)) (part_there s p (count * w) inside.0 (i * w) 0 no_further); targets = hold_none s (place p.segment e) at_end.0; ends = nothing }) (omega arith)
      (row_end count i (from_elements v (after p (i * w)) d k) past) f.so_far

-- elements without pointers stand as they are
module _ (n : ℕ) (s : Segments) (p : Place) (count d head : ℕ) (l : ReadLimiter) (inside : AreThere s p (count * (d + 0))) (there : HasHead s p (count * (d + 0)) head) where
  plain_first : (i : ℕ) → i < count → Agrees (row_test (reach n s) (after (after p (i * (d + 0))) d) 0 head) l head l
  plain_first i h =
      let w = d + 0 in
      let all = count * w in
      let fit = part_room i count w h in
      let behind = there.behind in
      let bound = inside.1 in
      let q = after (after p (i * w)) d in
      let q_there : AreThere s q 0 = (part_there s (after p (i * w)) d (part_there s p all inside.0 (i * w) d (omega arith)) d 0 (omega arith), omega arith) in
      let q_head : HasHead s q 0 head = record { behind = omega arith; there = there.there; whole = there.whole } in
      row_ended n s q 0 head l 0 head l refl q_there (row_begun n s q 0 head l q_head)

  plain_so_far : (i : ℕ) → i ≤ count → ElementsSoFar n s p count d 0 head l i head l
  plain_so_far zero h = elements_begun n s p count d 0 head l there
  plain_so_far (suc i) h =
      let one : i + 1 ≡ suc i = omega arith in
      subst (λ (j : ℕ). ElementsSoFar n s p count d 0 head l j head l) one (elements_next n s p count d 0 head l i head (omega arith) inside there head l l (plain_first i (omega arith)) (plain_so_far i (omega arith)))

  pub plain_elements : Agrees (elements_test (reach n s) p count d 0 head) l head l
  plain_elements = elements_ended n s p count d 0 head l count head l refl inside (plain_so_far count (omega arith))
