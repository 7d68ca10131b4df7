-- Elements of a list of structs, of which one gets another value.
use Rattle.std.proofs.Common.{◌≡◌, ℕ, zero, suc, ◌+◌, ◌-◌, ◌*◌, ◌<◌, ◌≤◌, List, [], ◌∷◌, ◌++◌, length, take, drop, Option, Some, Ok, refl, ap, sym, ◌∙◌, subst, arith}
use Rattle.std.specs.List.{AllByRecursion}
use Rattle.std.specs.Result.{result_ok}
use Rattle.std.proofs.lemmas.List.{take-take, take_at, drop_at, length-append, take-append-le}
use Rattle.capnp_model.specs.Chains.{◌>>=◌}
use Rattle.capnp_model.specs.Sections.{section_of}
use Rattle.capnp_model.specs.Segments.{Segments, Place, place, after, words_at}
use Rattle.capnp_model.specs.Pointers.{a_struct, a_list}
use Rattle.capnp_model.specs.Trees.{Tree, structure, struct_list, Trees, Elements, no_elements, element, element_count}
use Rattle.capnp_model.specs.Traversal.{Tag, tag_in, each, each_element, tree_of, tree_at}
use Rattle.capnp_model.specs.Coverage.{Span, span, times_held, from_each, from_elements, covered_tag, covered_object, Keeps}
use Rattle.capnp_model.proofs.lemmas.Chaining.{bind_some, bind_found, some_is}
use Rattle.capnp_model.proofs.lemmas.ReadFits.{words_length}
use Rattle.capnp_model.proofs.lemmas.Counts.{each_element_count}
use Rattle.capnp_model_writes.specs.Footprints.{behind, object_footprint, OwnsObject}
use Rattle.capnp_model_writes.specs.Changes.{Changes, ReplacesObject}
use Rattle.capnp_model_writes.specs.Elements.{element_at, with_element}
use Rattle.capnp_model_writes.proofs.lemmas.Spans.{held, held_is, held_split, times_held_append, words_front, words_back, words_join, keeps_front, keeps_back}
use Rattle.capnp_model_writes.proofs.lemmas.Kept.{each_same, elements_same, value_same, tag_fits}
use Rattle.capnp_model_writes.proofs.lemmas.Algebra.{changes_lift, beside_kept}
use Rattle.capnp_model_writes.proofs.lemmas.Lift.{struct_parts, alone, not_with}

-- how often so many words, with what lies behind the pointers of the elements in them, take a word
abbrev pub cells : ℕ → Segments → Place → ℕ → ℕ → ℕ → ℕ → Place → ℕ
cells n s p m d k c q = held p m q + times_held (from_elements (behind n s) p d k c) q

-- the words behind the first element
rest_of : (d k c m : ℕ) → suc c * (d + k) ≤ m → m ≡ (d + k) + (m - (d + k))
rest_of d k c m l = omega (arith, l)

rest_fits : (d k c m : ℕ) → suc c * (d + k) ≤ m → c * (d + k) ≤ m - (d + k)
rest_fits d k c m l = omega (arith, l)

pub struct_cells : (n : ℕ) (s : Segments) (p : Place) (d k : ℕ) (q : Place) → object_footprint n s (a_struct p d k) q ≡ held p (d + k) q + times_held (from_each (behind n s) (after p d) k) q
struct_cells n s p d k q = held_is p (d + k) (from_each (behind n s) (after p d) k) q

pub cells_next : (n : ℕ) (s : Segments) (p : Place) (m d k c : ℕ) (q : Place) → suc c * (d + k) ≤ m → cells n s p m d k (suc c) q ≡ object_footprint n s (a_struct p d k) q + cells n s (after p (d + k)) (m - (d + k)) d k c q
cells_next n s p m d k c q l =
    let e : held p m q ≡ held p ((d + k) + (m - (d + k))) q = ap (λ (x : ℕ). held p x q) (rest_of d k c m l) in
    let f = held_split p (d + k) (m - (d + k)) q in
    let g = times_held_append (from_each (behind n s) (after p d) k) (from_elements (behind n s) (after p (d + k)) d k c) q in
    omega (arith, e, f, g, struct_cells n s p d k q)

first_place : (p : Place) (w : ℕ) → after p (0 * w) ≡ p
first_place p w = let e : p.position + 0 * w ≡ p.position = omega arith in ap (place p.segment) e

next_place : (p : Place) (w i : ℕ) → after p (suc i * w) ≡ after (after p w) (i * w)
next_place p w i = let e : p.position + suc i * w ≡ p.position + w + i * w = omega arith in ap (place p.segment) e

pub element_le : (n : ℕ) (s : Segments) (p r : Place) (m d k c i : ℕ) → r ≡ after p (i * (d + k)) → i < c → c * (d + k) ≤ m → (q : Place) → object_footprint n s (a_struct r d k) q ≤ cells n s p m d k c q
element_le n s p r m d k zero i e l fits q = absurd (omega (arith, l))
element_le n s p r m d k (suc c) zero e l fits q =
    let same : object_footprint n s (a_struct r d k) q ≡ object_footprint n s (a_struct p d k) q = ap (λ (x : Place). object_footprint n s (a_struct x d k) q) (e ∙ first_place p (d + k)) in
    omega (arith, same, cells_next n s p m d k c q fits)
element_le n s p r m d k (suc c) (suc i) e l fits q =
    omega (arith, cells_next n s p m d k c q fits, element_le n s (after p (d + k)) r (m - (d + k)) d k c i (e ∙ next_place p (d + k) i) (omega (arith, l)) (rest_fits d k c m fits) q)

front_again : (d k : ℕ) (ws : List ℕ) → take d (take (d + k) ws) ≡ take d ws
front_again d k ws = let l : d ≤ d + k = omega arith in take-take d (d + k) ws l

struct_reads : (s : Segments) (f : Place → Option Tree) (p : Place) (d k : ℕ) (vs : List ℕ) (ts : Trees) → words_at s p (d + k) ≡ Some vs → each f (after p d) k ≡ Some ts → tree_of s f (a_struct p d k) ≡ Some (structure d (section_of (take d vs)) ts)
struct_reads s f p d k vs ts e h = rw (e, h) refl

pub element_read : (s : Segments) (f : Place → Option Tree) (p r : Place) (m d k c i : ℕ) (ws : List ℕ) (es : Elements) → r ≡ after p (i * (d + k)) → i < c → c * (d + k) ≤ m → words_at s p m ≡ Some ws → each_element f p ws d k c ≡ Some es → tree_of s f (a_struct r d k) ≡ Some (element_at d es i)
element_read s f p r m d k zero i ws es e l fits w h = absurd (omega (arith, l))
element_read s f p r m d k (suc c) zero ws es e l fits w h =
    let w' : words_at s p ((d + k) + (m - (d + k))) ≡ Some ws = subst (λ (x : ℕ). words_at s p x ≡ Some ws) (rest_of d k c m fits) w in
    let x = bind_some (each f (after p d) k) _ es h in
    let y = bind_some (each_element f (after p (d + k)) (drop (d + k) ws) d k c) _ es x.2 in
    let front = words_front s p (d + k) (m - (d + k)) ws w' in
    let here = struct_reads s f p d k (take (d + k) ws) x.0 front x.1 in
    ap (λ (q : Place). tree_of s f (a_struct q d k)) (e ∙ first_place p (d + k)) ∙ here ∙ ap (λ (v : List ℕ). Some (structure d (section_of v) x.0)) (front_again d k ws) ∙ ap (λ (us : Elements). Some (element_at d us 0)) (some_is _ _ y.2)
element_read s f p r m d k (suc c) (suc i) ws es e l fits w h =
    let w' : words_at s p ((d + k) + (m - (d + k))) ≡ Some ws = subst (λ (x : ℕ). words_at s p x ≡ Some ws) (rest_of d k c m fits) w in
    let x = bind_some (each f (after p d) k) _ es h in
    let y = bind_some (each_element f (after p (d + k)) (drop (d + k) ws) d k c) _ es x.2 in
    element_read s f (after p (d + k)) r (m - (d + k)) d k c i (drop (d + k) ws) y.0 (e ∙ next_place p (d + k) i) (omega (arith, l)) (rest_fits d k c m fits) (words_back s p (d + k) (m - (d + k)) ws w') y.1
    ∙ ap (λ (us : Elements). Some (element_at d us (suc i))) (some_is _ _ y.2)

-- what the words and the elements are afterwards
pub record Replaced (n : ℕ) (s u : Segments) (p r : Place) (m d k c : ℕ) (es : Elements) : Type 0 where
  pub words : List ℕ
  pub there : words_at u p m ≡ Some words
  pub elements_are : each_element (tree_at n u) p words d k c ≡ Some es
  pub cells_are : (q : Place) → cells n u p m d k c q + object_footprint n s (a_struct r d k) q ≡ cells n s p m d k c q + object_footprint n u (a_struct r d k) q

-- the struct at r becomes another
module _ (n : ℕ) (s u : Segments) (r : Place) (d k section : ℕ) (kids : Trees) (e f : Place → ℕ) (h : Changes s u (λ q. object_footprint n s (a_struct r d k) q + e q) (λ q. object_footprint n u (a_struct r d k) q + f q)) (new : tree_of u (tree_at n u) (a_struct r d k) ≡ Some (structure d section kids)) where
  kept : (xs : List Span) → ((q : Place) → times_held xs q + (object_footprint n s (a_struct r d k) q + e q) ≤ 1) → AllByRecursion (Keeps s u) xs
  kept xs apart = beside_kept s u (λ q. object_footprint n s (a_struct r d k) q + e q) (λ q. object_footprint n u (a_struct r d k) q + f q) xs h apart

  pub element_replaced : (p : Place) (m c i : ℕ) (ws : List ℕ) (es : Elements) → r ≡ after p (i * (d + k)) → i < c → c * (d + k) ≤ m → words_at s p m ≡ Some ws → ((q : Place) → cells n s p m d k c q + e q ≤ 1) → each_element (tree_at n s) p ws d k c ≡ Some es → Replaced n s u p r m d k c (with_element es i section kids)
  element_replaced p m zero i ws es at_r l fits w apart is_e = absurd (omega (arith, l))
  element_replaced p m (suc c) zero ws es at_r l fits w apart is_e =
      let at : r ≡ p = at_r ∙ first_place p (d + k) in
      let sum = rest_of d k c m fits in
      let w' : words_at s p ((d + k) + (m - (d + k))) ≡ Some ws = subst (λ (x : ℕ). words_at s p x ≡ Some ws) sum w in
      let behind_it = words_back s p (d + k) (m - (d + k)) ws w' in
      let x = bind_some (each (tree_at n s) (after p d) k) _ es is_e in
      let y = bind_some (each_element (tree_at n s) (after p (d + k)) (drop (d + k) ws) d k c) _ es x.2 in
      let same : (q : Place) → object_footprint n s (a_struct r d k) q ≡ object_footprint n s (a_struct p d k) q = λ q. ap (λ (z : Place). object_footprint n s (a_struct z d k) q) at in
      let same' : (q : Place) → object_footprint n u (a_struct r d k) q ≡ object_footprint n u (a_struct p d k) q = λ q. ap (λ (z : Place). object_footprint n u (a_struct z d k) q) at in
      let words_kept : Keeps s u (span (after p (d + k)) (m - (d + k))) = (kept (span (after p (d + k)) (m - (d + k)) ∷ []) (λ q. omega (arith, apart q, cells_next n s p m d k c q fits, same q, held_is (after p (d + k)) (m - (d + k)) [] q))).0 in
      let inner : c * (d + k) + (m - (d + k) - c * (d + k)) ≡ m - (d + k) = omega (arith, rest_fits d k c m fits) in
      let rest_there : words_at s (after p (d + k)) (c * (d + k) + (m - (d + k) - c * (d + k))) ≡ Some (drop (d + k) ws) = subst (λ (z : ℕ). words_at s (after p (d + k)) z ≡ Some (drop (d + k) ws)) (sym inner) behind_it in
      let rest_kept : Keeps s u (span (after p (d + k)) (c * (d + k) + (m - (d + k) - c * (d + k)))) = subst (λ (z : ℕ). Keeps s u (span (after p (d + k)) z)) (sym inner) words_kept in
      let beside = elements_same s u (tree_at n s) (tree_at n u) (behind n s) (behind n u) (λ q v a g. value_same n n s u q v (omega arith) a g) (after p (d + k)) (drop (d + k) ws) _ d k c y.0
      (words_front s (after p (d + k)) (c * (d + k)) (m - (d + k) - c * (d + k)) _ rest_there)
      (keeps_front s u (after p (d + k)) (c * (d + k)) (m - (d + k) - c * (d + k)) _ rest_there rest_kept)
      (kept (from_elements (behind n s) (after p (d + k)) d k c) (λ q. omega (arith, apart q, cells_next n s p m d k c q fits, same q))) y.1 in
      let here : tree_of u (tree_at n u) (a_struct p d k) ≡ Some (structure d section kids) = subst (λ (z : Place). tree_of u (tree_at n u) (a_struct z d k) ≡ Some (structure d section kids)) at new in
      let parts = (struct_parts n u p d k d section kids here).1 in
      let long : length parts.words ≡ d + k = words_length u p (d + k) parts.words parts.there in
      let front : take d (parts.words ++ drop (d + k) ws) ≡ take d parts.words = take-append-le d parts.words (drop (d + k) ws) (omega (arith, long)) in
      let tail : drop (d + k) (parts.words ++ drop (d + k) ws) ≡ drop (d + k) ws = drop_at parts.words (drop (d + k) ws) (d + k) long in
      let kids_are : each (tree_at n u) (after p d) k ≡ Some kids = parts.kids_are in
      let tail_is : each_element (tree_at n u) (after p (d + k)) (drop (d + k) (parts.words ++ drop (d + k) ws)) d k c ≡ Some y.0 = ap (λ (vs : List ℕ). each_element (tree_at n u) (after p (d + k)) vs d k c) tail ∙ beside.0 in
      let is : element (section_of (take d ws)) x.0 y.0 ≡ es = some_is _ _ y.2 in
      record {
        words = parts.words ++ drop (d + k) ws;
        there = subst (λ (z : ℕ). words_at u p z ≡ Some (parts.words ++ drop (d + k) ws)) (sym sum) (words_join u p (d + k) (m - (d + k)) parts.words (drop (d + k) ws) parts.there (words_kept (drop (d + k) ws) behind_it));
        elements_are = rw (kids_are, tail_is) (ap (λ (z : ℕ). Some (element z kids y.0)) (ap section_of front ∙ parts.section_is) ∙ ap (λ (us : Elements). Some (with_element us 0 section kids)) is);
        cells_are = λ q. (
            let t : times_held (from_elements (behind n u) (after p (d + k)) d k c) q ≡ times_held (from_elements (behind n s) (after p (d + k)) d k c) q = ap (λ (xs : List Span). times_held xs q) beside.1 in
            omega (arith, cells_next n s p m d k c q fits, cells_next n u p m d k c q fits, same q, same' q, t)
            );
      }
  element_replaced p m (suc c) (suc i) ws es at_r l fits w apart is_e =
      let at : r ≡ after (after p (d + k)) (i * (d + k)) = at_r ∙ next_place p (d + k) i in
      let sum = rest_of d k c m fits in
      let w' : words_at s p ((d + k) + (m - (d + k))) ≡ Some ws = subst (λ (x : ℕ). words_at s p x ≡ Some ws) sum w in
      let here_it = words_front s p (d + k) (m - (d + k)) ws w' in
      let behind_it = words_back s p (d + k) (m - (d + k)) ws w' in
      let x = bind_some (each (tree_at n s) (after p d) k) _ es is_e in
      let y = bind_some (each_element (tree_at n s) (after p (d + k)) (drop (d + k) ws) d k c) _ es x.2 in
      let le = element_le n s (after p (d + k)) r (m - (d + k)) d k c i at (omega (arith, l)) (rest_fits d k c m fits) in
      let words_kept : Keeps s u (span p (d + k)) = (kept (span p (d + k) ∷ []) (λ q. omega (arith, apart q, cells_next n s p m d k c q fits, struct_cells n s p d k q, le q, held_is p (d + k) [] q))).0 in
      let first = each_same s u (tree_at n s) (tree_at n u) (behind n s) (behind n u) (λ q v a g. value_same n n s u q v (omega arith) a g) (after p d) k _ x.0
      (words_back s p d k _ here_it) (keeps_back s u p d k _ here_it words_kept)
      (kept (from_each (behind n s) (after p d) k) (λ q. omega (arith, apart q, cells_next n s p m d k c q fits, struct_cells n s p d k q, le q))) x.1 in
      let inner = element_replaced (after p (d + k)) (m - (d + k)) c i (drop (d + k) ws) y.0 at (omega (arith, l)) (rest_fits d k c m fits) behind_it (λ q. omega (arith, apart q, cells_next n s p m d k c q fits)) y.1 in
      let long : length (take (d + k) ws) ≡ d + k = words_length s p (d + k) (take (d + k) ws) here_it in
      let front : take d (take (d + k) ws ++ inner.words) ≡ take d ws = take-append-le d (take (d + k) ws) inner.words (omega (arith, long)) ∙ front_again d k ws in
      let tail : drop (d + k) (take (d + k) ws ++ inner.words) ≡ inner.words = drop_at (take (d + k) ws) inner.words (d + k) long in
      let kids_are : each (tree_at n u) (after p d) k ≡ Some x.0 = first.0 in
      let tail_is : each_element (tree_at n u) (after p (d + k)) (drop (d + k) (take (d + k) ws ++ inner.words)) d k c ≡ Some (with_element y.0 i section kids) = ap (λ (vs : List ℕ). each_element (tree_at n u) (after p (d + k)) vs d k c) tail ∙ inner.elements_are in
      let is : element (section_of (take d ws)) x.0 y.0 ≡ es = some_is _ _ y.2 in
      record {
        words = take (d + k) ws ++ inner.words;
        there = subst (λ (z : ℕ). words_at u p z ≡ Some (take (d + k) ws ++ inner.words)) (sym sum) (words_join u p (d + k) (m - (d + k)) (take (d + k) ws) inner.words (words_kept (take (d + k) ws) here_it) inner.there);
        elements_are = rw (kids_are, tail_is) (ap (λ (z : ℕ). Some (element z x.0 (with_element y.0 i section kids))) (ap section_of front) ∙ ap (λ (us : Elements). Some (with_element us (suc i) section kids)) is);
        cells_are = λ q. (
            let t : times_held (from_each (behind n u) (after p d) k) q ≡ times_held (from_each (behind n s) (after p d) k) q = ap (λ (xs : List Span). times_held xs q) first.1 in
            omega (arith, cells_next n s p m d k c q fits, cells_next n u p m d k c q fits, struct_cells n s p d k q, struct_cells n u p d k q, t, inner.cells_are q)
            );
      }

-- ---- the list

pub tag_alike : (ws vs : List ℕ) (t : Tag) → take 1 vs ≡ take 1 ws → length vs ≡ length ws → tag_in ws ≡ Ok t → tag_in vs ≡ Ok t
tag_alike [] vs t e l f = absurd cc
tag_alike (w ∷ ws) [] t e l f = absurd cc
tag_alike (w ∷ ws) (v ∷ vs) t e l f =
    let head : v ≡ w = cc in
    let long : length vs ≡ length ws = omega (arith, l) in
    rw (head, long) f

-- the parts of a list of structs
pub record ElementParts (n : ℕ) (s : Segments) (p : Place) (m d k : ℕ) (es : Elements) : Type 0 where
  pub words : List ℕ
  pub there : words_at s p (1 + m) ≡ Some words
  pub tag_is : tag_in words ≡ Ok (record { count = element_count es; data_words = d; pointers = k })
  pub elements_are : each_element (tree_at n s) (after p 1) (drop 1 words) d k (element_count es) ≡ Some es

pub element_parts : (n : ℕ) (s : Segments) (p : Place) (m d k : ℕ) (es : Elements) → tree_of s (tree_at n s) (a_list p 7 m) ≡ Some (struct_list d k es) → ElementParts n s p m d k es
element_parts n s p m d k es e =
    let x = bind_some (words_at s p (1 + m)) _ (struct_list d k es) e in
    let y = bind_found (tag_in x.0) _ (struct_list d k es) x.2 in
    let z = bind_some (each_element (tree_at n s) (after p 1) (drop 1 x.0) y.0.data_words y.0.pointers y.0.count) _ (struct_list d k es) y.2 in
    let is : struct_list y.0.data_words y.0.pointers z.0 ≡ struct_list d k es = some_is _ _ z.2 in
    let dw : y.0.data_words ≡ d = cc in
    let kw : y.0.pointers ≡ k = cc in
    let same : z.0 ≡ es = cc in
    let count : y.0.count ≡ element_count es = sym (each_element_count (tree_at n s) (after p 1) (drop 1 x.0) y.0.data_words y.0.pointers y.0.count z.0 z.1) ∙ ap element_count same in
    let tag : y.0 ≡ record { count = element_count es; data_words = d; pointers = k } = tags y.0 (element_count es) d k count dw kw in
    record {
      words = x.0;
      there = x.1;
      tag_is = y.1 ∙ ap Ok tag;
      elements_are = ap (λ (t : Tag). each_element (tree_at n s) (after p 1) (drop 1 x.0) t.data_words t.pointers t.count) (sym tag) ∙ z.1 ∙ ap (λ (us : Elements). Some us) same;
    }
  where
    tags : (t : Tag) (a b c : ℕ) → t.count ≡ a → t.data_words ≡ b → t.pointers ≡ c → t ≡ record { count = a; data_words = b; pointers = c }
    tags t a b c e f g = ap (λ (x : ℕ). let u : Tag = record { count = x; data_words = t.data_words; pointers = t.pointers } in u) e ∙ ap (λ (x : ℕ). let u : Tag = record { count = a; data_words = x; pointers = t.pointers } in u) f ∙ ap (λ (x : ℕ). let u : Tag = record { count = a; data_words = b; pointers = x } in u) g

pub list_of_parts : (n : ℕ) (s : Segments) (p : Place) (m d k : ℕ) (es : Elements) → ElementParts n s p m d k es → tree_of s (tree_at n s) (a_list p 7 m) ≡ Some (struct_list d k es)
list_of_parts n s p m d k es x =
    let there : words_at s p (1 + m) ≡ Some x.words = x.there in
    let tag : tag_in x.words ≡ Ok (record { count = element_count es; data_words = d; pointers = k }) = x.tag_is in
    let elements : each_element (tree_at n s) (after p 1) (drop 1 x.words) d k (element_count es) ≡ Some es = x.elements_are in
    rw (there, tag, elements) refl

pub list_is : (n : ℕ) (s : Segments) (p : Place) (m d k : ℕ) (es : Elements) (q : Place) → ElementParts n s p m d k es → object_footprint n s (a_list p 7 m) q ≡ held p 1 q + cells n s (after p 1) m d k (element_count es) q
list_is n s p m d k es q x =
    let there : words_at s p (1 + m) ≡ Some x.words = x.there in
    let read : (words_at s p (1 + m) >>= λ ws. result_ok (tag_in ws)) ≡ Some (record { count = element_count es; data_words = d; pointers = k }) = rw there (ap result_ok x.tag_is) in
    let e : times_held (covered_object s (behind n s) (a_list p 7 m)) q ≡ times_held (span p (1 + m) ∷ from_elements (behind n s) (after p 1) d k (element_count es)) q = ap (λ (t : Option Tag). times_held (span p (1 + m) ∷ covered_tag (behind n s) p t) q) read in
    omega (arith, e, held_is p (1 + m) (from_elements (behind n s) (after p 1) d k (element_count es)) q, held_split p 1 m q)

pub parts_fit : (n : ℕ) (s : Segments) (p : Place) (m d k : ℕ) (es : Elements) → ElementParts n s p m d k es → element_count es * (d + k) ≤ m
parts_fit n s p m d k es x =
    let long : length (drop 1 x.words) ≡ m = words_length s (after p 1) m (drop 1 x.words) (words_back s p 1 m x.words x.there) in
    omega (arith, tag_fits x.words _ x.tag_is, long)

pub element_of_list : (n : ℕ) (s : Segments) (p : Place) (m d k i : ℕ) (es : Elements) → i < element_count es → OwnsObject n s (a_list p 7 m) (struct_list d k es) → OwnsObject n s (a_struct (after (after p 1) (i * (d + k))) d k) (element_at d es i)
element_of_list n s p m d k i es l o =
    let x = element_parts n s p m d k es o.means in
    let fits = parts_fit n s p m d k es x in
    record {
      means = element_read s (tree_at n s) (after p 1) (after (after p 1) (i * (d + k))) m d k (element_count es) i (drop 1 x.words) es refl l fits (words_back s p 1 m x.words x.there) x.elements_are;
      apart = λ q. omega (arith, o.apart q, list_is n s p m d k es q x, element_le n s (after p 1) (after (after p 1) (i * (d + k))) m d k (element_count es) i refl l fits q);
    }

pub same_count : (es : Elements) (i section : ℕ) (kids : Trees) → element_count (with_element es i section kids) ≡ element_count es
same_count no_elements i section kids = refl
same_count (element s ts es) zero section kids = refl
same_count (element s ts es) (suc i) section kids = ap suc (same_count es i section kids)

pub list_of_element_with : (n : ℕ) (s u : Segments) (p : Place) (m d k i section : ℕ) (kids : Trees) (es : Elements) (e f : Place → ℕ) → i < element_count es → OwnsObject n s (a_list p 7 m) (struct_list d k es) → ((q : Place) → object_footprint n s (a_list p 7 m) q + e q ≤ 1) → tree_of u (tree_at n u) (a_struct (after (after p 1) (i * (d + k))) d k) ≡ Some (structure d section kids)
    → Changes s u (λ q. object_footprint n s (a_struct (after (after p 1) (i * (d + k))) d k) q + e q) (λ q. object_footprint n u (a_struct (after (after p 1) (i * (d + k))) d k) q + f q)
    → (tree_of u (tree_at n u) (a_list p 7 m) ≡ Some (struct_list d k (with_element es i section kids))) × Changes s u (λ q. object_footprint n s (a_list p 7 m) q + e q) (λ q. object_footprint n u (a_list p 7 m) q + f q)
list_of_element_with n s u p m d k i section kids es e f l o apart means changes =
    let x = element_parts n s p m d k es o.means in
    let fits = parts_fit n s p m d k es x in
    let slot : Place = after (after p 1) (i * (d + k)) in
    let le = element_le n s (after p 1) (after (after p 1) (i * (d + k))) m d k (element_count es) i refl l fits in
    let w1 = words_back s p 1 m x.words x.there in
    let new = element_replaced n s u (after (after p 1) (i * (d + k))) d k section kids e f changes means (after p 1) m (element_count es) i (drop 1 x.words) es refl l fits w1 (λ q. omega (arith, apart q, list_is n s p m d k es q x)) x.elements_are in
    let front : words_at u p 1 ≡ Some (take 1 x.words) = (beside_kept s u (λ q. object_footprint n s (a_struct (after (after p 1) (i * (d + k))) d k) q + e q) (λ q. object_footprint n u (a_struct (after (after p 1) (i * (d + k))) d k) q + f q) (span p 1 ∷ []) changes (λ q. omega (arith, apart q, list_is n s p m d k es q x, le q, held_is p 1 [] q))).0 _ (words_front s p 1 m x.words x.there) in
    let one : length (take 1 x.words) ≡ 1 = words_length u p 1 _ front in
    let whole : length x.words ≡ 1 + m = words_length s p (1 + m) x.words x.there in
    let longer : length new.words ≡ m = words_length u (after p 1) m new.words new.there in
    let head : take 1 (take 1 x.words ++ new.words) ≡ take 1 x.words = take_at (take 1 x.words) new.words 1 one in
    let tail : drop 1 (take 1 x.words ++ new.words) ≡ new.words = drop_at (take 1 x.words) new.words 1 one in
    let count : element_count (with_element es i section kids) ≡ element_count es = same_count es i section kids in
    let parts : ElementParts n u p m d k (with_element es i section kids) = record {
      words = take 1 x.words ++ new.words;
      there = words_join u p 1 m _ _ front new.there;
      tag_is = tag_alike x.words (take 1 x.words ++ new.words) _ head (omega (arith, whole, longer, one, length-append (take 1 x.words) new.words)) x.tag_is ∙ ap (λ (c : ℕ). let t : Tag = record { count = c; data_words = d; pointers = k } in Ok t) (sym count);
      elements_are = ap (λ (vs : List ℕ). each_element (tree_at n u) (after p 1) vs d k (element_count (with_element es i section kids))) tail ∙ ap (λ (c : ℕ). each_element (tree_at n u) (after p 1) new.words d k c) count ∙ new.elements_are;
    } in (
      list_of_parts n u p m d k (with_element es i section kids) parts,
      changes_lift s u (λ q. object_footprint n s (a_struct (after (after p 1) (i * (d + k))) d k) q + e q) (λ q. object_footprint n u (a_struct (after (after p 1) (i * (d + k))) d k) q + f q) (λ q. object_footprint n s (a_list p 7 m) q + e q) (λ q. object_footprint n u (a_list p 7 m) q + f q) changes
          (λ q. (let same : cells n u (after p 1) m d k (element_count (with_element es i section kids)) q ≡ cells n u (after p 1) m d k (element_count es) q = ap (λ (c : ℕ). cells n u (after p 1) m d k c q) count in omega (arith, list_is n s p m d k es q x, list_is n u p m d k (with_element es i section kids) q parts, same, new.cells_are q)))
          (λ q. omega (arith, list_is n s p m d k es q x, le q)),
    )

pub list_of_element : (n : ℕ) (s u : Segments) (p : Place) (m d k i section : ℕ) (kids : Trees) (es : Elements) → i < element_count es → OwnsObject n s (a_list p 7 m) (struct_list d k es) → ReplacesObject n s u (a_struct (after (after p 1) (i * (d + k))) d k) (structure d section kids) → ReplacesObject n s u (a_list p 7 m) (struct_list d k (with_element es i section kids))
list_of_element n s u p m d k i section kids es l o r =
    let x = list_of_element_with n s u p m d k i section kids es (λ q. 0) (λ q. 0) l o (λ q. omega (arith, o.apart q)) r.means (alone s u (object_footprint n s (a_struct (after (after p 1) (i * (d + k))) d k)) (object_footprint n u (a_struct (after (after p 1) (i * (d + k))) d k)) r.changes) in
    record { means = x.0; changes = not_with s u (object_footprint n s (a_list p 7 m)) (object_footprint n u (a_list p 7 m)) x.1 }
