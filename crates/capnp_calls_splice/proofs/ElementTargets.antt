-- Where what the pointers of elements in a row lead to begins.
use Rattle.std.proofs.Common.{◌≡◌, ℕ, suc, ◌+◌, ◌*◌, ◌≤◌, false, Option, Some, None, is_some, List, [], ◌++◌, length, take, drop, refl, ap, sym, ◌∙◌, append_assoc, length-append, arith}
use Rattle.std.specs.Prelude.{IfSome, MatchOption}
use Rattle.std.specs.Int.{from_le_bytes, w64}
use Rattle.std.proofs.lemmas.List.{length-map, take_all, take-append-drop, drop-drop, drop_at, length-take-le}
use Rattle.capnp_model.specs.Sections.{words_of}
use Rattle.capnp_model.specs.Trees.{Trees, tree_count, Elements, no_elements, element, element_count}
use Rattle.capnp_model.specs.Fits.{FitElements}
use Rattle.capnp_model.specs.Encoding.{links, bodies, cells, element_bodies}
use Rattle.capnp_model.proofs.lemmas.Numbers.{length-numbers_in}
use Rattle.capnp_model.proofs.lemmas.RoundTrip.{links_length}
use Rattle.capnp_wire_canonical.specs.Writes.{words_view, filled}
use Rattle.capnp_calls_splice.specs.Cells.{AreLinks, AreNear, AreCells, IsEnd}
use Rattle.capnp_calls_splice.proofs.Segmenting.{part_is}

-- So many of them are passed over, and these are left.
pub record IsRest (i m d k : ℕ) (es : Elements) (xs : List (List ℕ)) : Type 0 where
  pub left : Elements
  pub spelled : drop (i * (d + k)) (words_view xs) ≡ cells m d k left
  pub count : i + element_count left ≡ element_count es
  pub fit : FitElements d k left
  pub near : AreNear m d k left
  pub targets : element_bodies left ≡ element_bodies es

pub all_left : (m d k : ℕ) (es : Elements) (xs : List (List ℕ)) → AreCells m d k es xs → IsRest 0 m d k es xs
all_left m d k es xs h =
    let none : 0 * (d + k) ≡ 0 = omega arith in
    record { left = es; spelled = ap (λ (n : ℕ). drop n (words_view xs)) none ∙ h.spelled; count = omega arith; fit = h.fit; near = h.near; targets = refl }

-- The first of those that are left: its pointers, and those behind it.
pub record HasFirst (i m d k : ℕ) (es : Elements) (xs : List (List ℕ)) (slice : List (List ℕ)) : Type 0 where
  pub kids : Trees
  pub later : Elements
  pub are : AreLinks (element_count later * (d + k)) m kids slice
  pub size : tree_count kids ≡ k
  pub total : i + suc (element_count later) ≡ element_count es
  pub rest : bodies kids ≡ [] → IsRest (i + 1) m d k es xs

split : (w l c : List ℕ) → w ++ (l ++ c) ≡ (w ++ l) ++ c
split w l c = simp append_assoc

regrouped : (f w l c : List ℕ) → f ++ (w ++ (l ++ c)) ≡ (f ++ w) ++ (l ++ c)
regrouped f w l c = simp append_assoc

firsts : (left : Elements) (i m d k a n : ℕ) (es : Elements) (xs : List (List ℕ)) → drop (i * (d + k)) (words_view xs) ≡ cells m d k left → i + element_count left ≡ element_count es → FitElements d k left → AreNear m d k left
    → element_bodies left ≡ element_bodies es → suc i ≤ element_count es → i * (d + k) ≤ length xs → a ≡ i * (d + k) + d → n ≡ k → HasFirst i m d k es xs (take n (drop a xs))
firsts no_elements i m d k a n es xs e count fit near targets some room at size = absurd (omega (arith, count, some))
firsts (element s ts later) i m d k a n es xs e count fit near targets some room at size =
    let c : ℕ = element_count later in
    let own : List ℕ = links (element_count later * (d + k)) m ts in
    let r : List ℕ = cells (m + length (bodies ts)) d k later in
    let f : List ℕ = take (i * (d + k)) (words_view xs) in
    let viewed : length (words_view xs) ≡ length xs = length-map xs (from_le_bytes w64) in
    let begins : length f ≡ i * (d + k) = length-take-le (i * (d + k)) (words_view xs) (omega arith) in
    let whole : filled (length xs) xs ≡ (f ++ words_of d s) ++ (own ++ r) =
    take_all (length xs) (words_view xs) (omega arith) ∙ sym (take-append-drop (i * (d + k)) (words_view xs)) ∙ ap (λ (ws : List ℕ). f ++ ws) e ∙ regrouped f (words_of d s) own r in
    let wide = length-numbers_in 64 d s in
    let place : length (f ++ words_of d s) ≡ a = length-append f (words_of d s) ∙ omega arith in
    let many : length own ≡ k = links_length ts (element_count later * (d + k)) m ∙ fit.1 in
    let kids_count = fit.1 in
    let long = length-append (bodies ts) (element_bodies later) in
    let front : length (words_of d s ++ own) ≡ d + k = length-append (words_of d s) own ∙ omega arith in
    let next : (i + 1) * (d + k) ≡ i * (d + k) + (d + k) = omega arith in
    let behind : drop ((i + 1) * (d + k)) (words_view xs) ≡ r =
    ap (λ (z : ℕ). drop z (words_view xs)) next ∙ sym (drop-drop (d + k) (i * (d + k)) (words_view xs)) ∙ ap (drop (d + k)) (e ∙ split (words_of d s) own r) ∙ drop_at (words_of d s ++ own) r (d + k) front in
    record {
      kids = ts;
      later = later;
      are = record { fit = fit.2; near = omega arith; spelled = part_is xs (length xs) a n (f ++ words_of d s) own r whole place (many ∙ sym size) };
      size = fit.1;
      total = omega arith;
      rest = λ bare. (
          let none : m + length (bodies ts) ≡ m = ap (λ (b : List ℕ). m + length b) bare ∙ (omega arith) in
          record {
            left = later;
            spelled = behind ∙ ap (λ (z : ℕ). cells z d k later) none;
            count = omega arith;
            fit = fit.3;
            near = omega arith;
            targets = sym (ap (λ (b : List ℕ). b ++ element_bodies later) bare) ∙ targets;
          }
          );
    }

pub first_left : (i m d k a n : ℕ) (es : Elements) (xs : List (List ℕ)) → IsRest i m d k es xs → suc i ≤ element_count es → i * (d + k) ≤ length xs → a ≡ i * (d + k) + d → n ≡ k → HasFirst i m d k es xs (take n (drop a xs))
first_left i m d k a n es xs r some room at size = firsts r.left i m d k a n es xs r.spelled r.count r.fit r.near r.targets some room at size

no_more : (left : Elements) → element_count left ≡ 0 → element_bodies left ≡ []
no_more no_elements e = refl
no_more (element s ts es) e = absurd (omega (arith, e))

-- None is left, and none leads to words.
pub none_left : (i m d k : ℕ) (es : Elements) (xs : List (List ℕ)) → IsRest i m d k es xs → element_count es ≤ i → element_bodies es ≡ []
none_left i m d k es xs r all = let count = r.count in sym r.targets ∙ no_more r.left (omega (arith, count, all))

-- ---- what is found

pub none_found : (o : Option ℕ) (P : Type 0) (Q : ℕ → Type 0) → is_some o ≡ false → MatchOption o P Q → P
none_found None P Q e h = h
none_found (Some n) P Q e h = absurd (cc e)

pub found_at : (o : Option ℕ) (P D : Type 0) (place to : ℕ) → place ≡ to → MatchOption o P (λ n. D × (n ≡ place)) → IsEnd o to
found_at None P D place to e h = tt
found_at (Some n) P D place to e h = h.1 ∙ e

pub end_is : (o : Option ℕ) (n b total : ℕ) → n + b ≡ total → IfSome o (λ e. e + b ≡ total) → IsEnd o n
end_is None n b total same h = tt
end_is (Some e) n b total same h = omega (arith, same, h)

pub end_back : (o : Option ℕ) (n b total : ℕ) → n + b ≡ total → IsEnd o n → IfSome o (λ e. e + b ≡ total)
end_back None n b total same h = tt
end_back (Some e) n b total same h = ap (λ (z : ℕ). z + b) h ∙ same
