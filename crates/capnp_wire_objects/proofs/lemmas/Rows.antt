-- Pointers in a row and elements of lists of structs, one at a time.
use Rattle.std.proofs.Common.{◌≡◌, ℕ, zero, suc, ◌+◌, ◌-◌, ◌*◌, ◌<◌, ◌≤◌, List, [], ◌++◌, take, drop, Option, Some, refl, ap, sym, ◌∙◌, arith}
use Rattle.std.proofs.lemmas.List.{drop-drop}
use Rattle.capnp_model.specs.Chains.{◌>>=◌}
use Rattle.capnp_model.specs.Sections.{section_of}
use Rattle.capnp_model.specs.Segments.{Place, place, after}
use Rattle.capnp_model.specs.Trees.{Tree, Trees, none, ◌▸◌, Elements, no_elements, element, tree_count}
use Rattle.capnp_model.specs.Traversal.{each, each_element}
use Rattle.capnp_model.specs.Coverage.{from_each, from_elements}
use Rattle.capnp_model.specs.Sizes.{object_words, each_object_words, element_object_words, capability_count, each_capability_count, element_capability_count}
use Rattle.capnp_model.proofs.lemmas.Chaining.{bind_some, some_is}
use Rattle.capnp_model.proofs.lemmas.Counts.{each_count}

-- ---- pointers in a row

module _ (p : Place) (i n : ℕ) (h : i < n) where
  more : n - i ≡ suc (n - (i + 1))
  more = omega arith

  next_place : p.position + i + 1 ≡ p.position + (i + 1)
  next_place = omega arith

  pub each_next : (f : Place → Option Tree) → each f (after p i) (n - i) ≡ (f (after p i) >>= λ t. each f (after p (i + 1)) (n - (i + 1)) >>= λ ts. Some (t ▸ ts))
  each_next f = ap (each f (after p i)) more ∙ ap (λ (q : ℕ). f (after p i) >>= λ t. each f (place p.segment q) (n - (i + 1)) >>= λ ts. Some (t ▸ ts)) next_place

  pub met_next : {A : Type 0} (g : Place → List A) → from_each g (after p i) (n - i) ≡ g (after p i) ++ from_each g (after p (i + 1)) (n - (i + 1))
  met_next g = ap (from_each g (after p i)) more ∙ ap (λ (q : ℕ). g (after p i) ++ from_each g (place p.segment q) (n - (i + 1))) next_place

  pub row_join : (f : Place → Option Tree) (t : Tree) (ts : Trees) → f (after p i) ≡ Some t → each f (after p (i + 1)) (n - (i + 1)) ≡ Some ts
      → (us : Trees) × (each f (after p i) (n - i) ≡ Some us) × (each_object_words us ≡ (object_words t + 0) + each_object_words ts) × (each_capability_count us ≡ capability_count t + each_capability_count ts)
  unfolding object_words capability_count
  row_join f t ts e d = (t ▸ ts, each_next f ∙ rw (e, d) refl, omega arith, refl)

-- the whole row, from the start on
pub row_start : {A : Type 0} (p : Place) (n : ℕ) (f : Place → ℕ → A) → f (after p 0) (n - 0) ≡ f p n
row_start p n f = let e : p.position + 0 ≡ p.position = omega arith in let d : n - 0 ≡ n = omega arith in ap (λ (q : ℕ). f (place p.segment q) (n - 0)) e ∙ ap (f p) d

-- behind the last one
pub row_end : {A : Type 0} (n i : ℕ) (f : ℕ → A) → n ≤ i → f (n - i) ≡ f 0
row_end n i f h = let e : n - i ≡ 0 = omega arith in ap f e

pub no_words : each_object_words none ≡ 0
unfolding object_words
no_words = refl

pub no_capabilities : each_capability_count none ≡ 0
unfolding capability_count
no_capabilities = refl

pub no_element_words : (d : ℕ) → element_object_words d no_elements ≡ 0
unfolding object_words
no_element_words d = refl

pub no_element_capabilities : element_capability_count no_elements ≡ 0
unfolding capability_count
no_element_capabilities = refl

-- ---- elements

module _ (p : Place) (d k i n : ℕ) (h : i < n) where
  more_elements : n - i ≡ suc (n - (i + 1))
  more_elements = omega arith

  next_element : p.position + i * (d + k) + (d + k) ≡ p.position + (i + 1) * (d + k)
  next_element = omega arith

  pub element_next : (f : Place → Option Tree) (ws : List ℕ) → each_element f (after p (i * (d + k))) (drop (i * (d + k)) ws) d k (n - i)
      ≡ (each f (after (after p (i * (d + k))) d) k >>= λ ts. each_element f (after p ((i + 1) * (d + k))) (drop ((i + 1) * (d + k)) ws) d k (n - (i + 1)) >>= λ es. Some (element (section_of (take d (drop (i * (d + k)) ws))) ts es))
  element_next f ws =
      let q = after p (i * (d + k)) in
      let sec = section_of (take d (drop (i * (d + k)) ws)) in
      let sum : (d + k) + i * (d + k) ≡ (i + 1) * (d + k) = omega arith in
      let sum' : i * (d + k) + (d + k) ≡ (i + 1) * (d + k) = omega arith in
      let rest : drop (d + k) (drop (i * (d + k)) ws) ≡ drop ((i + 1) * (d + k)) ws = drop-drop (d + k) (i * (d + k)) ws ∙ ap (λ (m : ℕ). drop m ws) sum' in
      ap (each_element f q (drop (i * (d + k)) ws) d k) more_elements
      ∙ ap (λ (xs : List ℕ). each f (after q d) k >>= λ ts. each_element f (after q (d + k)) xs d k (n - (i + 1)) >>= λ es. Some (element sec ts es)) rest
      ∙ ap (λ (m : ℕ). each f (after q d) k >>= λ ts. each_element f (place p.segment m) (drop ((i + 1) * (d + k)) ws) d k (n - (i + 1)) >>= λ es. Some (element sec ts es)) next_element

  pub elements_met_next : {A : Type 0} (g : Place → List A) → from_elements g (after p (i * (d + k))) d k (n - i) ≡ from_each g (after (after p (i * (d + k))) d) k ++ from_elements g (after p ((i + 1) * (d + k))) d k (n - (i + 1))
  elements_met_next g = ap (from_elements g (after p (i * (d + k))) d k) more_elements ∙ ap (λ (m : ℕ). from_each g (after (after p (i * (d + k))) d) k ++ from_elements g (place p.segment m) d k (n - (i + 1))) next_element

  pub element_join : (f : Place → Option Tree) (ws : List ℕ) (ts : Trees) (es : Elements) → each f (after (after p (i * (d + k))) d) k ≡ Some ts → each_element f (after p ((i + 1) * (d + k))) (drop ((i + 1) * (d + k)) ws) d k (n - (i + 1)) ≡ Some es
      → (xs : Elements) × (each_element f (after p (i * (d + k))) (drop (i * (d + k)) ws) d k (n - i) ≡ Some xs)
      × (element_object_words d xs ≡ (each_object_words ts + (d + k)) + element_object_words d es) × (element_capability_count xs ≡ each_capability_count ts + element_capability_count es)
  unfolding object_words capability_count
  element_join f ws ts es e g =
      let count = each_count f (after (after p (i * (d + k))) d) k ts e in
      (element (section_of (take d (drop (i * (d + k)) ws))) ts es, element_next f ws ∙ rw (e, g) refl, omega arith, refl)

pub elements_start : {A : Type 0} (p : Place) (d k n : ℕ) (f : Place → ℕ → A) → f (after p (0 * (d + k))) (n - 0) ≡ f p n
elements_start p d k n f = let e : p.position + 0 * (d + k) ≡ p.position = omega arith in let z : n - 0 ≡ n = omega arith in ap (λ (q : ℕ). f (place p.segment q) (n - 0)) e ∙ ap (f p) z

-- elements without pointers: nothing is met in them, and they are just their words
pub nothing_met : {A : Type 0} (g : Place → List A) (p : Place) (d n : ℕ) → from_elements g p d 0 n ≡ []
nothing_met g p d zero = refl
nothing_met g p d (suc n) = nothing_met g (after p (d + 0)) d n

pub plain_elements_read : (f : Place → Option Tree) (p : Place) (ws : List ℕ) (d n : ℕ) → (es : Elements) × (each_element f p ws d 0 n ≡ Some es) × (element_object_words d es ≡ n * d) × (element_capability_count es ≡ 0)
unfolding object_words capability_count
plain_elements_read f p ws d zero = let none : 0 ≡ 0 * d = omega arith in (no_elements, refl, none, refl)
plain_elements_read f p ws d (suc n) =
    let rest = plain_elements_read f (after p (d + 0)) (drop (d + 0) ws) d n in
    let words = rest.2 in
    let caps = rest.3 in
    let all : d + 0 + 0 + element_object_words d rest.0 ≡ suc n * d = omega arith in
    let no_caps : 0 + element_capability_count rest.0 ≡ 0 = omega arith in
    (element (section_of (take d ws)) none rest.0, rw rest.1 refl, all, no_caps)
