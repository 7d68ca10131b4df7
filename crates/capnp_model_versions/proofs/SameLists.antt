-- Lists of structs of one trimmed value.
use Rattle.std.proofs.Common.{◌≡◌, ℕ, zero, suc, ◌*◌, ◌^◌, ◌<◌, ◌≤◌, max, refl, sym, ◌∙◌, ap, subst, arith}
use Rattle.capnp_model.specs.Trees.{Tree, null, capability, structure, plain_list, pointer_list, struct_list, Elements, no_elements, element, tree_count, resized}
use Rattle.capnp_model.specs.Sections.{needed_words}
use Rattle.capnp_model.specs.Trimming.{stripped, common_words, common_pointers, with_pointers, trim, trim_each, trim_elements}
use Rattle.capnp_model.specs.Edits.{Cell, Edit, on_elements, padded_elements}
use Rattle.capnp_model.proofs.lemmas.Numbers.{needed_words-more}
use Rattle.capnp_model.proofs.lemmas.Stripping.{resized-stripped, stripped-resized}
use Rattle.capnp_model.proofs.lemmas.Widening.{bare, bare-padded_to}
use Rattle.capnp_model_versions.specs.Whole.{HaveWhole}
use Rattle.capnp_model_versions.proofs.lemmas.WholeValues.{whole-padded_to}
use Rattle.capnp_model_versions.proofs.Alike.{Alike, SameCell, Agree}

-- so many elements, each with the same cell
abbrev pub SameElements : Elements → Elements → Type 0
SameElements no_elements no_elements = Unit {0}
SameElements (element n ts es) (element m us es') = SameCell (record { section = n; kids = ts }) (record { section = m; kids = us }) × SameElements es es'
SameElements _ _ = ⊥

-- ---- one trimmed list

same_needed : (w v n : ℕ) → n < 2 ^ (64 * w) → n < 2 ^ (64 * v) → needed_words w n ≡ needed_words v n
same_needed w v n h k = sym (needed_words-more (max w v) w n (omega arith) h) ∙ needed_words-more (max w v) v n (omega arith) k

common_words-same : (w v : ℕ) (es es' : Elements) → HaveWhole w es → HaveWhole v es' → SameElements es es' → common_words w (trim_elements es) ≡ common_words v (trim_elements es')
unfolding trim
common_words-same w v no_elements no_elements h h' s = refl
common_words-same w v no_elements (element m us es') h h' s = absurd s
common_words-same w v (element n ts es) no_elements h h' s = absurd s
common_words-same w v (element n ts es) (element m us es') h h' s =
    let small : n < 2 ^ (64 * v) = subst (λ z. z < 2 ^ (64 * v)) (sym s.0.sections) h'.0 in
    ap (λ z. max z (common_words w (trim_elements es))) (same_needed w v n h.0 small ∙ ap (needed_words v) s.0.sections)
    ∙ ap (max (needed_words v m)) (common_words-same w v es es' h.2 h'.2 s.1)

common_pointers-same : (es es' : Elements) → SameElements es es' → common_pointers (trim_elements es) ≡ common_pointers (trim_elements es')
unfolding trim
common_pointers-same no_elements no_elements s = refl
common_pointers-same no_elements (element m us es') s = absurd s
common_pointers-same (element n ts es) no_elements s = absurd s
common_pointers-same (element n ts es) (element m us es') s =
    ap (λ z. max (tree_count z) (common_pointers (trim_elements es))) s.0.kids ∙ ap (max (tree_count (bare us))) (common_pointers-same es es' s.1)

with_pointers-same : (p : ℕ) (es es' : Elements) → SameElements es es' → with_pointers p (trim_elements es) ≡ with_pointers p (trim_elements es')
unfolding trim
with_pointers-same p no_elements no_elements s = refl
with_pointers-same p no_elements (element m us es') s = absurd s
with_pointers-same p (element n ts es) no_elements s = absurd s
with_pointers-same p (element n ts es) (element m us es') s =
    let kids : resized p (trim_each ts) ≡ resized p (trim_each us) = sym (resized-stripped p (trim_each ts)) ∙ ap (resized p) s.0.kids ∙ resized-stripped p (trim_each us) in
    ap (λ z. element z (resized p (trim_each ts)) (with_pointers p (trim_elements es))) s.0.sections
    ∙ ap (λ z. element m z (with_pointers p (trim_elements es))) kids
    ∙ ap (element m (resized p (trim_each us))) (with_pointers-same p es es' s.1)

pub alike-elements : (w p v q : ℕ) (es es' : Elements) → HaveWhole w es → HaveWhole v es' → SameElements es es' → Alike (struct_list w p es) (struct_list v q es')
unfolding trim
alike-elements w p v q es es' h h' s =
    let words : common_words w (trim_elements es) ≡ common_words v (trim_elements es') = common_words-same w v es es' h h' s in
    let pointers : common_pointers (trim_elements es) ≡ common_pointers (trim_elements es') = common_pointers-same es es' s in
    record {
      trims = ap (λ z. struct_list z (common_pointers (trim_elements es)) (with_pointers (common_pointers (trim_elements es)) (trim_elements es))) words
          ∙ ap (λ z. struct_list (common_words v (trim_elements es')) z (with_pointers z (trim_elements es))) pointers
          ∙ ap (struct_list (common_words v (trim_elements es')) (common_pointers (trim_elements es'))) (with_pointers-same (common_pointers (trim_elements es')) es es' s);
      whole = h;
      whole' = h';
    }

-- ---- what a list of a struct list's trimmed value is

elements_of : (c w v : ℕ) (es es' : Elements) → with_pointers c (trim_elements es) ≡ with_pointers c (trim_elements es') → common_pointers (trim_elements es) ≤ c → common_pointers (trim_elements es') ≤ c → HaveWhole w es → HaveWhole v es' → SameElements es es'
unfolding trim
elements_of c w v no_elements no_elements e le le' h h' = tt
elements_of c w v no_elements (element m us es') e le le' h h' = absurd (cc e)
elements_of c w v (element n ts es) no_elements e le le' h h' = absurd (cc e)
elements_of c w v (element n ts es) (element m us es') e le le' h h' =
    let sections : n ≡ m = cc in
    let cut : resized c (trim_each ts) ≡ resized c (trim_each us) = cc in
    let rest : with_pointers c (trim_elements es) ≡ with_pointers c (trim_elements es') = cc in
    let x : max (tree_count (bare ts)) (common_pointers (trim_elements es)) ≤ c = le in
    let y : max (tree_count (bare us)) (common_pointers (trim_elements es')) ≤ c = le' in (
      record {
        sections = sections;
        kids = sym (stripped-resized c (trim_each ts) (omega arith)) ∙ ap stripped cut ∙ stripped-resized c (trim_each us) (omega arith);
        whole = h.1;
        whole' = h'.1;
      },
      elements_of c w v es es' rest (omega arith) (omega arith) h.2 h'.2,
    )

pub data IsListLike (w : ℕ) (es : Elements) : Tree → Type 0 where
  list_like : (v q : ℕ) (es' : Elements) → SameElements es es' → HaveWhole w es → HaveWhole v es' → IsListLike w es (struct_list v q es')

list_parts : (w p v q : ℕ) (es es' : Elements) → trim (struct_list w p es) ≡ trim (struct_list v q es') → (common_pointers (trim_elements es) ≡ common_pointers (trim_elements es')) × (with_pointers (common_pointers (trim_elements es)) (trim_elements es) ≡ with_pointers (common_pointers (trim_elements es')) (trim_elements es'))
unfolding trim
list_parts w p v q es es' h = (cc, cc)

pub list-like : (w p : ℕ) (es : Elements) (u : Tree) → Alike (struct_list w p es) u → IsListLike w es u
unfolding trim
list-like w p es null a = absurd (cc (a.trims))
list-like w p es (capability i) a = absurd (cc (a.trims))
list-like w p es (structure v m us) a = absurd (cc (a.trims))
list-like w p es (plain_list z k x) a = absurd (cc (a.trims))
list-like w p es (pointer_list us) a = absurd (cc (a.trims))
list-like w p es (struct_list v q es') a =
    let both = list_parts w p v q es es' a.trims in
    list_like v q es'
    (elements_of (common_pointers (trim_elements es')) w v es es' (ap (λ z. with_pointers z (trim_elements es)) (sym both.0) ∙ both.1) (let e = both.0 in omega arith) (omega arith) a.whole a.whole')
    a.whole a.whole'

-- ---- more pointers

pub same-padded : (p q : ℕ) (es es' : Elements) → SameElements es es' → SameElements (padded_elements p es) (padded_elements q es')
same-padded p q no_elements no_elements s = tt
same-padded p q no_elements (element m us es') s = absurd s
same-padded p q (element n ts es) no_elements s = absurd s
same-padded p q (element n ts es) (element m us es') s = (
  record {
    sections = s.0.sections;
    kids = bare-padded_to p ts ∙ s.0.kids ∙ sym (bare-padded_to q us);
    whole = whole-padded_to p ts s.0.whole;
    whole' = whole-padded_to q us s.0.whole';
  },
  same-padded p q es es' s.1,
)

pub whole-padded_elements : (d p : ℕ) (es : Elements) → HaveWhole d es → HaveWhole d (padded_elements p es)
whole-padded_elements d p no_elements h = tt
whole-padded_elements d p (element n ts es) h = (h.0, whole-padded_to p ts h.1, whole-padded_elements d p es h.2)

-- ---- an edit of one element

-- what holds of the cell of an element
abbrev pub AtElement : (Cell → Type 0) → ℕ → Elements → Type 0
AtElement P k no_elements = ⊥
AtElement P zero (element n ts es) = P (record { section = n; kids = ts })
AtElement P (suc k) (element n ts es) = AtElement P k es

-- the same elements, all whole
pub record SameWhole (w v : ℕ) (es es' : Elements) : Type 0 where
  pub same : SameElements es es'
  pub whole : HaveWhole w es
  pub whole' : HaveWhole v es'

module _ (P Q : Cell → Type 0) (bits : ℕ) (f g : Edit) (agree : (c d : Cell) → SameCell c d → P c → Q d → Agree bits c (f c) (g d)) (w v : ℕ) (le : bits ≤ 64 * w) (le' : bits ≤ 64 * v) where
  pub edited-elements : (k : ℕ) (es es' : Elements) → AtElement P k es → AtElement Q k es' → SameWhole w v es es' → SameWhole w v (on_elements f k es) (on_elements g k es')
  edited-elements k no_elements es' p q h = absurd p
  edited-elements k (element n ts es) no_elements p q h = absurd (h.same)
  edited-elements zero (element n ts es) (element m us es') p q h =
      let a = agree (record { section = n; kids = ts }) (record { section = m; kids = us }) h.same.0 p q in
      let e : n ≡ m = h.same.0.sections in
      record {
        same = (a.same, h.same.1);
        whole = (a.within (64 * w) le h.whole.0, a.same.whole, h.whole.2);
        whole' = (subst (λ z. z < 2 ^ (64 * v)) a.same.sections (a.within (64 * v) le' (subst (λ z. z < 2 ^ (64 * v)) (sym e) h.whole'.0)), a.same.whole', h.whole'.2);
      }
  edited-elements (suc k) (element n ts es) (element m us es') p q h =
      let rest = edited-elements k es es' p q (record { same = h.same.1; whole = h.whole.2; whole' = h.whole'.2 }) in
      record {
        same = (h.same.0, rest.same);
        whole = (h.whole.0, h.whole.1, rest.whole);
        whole' = (h.whole'.0, h.whole'.1, rest.whole');
      }
