-- Lists on the path of a call, under two versions.
use Rattle.std.proofs.Common.{◌≡◌, ℕ, zero, suc, ◌*◌, ◌^◌, ◌<◌, ◌≤◌, max, List, [], ◌∷◌, refl, sym, ◌∙◌, ap, arith}
use Rattle.std.specs.List.{AllByRecursion}
use Rattle.capnp_model.specs.Trees.{Tree, null, capability, structure, plain_list, pointer_list, struct_list, Trees, none, ◌▸◌, Elements, size_bits, plain_elements}
use Rattle.capnp_model.specs.Sections.{number_of}
use Rattle.capnp_model.specs.Trimming.{after_stripping, trim, trim_each}
use Rattle.capnp_model.specs.Edits.{Cell, Edit, elements_of_plain, elements_of_pointers, padded_elements, least_words, on_plain, on_pointers, on_elements, edit_list}
use Rattle.capnp_model.proofs.lemmas.Numbers.{numbers_in_lt, wider}
use Rattle.capnp_model.proofs.lemmas.Widening.{bare-padded_to}
use Rattle.capnp_model_versions.specs.Whole.{AreWhole, HaveWhole}
use Rattle.capnp_model_versions.proofs.lemmas.WholeValues.{whole-padded_to, whole-resized, whole-more}
use Rattle.capnp_model_versions.proofs.Alike.{Alike, SameCell, Agree, alike-child}
use Rattle.capnp_model_versions.proofs.SameLists.{SameElements, alike-elements, same-padded, whole-padded_elements, AtElement, SameWhole, edited-elements}
use Rattle.capnp_model_versions.proofs.SameContents.{bare_nulls}
use Rattle.capnp_model_versions.proofs.WroteLists.{AtPlain, AtChild}

-- ---- what a list of a list's trimmed value is

pub plain-like : (z k x : ℕ) (u : Tree) → Alike (plain_list z k x) u → u ≡ plain_list z k x
unfolding trim
plain-like z k x null a = absurd (cc (a.trims))
plain-like z k x (capability i) a = absurd (cc (a.trims))
plain-like z k x (structure v m us) a = absurd (cc (a.trims))
plain-like z k x (plain_list z' k' x') a = sym a.trims
plain-like z k x (pointer_list us) a = absurd (cc (a.trims))
plain-like z k x (struct_list d p es) a = absurd (cc (a.trims))

abbrev pub SameTrees : Trees → Trees → Type 0
SameTrees none none = Unit {0}
SameTrees (t ▸ ts) (u ▸ us) = Alike t u × SameTrees ts us
SameTrees _ _ = ⊥

same_trees : (ts us : Trees) → trim_each ts ≡ trim_each us → AreWhole ts → AreWhole us → SameTrees ts us
unfolding trim
same_trees none none e h h' = tt
same_trees none (u ▸ us) e h h' = absurd (cc e)
same_trees (t ▸ ts) none e h h' = absurd (cc e)
same_trees (t ▸ ts) (u ▸ us) e h h' =
    let first : trim t ≡ trim u = cc in
    let rest : trim_each ts ≡ trim_each us = cc in
    (record { trims = first; whole = h.0; whole' = h'.0 }, same_trees ts us rest h.1 h'.1)

one_list : (ts us : Trees) → SameTrees ts us → trim_each ts ≡ trim_each us
unfolding trim
one_list none none s = refl
one_list none (u ▸ us) s = absurd s
one_list (t ▸ ts) none s = absurd s
one_list (t ▸ ts) (u ▸ us) s = ap (λ z. z ▸ trim_each ts) s.0.trims ∙ ap (λ z. trim u ▸ z) (one_list ts us s.1)

all_whole : (ts us : Trees) → SameTrees ts us → AreWhole ts × AreWhole us
all_whole none none s = (tt, tt)
all_whole none (u ▸ us) s = absurd s
all_whole (t ▸ ts) none s = absurd s
all_whole (t ▸ ts) (u ▸ us) s = let rest = all_whole ts us s.1 in ((s.0.whole, rest.0), (s.0.whole', rest.1))

pub alike-pointers : (ts us : Trees) → SameTrees ts us → Alike (pointer_list ts) (pointer_list us)
unfolding trim
alike-pointers ts us s = record { trims = ap pointer_list (one_list ts us s); whole = (all_whole ts us s).0; whole' = (all_whole ts us s).1 }

pub data IsPointersLike (ts : Trees) : Tree → Type 0 where
  pointers_like : (us : Trees) → SameTrees ts us → IsPointersLike ts (pointer_list us)

pub pointers-like : (ts : Trees) (u : Tree) → Alike (pointer_list ts) u → IsPointersLike ts u
unfolding trim
pointers-like ts null a = absurd (cc (a.trims))
pointers-like ts (capability i) a = absurd (cc (a.trims))
pointers-like ts (structure v m us) a = absurd (cc (a.trims))
pointers-like ts (plain_list z k x) a = absurd (cc (a.trims))
pointers-like ts (pointer_list us) a = pointers_like us (same_trees ts us (cc (a.trims)) a.whole a.whole')
pointers-like ts (struct_list d p es) a = absurd (cc (a.trims))

-- ---- widened lists

least_holds : (size : ℕ) → size_bits size ≤ 64 * least_words size
least_holds zero = omega arith
least_holds (suc zero) = omega arith
least_holds (suc (suc zero)) = omega arith
least_holds (suc (suc (suc zero))) = omega arith
least_holds (suc (suc (suc (suc zero)))) = omega arith
least_holds (suc (suc (suc (suc (suc k))))) = omega arith

same_plain_elements : (p q : ℕ) (xs : List ℕ) → SameElements (elements_of_plain p xs) (elements_of_plain q xs)
same_plain_elements p q [] = tt
same_plain_elements p q (x ∷ xs) = (record { sections = refl; kids = bare_nulls p ∙ sym (bare_nulls q); whole = whole-resized p none tt; whole' = whole-resized q none tt }, same_plain_elements p q xs)

whole_plain_elements : (bits d p : ℕ) (xs : List ℕ) → bits ≤ 64 * d → AllByRecursion (λ x. x < 2 ^ bits) xs → HaveWhole d (elements_of_plain p xs)
whole_plain_elements bits d p [] le h = tt
whole_plain_elements bits d p (x ∷ xs) le h = (wider x bits (64 * d) le h.0, whole-resized p none tt, whole_plain_elements bits d p xs le h.1)

same_pointer_elements : (p q : ℕ) (ts us : Trees) → SameTrees ts us → SameElements (elements_of_pointers p ts) (elements_of_pointers q us)
unfolding trim
same_pointer_elements p q none none s = tt
same_pointer_elements p q none (u ▸ us) s = absurd s
same_pointer_elements p q (t ▸ ts) none s = absurd s
same_pointer_elements p q (t ▸ ts) (u ▸ us) s = (
  record {
    sections = refl;
    kids = bare-padded_to p (t ▸ none) ∙ ap (λ z. after_stripping z none) s.0.trims ∙ sym (bare-padded_to q (u ▸ none));
    whole = whole-padded_to p (t ▸ none) (s.0.whole, tt);
    whole' = whole-padded_to q (u ▸ none) (s.0.whole', tt);
  },
  same_pointer_elements p q ts us s.1,
)

whole_pointer_elements : (d p : ℕ) (ts : Trees) → AreWhole ts → HaveWhole d (elements_of_pointers p ts)
whole_pointer_elements d p none h = tt
whole_pointer_elements d p (t ▸ ts) h = (zero_lt d, whole-padded_to p (t ▸ none) (h.0, tt), whole_pointer_elements d p ts h.1)
  where
    zero_lt : (d : ℕ) → 0 < 2 ^ (64 * d)
    zero_lt d = wider 0 0 (64 * d) (omega arith) (omega arith)

-- an edit of an element of a list of structs, whatever cells meet P and Q
module _ (P Q : Cell → Type 0) (bits : ℕ) (f g : ℕ → ℕ → Edit) (agree : (w p v q : ℕ) (c d : Cell) → SameCell c d → P c → Q d → Agree bits c (f w p c) (g v q d)) where
  edited : (k w p v q : ℕ) (es es' : Elements) → bits ≤ 64 * w → bits ≤ 64 * v → AtElement P k es → AtElement Q k es' → SameWhole w v es es' → Alike (edit_list f k (struct_list w p es)) (edit_list g k (struct_list v q es'))
  edited k w p v q es es' le le' a b h =
      let r = edited-elements P Q bits (f w p) (g v q) (agree w p v q) w v le le' k es es' a b h in
      alike-elements w p v q (on_elements (f w p) k es) (on_elements (g v q) k es') r.whole r.whole' r.same

  pub edited-structs : (k w p v q : ℕ) (es : Elements) (es' : Elements) → bits ≤ 64 * w → bits ≤ 64 * v → AtElement P k es → AtElement Q k es' → SameElements es es' → HaveWhole w es → HaveWhole v es' → Alike (edit_list f k (struct_list w p es)) (edit_list g k (struct_list v q es'))
  edited-structs k w p v q es es' le le' a b s h h' = edited k w p v q es es' le le' a b (record { same = s; whole = h; whole' = h' })

  pub widened-plain : (k W V p q size m x : ℕ) → bits ≤ 64 * W → W ≤ V → AtElement P k (elements_of_plain p (plain_elements size m x)) → AtElement Q k (elements_of_plain q (plain_elements size m x))
      → Alike (edit_list f k (struct_list (max W (least_words size)) p (elements_of_plain p (plain_elements size m x)))) (edit_list g k (struct_list (max V (least_words size)) q (elements_of_plain q (plain_elements size m x))))
  widened-plain k W V p q size m x le more a b =
      let xs : List ℕ = plain_elements size m x in
      let least = least_holds size in
      edited k (max W (least_words size)) p (max V (least_words size)) q (elements_of_plain p xs) (elements_of_plain q xs) (omega arith) (omega arith) a b
      (record {
        same = same_plain_elements p q xs;
        whole = whole_plain_elements (size_bits size) (max W (least_words size)) p xs (omega arith) (numbers_in_lt (size_bits size) m x);
        whole' = whole_plain_elements (size_bits size) (max V (least_words size)) q xs (omega arith) (numbers_in_lt (size_bits size) m x);
      })

  pub widened-pointers : (k W V p q : ℕ) (ts us : Trees) → bits ≤ 64 * W → W ≤ V → SameTrees ts us → AtElement P k (elements_of_pointers p ts) → AtElement Q k (elements_of_pointers q us)
      → Alike (edit_list f k (struct_list W (max p 1) (elements_of_pointers p ts))) (edit_list g k (struct_list V (max q 1) (elements_of_pointers q us)))
  widened-pointers k W V p q ts us le more s a b =
      edited k W (max p 1) V (max q 1) (elements_of_pointers p ts) (elements_of_pointers q us) le (omega arith) a b
      (record {
        same = same_pointer_elements p q ts us s;
        whole = whole_pointer_elements W p ts (all_whole ts us s).0;
        whole' = whole_pointer_elements V q us (all_whole ts us s).1;
      })

  pub widened-structs : (k W V p q w r v z : ℕ) (es es' : Elements) → bits ≤ 64 * W → W ≤ V → SameElements es es' → HaveWhole w es → HaveWhole v es' → AtElement P k (padded_elements p es) → AtElement Q k (padded_elements q es')
      → Alike (edit_list f k (struct_list (max W w) (max p r) (padded_elements p es))) (edit_list g k (struct_list (max V v) (max q z) (padded_elements q es')))
  widened-structs k W V p q w r v z es es' le more s h h' a b =
      edited k (max W w) (max p r) (max V v) (max q z) (padded_elements p es) (padded_elements q es') (omega arith) (omega arith) a b
      (record {
        same = same-padded p q es es' s;
        whole = whole-padded_elements (max W w) p es (whole-more w (max W w) es (omega arith) h);
        whole' = whole-padded_elements (max V v) q es' (whole-more v (max V v) es' (omega arith) h');
      })

  -- ---- lists of other types

  plain_edited : (w p v q k : ℕ) (xs : List ℕ) → AtPlain P k xs → AtPlain Q k xs → on_plain (f w p) k xs ≡ on_plain (g v q) k xs
  plain_edited w p v q k [] a b = absurd a
  plain_edited w p v q zero (x ∷ xs) a b =
      let c : Cell = record { section = x; kids = none } in
      ap (λ z. z ∷ xs) (agree w p v q c c (record { sections = refl; kids = refl; whole = tt; whole' = tt }) a b).same.sections
  plain_edited w p v q (suc k) (x ∷ xs) a b = ap (λ z. x ∷ z) (plain_edited w p v q k xs a b)

  pub edited-plain : (k size m x : ℕ) → AtPlain P k (plain_elements size m x) → AtPlain Q k (plain_elements size m x) → Alike (edit_list f k (plain_list size m x)) (edit_list g k (plain_list size m x))
  edited-plain k size m x a b = record {
    trims = ap (λ z. trim (plain_list size m (number_of (size_bits size) z))) (plain_edited 1 0 1 0 k (plain_elements size m x) a b);
    whole = tt;
    whole' = tt;
  }

  pointers_edited : (w p v q k : ℕ) (ts us : Trees) → AtChild P k ts → AtChild Q k us → SameTrees ts us → SameTrees (on_pointers (f w p) k ts) (on_pointers (g v q) k us)
  unfolding trim
  pointers_edited w p v q k none us a b s = absurd a
  pointers_edited w p v q k (t ▸ ts) none a b s = absurd s
  pointers_edited w p v q zero (t ▸ ts) (u ▸ us) a b s =
      let c : Cell = record { section = 0; kids = t ▸ none } in
      let d : Cell = record { section = 0; kids = u ▸ none } in
      let same : SameCell c d = record { sections = refl; kids = ap (λ z. after_stripping z none) s.0.trims; whole = (s.0.whole, tt); whole' = (s.0.whole', tt) } in
      (alike-child (f w p c) (g v q d) 0 (agree w p v q c d same a b).same, s.1)
  pointers_edited w p v q (suc k) (t ▸ ts) (u ▸ us) a b s = (s.0, pointers_edited w p v q k ts us a b s.1)

  pub edited-pointers : (k : ℕ) (ts us : Trees) → AtChild P k ts → AtChild Q k us → SameTrees ts us → Alike (edit_list f k (pointer_list ts)) (edit_list g k (pointer_list us))
  edited-pointers k ts us a b s = alike-pointers (on_pointers (f 0 1) k ts) (on_pointers (g 0 1) k us) (pointers_edited 0 1 0 1 k ts us a b s)
