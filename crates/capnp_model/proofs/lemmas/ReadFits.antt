-- A value that is read fits.
use Rattle.std.proofs.Common.{◌≡◌, ℕ, zero, suc, ◌+◌, ◌*◌, ◌^◌, ◌≤◌, ◌<◌, Bool, true, false, cond, eqb, List, [], ◌∷◌, length, take, drop, Option, Some, Result, Ok, refl, ap, subst, arith}
use Rattle.std.specs.List.{slice_get}
use Rattle.std.proofs.lemmas.Bool.{leb-true, eqb-false}
use Rattle.std.proofs.lemmas.List.{length-take, length-take-le, length-drop}
use Rattle.std.proofs.Math.Nat.{mod-lt}
use Rattle.std.proofs.lemmas.Nat.{pow_pos}
use Rattle.std.specs.Option.{ok_or}
use Rattle.capnp_model.specs.Kinds.{Kind, OutOfBounds}
use Rattle.capnp_model.specs.Sections.{bits_at, section_of}
use Rattle.capnp_model.specs.Segments.{Segments, Place, place, after, word_at, words_at}
use Rattle.capnp_model.specs.Pointers.{Pointer, to_struct, to_list, to_pad, to_capability, to_nothing_known, pointer_of_kind, pointer_of, begins, in_pad, described, Object, nothing, a_struct, a_list, a_capability, Found, found_by, found_at}
use Rattle.capnp_model.specs.Trees.{Tree, Trees, Elements, size_bits, tree_count, element_count}
use Rattle.capnp_model.specs.Traversal.{Tag, tag_of, tag_in, each, each_element, ListKind, of_bits, of_pointers, of_structs, list_kind, list_words, list_tree, leaf_of, tree_of, tree_at}
use Rattle.capnp_model.specs.Fits.{Fits, FitEach, FitElements}
use Rattle.capnp_model.proofs.lemmas.Numbers.{section_of_lt}
use Rattle.capnp_model.proofs.lemmas.Chaining.{bind_some, bind_found, bind_ok, ok_is, guard_ok, provided_some, some_is}

-- ---- what a pointer says is within its bits

abbrev Says : Pointer → Type 0
Says (to_struct o d k) = (o < 2 ^ 30) × (d < 2 ^ 16) × (k < 2 ^ 16)
Says (to_list o size n) = (size < 8) × (n < 2 ^ 29)
Says (to_pad words p) = Unit {0}
Says (to_capability i) = i < 2 ^ 32
Says to_nothing_known = Unit {0}

says_kind : (kind w : ℕ) → Says (pointer_of_kind kind w)
says_kind zero w = (omega arith, omega arith, omega arith)
says_kind (suc zero) w = (omega arith, omega arith)
says_kind (suc (suc zero)) w = tt
says_kind (suc (suc (suc k))) w = at (eqb (bits_at 2 30 w) 0)
  where
    at : (b : Bool) → Says (cond b (to_capability (bits_at 32 32 w)) to_nothing_known)
    at true = omega arith
    at false = tt

says : (w : ℕ) → Says (pointer_of w)
says w = says_kind (bits_at 0 2 w) w

abbrev Holdable : Object → Type 0
Holdable nothing = Unit {0}
Holdable (a_struct p d k) = (d < 2 ^ 16) × (k < 2 ^ 16)
Holdable (a_list p size n) = (size < 8) × (n < 2 ^ 29)
Holdable (a_capability i) = i < 2 ^ 32

described_holds : (start : ℕ → Result Place Kind) (q : Pointer) (o : Object) → Says q → described start q ≡ Ok o → Holdable o
described_holds start (to_struct f d k) o s e = let a = bind_ok (start f) _ o e in subst Holdable (ok_is _ _ a.2) (s.1, s.2)
described_holds start (to_list f size n) o s e = let a = bind_ok (start f) _ o e in subst Holdable (ok_is _ _ a.2) (s.0, s.1)
described_holds start (to_pad words p) o s e = absurd cc
described_holds start (to_capability i) o s e = subst Holdable (ok_is _ _ e) s
described_holds start to_nothing_known o s e = absurd cc

in_pad_holds : (p : Place) (ws : List ℕ) (o : Object) → in_pad p ws ≡ Ok o → Holdable o
in_pad_holds p [] o e = absurd cc
in_pad_holds p (w ∷ []) o e = described_holds (begins (after p 1)) (pointer_of w) o (says w) e
in_pad_holds p (far ∷ w ∷ []) o e = described_holds (λ _. Ok (place (bits_at 32 32 far) (bits_at 3 29 far))) (pointer_of w) o (says w) e
in_pad_holds p (far ∷ w ∷ x ∷ ws) o e = absurd cc

found_by_holds : (s : Segments) (p : Place) (q : Pointer) (f : Found) → Says q → found_by s p q ≡ Ok f → Holdable f.object
found_by_holds s p (to_struct g d k) f h e = let a = bind_ok (described (begins (after p 1)) (to_struct g d k)) _ f e in subst (λ (x : Found). Holdable x.object) (ok_is _ _ a.2) (described_holds (begins (after p 1)) (to_struct g d k) a.0 h a.1)
found_by_holds s p (to_list g size n) f h e = let a = bind_ok (described (begins (after p 1)) (to_list g size n)) _ f e in subst (λ (x : Found). Holdable x.object) (ok_is _ _ a.2) (described_holds (begins (after p 1)) (to_list g size n) a.0 h a.1)
found_by_holds s p (to_capability i) f h e = subst (λ (x : Found). Holdable x.object) (ok_is _ _ e) h
found_by_holds s p to_nothing_known f h e = absurd cc
found_by_holds s p (to_pad words pad) f h e =
    let a = bind_ok (ok_or (words_at s pad words) OutOfBounds) _ f e in
    let b = bind_ok (in_pad pad a.0) _ f a.2 in
    subst (λ (x : Found). Holdable x.object) (ok_is _ _ b.2) (in_pad_holds pad a.0 b.0 b.1)

unless_null : (b : Bool) (s : Segments) (p : Place) (q : Pointer) (f : Found) → Says q → cond b (Ok (record { pads = 0; object = nothing })) (found_by s p q) ≡ Ok f → Holdable f.object
unless_null true s p q f h e = subst (λ (x : Found). Holdable x.object) (ok_is _ _ e) tt
unless_null false s p q f h e = found_by_holds s p q f h e

found_holds : (s : Segments) (p : Place) (f : Found) → found_at s p ≡ Ok f → Holdable f.object
found_holds s p f e = let a = bind_ok (ok_or (word_at s p) OutOfBounds) _ f e in unless_null (eqb a.0 0) s p (pointer_of a.0) f (says a.0) a.2

-- ---- lists of words

pub words_length : (s : Segments) (p : Place) (n : ℕ) (ws : List ℕ) → words_at s p n ≡ Some ws → length ws ≡ n
words_length s p n ws e =
    let a = bind_some (slice_get s p.segment) _ ws e in
    let g = provided_some _ _ _ a.2 in
    let fits = leb-true _ _ g.0 in
    let is = ap length g.1 in
    omega (arith, length-take n (drop p.position a.0), length-drop p.position a.0)

pub list_kind_cases : (size : ℕ) → size < 8 → list_kind size ≡ of_bits → size < 6
list_kind_cases size lt e = by (eqb size 6) (eqb size 7) refl refl e
  where
    by : (a b : Bool) → eqb size 6 ≡ a → eqb size 7 ≡ b → cond a of_pointers (cond b of_structs of_bits) ≡ of_bits → size < 6
    by true b p q f = absurd cc
    by false true p q f = absurd cc
    by false false p q f = let x = eqb-false _ _ p in let y = eqb-false _ _ q in omega (arith, x, y)

-- ---- one level

module _ (f : Place → Option Tree) (h : (p : Place) (t : Tree) → f p ≡ Some t → Fits t) where
  each_fits : (p : Place) (k : ℕ) (ts : Trees) → each f p k ≡ Some ts → FitEach ts × (tree_count ts ≡ k)
  each_fits p zero ts e = subst (λ (us : Trees). FitEach us × (tree_count us ≡ 0)) (some_is _ _ e) (tt, refl)
  each_fits p (suc k) ts e =
      let a = bind_some (f p) _ ts e in
      let b = bind_some (each f (after p 1) k) _ ts a.2 in
      let rest = each_fits (after p 1) k b.0 b.1 in
      subst (λ (us : Trees). FitEach us × (tree_count us ≡ suc k)) (some_is _ _ b.2) ((h p a.0 a.1, rest.0), ap suc rest.1)

  each_element_fits : (p : Place) (ws : List ℕ) (d k n : ℕ) (es : Elements) → n * (d + k) ≤ length ws → each_element f p ws d k n ≡ Some es → FitElements d k es × (element_count es ≡ n)
  each_element_fits p ws d k zero es l e = subst (λ (us : Elements). FitElements d k us × (element_count us ≡ 0)) (some_is _ _ e) (tt, refl)
  each_element_fits p ws d k (suc n) es l e =
      let a = bind_some (each f (after p d) k) _ es e in
      let b = bind_some (each_element f (after p (d + k)) (drop (d + k) ws) d k n) _ es a.2 in
      let here = each_fits (after p d) k a.0 a.1 in
      let room : d + k + n * (d + k) ≤ length ws = omega arith in
      let rest = each_element_fits (after p (d + k)) (drop (d + k) ws) d k n b.0 (omega (arith, length-drop (d + k) ws)) b.1 in
      subst (λ (us : Elements). FitElements d k us × (element_count us ≡ suc n)) (some_is _ _ b.2) ((section_of_lt (take d ws) d (length-take-le d ws (omega arith)), here.1, here.0, rest.0), ap suc rest.1)

  list_fits : (p : Place) (kind : ListKind) (size n : ℕ) (ws : List ℕ) (t : Tree) → list_kind size ≡ kind → size < 8 → n < 2 ^ 29 → length ws ≡ list_words kind size n → list_tree f p kind size n ws ≡ Some t → Fits t
  list_fits p of_bits size n ws t k ls ln lw e =
      subst Fits (some_is _ _ e) (list_kind_cases size ls k, ln, mod-lt (section_of ws) (pow_pos (size_bits size * n)))
  list_fits p of_pointers size n ws t k ls ln lw e =
      let a = bind_some (each f p n) _ t e in
      let here = each_fits p n a.0 a.1 in
      subst Fits (some_is _ _ a.2) (rw here.1 ln, here.0)
  list_fits p of_structs size n [] t k ls ln lw e = absurd cc
  list_fits p of_structs size n (w ∷ ws) t k ls ln lw e =
      let a = bind_found (tag_in (w ∷ ws)) _ t e in
      let tag = a.0 in
      let b = bind_some (each_element f (after p 1) ws tag.data_words tag.pointers tag.count) _ t a.2 in
      let c = bind_ok (tag_of (pointer_of w)) _ tag a.1 in
      let g = guard_ok _ _ _ _ c.2 in
      let tag_is = ok_is _ _ g.1 in
      let room : tag.count * (tag.data_words + tag.pointers) ≤ length ws = subst (λ (x : Tag). x.count * (x.data_words + x.pointers) ≤ length ws) tag_is (leb-true _ _ g.0) in
      let small : (tag.count < 2 ^ 30) × (tag.data_words < 2 ^ 16) × (tag.pointers < 2 ^ 16) = subst (λ (x : Tag). (x.count < 2 ^ 30) × (x.data_words < 2 ^ 16) × (x.pointers < 2 ^ 16)) tag_is (tag_says (pointer_of w) c.0 (says w) c.1) in
      let here = each_element_fits (after p 1) ws tag.data_words tag.pointers tag.count b.0 room b.1 in
      let size_is : length ws ≡ n = omega (arith, lw) in
      subst Fits (some_is _ _ b.2) (small.1, small.2, rw here.1 small.0, rw here.1 (omega arith), here.0)
    where
      tag_says : (q : Pointer) (x : Tag) → Says q → tag_of q ≡ Ok x → (x.count < 2 ^ 30) × (x.data_words < 2 ^ 16) × (x.pointers < 2 ^ 16)
      tag_says (to_struct o d j) x s e = subst (λ (y : Tag). (y.count < 2 ^ 30) × (y.data_words < 2 ^ 16) × (y.pointers < 2 ^ 16)) (ok_is _ _ e) s
      tag_says (to_list o z m) x s e = absurd cc
      tag_says (to_pad o z) x s e = absurd cc
      tag_says (to_capability i) x s e = absurd cc
      tag_says to_nothing_known x s e = absurd cc

  tree_of_fits : (s : Segments) (o : Object) (t : Tree) → Holdable o → tree_of s f o ≡ Some t → Fits t
  tree_of_fits s nothing t k e = subst Fits (some_is _ _ e) tt
  tree_of_fits s (a_capability i) t k e = subst Fits (some_is _ _ e) k
  tree_of_fits s (a_struct p d c) t k e =
      let a = bind_some (words_at s p (d + c)) _ t e in
      let b = bind_some (each f (after p d) c) _ t a.2 in
      let here = each_fits (after p d) c b.0 b.1 in
      let long = words_length s p (d + c) a.0 a.1 in
      subst Fits (some_is _ _ b.2) (k.0, rw here.1 k.1, section_of_lt (take d a.0) d (length-take-le d a.0 (omega arith)), here.0)
  tree_of_fits s (a_list p size n) t k e =
      let a = bind_some (words_at s p (list_words (list_kind size) size n)) _ t e in
      list_fits p (list_kind size) size n a.0 t refl k.0 k.1 (words_length s p _ a.0 a.1) a.2

leaf_fits : (o : Object) (t : Tree) → Holdable o → leaf_of o ≡ Some t → Fits t
leaf_fits nothing t k e = subst Fits (some_is _ _ e) tt
leaf_fits (a_capability i) t k e = subst Fits (some_is _ _ e) k
leaf_fits (a_struct p d c) t k e = absurd cc
leaf_fits (a_list p size n) t k e = absurd cc

-- THE LAW
pub tree_at_fits : (n : ℕ) (s : Segments) (p : Place) (t : Tree) → tree_at n s p ≡ Some t → Fits t
unfolding tree_at
tree_at_fits zero s p t e = let a = bind_found (found_at s p) _ t e in leaf_fits a.0.object t (found_holds s p a.0 a.1) a.2
tree_at_fits (suc n) s p t e = let a = bind_found (found_at s p) _ t e in tree_of_fits (tree_at n s) (λ q u. tree_at_fits n s q u) s a.0.object t (found_holds s p a.0 a.1) a.2
