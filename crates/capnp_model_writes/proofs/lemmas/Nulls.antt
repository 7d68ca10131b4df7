-- What reads as null is null, and has nothing behind it.
use Rattle.std.proofs.Common.{◌≡◌, ℕ, zero, suc, ◌+◌, List, drop, Some, refl, sym, ◌∙◌, ap, true, false, Ok, [], ◌∷◌, Bool, eqb, ◌++◌, take, Result, Option, cond}
use Rattle.std.proofs.lemmas.Bool.{eqb-true}
use Rattle.std.specs.Option.{ok_or}
use Rattle.capnp_model.specs.Chains.{◌and_then◌}
use Rattle.capnp_model.specs.Coverage.{Span, from_each, from_elements}
use Rattle.capnp_model.specs.Kinds.{OutOfBounds, Kind}
use Rattle.capnp_model.specs.Pointers.{Object, nothing, a_struct, a_list, a_capability, found_at, Pointer, to_struct, to_list, to_pad, to_capability, to_nothing_known, pointer_of, begins, in_pad, described, Found, found_by}
use Rattle.capnp_model.specs.Sections.{bits_at, section_of}
use Rattle.capnp_model.specs.Segments.{Segments, Place, after, words_at, place, word_at}
use Rattle.capnp_model.specs.Traversal.{tag_in, each, each_element, ListKind, of_bits, of_pointers, of_structs, list_kind, list_words, list_tree, leaf_of, tree_of, tree_at}
use Rattle.capnp_model.specs.Trees.{Tree, Trees, Elements, null, none, ◌▸◌, no_elements, element, resized}
use Rattle.capnp_model.proofs.lemmas.Chaining.{bind_some, bind_found, some_is, ok_is, bind_ok, ok_or_some}
use Rattle.capnp_model_writes.specs.Children.{childless}
use Rattle.capnp_model_writes.specs.Footprints.{behind}
use Rattle.capnp_model_writes.proofs.lemmas.Zeros.{null_behind}

-- ---- objects

null_list : (f : Place → Option Tree) (p : Place) (kind : ListKind) (size n : ℕ) (ws : List ℕ) → list_tree f p kind size n ws ≡ Some null → ⊥
null_list f p of_bits size n ws e = absurd cc
null_list f p of_pointers size n ws e = let x = bind_some (each f p n) _ null e in let y = x.2 in absurd cc
null_list f p of_structs size n ws e =
    let x = bind_found (tag_in ws) _ null e in
    let y = bind_some (each_element f (after p 1) (drop 1 ws) x.0.data_words x.0.pointers x.0.count) _ null x.2 in
    let z = y.2 in
    absurd cc

pub null_object : (s : Segments) (f : Place → Option Tree) (o : Object) → tree_of s f o ≡ Some null → o ≡ nothing
null_object s f nothing e = refl
null_object s f (a_capability i) e = absurd cc
null_object s f (a_struct p d k) e =
    let x = bind_some (words_at s p (d + k)) _ null e in
    let y = bind_some (each f (after p d) k) _ null x.2 in
    let z = y.2 in
    absurd cc
null_object s f (a_list p size n) e =
    let x = bind_some (words_at s p (list_words (list_kind size) size n)) _ null e in
    absurd (null_list f p (list_kind size) size n x.0 x.2)

-- ---- words

not_nothing : (start : ℕ → Result Place Kind) (x : Pointer) (o : Object) → described start x ≡ Ok o → o ≡ nothing → ⊥
not_nothing start (to_struct a d k) o e z = let y = bind_ok (start a) _ o e in let is : a_struct y.0 d k ≡ nothing = ok_is _ _ y.2 ∙ z in absurd cc
not_nothing start (to_list a size n) o e z = let y = bind_ok (start a) _ o e in let is : a_list y.0 size n ≡ nothing = ok_is _ _ y.2 ∙ z in absurd cc
not_nothing start (to_pad words p) o e z = absurd cc
not_nothing start (to_capability i) o e z = let is : a_capability i ≡ nothing = ok_is _ _ e ∙ z in absurd cc
not_nothing start to_nothing_known o e z = absurd cc

no_nothing_in_pad : (p : Place) (ws : List ℕ) (o : Object) → in_pad p ws ≡ Ok o → o ≡ nothing → ⊥
no_nothing_in_pad p [] o e z = absurd cc
no_nothing_in_pad p (w ∷ []) o e z = not_nothing (begins (after p 1)) (pointer_of w) o e z
no_nothing_in_pad p (far ∷ (w ∷ [])) o e z = not_nothing (λ _. Ok (place (bits_at 32 32 far) (bits_at 3 29 far))) (pointer_of w) o e z
no_nothing_in_pad p (far ∷ (w ∷ (x ∷ xs))) o e z = absurd cc

pub from_described : (r : Result Object Kind) (k : ℕ) (f : Found) → (r and_then λ o. (let g : Result Found Kind = Ok (record { pads = k; object = o }) in g)) ≡ Ok f → (r ≡ Ok f.object) × (f.pads ≡ k)
from_described r k f e =
    let x = bind_ok r _ f e in
    let is : record { pads = k; object = x.0 } ≡ f = ok_is _ _ x.2 in
    (x.1 ∙ ap (λ (g : Found). let o : Result Object Kind = Ok g.object in o) is, sym (ap (λ (g : Found). g.pads) is))

nothing_by : (s : Segments) (p : Place) (x : Pointer) (f : Found) → found_by s p x ≡ Ok f → f.object ≡ nothing → ⊥
nothing_by s p (to_struct a d k) f e z = not_nothing (begins (after p 1)) (to_struct a d k) f.object (from_described _ 0 f e).0 z
nothing_by s p (to_list a size n) f e z = not_nothing (begins (after p 1)) (to_list a size n) f.object (from_described _ 0 f e).0 z
nothing_by s p (to_capability i) f e z = not_nothing (begins (after p 1)) (to_capability i) f.object (from_described _ 0 f e).0 z
nothing_by s p to_nothing_known f e z = not_nothing (begins (after p 1)) to_nothing_known f.object (from_described _ 0 f e).0 z
nothing_by s p (to_pad words q) f e z =
    let x = bind_ok (ok_or (words_at s q words) OutOfBounds) _ f e in
    no_nothing_in_pad q x.0 f.object (from_described (in_pad q x.0) words f x.2).0 z

nothing_of : (s : Segments) (p : Place) (w : ℕ) (b : Bool) (x f : Found) → eqb w 0 ≡ b → cond b (Ok x) (found_by s p (pointer_of w)) ≡ Ok f → f.object ≡ nothing → w ≡ 0
nothing_of s p w true x f z e h = eqb-true w 0 z
nothing_of s p w false x f z e h = absurd (nothing_by s p (pointer_of w) f e h)

pub nothing_word : (s : Segments) (p : Place) (f : Found) → found_at s p ≡ Ok f → f.object ≡ nothing → word_at s p ≡ Some 0
nothing_word s p f e h =
    let a = bind_ok (ok_or (word_at s p) OutOfBounds) _ f e in
    let zero_it : a.0 ≡ 0 = nothing_of s p a.0 (eqb a.0 0) _ f refl a.2 h in
    ok_or_some _ _ _ a.1 ∙ ap (λ (w : ℕ). Some w) zero_it

leaf_nothing : (o : Object) → leaf_of o ≡ Some null → o ≡ nothing
leaf_nothing nothing e = refl
leaf_nothing (a_capability i) e = absurd cc
leaf_nothing (a_struct p d k) e = absurd cc
leaf_nothing (a_list p size n) e = absurd cc

pub null_word : (n : ℕ) (s : Segments) (p : Place) → tree_at n s p ≡ Some null → word_at s p ≡ Some 0
unfolding tree_at
null_word zero s p e = let x = bind_found (found_at s p) _ null e in nothing_word s p x.0 x.1 (leaf_nothing x.0.object x.2)
null_word (suc n) s p e = let x = bind_found (found_at s p) _ null e in nothing_word s p x.0 x.1 (null_object s (tree_at n s) x.0.object x.2)

-- ---- rows

pub nulls_behind : (n : ℕ) (s : Segments) (p : Place) (k : ℕ) → each (tree_at n s) p k ≡ Some (resized k none) → from_each (behind n s) p k ≡ []
nulls_behind n s p zero e = refl
nulls_behind n s p (suc k) e =
    let x = bind_some (tree_at n s p) _ _ e in
    let y = bind_some (each (tree_at n s) (after p 1) k) _ _ x.2 in
    let is : x.0 ▸ y.0 ≡ null ▸ resized k none = some_is _ _ y.2 in
    let first : x.0 ≡ null = cc in
    let rest : y.0 ≡ resized k none = cc in
    ap (λ (xs : List Span). xs ++ from_each (behind n s) (after p 1) k) (null_behind n s p (null_word n s p (x.1 ∙ ap (λ (t : Tree). Some t) first)))
    ∙ nulls_behind n s (after p 1) k (y.1 ∙ ap (λ (ts : Trees). Some ts) rest)

pub childless_behind : (n : ℕ) (s : Segments) (p : Place) (ws : List ℕ) (d k c : ℕ) (es fs : Elements) → each_element (tree_at n s) p ws d k c ≡ Some es → es ≡ childless k fs → from_elements (behind n s) p d k c ≡ []
childless_behind n s p ws d k zero es fs e h = refl
childless_behind n s p ws d k (suc c) es fs e h =
    let x = bind_some (each (tree_at n s) (after p d) k) _ es e in
    let y = bind_some (each_element (tree_at n s) (after p (d + k)) (drop (d + k) ws) d k c) _ es x.2 in
    let is : element (section_of (take d ws)) x.0 y.0 ≡ childless k fs = some_is _ _ y.2 ∙ h in
    let parts = childless_parts k fs _ x.0 y.0 is in
    ap (λ (xs : List Span). xs ++ from_elements (behind n s) (after p (d + k)) d k c) (nulls_behind n s (after p d) k (x.1 ∙ ap (λ (ts : Trees). Some ts) parts.0))
    ∙ childless_behind n s (after p (d + k)) (drop (d + k) ws) d k c y.0 parts.1 y.1 parts.2
  where
    childless_parts : (k : ℕ) (fs : Elements) (section : ℕ) (ts : Trees) (es : Elements) → element section ts es ≡ childless k fs → (ts ≡ resized k none) × (gs : Elements) × (es ≡ childless k gs)
    childless_parts k no_elements section ts es e = absurd cc
    childless_parts k (element r us fs) section ts es e = (cc, fs, cc)
