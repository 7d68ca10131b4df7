-- A copy follows what a walk follows, where no capability is met.
use Rattle.std.proofs.Common.{◌≡◌, ℕ, zero, suc, ◌+◌, ◌==◌, if◌then◌else◌, Bool, true, false, ◌||◌, List, ◌∷◌, ◌++◌, drop, Option, Some, None, Result, Ok, Err, refl, ap, ◌∙◌}
use Rattle.std.specs.Option.{ok_or}
use Rattle.std.specs.Result.{result_ok}
use Rattle.capnp_model.specs.Kinds.{Kind, OutOfBounds}
use Rattle.capnp_model.specs.Chains.{◌>>=◌}
use Rattle.capnp_model.specs.Segments.{Segments, Place, after, words_at}
use Rattle.capnp_model.specs.Pointers.{Object, nothing, a_struct, a_list, a_capability, found_at}
use Rattle.capnp_model.specs.Trees.{Tree, capability, Trees, Elements, has_capability, have_capability, elements_have_capability}
use Rattle.capnp_model.specs.Traversal.{tree_at, tree_of, leaf_of, list_tree, ListKind, of_bits, of_pointers, of_structs, list_kind, list_words, tag_in, each, each_element}
use Rattle.capnp_model.specs.Coverage.{from_each, from_elements}
use Rattle.capnp_model.specs.Visits.{Visit, visits_of, list_visits, object_visits, leaf_visits, visits}
use Rattle.capnp_model.proofs.lemmas.Chaining.{bind_some, some_is}
use Rattle.capnp_wire_canonical.specs.Copies.{unless_capability, copy_visits}

pub or_left : (a b : Bool) → a || b ≡ false → a ≡ false
or_left true b h = absurd cc
or_left false b h = refl

pub or_right : (a b : Bool) → a || b ≡ false → b ≡ false
or_right true b h = absurd cc
or_right false b h = h

-- ---- steps

alike_found : {A : Type 0} (r : Result A Kind) (f : A → Option Tree) (g h : A → List Visit) (t : Tree) → (result_ok r >>= f) ≡ Some t → ((x : A) → f x ≡ Some t → g x ≡ h x) → visits_of g r ≡ visits_of h r
alike_found (Ok x) f g h t e k = k x e
alike_found (Err d) f g h t e k = refl

alike_there : {A : Type 0} (o : Option A) (f : A → Option Tree) (g h : A → List Visit) (t : Tree) → (o >>= f) ≡ Some t → ((x : A) → f x ≡ Some t → g x ≡ h x) → visits_of g (ok_or o OutOfBounds) ≡ visits_of h (ok_or o OutOfBounds)
alike_there (Some x) f g h t e k = k x e
alike_there None f g h t e k = refl

-- ---- several in a row

-- What is read without a capability is visited alike.
abbrev Alike : (Place → Option Tree) → (Place → List Visit) → (Place → List Visit) → Type 0
Alike f v w = (p : Place) (t : Tree) → f p ≡ Some t → has_capability t ≡ false → v p ≡ w p

row_alike : (f : Place → Option Tree) (v w : Place → List Visit) → Alike f v w → (p : Place) (k : ℕ) (ts : Trees) → each f p k ≡ Some ts → have_capability ts ≡ false → from_each v p k ≡ from_each w p k
unfolding has_capability
row_alike f v w same p zero ts e h = refl
row_alike f v w same p (suc k) ts e h =
    let a = bind_some (f p) _ ts e in
    let b = bind_some (each f (after p 1) k) _ ts a.2 in
    let clean : has_capability a.0 || have_capability b.0 ≡ false = ap have_capability (some_is _ _ b.2) ∙ h in
    ap (λ (vs : List Visit). vs ++ from_each v (after p 1) k) (same p a.0 a.1 (or_left _ _ clean)) ∙ ap (λ (vs : List Visit). w p ++ vs) (row_alike f v w same (after p 1) k b.0 b.1 (or_right (has_capability a.0) _ clean))

elements_alike : (f : Place → Option Tree) (v w : Place → List Visit) → Alike f v w → (p : Place) (ws : List ℕ) (d k n : ℕ) (es : Elements) → each_element f p ws d k n ≡ Some es → elements_have_capability es ≡ false → from_elements v p d k n ≡ from_elements w p d k n
unfolding has_capability
elements_alike f v w same p ws d k zero es e h = refl
elements_alike f v w same p ws d k (suc n) es e h =
    let a = bind_some (each f (after p d) k) _ es e in
    let b = bind_some (each_element f (after p (d + k)) (drop (d + k) ws) d k n) _ es a.2 in
    let clean : have_capability a.0 || elements_have_capability b.0 ≡ false = ap elements_have_capability (some_is _ _ b.2) ∙ h in
    ap (λ (vs : List Visit). vs ++ from_elements v (after p (d + k)) d k n) (row_alike f v w same (after p d) k a.0 a.1 (or_left _ _ clean))
    ∙ ap (λ (vs : List Visit). from_each w (after p d) k ++ vs) (elements_alike f v w same (after p (d + k)) (drop (d + k) ws) d k n b.0 b.1 (or_right (have_capability a.0) _ clean))

-- ---- objects

list_alike : (f : Place → Option Tree) (v w : Place → List Visit) → Alike f v w → (pads : ℕ) (p : Place) (kind : ListKind) (size n : ℕ) (ws : List ℕ) (t : Tree) → list_tree f p kind size n ws ≡ Some t → has_capability t ≡ false → list_visits v pads p kind size n ws ≡ list_visits w pads p kind size n ws
unfolding has_capability
list_alike f v w same pads p of_bits size n ws t e h = refl
list_alike f v w same pads p of_pointers size n ws t e h =
    let a = bind_some (each f p n) _ t e in
    ap (λ (vs : List Visit). Ok (pads + n) ∷ vs) (row_alike f v w same p n a.0 a.1 (ap has_capability (some_is _ _ a.2) ∙ h))
list_alike f v w same pads p of_structs size n ws t e h = alike_found (tag_in ws) _ _ _ t e (λ tag is.
    let a = bind_some (each_element f (after p 1) (drop 1 ws) tag.data_words tag.pointers tag.count) _ t is in
    ap (λ (vs : List Visit). Ok (pads + (n + 1 + (if tag.data_words + tag.pointers == 0 then tag.count else 0))) ∷ vs) (elements_alike f v w same (after p 1) (drop 1 ws) tag.data_words tag.pointers tag.count a.0 a.1 (ap has_capability (some_is _ _ a.2) ∙ h)))

object_alike : (s : Segments) (f : Place → Option Tree) (v w : Place → List Visit) → Alike f v w → (pads : ℕ) (o : Object) (t : Tree) → tree_of s f o ≡ Some t → has_capability t ≡ false → unless_capability o (object_visits s v pads o) ≡ object_visits s w pads o
unfolding has_capability
object_alike s f v w same pads nothing t e h = refl
object_alike s f v w same pads (a_capability i) t e h =
    let met : has_capability (capability i) ≡ false = ap has_capability (some_is _ _ e) ∙ h in
    absurd cc
object_alike s f v w same pads (a_struct p d k) t e h = alike_there (words_at s p (d + k)) _ _ _ t e (λ ws is.
    let a = bind_some (each f (after p d) k) _ t is in
    ap (λ (vs : List Visit). Ok (pads + (d + k)) ∷ vs) (row_alike f v w same (after p d) k a.0 a.1 (ap has_capability (some_is _ _ a.2) ∙ h)))
object_alike s f v w same pads (a_list p size n) t e h = alike_there (words_at s p (list_words (list_kind size) size n)) _ _ _ t e (λ ws is. list_alike f v w same pads p (list_kind size) size n ws t is h)

leaf_alike : (pads : ℕ) (o : Object) (t : Tree) → leaf_of o ≡ Some t → has_capability t ≡ false → unless_capability o (leaf_visits pads o) ≡ leaf_visits pads o
unfolding has_capability
leaf_alike pads nothing t e h = refl
leaf_alike pads (a_capability i) t e h =
    let met : has_capability (capability i) ≡ false = ap has_capability (some_is _ _ e) ∙ h in
    absurd cc
leaf_alike pads (a_struct p d k) t e h = refl
leaf_alike pads (a_list p size n) t e h = refl

-- ---- values

pub visits_alike : (n : ℕ) (s : Segments) (p : Place) (t : Tree) → tree_at n s p ≡ Some t → has_capability t ≡ false → copy_visits n s p ≡ visits n s p
unfolding tree_at visits copy_visits
visits_alike zero s p t e h = alike_found (found_at s p) _ _ _ t e (λ x is. leaf_alike x.pads x.object t is h)
visits_alike (suc n) s p t e h = alike_found (found_at s p) _ _ _ t e (λ x is. object_alike s (tree_at n s) (copy_visits n s) (visits n s) (visits_alike n s) x.pads x.object t is h)
