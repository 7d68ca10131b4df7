-- How many elements and children there are.
use Rattle.std.proofs.Common.{◌≡◌, ℕ, suc, refl, ap, List, [], ◌∷◌, length, zero, ◌<◌, arith, Option, Some, sym, ◌∙◌, ◌+◌, drop}
use Rattle.capnp_model.specs.Trees.{Trees, none, ◌▸◌, tree_count, element_count, Tree, with_child, Elements}
use Rattle.capnp_model.specs.Edits.{elements_of_pointers, elements_of_plain}
use Rattle.capnp_model.specs.Segments.{Place, after}
use Rattle.capnp_model.specs.Traversal.{each, each_element}
use Rattle.capnp_model.proofs.lemmas.Chaining.{bind_some, some_is}

pub count-of-pointers : (k : ℕ) (ts : Trees) → element_count (elements_of_pointers k ts) ≡ tree_count ts
count-of-pointers k none = refl
count-of-pointers k (t ▸ ts) = ap suc (count-of-pointers k ts)

pub count-of-plain : (k : ℕ) (xs : List ℕ) → element_count (elements_of_plain k xs) ≡ length xs
count-of-plain k [] = refl
count-of-plain k (x ∷ xs) = ap suc (count-of-plain k xs)

pub count-with_child : (ts : Trees) (i : ℕ) (t : Tree) → i < tree_count ts → tree_count (with_child ts i t) ≡ tree_count ts
count-with_child none i t h = absurd (omega arith)
count-with_child (u ▸ ts) zero t h = refl
count-with_child (u ▸ ts) (suc i) t h = ap suc (count-with_child ts i t (omega arith))

pub each_count : (f : Place → Option Tree) (p : Place) (k : ℕ) (ts : Trees) → each f p k ≡ Some ts → tree_count ts ≡ k
each_count f p zero ts e = ap tree_count (sym (some_is none ts e))
each_count f p (suc k) ts e =
    let a = bind_some (f p) _ ts e in
    let b = bind_some (each f (after p 1) k) _ ts a.2 in
    ap tree_count (sym (some_is _ _ b.2)) ∙ ap suc (each_count f (after p 1) k b.0 b.1)

pub each_element_count : (f : Place → Option Tree) (p : Place) (ws : List ℕ) (d k c : ℕ) (es : Elements) → each_element f p ws d k c ≡ Some es → element_count es ≡ c
each_element_count f p ws d k zero es e = sym (ap element_count (some_is _ _ e))
each_element_count f p ws d k (suc c) es e =
    let x = bind_some (each f (after p d) k) _ es e in
    let y = bind_some (each_element f (after p (d + k)) (drop (d + k) ws) d k c) _ es x.2 in
    sym (ap element_count (some_is _ _ y.2)) ∙ ap suc (each_element_count f (after p (d + k)) (drop (d + k) ws) d k c y.0 y.1)
