-- A struct's children before one, that one, and those behind it.
use Rattle.std.proofs.Common.{◌≡◌, ℕ, zero, suc, ◌+◌, ◌<◌, List, ◌∷◌, ◌++◌, length, refl, ap, sym, ◌∙◌, append_assoc, length-append, arith}
use Rattle.capnp_model.specs.Trees.{Tree, Trees, none, ◌▸◌, tree_count, child, with_child}
use Rattle.capnp_model.specs.Fits.{Fits, FitEach}
use Rattle.capnp_model.specs.Encoding.{pointer, body, links, bodies}

-- ---- values in a row

abbrev pub joined : Trees → Trees → Trees
joined none us = us
joined (t ▸ ts) us = t ▸ joined ts us

abbrev pub fronts : ℕ → Trees → Trees
fronts i none = none
fronts zero (t ▸ ts) = none
fronts (suc i) (t ▸ ts) = t ▸ fronts i ts

abbrev pub backs : ℕ → Trees → Trees
backs i none = none
backs zero (t ▸ ts) = ts
backs (suc i) (t ▸ ts) = backs i ts

pub with_child-parts : (ts : Trees) (i : ℕ) (t : Tree) → i < tree_count ts → with_child ts i t ≡ joined (fronts i ts) (t ▸ backs i ts)
with_child-parts none i t l = absurd (omega (arith, l))
with_child-parts (u ▸ ts) zero t l = refl
with_child-parts (u ▸ ts) (suc i) t l = ap (λ (us : Trees). u ▸ us) (with_child-parts ts i t (omega (arith, l)))

pub child-parts : (ts : Trees) (i : ℕ) → i < tree_count ts → ts ≡ joined (fronts i ts) (child ts i ▸ backs i ts)
child-parts none i l = absurd (omega (arith, l))
child-parts (u ▸ ts) zero l = refl
child-parts (u ▸ ts) (suc i) l = ap (λ (us : Trees). u ▸ us) (child-parts ts i (omega (arith, l)))

pub fronts_count : (ts : Trees) (i : ℕ) → i < tree_count ts → tree_count (fronts i ts) ≡ i
fronts_count none i l = absurd (omega (arith, l))
fronts_count (u ▸ ts) zero l = refl
fronts_count (u ▸ ts) (suc i) l = ap suc (fronts_count ts i (omega (arith, l)))

pub backs_count : (ts : Trees) (i : ℕ) → i < tree_count ts → tree_count ts ≡ suc (i + tree_count (backs i ts))
backs_count none i l = absurd (omega (arith, l))
backs_count (u ▸ ts) zero l = omega arith
backs_count (u ▸ ts) (suc i) l = let e = backs_count ts i (omega (arith, l)) in omega arith

pub child-fits : (ts : Trees) (i : ℕ) → FitEach ts → Fits (child ts i)
child-fits none i f = tt
child-fits (u ▸ ts) zero f = f.0
child-fits (u ▸ ts) (suc i) f = child-fits ts i f.1

pub fronts-fit : (ts : Trees) (i : ℕ) → FitEach ts → FitEach (fronts i ts)
fronts-fit none i f = tt
fronts-fit (u ▸ ts) zero f = tt
fronts-fit (u ▸ ts) (suc i) f = (f.0, fronts-fit ts i f.1)

pub backs-fit : (ts : Trees) (i : ℕ) → FitEach ts → FitEach (backs i ts)
backs-fit none i f = tt
backs-fit (u ▸ ts) zero f = f.1
backs-fit (u ▸ ts) (suc i) f = backs-fit ts i f.1

pub with_child-fit : (ts : Trees) (i : ℕ) (t : Tree) → i < tree_count ts → FitEach ts → Fits t → FitEach (with_child ts i t)
with_child-fit none i t l f g = absurd (omega (arith, l))
with_child-fit (u ▸ ts) zero t l f g = (g, f.1)
with_child-fit (u ▸ ts) (suc i) t l f g = (f.0, with_child-fit ts i t (omega (arith, l)) f.1 g)

-- ---- their words

joined_count : (ts us : Trees) → tree_count (joined ts us) ≡ tree_count ts + tree_count us
joined_count none us = omega arith
joined_count (t ▸ ts) us = let e = joined_count ts us in omega arith

links_joined : (ts us : Trees) (behind before : ℕ) → links behind before (joined ts us) ≡ links (tree_count us + behind) before ts ++ links behind (before + length (bodies ts)) us
links_joined none us behind before = let e : before ≡ before + 0 = omega arith in ap (λ (n : ℕ). links behind n us) e
links_joined (t ▸ ts) us behind before =
    let count = joined_count ts us in
    let long = length-append (body t) (bodies ts) in
    let gap : tree_count (joined ts us) + behind + before ≡ tree_count ts + (tree_count us + behind) + before = omega arith in
    let far : before + length (body t) + length (bodies ts) ≡ before + length (body t ++ bodies ts) = omega arith in
    ap (λ (n : ℕ). pointer n t ∷ links behind (before + length (body t)) (joined ts us)) gap
    ∙ ap (λ (ws : List ℕ). pointer (tree_count ts + (tree_count us + behind) + before) t ∷ ws) (links_joined ts us behind (before + length (body t))
    ∙ ap (λ (n : ℕ). links (tree_count us + behind) (before + length (body t)) ts ++ links behind n us) far)

bodies_joined : (ts us : Trees) → bodies (joined ts us) ≡ bodies ts ++ bodies us
bodies_joined none us = refl
bodies_joined (t ▸ ts) us = ap (λ (ws : List ℕ). body t ++ ws) (bodies_joined ts us) ∙ sym (append_assoc (body t) (bodies ts) (bodies us))

regrouped : (f d lf l m bf t bb b : List ℕ) (p : ℕ) → f ++ (d ++ ((lf ++ p ∷ l) ++ (m ++ ((bf ++ (t ++ bb)) ++ b)))) ≡ (f ++ (d ++ lf)) ++ p ∷ (l ++ ((m ++ bf) ++ (t ++ (bb ++ b))))
regrouped f d lf l m bf t bb b p = simp append_assoc

-- The words of children around one, by the words around them all.
pub around : (f d m b : List ℕ) (ts us : Trees) (t : Tree) (behind before : ℕ)
    → f ++ (d ++ (links behind before (joined ts (t ▸ us)) ++ (m ++ (bodies (joined ts (t ▸ us)) ++ b))))
    ≡ (f ++ (d ++ links (suc (tree_count us) + behind) before ts)) ++ pointer (tree_count us + behind + (before + length (bodies ts))) t
    ∷ (links behind (before + length (bodies ts) + length (body t)) us ++ ((m ++ bodies ts) ++ (body t ++ (bodies us ++ b))))
around f d m b ts us t behind before =
    ap (λ (ls : List ℕ). f ++ (d ++ (ls ++ (m ++ (bodies (joined ts (t ▸ us)) ++ b))))) (links_joined ts (t ▸ us) behind before)
    ∙ ap (λ (bs : List ℕ). f ++ (d ++ ((links (suc (tree_count us) + behind) before ts ++ links behind (before + length (bodies ts)) (t ▸ us)) ++ (m ++ (bs ++ b))))) (bodies_joined ts (t ▸ us))
    ∙ regrouped f d (links (suc (tree_count us) + behind) before ts) (links behind (before + length (bodies ts) + length (body t)) us) m (bodies ts) (body t) (bodies us) b (pointer (tree_count us + behind + (before + length (bodies ts))) t)
