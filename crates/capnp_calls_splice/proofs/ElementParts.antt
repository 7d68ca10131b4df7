-- A list's elements before one, that one, and those behind it.
use Rattle.std.proofs.Common.{◌≡◌, ℕ, zero, suc, ◌+◌, ◌*◌, ◌^◌, ◌<◌, List, [], ◌∷◌, ◌++◌, length, refl, ap, sym, ◌∙◌, append_assoc, length-append, arith}
use Rattle.capnp_model.specs.Sections.{words_of}
use Rattle.capnp_model.specs.Trees.{struct_list, none, Elements, no_elements, element, tree_count, element_count}
use Rattle.capnp_model.specs.Fits.{FitEach, FitElements}
use Rattle.capnp_model.specs.Encoding.{struct_pointer, body, links, bodies, cells, element_bodies}
use Rattle.capnp_model.specs.Edits.{Cell}
use Rattle.capnp_model.proofs.lemmas.Numbers.{length-numbers_in}
use Rattle.capnp_model.proofs.lemmas.RoundTrip.{links_length}
use Rattle.capnp_calls_splice.specs.Splices.{InElements}

abbrev pub joined : Elements → Elements → Elements
joined no_elements ds = ds
joined (element s ts es) ds = element s ts (joined es ds)

abbrev pub fronts : ℕ → Elements → Elements
fronts j no_elements = no_elements
fronts zero (element s ts es) = no_elements
fronts (suc j) (element s ts es) = element s ts (fronts j es)

abbrev pub backs : ℕ → Elements → Elements
backs j no_elements = no_elements
backs zero (element s ts es) = es
backs (suc j) (element s ts es) = backs j es

abbrev pub cell_at : ℕ → Elements → Cell
cell_at j no_elements = record { section = 0; kids = none }
cell_at zero (element s ts es) = record { section = s; kids = ts }
cell_at (suc j) (element s ts es) = cell_at j es

-- The elements with another at a place.
abbrev pub with_cell : ℕ → Cell → Elements → Elements
with_cell j c es = joined (fronts j es) (element c.section c.kids (backs j es))

pub cell-parts : (es : Elements) (j : ℕ) → j < element_count es → es ≡ with_cell j (cell_at j es) es
cell-parts no_elements j l = absurd (omega (arith, l))
cell-parts (element s ts es) zero l = refl
cell-parts (element s ts es) (suc j) l = ap (element s ts) (cell-parts es j (omega (arith, l)))

pub in_elements : (put : Cell → Cell → Type 0) (es : Elements) (j : ℕ) (c : Cell) → j < element_count es → put (cell_at j es) c → InElements put j es (with_cell j c es)
in_elements put no_elements j c l h = absurd (omega (arith, l))
in_elements put (element s ts es) zero c l h = (c, h, refl)
in_elements put (element s ts es) (suc j) c l h = (with_cell j c es, in_elements put es j c (omega (arith, l)) h, refl)

pub fronts_count : (es : Elements) (j : ℕ) → j < element_count es → element_count (fronts j es) ≡ j
fronts_count no_elements j l = absurd (omega (arith, l))
fronts_count (element s ts es) zero l = refl
fronts_count (element s ts es) (suc j) l = ap suc (fronts_count es j (omega (arith, l)))

pub backs_count : (es : Elements) (j : ℕ) → j < element_count es → element_count es ≡ suc (j + element_count (backs j es))
backs_count no_elements j l = absurd (omega (arith, l))
backs_count (element s ts es) zero l = omega arith
backs_count (element s ts es) (suc j) l = let e = backs_count es j (omega (arith, l)) in omega arith

pub with_cell-count : (es : Elements) (j : ℕ) (c : Cell) → j < element_count es → element_count (with_cell j c es) ≡ element_count es
with_cell-count no_elements j c l = absurd (omega (arith, l))
with_cell-count (element s ts es) zero c l = refl
with_cell-count (element s ts es) (suc j) c l = ap suc (with_cell-count es j c (omega (arith, l)))

-- ---- what fits

-- A cell of these sizes fits.
pub record FitsCell (d k : ℕ) (c : Cell) : Type 0 where
  pub section : c.section < 2 ^ (64 * d)
  pub pointers : tree_count c.kids ≡ k
  pub each : FitEach c.kids

pub cell-fits : (d k : ℕ) (es : Elements) (j : ℕ) → j < element_count es → FitElements d k es → FitsCell d k (cell_at j es)
cell-fits d k no_elements j l f = absurd (omega (arith, l))
cell-fits d k (element s ts es) zero l f = record { section = f.0; pointers = f.1; each = f.2 }
cell-fits d k (element s ts es) (suc j) l f = cell-fits d k es j (omega (arith, l)) f.3

pub fronts-fit : (d k : ℕ) (es : Elements) (j : ℕ) → FitElements d k es → FitElements d k (fronts j es)
fronts-fit d k no_elements j f = tt
fronts-fit d k (element s ts es) zero f = tt
fronts-fit d k (element s ts es) (suc j) f = (f.0, f.1, f.2, fronts-fit d k es j f.3)

pub backs-fit : (d k : ℕ) (es : Elements) (j : ℕ) → FitElements d k es → FitElements d k (backs j es)
backs-fit d k no_elements j f = tt
backs-fit d k (element s ts es) zero f = f.3
backs-fit d k (element s ts es) (suc j) f = backs-fit d k es j f.3

pub with_cell-fits : (d k : ℕ) (es : Elements) (j : ℕ) (c : Cell) → j < element_count es → FitElements d k es → FitsCell d k c → FitElements d k (with_cell j c es)
with_cell-fits d k no_elements j c l f g = absurd (omega (arith, l))
with_cell-fits d k (element s ts es) zero c l f g = (g.section, g.pointers, g.each, f.3)
with_cell-fits d k (element s ts es) (suc j) c l f g = (f.0, f.1, f.2, with_cell-fits d k es j c (omega (arith, l)) f.3 g)

-- ---- their words

-- The words of elements with so many behind them.
abbrev pub cells_before : ℕ → ℕ → ℕ → ℕ → Elements → List ℕ
cells_before n before d k no_elements = []
cells_before n before d k (element s ts es) = words_of d s ++ (links ((element_count es + n) * (d + k)) before ts ++ cells_before n (before + length (bodies ts)) d k es)

joined_count : (es ds : Elements) → element_count (joined es ds) ≡ element_count es + element_count ds
joined_count no_elements ds = omega arith
joined_count (element s ts es) ds = let e = joined_count es ds in omega arith

pub cells_before-length : (n before d k : ℕ) (es : Elements) → FitElements d k es → length (cells_before n before d k es) ≡ element_count es * (d + k)
cells_before-length n before d k no_elements f = omega arith
cells_before-length n before d k (element s ts es) f =
    let a = length-append (words_of d s) (links ((element_count es + n) * (d + k)) before ts ++ cells_before n (before + length (bodies ts)) d k es) in
    let b = length-append (links ((element_count es + n) * (d + k)) before ts) (cells_before n (before + length (bodies ts)) d k es) in
    let e = length-numbers_in 64 d s in
    let g = links_length ts ((element_count es + n) * (d + k)) before in
    let h = cells_before-length n (before + length (bodies ts)) d k es f.3 in
    let m = f.1 in
    omega arith

pub cells_length : (before d k : ℕ) (es : Elements) → FitElements d k es → length (cells before d k es) ≡ element_count es * (d + k)
cells_length before d k no_elements f = omega arith
cells_length before d k (element s ts es) f =
    let a = length-append (words_of d s) (links (element_count es * (d + k)) before ts ++ cells (before + length (bodies ts)) d k es) in
    let b = length-append (links (element_count es * (d + k)) before ts) (cells (before + length (bodies ts)) d k es) in
    let e = length-numbers_in 64 d s in
    let g = links_length ts (element_count es * (d + k)) before in
    let h = cells_length (before + length (bodies ts)) d k es f.3 in
    let m = f.1 in
    omega arith

regrouped : (w l c m : List ℕ) → w ++ (l ++ (c ++ m)) ≡ (w ++ (l ++ c)) ++ m
regrouped w l c m = simp append_assoc

cells_joined : (before d k : ℕ) (es ds : Elements) → cells before d k (joined es ds) ≡ cells_before (element_count ds) before d k es ++ cells (before + length (element_bodies es)) d k ds
cells_joined before d k no_elements ds = let e : before ≡ before + 0 = omega arith in ap (λ (n : ℕ). cells n d k ds) e
cells_joined before d k (element s ts es) ds =
    let n : ℕ = element_count es + element_count ds in
    let far : before + length (bodies ts) + length (element_bodies es) ≡ before + length (bodies ts ++ element_bodies es) = (let a = length-append (bodies ts) (element_bodies es) in omega arith) in
    ap (λ (m : ℕ). words_of d s ++ (links (m * (d + k)) before ts ++ cells (before + length (bodies ts)) d k (joined es ds))) (joined_count es ds)
    ∙ ap (λ (ws : List ℕ). words_of d s ++ (links (n * (d + k)) before ts ++ ws)) (cells_joined (before + length (bodies ts)) d k es ds
    ∙ ap (λ (m : ℕ). cells_before (element_count ds) (before + length (bodies ts)) d k es ++ cells m d k ds) far)
    ∙ regrouped (words_of d s) (links (n * (d + k)) before ts) (cells_before (element_count ds) (before + length (bodies ts)) d k es) (cells (before + length (bodies ts ++ element_bodies es)) d k ds)

bodies_joined : (es ds : Elements) → element_bodies (joined es ds) ≡ element_bodies es ++ element_bodies ds
bodies_joined no_elements ds = refl
bodies_joined (element s ts es) ds = ap (λ (ws : List ℕ). bodies ts ++ ws) (bodies_joined es ds) ∙ sym (append_assoc (bodies ts) (element_bodies es) (element_bodies ds))

spread : (x l m co w k ce ef b eb q : List ℕ) (p tag : ℕ)
    → x ++ p ∷ (l ++ (m ++ ((tag ∷ ((co ++ (w ++ (k ++ ce))) ++ (ef ++ (b ++ eb)))) ++ q))) ≡ (x ++ p ∷ (l ++ (m ++ tag ∷ co))) ++ (w ++ (k ++ ((ce ++ ef) ++ (b ++ (eb ++ q)))))
spread x l m co w k ce ef b eb q p tag = simp append_assoc

-- The words of a list around one of its elements, by those around it.
pub around : (x l m q : List ℕ) (p d k j : ℕ) (c : Cell) (es : Elements) → j < element_count es
    → x ++ p ∷ (l ++ (m ++ (body (struct_list d k (with_cell j c es)) ++ q)))
    ≡ (x ++ p ∷ (l ++ (m ++ struct_pointer (element_count es) d k ∷ cells_before (suc (element_count (backs j es))) 0 d k (fronts j es))))
    ++ (words_of d c.section ++ (links (element_count (backs j es) * (d + k)) (length (element_bodies (fronts j es))) c.kids
    ++ ((cells (length (element_bodies (fronts j es)) + length (bodies c.kids)) d k (backs j es) ++ element_bodies (fronts j es)) ++ (bodies c.kids ++ (element_bodies (backs j es) ++ q)))))
around x l m q p d k j c es less =
    let n : ℕ = suc (element_count (backs j es)) in
    let co : List ℕ = cells_before (suc (element_count (backs j es))) 0 d k (fronts j es) in
    let ef : List ℕ = element_bodies (fronts j es) in
    let zero_more : 0 + length (element_bodies (fronts j es)) ≡ length (element_bodies (fronts j es)) = omega arith in
    let own : cells 0 d k (with_cell j c es) ≡ co ++ cells (length (element_bodies (fronts j es))) d k (element c.section c.kids (backs j es)) =
    cells_joined 0 d k (fronts j es) (element c.section c.kids (backs j es)) ∙ ap (λ (z : ℕ). co ++ cells z d k (element c.section c.kids (backs j es))) zero_more in
    let targets : element_bodies (with_cell j c es) ≡ ef ++ (bodies c.kids ++ element_bodies (backs j es)) = bodies_joined (fronts j es) (element c.section c.kids (backs j es)) in
    ap (λ (z : ℕ). x ++ p ∷ (l ++ (m ++ ((struct_pointer z d k ∷ (cells 0 d k (with_cell j c es) ++ element_bodies (with_cell j c es))) ++ q)))) (with_cell-count es j c less)
    ∙ ap (λ (ws : List ℕ). x ++ p ∷ (l ++ (m ++ ((struct_pointer (element_count es) d k ∷ (ws ++ element_bodies (with_cell j c es))) ++ q)))) own
    ∙ ap (λ (ws : List ℕ). x ++ p ∷ (l ++ (m ++ ((struct_pointer (element_count es) d k ∷ ((co ++ cells (length (element_bodies (fronts j es))) d k (element c.section c.kids (backs j es))) ++ ws)) ++ q)))) targets
    ∙ spread x l m co (words_of d c.section) (links (element_count (backs j es) * (d + k)) (length (element_bodies (fronts j es))) c.kids) (cells (length (element_bodies (fronts j es)) + length (bodies c.kids)) d k (backs j es)) ef (bodies c.kids) (element_bodies (backs j es)) q p (struct_pointer (element_count es) d k)
