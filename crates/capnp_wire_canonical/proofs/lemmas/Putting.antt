-- Pointers and elements that are put over words one after the other, with what they point to behind.
use Rattle.std.proofs.Common.{◌≡◌, ℕ, zero, suc, ◌+◌, ◌-◌, ◌*◌, ◌≤◌, List, [], ◌∷◌, ◌++◌, length, take, drop, refl, ap, sym, ◌∙◌, arith, append_assoc, append-nil}
use Rattle.std.proofs.Math.ListN.{set, length-set}
use Rattle.std.proofs.Math.Seq.{take-suc-set}
use Rattle.std.proofs.lemmas.List.{drop-set-lt, take-append-drop, take-append-le, drop-append-le, length-append, length-take, length-drop, drop-drop, drop-take, take-take}
use Rattle.capnp_model.specs.Sections.{words_of}
use Rattle.capnp_model.specs.Trees.{Tree, Trees, none, ◌▸◌, Elements, no_elements, element, tree_count, element_count}
use Rattle.capnp_model.specs.Encoding.{pointer, body, links, bodies, cells, element_bodies}
use Rattle.capnp_model.proofs.lemmas.Numbers.{length-numbers_in}
use Rattle.capnp_model.proofs.lemmas.RoundTrip.{links_length}
use Rattle.capnp_model.proofs.lemmas.Lists.{drop-all}
use Rattle.capnp_wire_canonical.specs.Writes.{with_section_at, with_link, with_links, with_cells}

-- one more pointer
pub link_step : (at end : ℕ) (t : Tree) (ts : Trees) (out : List ℕ) → at + suc (tree_count ts) ≡ end → end ≤ length out
    → with_links (suc at) end ts (with_link at t out) ≡ with_links at end (t ▸ ts) out
unfolding with_link with_links
link_step at end t ts out e le =
    let w = pointer (length out - at - 1) t in
    let n = length out in
    let b = body t in
    let put = set out at w in
    let long : length put ≡ n = length-set out at w in
    let front : take (suc at) (put ++ b) ≡ take at out ++ w ∷ [] = take-append-le (suc at) put b (omega arith) ∙ take-suc-set out at w (omega arith) in
    let behind : drop end (put ++ b) ≡ drop end out ++ b = drop-append-le end put b (omega arith) ∙ ap (λ (xs : List ℕ). xs ++ b) (drop-set-lt end out at w (omega arith)) in
    let before : length (put ++ b) - end ≡ n - end + length b = omega (arith, length-append put b) in
    let gap : n - at - 1 ≡ tree_count ts + 0 + (n - end) = omega arith in
    let word : w ≡ pointer (tree_count ts + 0 + (n - end)) t = ap (λ (g : ℕ). pointer g t) gap in
    let rest = links 0 (n - end + length b) ts in
    ap (λ (xs : List ℕ). xs ++ (links 0 (length (put ++ b) - end) ts ++ (drop end (put ++ b) ++ bodies ts))) front
    ∙ ap (λ (k : ℕ). (take at out ++ w ∷ []) ++ (links 0 k ts ++ (drop end (put ++ b) ++ bodies ts))) before
    ∙ ap (λ (xs : List ℕ). (take at out ++ w ∷ []) ++ (rest ++ (xs ++ bodies ts))) behind
    ∙ append_assoc (take at out) (w ∷ []) (rest ++ ((drop end out ++ b) ++ bodies ts))
    ∙ ap (λ (xs : List ℕ). take at out ++ (w ∷ (rest ++ xs))) (append_assoc (drop end out) b (bodies ts))
    ∙ ap (λ (x : ℕ). take at out ++ (x ∷ (rest ++ (drop end out ++ (b ++ bodies ts))))) word

pub links_all : (at end : ℕ) (out : List ℕ) → at ≡ end → with_links at end none out ≡ out
unfolding with_links
links_all at end out e = ap (λ (xs : List ℕ). take at out ++ xs) (append-nil (drop end out)) ∙ ap (λ (k : ℕ). take at out ++ drop k out) (sym e) ∙ take-append-drop at out

-- ---- elements

pub links_sum : (b c : ℕ) (ts : Trees) → links b c ts ≡ links 0 (b + c) ts
links_sum b c none = refl
links_sum b c (t ▸ ts) =
    let gap : tree_count ts + b + c ≡ tree_count ts + 0 + (b + c) = omega arith in
    let sum : b + (c + length (body t)) ≡ b + c + length (body t) = omega arith in
    ap (λ (g : ℕ). pointer g t ∷ links b (c + length (body t)) ts) gap ∙ ap (λ (xs : List ℕ). pointer (tree_count ts + 0 + (b + c)) t ∷ xs) (links_sum b (c + length (body t)) ts ∙ ap (λ (k : ℕ). links 0 k ts) sum)

-- the front of words of a known length, and what is behind
take_front : (p q : List ℕ) (n : ℕ) → length p ≡ n → take n (p ++ q) ≡ p
take_front [] q n e = let z : 0 ≡ n = e in ap (λ (j : ℕ). take j q) (sym z)
take_front (x ∷ p) q zero e = absurd (omega arith)
take_front (x ∷ p) q (suc n) e = ap (λ (xs : List ℕ). x ∷ xs) (take_front p q n (omega arith))

drop_front : (p q : List ℕ) (n m : ℕ) → length p ≡ n → drop (n + m) (p ++ q) ≡ drop m q
drop_front [] q n m e = let z : n + m ≡ m = omega arith in ap (λ (j : ℕ). drop j q) z
drop_front (x ∷ p) q zero m e = absurd (omega arith)
drop_front (x ∷ p) q (suc n) m e = let s : suc n + m ≡ suc (n + m) = omega arith in ap (λ (j : ℕ). drop j (x ∷ (p ++ q))) s ∙ drop_front p q n m (omega arith)

-- an element in front, and what was there behind
cell : ℕ → ℕ → ℕ → ℕ → Trees → List ℕ → List ℕ
cell at end d section ts out = (take at out ++ (words_of d section ++ links 0 (length out - end) ts)) ++ (drop end out ++ bodies ts)

one_cell : (at end d k section : ℕ) (ts : Trees) (out : List ℕ) → with_cells at end d k (element section ts no_elements) out ≡ cell at end d section ts out
unfolding with_cells cell
one_cell at end d k section ts out =
    let n = length out in
    let ls = links 0 (n - end) ts in
    let ws = words_of d section in
    let same : links (0 * (d + k)) (n - end) ts ≡ ls = ap (λ (b : ℕ). links b (n - end) ts) (let z : 0 * (d + k) ≡ 0 = omega arith in z) in
    ap (λ (xs : List ℕ). take at out ++ ((ws ++ (xs ++ [])) ++ (drop end out ++ (bodies ts ++ [])))) same
    ∙ ap (λ (xs : List ℕ). take at out ++ ((ws ++ xs) ++ (drop end out ++ (bodies ts ++ [])))) (append-nil ls)
    ∙ ap (λ (xs : List ℕ). take at out ++ ((ws ++ ls) ++ (drop end out ++ xs))) (append-nil (bodies ts))
    ∙ sym (append_assoc (take at out) (ws ++ ls) (drop end out ++ bodies ts))

cell_front : (at d k section : ℕ) (ts : Trees) (out : List ℕ) (m : ℕ) → tree_count ts ≡ k → at + (d + k) ≤ length out → length (take at out ++ (words_of d section ++ links 0 m ts)) ≡ at + (d + k)
cell_front at d k section ts out m e h =
    omega (arith, length-append (take at out) (words_of d section ++ links 0 m ts), length-append (words_of d section) (links 0 m ts), length-numbers_in 64 d section, links_length ts 0 m, length-take at out)

-- more elements behind it
pub cell_step : (at d k section : ℕ) (ts : Trees) (es : Elements) (out : List ℕ) (end : ℕ) → tree_count ts ≡ k → end ≡ at + (d + k) + element_count es * (d + k) → end ≤ length out
    → with_cells (at + (d + k)) end d k es (with_cells at (at + (d + k)) d k (element section ts no_elements) out) ≡ with_cells at end d k (element section ts es) out
unfolding with_cells cell
cell_step at d k section ts es out end count is le =
    let w = d + k in
    let e = at + w in
    let n = length out in
    let c = element_count es in
    let ws = words_of d section in
    let ls = links 0 (n - e) ts in
    let front = take at out ++ (ws ++ ls) in
    let back = drop e out ++ bodies ts in
    let x = front ++ back in
    let room : e ≤ n = omega arith in
    let long : length front ≡ e = cell_front at d k section ts out (n - e) count room in
    let size : length x ≡ n + length (bodies ts) = omega (arith, length-append front back, length-append (drop e out) (bodies ts), length-drop e out) in
    let first : take e x ≡ front = take_front front back e long in
    let end_is : e + c * w ≡ end = sym is in
    let behind : drop end x ≡ drop end out ++ bodies ts =
    ap (λ (j : ℕ). drop j x) (sym end_is) ∙ drop_front front back e (c * w) long
    ∙ drop-append-le (c * w) (drop e out) (bodies ts) (omega (arith, length-drop e out))
    ∙ ap (λ (xs : List ℕ). xs ++ bodies ts) (drop-drop (c * w) e out ∙ ap (λ (j : ℕ). drop j out) end_is) in
    let before : length x - end ≡ n - end + length (bodies ts) = omega arith in
    let rest = cells (n - end + length (bodies ts)) d k es in
    let sum : c * w + (n - end) ≡ n - e = omega arith in
    let ls_are : links (c * w) (n - end) ts ≡ ls = links_sum (c * w) (n - end) ts ∙ ap (λ (j : ℕ). links 0 j ts) sum in
    ap (λ (xs : List ℕ). with_cells e end d k es xs) (one_cell at e d k section ts out)
    ∙ ap (λ (xs : List ℕ). xs ++ (cells (length x - end) d k es ++ (drop end x ++ element_bodies es))) first
    ∙ ap (λ (j : ℕ). front ++ (cells j d k es ++ (drop end x ++ element_bodies es))) before
    ∙ ap (λ (xs : List ℕ). front ++ (rest ++ (xs ++ element_bodies es))) behind
    ∙ ap (λ (xs : List ℕ). front ++ (rest ++ xs)) (append_assoc (drop end out) (bodies ts) (element_bodies es))
    ∙ append_assoc (take at out) (ws ++ ls) (rest ++ (drop end out ++ (bodies ts ++ element_bodies es)))
    ∙ ap (λ (xs : List ℕ). take at out ++ xs) (sym (append_assoc (ws ++ ls) rest (drop end out ++ (bodies ts ++ element_bodies es))))
    ∙ ap (λ (xs : List ℕ). take at out ++ (xs ++ (drop end out ++ (bodies ts ++ element_bodies es)))) (append_assoc ws ls rest ∙ ap (λ (ys : List ℕ). ws ++ (ys ++ rest)) (sym ls_are))

-- words and pointers of a struct
pub struct_cell : (at d k section : ℕ) (ts : Trees) (out : List ℕ) → tree_count ts ≡ k → at + (d + k) ≤ length out
    → with_links (at + d) (at + d + k) ts (with_section_at at d section out) ≡ with_cells at (at + (d + k)) d k (element section ts no_elements) out
unfolding with_links with_section_at with_cells cell
struct_cell at d k section ts out count le =
    let n = length out in
    let ws = words_of d section in
    let e = at + (d + k) in
    let out1 = take at out ++ (ws ++ drop (at + d) out) in
    let regrouped : out1 ≡ (take at out ++ ws) ++ drop (at + d) out = sym (append_assoc (take at out) ws (drop (at + d) out)) in
    let long : length (take at out ++ ws) ≡ at + d = omega (arith, length-append (take at out) ws, length-take at out, length-numbers_in 64 d section) in
    let size : length out1 ≡ n = ap length regrouped ∙ omega (arith, length-append (take at out ++ ws) (drop (at + d) out), length-drop (at + d) out, long) in
    let first : take (at + d) out1 ≡ take at out ++ ws = ap (take (at + d)) regrouped ∙ take_front (take at out ++ ws) (drop (at + d) out) (at + d) long in
    let end_is : at + d + k ≡ e = omega arith in
    let behind : drop (at + d + k) out1 ≡ drop e out = ap (drop (at + d + k)) regrouped ∙ drop_front (take at out ++ ws) (drop (at + d) out) (at + d) k long ∙ drop-drop k (at + d) out ∙ ap (λ (j : ℕ). drop j out) end_is in
    let before : length out1 - (at + d + k) ≡ n - e = omega arith in
    let ls = links 0 (n - e) ts in
    ap (λ (xs : List ℕ). xs ++ (links 0 (length out1 - (at + d + k)) ts ++ (drop (at + d + k) out1 ++ bodies ts))) first
    ∙ ap (λ (j : ℕ). (take at out ++ ws) ++ (links 0 j ts ++ (drop (at + d + k) out1 ++ bodies ts))) before
    ∙ ap (λ (xs : List ℕ). (take at out ++ ws) ++ (ls ++ (xs ++ bodies ts))) behind
    ∙ append_assoc (take at out) ws (ls ++ (drop e out ++ bodies ts))
    ∙ ap (λ (xs : List ℕ). take at out ++ xs) (sym (append_assoc ws ls (drop e out ++ bodies ts)))
    ∙ sym (append_assoc (take at out) (ws ++ ls) (drop e out ++ bodies ts))
    ∙ sym (one_cell at e d k section ts out)

-- none is left to put
pub cells_all : (at end d k : ℕ) (out : List ℕ) → at ≡ end → with_cells at end d k no_elements out ≡ out
unfolding with_cells
cells_all at end d k out e = ap (λ (xs : List ℕ). take at out ++ xs) (append-nil (drop end out)) ∙ ap (λ (j : ℕ). take at out ++ drop j out) (sym e) ∙ take-append-drop at out

-- ---- over words behind all

module _ (old grown : List ℕ) (n m : ℕ) (kept : take n grown ≡ old) (long : length grown ≡ n + m) where
  nothing_behind : (end : ℕ) → end ≡ n + m → drop end grown ≡ []
  nothing_behind end e = drop-all grown end (omega arith)

  no_gap : (end : ℕ) → end ≡ n + m → length grown - end ≡ 0
  no_gap end e = omega arith

  pub words_written : (section : ℕ) → with_section_at n m section grown ≡ old ++ words_of m section
  unfolding with_section_at
  words_written section =
      ap (λ (xs : List ℕ). xs ++ (words_of m section ++ drop (n + m) grown)) kept
      ∙ ap (λ (xs : List ℕ). old ++ (words_of m section ++ xs)) (nothing_behind (n + m) refl)
      ∙ ap (λ (xs : List ℕ). old ++ xs) (append-nil (words_of m section))

  pub links_written : (ts : Trees) → with_links n (n + m) ts grown ≡ old ++ (links 0 0 ts ++ bodies ts)
  unfolding with_links
  links_written ts =
      ap (λ (xs : List ℕ). xs ++ (links 0 (length grown - (n + m)) ts ++ (drop (n + m) grown ++ bodies ts))) kept
      ∙ ap (λ (j : ℕ). old ++ (links 0 j ts ++ (drop (n + m) grown ++ bodies ts))) (no_gap (n + m) refl)
      ∙ ap (λ (xs : List ℕ). old ++ (links 0 0 ts ++ (xs ++ bodies ts))) (nothing_behind (n + m) refl)

  pub cells_written : (d k : ℕ) (es : Elements) → with_cells n (n + m) d k es grown ≡ old ++ (cells 0 d k es ++ element_bodies es)
  unfolding with_cells
  cells_written d k es =
      ap (λ (xs : List ℕ). xs ++ (cells (length grown - (n + m)) d k es ++ (drop (n + m) grown ++ element_bodies es))) kept
      ∙ ap (λ (j : ℕ). old ++ (cells j d k es ++ (drop (n + m) grown ++ element_bodies es))) (no_gap (n + m) refl)
      ∙ ap (λ (xs : List ℕ). old ++ (cells 0 d k es ++ (xs ++ element_bodies es))) (nothing_behind (n + m) refl)

pub cells_of_one : (d k section : ℕ) (ts : Trees) → cells 0 d k (element section ts no_elements) ++ element_bodies (element section ts no_elements) ≡ words_of d section ++ (links 0 0 ts ++ bodies ts)
cells_of_one d k section ts =
    let ws = words_of d section in
    let zero_is : 0 * (d + k) ≡ 0 = omega arith in
    ap (λ (b : ℕ). (ws ++ (links b 0 ts ++ [])) ++ (bodies ts ++ [])) zero_is
    ∙ ap (λ (xs : List ℕ). (ws ++ xs) ++ (bodies ts ++ [])) (append-nil (links 0 0 ts))
    ∙ ap (λ (xs : List ℕ). (ws ++ links 0 0 ts) ++ xs) (append-nil (bodies ts))
    ∙ append_assoc ws (links 0 0 ts) (bodies ts)

-- the words up to the end of those that were put
pub take_words : (n m section : ℕ) (out : List ℕ) → n ≤ length out → take (n + m) (with_section_at n m section out) ≡ take n out ++ words_of m section
unfolding with_section_at
take_words n m section out h =
    let front = take n out ++ words_of m section in
    let long : length front ≡ n + m = omega (arith, length-append (take n out) (words_of m section), length-take n out, length-numbers_in 64 m section) in
    ap (take (n + m)) (sym (append_assoc (take n out) (words_of m section) (drop (n + m) out))) ∙ take_front front (drop (n + m) out) (n + m) long

-- words put among those in use
pub take_with_words : (n m used section : ℕ) (out : List ℕ) → n + m ≤ used → used ≤ length out → take used (with_section_at n m section out) ≡ with_section_at n m section (take used out)
unfolding with_section_at
take_with_words n m used section out h le =
    let a = take n out in
    let b = words_of m section in
    let long : length (a ++ b) ≡ n + m = omega (arith, length-append a b, length-take n out, length-numbers_in 64 m section) in
    let rest = used - (n + m) in
    let sum : (n + m) + rest ≡ used = omega arith in
    let sum' : length (a ++ b) + rest ≡ used = omega arith in
    ap (take used) (sym (append_assoc a b (drop (n + m) out)))
    ∙ ap (λ (j : ℕ). take j ((a ++ b) ++ drop (n + m) out)) (sym sum')
    ∙ take_more (a ++ b) (drop (n + m) out) rest
    ∙ ap (λ (xs : List ℕ). (a ++ b) ++ xs) (sym (drop-take (n + m) rest out) ∙ ap (λ (j : ℕ). drop (n + m) (take j out)) sum)
    ∙ ap (λ (xs : List ℕ). (xs ++ b) ++ drop (n + m) (take used out)) (sym (take-take n used out (omega arith)))
    ∙ append_assoc (take n (take used out)) b (drop (n + m) (take used out))
  where
    take_more : (p q : List ℕ) (k : ℕ) → take (length p + k) (p ++ q) ≡ p ++ take k q
    take_more [] q k = let z : 0 + k ≡ k = omega arith in ap (λ (j : ℕ). take j q) z
    take_more (x ∷ p) q k = let z : suc (length p) + k ≡ suc (length p + k) = omega arith in ap (λ (j : ℕ). take j (x ∷ (p ++ q))) z ∙ ap (λ (xs : List ℕ). x ∷ xs) (take_more p q k)
