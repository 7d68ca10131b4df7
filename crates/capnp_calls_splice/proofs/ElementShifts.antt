-- The pointers of elements, when what lies before their targets grows or shrinks.
use Rattle.std.proofs.Common.{◌≡◌, ℕ, zero, suc, ◌+◌, ◌*◌, ◌≤◌, List, [], ◌∷◌, ◌++◌, length, take, drop, map, refl, ap, sym, subst, ◌∙◌, append_assoc, length-append, arith}
use Rattle.std.specs.Int.{from_le_bytes, w64}
use Rattle.std.proofs.lemmas.List.{length-map, length-take-le, length-drop, take_at, drop_at, take-append-drop, take-map, drop-map, map-append, drop-drop}
use Rattle.capnp_model.specs.Sections.{words_of}
use Rattle.capnp_model.specs.Trees.{Elements, no_elements, element, element_count}
use Rattle.capnp_model.specs.Fits.{FitElements}
use Rattle.capnp_model.specs.Encoding.{links, bodies, cells, element_bodies}
use Rattle.capnp_model.proofs.lemmas.Numbers.{length-numbers_in}
use Rattle.capnp_wire_canonical.specs.Writes.{words_view}
use Rattle.capnp_model.proofs.lemmas.RoundTrip.{links_length}
use Rattle.capnp_calls_splice.specs.Cells.{shifted, AreNear}
use Rattle.capnp_calls_splice.proofs.Shifts.{Shift, links_shifted}

-- The words of so many elements, their pointers shifted.
abbrev pub shift_cells : ℕ → ℕ → ℕ → ℕ → List ℕ → List ℕ
shift_cells by d k zero ws = []
shift_cells by d k (suc n) ws = take d ws ++ (map (shifted by) (take k (drop d ws)) ++ shift_cells by d k n (drop k (drop d ws)))

pub cells_shifted : (by old new before after d k : ℕ) (es : Elements) → Shift by old new → before + new ≡ after + old → AreNear before d k es → AreNear after d k es → FitElements d k es
    → shift_cells by d k (element_count es) (cells before d k es) ≡ cells after d k es
cells_shifted by old new before after d k no_elements s e near far fit = refl
cells_shifted by old new before after d k (element sec ts es) s e near far fit =
    let n : ℕ = element_count es * (d + k) in
    let rest : List ℕ = cells (before + length (bodies ts)) d k es in
    let ls : List ℕ = links n before ts in
    let long = length-append (bodies ts) (element_bodies es) in
    let of_data = length-numbers_in 64 d sec in
    let of_links : length (links n before ts) ≡ k = links_length ts n before ∙ fit.1 in
    let count = fit.1 in
    let front : take d (words_of d sec ++ (ls ++ rest)) ≡ words_of d sec = take_at (words_of d sec) (ls ++ rest) d of_data in
    let behind : drop d (words_of d sec ++ (ls ++ rest)) ≡ ls ++ rest = drop_at (words_of d sec) (ls ++ rest) d of_data in
    let middle : take k (drop d (words_of d sec ++ (ls ++ rest))) ≡ ls = ap (take k) behind ∙ take_at ls rest k of_links in
    let back : drop k (drop d (words_of d sec ++ (ls ++ rest))) ≡ rest = ap (drop k) behind ∙ drop_at ls rest k of_links in
    let own : map (shifted by) (links n before ts) ≡ links n after ts = links_shifted by old new n before after ts s e (omega arith) (omega arith) fit.2 in
    let more : shift_cells by d k (element_count es) rest ≡ cells (after + length (bodies ts)) d k es =
    cells_shifted by old new (before + length (bodies ts)) (after + length (bodies ts)) d k es s (omega arith) (omega arith) (omega arith) fit.3 in
    ap (λ (ws : List ℕ). ws ++ (map (shifted by) (take k (drop d (words_of d sec ++ (ls ++ rest)))) ++ shift_cells by d k (element_count es) (drop k (drop d (words_of d sec ++ (ls ++ rest)))))) front
    ∙ ap (λ (ws : List ℕ). words_of d sec ++ (map (shifted by) ws ++ shift_cells by d k (element_count es) (drop k (drop d (words_of d sec ++ (ls ++ rest)))))) middle
    ∙ ap (λ (ws : List ℕ). words_of d sec ++ (map (shifted by) ls ++ shift_cells by d k (element_count es) ws)) back
    ∙ ap (λ (ws : List ℕ). words_of d sec ++ (ws ++ shift_cells by d k (element_count es) rest)) own
    ∙ ap (λ (ws : List ℕ). words_of d sec ++ (links n after ts ++ ws)) more

-- ---- one element more

take_beyond : (p x : List ℕ) (n d : ℕ) → n ≡ length p + d → take n (p ++ x) ≡ p ++ take d x
take_beyond [] x n d e = ap (λ (k : ℕ). take k x) (omega arith)
take_beyond (y ∷ p) x zero d e = absurd (omega (arith, e))
take_beyond (y ∷ p) x (suc n) d e = ap (λ (ys : List ℕ). y ∷ ys) (take_beyond p x n d (omega (arith, e)))

pub shift_step : (by d k r at : ℕ) (cur ys : List (List ℕ)) (whole : List ℕ) → at + (d + k) ≤ length cur
    → whole ≡ take at (words_view cur) ++ shift_cells by d k (suc r) (drop at (words_view cur))
    → words_view ys ≡ map (shifted by) (words_view (take k (drop (at + d) cur)))
    → whole ≡ take (at + (d + k)) (words_view (take (at + d) cur ++ (ys ++ drop k (drop (at + d) cur)))) ++ shift_cells by d k r (drop (at + (d + k)) (words_view (take (at + d) cur ++ (ys ++ drop k (drop (at + d) cur)))))
shift_step by d k r at cur ys whole room e is =
    let f = from_le_bytes w64 in
    let v : List ℕ = words_view cur in
    let a : List ℕ = take at v in
    let x : List ℕ = drop at v in
    let da : List ℕ = take d (drop at v) in
    let ka : List ℕ = map (shifted by) (take k (drop d (drop at v))) in
    let y : List ℕ = drop k (drop d (drop at v)) in
    let size : length v ≡ length cur = length-map cur (from_le_bytes w64) in
    let wide : length a ≡ at = length-take-le at v (omega arith) in
    let data_wide : length da ≡ d = length-take-le d (drop at v) (let g = length-drop at v in omega arith) in
    let own_wide : length ka ≡ k = length-map (take k (drop d (drop at v))) (shifted by) ∙ length-take-le k (drop d (drop at v)) (let g = length-drop at v in let h = length-drop d (drop at v) in omega arith) in
    let begins : words_view (take (at + d) cur) ≡ a ++ da =
    sym (take-map (from_le_bytes w64) (at + d) cur) ∙ ap (take (at + d)) (sym (take-append-drop at v)) ∙ take_beyond a (drop at v) (at + d) d (omega arith) in
    let there : words_view (drop (at + d) cur) ≡ drop d (drop at v) = sym (drop-map (from_le_bytes w64) (at + d) cur) ∙ sym (drop-drop d at v) in
    let new : words_view ys ≡ ka = is ∙ ap (map (shifted by)) (sym (take-map (from_le_bytes w64) k (drop (at + d) cur)) ∙ ap (take k) there) in
    let ends : words_view (drop k (drop (at + d) cur)) ≡ y = sym (drop-map (from_le_bytes w64) k (drop (at + d) cur)) ∙ ap (drop k) there in
    let view : words_view (take (at + d) cur ++ (ys ++ drop k (drop (at + d) cur))) ≡ (a ++ (da ++ ka)) ++ y =
    map-append (from_le_bytes w64) (take (at + d) cur) (ys ++ drop k (drop (at + d) cur)) ∙ ap (λ (ws : List ℕ). ws ++ words_view (ys ++ drop k (drop (at + d) cur))) begins
    ∙ ap (λ (ws : List ℕ). (a ++ da) ++ ws) (map-append (from_le_bytes w64) ys (drop k (drop (at + d) cur)) ∙ ap (λ (ws : List ℕ). ws ++ words_view (drop k (drop (at + d) cur))) new ∙ ap (λ (ws : List ℕ). ka ++ ws) ends)
    ∙ simp append_assoc in
    let long : length (a ++ (da ++ ka)) ≡ at + (d + k) = length-append a (da ++ ka) ∙ (let g = length-append da ka in omega arith) in
    let first : take (at + (d + k)) (words_view (take (at + d) cur ++ (ys ++ drop k (drop (at + d) cur)))) ≡ a ++ (da ++ ka) = ap (take (at + (d + k))) view ∙ take_at (a ++ (da ++ ka)) y (at + (d + k)) long in
    let last : drop (at + (d + k)) (words_view (take (at + d) cur ++ (ys ++ drop k (drop (at + d) cur)))) ≡ y = ap (drop (at + (d + k))) view ∙ drop_at (a ++ (da ++ ka)) y (at + (d + k)) long in
    e ∙ sym (ap (λ (ws : List ℕ). ws ++ shift_cells by d k r (drop (at + (d + k)) (words_view (take (at + d) cur ++ (ys ++ drop k (drop (at + d) cur)))))) first
    ∙ ap (λ (ws : List ℕ). (a ++ (da ++ ka)) ++ shift_cells by d k r ws) last ∙ append_assoc a (da ++ ka) (shift_cells by d k r y) ∙ ap (λ (ws : List ℕ). a ++ ws) (append_assoc da ka (shift_cells by d k r y)))

pub shift_next : (by d k r at m n : ℕ) (cur ys : List (List ℕ)) (whole : List ℕ) → at + (d + k) ≤ length cur → m ≡ k → n ≡ at + (d + k)
    → whole ≡ take at (words_view cur) ++ shift_cells by d k (suc r) (drop at (words_view cur))
    → words_view ys ≡ map (shifted by) (words_view (take m (drop (at + d) cur)))
    → whole ≡ take n (words_view (take (at + d) cur ++ (ys ++ drop m (drop (at + d) cur)))) ++ shift_cells by d k r (drop n (words_view (take (at + d) cur ++ (ys ++ drop m (drop (at + d) cur)))))
shift_next by d k r at m n cur ys whole room same next e is =
    let step = shift_step by d k r at cur ys whole room e (is ∙ ap (λ (z : ℕ). map (shifted by) (words_view (take z (drop (at + d) cur)))) same) in
    subst (λ (z : ℕ). whole ≡ take n (words_view (take (at + d) cur ++ (ys ++ drop z (drop (at + d) cur)))) ++ shift_cells by d k r (drop n (words_view (take (at + d) cur ++ (ys ++ drop z (drop (at + d) cur)))))) (sym same)
    (subst (λ (z : ℕ). whole ≡ take z (words_view (take (at + d) cur ++ (ys ++ drop k (drop (at + d) cur)))) ++ shift_cells by d k r (drop z (words_view (take (at + d) cur ++ (ys ++ drop k (drop (at + d) cur)))))) (sym next) step)

-- A part of as many words leaves the length.
pub part_length : (xs ys : List (List ℕ)) (a m : ℕ) → a + m ≤ length xs → length ys ≡ length (take m (drop a xs)) → length (take a xs ++ (ys ++ drop m (drop a xs))) ≡ length xs
part_length xs ys a m room same =
    let e = length-append (take a xs) (ys ++ drop m (drop a xs)) in
    let f = length-append ys (drop m (drop a xs)) in
    let g = length-take-le a xs (omega arith) in
    let h = length-drop a xs in
    let i = length-take-le m (drop a xs) (omega arith) in
    let j = length-drop m (drop a xs) in
    omega arith
