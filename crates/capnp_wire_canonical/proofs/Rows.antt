-- Pointers and elements that are copied one by one.
use Rattle.std.proofs.Common.{◌≡◌, ℕ, zero, suc, ◌+◌, ◌-◌, ◌*◌, ◌<◌, ◌≤◌, max, true, false, List, [], ◌∷◌, length, take, drop, Option, Some, refl, ap, sym, ◌∙◌, arith}
use Rattle.std.specs.Option.{is_some}
use Rattle.std.proofs.lemmas.List.{length-drop}
use Rattle.capnp_model.specs.Sections.{section_of, needed_words}
use Rattle.capnp_model.specs.Segments.{Segments, Place, place, after, words_at}
use Rattle.capnp_model.specs.Trees.{Tree, Trees, ◌▸◌, Elements, no_elements, element, tree_count, element_count, resized, has_capability, have_capability, elements_have_capability}
use Rattle.capnp_model.specs.Traversal.{tree_at, each, each_element}
use Rattle.capnp_model.specs.Trimming.{common_words, common_pointers, with_pointers, stripped, trim, trim_each, trim_elements}
use Rattle.capnp_model.proofs.lemmas.Chaining.{bind_some, some_is}
use Rattle.capnp_model.proofs.lemmas.TrimFits.{count-trim_each, count-with_pointers, count-trim_elements}
use Rattle.capnp_model.proofs.lemmas.Stripping.{count-resized}
use Rattle.capnp_wire_objects.specs.Inside.{section_at, words_there}
use Rattle.capnp_wire_objects.proofs.lemmas.Rows.{each_next, element_next}
use Rattle.capnp_model.proofs.lemmas.Counts.{each_count, each_element_count}
use Rattle.capnp_wire_canonical.specs.Widths.{kept, widest}
use Rattle.capnp_wire_canonical.specs.Writes.{with_link, with_links, with_cells}
use Rattle.capnp_wire_canonical.proofs.Parts.{there_length, section_is, word_is, part_there, part_is}
use Rattle.capnp_wire_canonical.proofs.lemmas.Putting.{link_step, cell_step}
use Rattle.capnp_wire_canonical.proofs.Nulls.{kept_count}

-- ---- one more pointer

pub row_join : (at i n : ℕ) (w : List ℕ) (f : Place → Option Tree) (p : Place) (t : Tree) (ts : Trees) → i < n → at + n ≤ length w → f (after p i) ≡ Some t → each f (after p (i + 1)) (n - (i + 1)) ≡ Some ts
    → (us : Trees) × (each f (after p i) (n - i) ≡ Some us) × (has_capability t ≡ false → have_capability ts ≡ false → have_capability us ≡ false) × (with_links (at + (i + 1)) (at + n) (trim_each ts) (with_link (at + i) (trim t) w) ≡ with_links (at + i) (at + n) (trim_each us) w)
unfolding has_capability trim
row_join at i n w f p t ts h room e d =
    let next : at + (i + 1) ≡ suc (at + i) = omega arith in
    let count = each_count f (after p (i + 1)) (n - (i + 1)) ts d in
    let trimmed = count-trim_each ts in (
      t ▸ ts,
      each_next p i n h f ∙ rw (e, d) refl,
      (λ clean cleans. rw (clean, cleans) refl),
      ap (λ (k : ℕ). with_links k (at + n) (trim_each ts) (with_link (at + i) (trim t) w)) next ∙ link_step (at + i) (at + n) (trim t) (trim_each ts) w (omega arith) room,
    )

pub row_parts : (i n : ℕ) (f : Place → Option Tree) (p : Place) (us : Trees) → i < n → each f (after p i) (n - i) ≡ Some us → (t : Tree) × (ts : Trees) × (f (after p i) ≡ Some t) × (each f (after p (i + 1)) (n - (i + 1)) ≡ Some ts)
row_parts i n f p us h e =
    let a = bind_some (f (after p i)) _ us (sym (each_next p i n h f) ∙ e) in
    let b = bind_some (each f (after p (i + 1)) (n - (i + 1))) _ us a.2 in
    (a.0, b.0, a.1, b.1)

-- ---- one more element

pub element_join : (at d' k' d k i n section : ℕ) (w ws : List ℕ) (f : Place → Option Tree) (p : Place) (ts : Trees) (es : Elements) → i < n → at + n * (d' + k') ≤ length w → each f (after (after p (i * (d + k))) d) k ≡ Some ts
    → each_element f (after p ((i + 1) * (d + k))) (drop ((i + 1) * (d + k)) ws) d k (n - (i + 1)) ≡ Some es → section ≡ section_of (take d (drop (i * (d + k)) ws))
    → (xs : Elements) × (each_element f (after p (i * (d + k))) (drop (i * (d + k)) ws) d k (n - i) ≡ Some xs) × (have_capability ts ≡ false → elements_have_capability es ≡ false → elements_have_capability xs ≡ false)
    × (with_cells (at + (i + 1) * (d' + k')) (at + n * (d' + k')) d' k' (with_pointers k' (trim_elements es)) (with_cells (at + i * (d' + k')) (at + i * (d' + k') + (d' + k')) d' k' (element section (resized k' (trim_each ts)) no_elements) w)
    ≡ with_cells (at + i * (d' + k')) (at + n * (d' + k')) d' k' (with_pointers k' (trim_elements xs)) w)
unfolding has_capability trim
element_join at d' k' d k i n section w ws f p ts es h room e g is =
    let rest = with_pointers k' (trim_elements es) in
    let here = at + i * (d' + k') in
    let next : at + (i + 1) * (d' + k') ≡ here + (d' + k') = omega arith in
    let count : element_count rest ≡ n - (i + 1) = count-with_pointers k' (trim_elements es) ∙ count-trim_elements es ∙ each_element_count f (after p ((i + 1) * (d + k))) (drop ((i + 1) * (d + k)) ws) d k (n - (i + 1)) es g in
    let more : n * (d' + k') ≡ (i + 1 + (n - (i + 1))) * (d' + k') = ap (λ (j : ℕ). j * (d' + k')) (let s : n ≡ i + 1 + (n - (i + 1)) = omega arith in s) in
    let spread : (i + 1 + (n - (i + 1))) * (d' + k') ≡ (i + 1) * (d' + k') + (n - (i + 1)) * (d' + k') = grind arith in
    let rows : element_count rest * (d' + k') ≡ (n - (i + 1)) * (d' + k') = ap (λ (j : ℕ). j * (d' + k')) count in
    let end : at + n * (d' + k') ≡ here + (d' + k') + element_count rest * (d' + k') = omega arith in (
      element (section_of (take d (drop (i * (d + k)) ws))) ts es,
      element_next p d k i n h f ws ∙ rw (e, g) refl,
      (λ clean cleans. rw (clean, cleans) refl),
      ap (λ (j : ℕ). with_cells j (at + n * (d' + k')) d' k' rest (with_cells here (here + (d' + k')) d' k' (element section (resized k' (trim_each ts)) no_elements) w)) next
          ∙ cell_step here d' k' section (resized k' (trim_each ts)) rest w (at + n * (d' + k')) (count-resized k' (trim_each ts)) end room
          ∙ ap (λ (x : ℕ). with_cells here (at + n * (d' + k')) d' k' (element x (resized k' (trim_each ts)) rest) w) is,
    )

pub element_parts : (d k i n : ℕ) (ws : List ℕ) (f : Place → Option Tree) (p : Place) (xs : Elements) → i < n → each_element f (after p (i * (d + k))) (drop (i * (d + k)) ws) d k (n - i) ≡ Some xs
    → (ts : Trees) × (es : Elements) × (each f (after (after p (i * (d + k))) d) k ≡ Some ts) × (each_element f (after p ((i + 1) * (d + k))) (drop ((i + 1) * (d + k)) ws) d k (n - (i + 1)) ≡ Some es)
element_parts d k i n ws f p xs h e =
    let a = bind_some (each f (after (after p (i * (d + k))) d) k) _ xs (sym (element_next p d k i n h f ws) ∙ e) in
    let b = bind_some (each_element f (after p ((i + 1) * (d + k))) (drop ((i + 1) * (d + k)) ws) d k (n - (i + 1))) _ xs a.2 in
    (a.0, b.0, a.1, b.1)

-- ---- the least sizes

-- the words from a place on, and those behind its first
module _ (s : Segments) (p : Place) (m : ℕ) (there : is_some (words_at s p m) ≡ true) where
  pub rest_is : (i : ℕ) → i ≤ m → words_there s (after p i) (m - i) ≡ drop i (words_there s p m)
  rest_is i h =
      let long = there_length s p m there in
      let all : length (drop i (words_there s p m)) ≡ m - i = omega (arith, length-drop i (words_there s p m)) in
      part_is s p m there i (m - i) (omega arith) ∙ take_all (drop i (words_there s p m)) (m - i) all
    where
      take_all : (xs : List ℕ) (n : ℕ) → length xs ≡ n → take n xs ≡ xs
      take_all [] zero e = refl
      take_all [] (suc n) e = refl
      take_all (x ∷ xs) zero e = absurd (omega arith)
      take_all (x ∷ xs) (suc n) e = ap (λ (ys : List ℕ). x ∷ ys) (take_all xs n (omega arith))

  pub part_section : (i d : ℕ) → i + d ≤ m → section_of (take d (drop i (words_there s p m))) ≡ section_at s (after p i) d
  part_section i d h = sym (section_is s (after p i) d (part_there s p m there i d h) ∙ ap section_of (part_is s p m there i d h))

pub least_words : (n : ℕ) (s : Segments) (p : Place) (m d k : ℕ) (f : Place → Option Tree) (es : Elements) → is_some (words_at s p m) ≡ true → n * (d + k) ≤ m → each_element f p (words_there s p m) d k n ≡ Some es
    → common_words d (trim_elements es) ≡ widest (λ q. needed_words d (section_at s q d)) p (d + k) n
unfolding trim
least_words zero s p m d k f es there h e = ap (λ (xs : Elements). common_words d (trim_elements xs)) (sym (some_is no_elements es e))
least_words (suc n) s p m d k f es there h e =
    let a = bind_some (each f (after p d) k) _ es e in
    let b = bind_some (each_element f (after p (d + k)) (drop (d + k) (words_there s p m)) d k n) _ es a.2 in
    let room : (d + k) + n * (d + k) ≤ m = (let sum : suc n * (d + k) ≡ (d + k) + n * (d + k) = omega arith in omega arith) in
    let here : p.position + 0 ≡ p.position = omega arith in
    let behind = rest_is s p m there (d + k) (omega arith) in
    let rest = least_words n s (after p (d + k)) (m - (d + k)) d k f b.0 (part_there s p m there (d + k) (m - (d + k)) (omega arith)) (omega arith) (ap (λ (xs : List ℕ). each_element f (after p (d + k)) xs d k n) behind ∙ b.1) in
    let first : section_of (take d (words_there s p m)) ≡ section_at s p d = part_section s p m there 0 d (omega arith) ∙ ap (λ (q : ℕ). section_at s (place p.segment q) d) here in
    ap (λ (xs : Elements). common_words d (trim_elements xs)) (sym (some_is _ _ b.2)) ∙ ap (λ (x : ℕ). max (needed_words d x) (common_words d (trim_elements b.0))) first ∙ ap (max (needed_words d (section_at s p d))) rest

pub least_pointers : (n levels : ℕ) (s : Segments) (p : Place) (ws : List ℕ) (m d k : ℕ) (es : Elements) → is_some (words_at s p m) ≡ true → n * (d + k) ≤ m → each_element (tree_at levels s) p ws d k n ≡ Some es
    → common_pointers (trim_elements es) ≡ widest (λ q. kept (words_there s q k)) (after p d) (d + k) n
unfolding trim
least_pointers zero levels s p ws m d k es there h e = ap (λ (xs : Elements). common_pointers (trim_elements xs)) (sym (some_is no_elements es e))
least_pointers (suc n) levels s p ws m d k es there h e =
    let f = tree_at levels s in
    let a = bind_some (each f (after p d) k) _ es e in
    let b = bind_some (each_element f (after p (d + k)) (drop (d + k) ws) d k n) _ es a.2 in
    let room : (d + k) + n * (d + k) ≤ m = (let sum : suc n * (d + k) ≡ (d + k) + n * (d + k) = omega arith in omega arith) in
    let rest = least_pointers n levels s (after p (d + k)) (drop (d + k) ws) (m - (d + k)) d k b.0 (part_there s p m there (d + k) (m - (d + k)) (omega arith)) (omega arith) b.1 in
    let own = part_there s p m there d k (omega arith) in
    let long = there_length s (after p d) k own in
    let first : tree_count (stripped (trim_each a.0)) ≡ kept (words_there s (after p d) k) =
    kept_count levels s (words_there s (after p d) k) (after p d) a.0 (λ i l. word_is s (after p d) k own i (omega arith)) (ap (each f (after p d)) long ∙ a.1) in
    let swap : p.position + (d + k) + d ≡ p.position + d + (d + k) = omega arith in
    let behind = rest ∙ ap (λ (q : ℕ). widest (λ x. kept (words_there s x k)) (place p.segment q) (d + k) n) swap in
    ap (λ (xs : Elements). common_pointers (trim_elements xs)) (sym (some_is _ _ b.2)) ∙ ap (λ (x : ℕ). max x (common_pointers (trim_elements b.0))) first ∙ ap (max (kept (words_there s (after p d) k))) behind
