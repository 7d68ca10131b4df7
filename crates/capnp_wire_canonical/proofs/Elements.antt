-- The elements of a list of structs, written one after the other.
use Rattle.std.proofs.Common.{◌≡◌, ℕ, ◌+◌, ◌-◌, ◌*◌, ◌^◌, ◌<◌, ◌≤◌, List, length, drop, Option, refl, ap, sym, ◌∙◌, arith}
use Rattle.capnp_model.specs.Segments.{Segments, Place, after}
use Rattle.capnp_model.specs.Trees.{Trees, Elements, no_elements, element, element_count, resized, has_capability, have_capability, elements_have_capability}
use Rattle.capnp_model.specs.Traversal.{tree_at, each, each_element}
use Rattle.capnp_model.specs.Trimming.{trim, trim_each, trim_elements, with_pointers}
use Rattle.capnp_model.specs.Coverage.{from_each, from_elements}
use Rattle.capnp_model.specs.Visits.{Visit}
use Rattle.capnp_units.specs.declared.errors.Error.{Error}
use Rattle.capnp_units.specs.declared.limiter.ReadLimiter.{ReadLimiter}
use Rattle.capnp_model.proofs.lemmas.Stripping.{count-resized}
use Rattle.capnp_model.proofs.lemmas.TrimFits.{count-trim_elements}
use Rattle.capnp_wire_objects.specs.Objects.{AreThere}
use Rattle.capnp_wire_objects.specs.Inside.{section_at, words_there}
use Rattle.capnp_wire_objects.proofs.lemmas.Rows.{row_end, elements_start, elements_met_next}
use Rattle.capnp_model.proofs.lemmas.Counts.{each_element_count}
use Rattle.capnp_wire_canonical.specs.Writes.{filled, with_cells}
use Rattle.capnp_wire_canonical.specs.Copies.{copy_visits, Written, Unwritten, copy_state}
use Rattle.capnp_wire_canonical.proofs.Copying.{SoFar, begun, next, ended, stopped, over_used}
use Rattle.capnp_wire_canonical.proofs.Rows.{element_join, element_parts, part_section}
use Rattle.capnp_wire_canonical.proofs.Rooms.{cell_longer, cells_longer}
use Rattle.capnp_wire_canonical.proofs.Parts.{part_room}
use Rattle.capnp_wire_canonical.proofs.lemmas.Putting.{cells_all}
use Rattle.capnp_wire_canonical.proofs.Objects.{filled_length}

-- The elements from one of them on.
abbrev pub elements_from : ℕ → Segments → Place → List ℕ → ℕ → ℕ → ℕ → ℕ → Option Elements
elements_from n s p ws d k count i = each_element (tree_at n s) (after p (i * (d + k))) (drop (i * (d + k)) ws) d k (count - i)

-- The visits at them.
abbrev pub visits_from : ℕ → Segments → Place → ℕ → ℕ → ℕ → ℕ → List Visit
visits_from n s p d k count i = from_elements (copy_visits n s) (after p (i * (d + k))) d k (count - i)

-- Trimmed elements over the words from a place to an end.
abbrev pub elements_put : ℕ → ℕ → ℕ → ℕ → Elements → List ℕ → List ℕ
elements_put at end a b = λ es. with_cells at end a b (with_pointers b (trim_elements es))

-- The elements before one of them are written and paid.
abbrev pub ElementsSoFar : ℕ → Segments → Place → List ℕ → ℕ → ℕ → ℕ → ℕ → ℕ → ℕ → ℕ → ℕ → List (List ℕ) → ReadLimiter → ℕ → List (List ℕ) → ReadLimiter → Type 0
ElementsSoFar n s p ws d k a b count at i first old l used now m =
    SoFar (each_element (tree_at n s) p ws d k count) (elements_from n s p ws d k count i) elements_have_capability (elements_put at (at + count * (a + b)) a b) (elements_put (at + i * (a + b)) (at + count * (a + b)) a b) (from_elements (copy_visits n s) p d k count) (visits_from n s p d k count i) first old l used now m

module _ (n : ℕ) (s : Segments) (p : Place) (d k a b count at first : ℕ) (old : List (List ℕ)) (l : ReadLimiter) where
  pub elements_begun : (ws : List ℕ) → first ≤ length old → first < 2 ^ 29 → ElementsSoFar n s p ws d k a b count at 0 first old l first old l
  elements_begun ws bound near =
      let f = tree_at n s in
      let v = copy_visits n s in
      let none_before : 0 * (d + k) ≡ 0 = omega arith in
      let start : at + 0 * (a + b) ≡ at = omega arith in
      let words : drop (0 * (d + k)) ws ≡ ws = ap (λ (m : ℕ). drop m ws) none_before in
      begun (each_element f p ws d k count) (elements_from n s p ws d k count 0) elements_have_capability (elements_put at (at + count * (a + b)) a b) (elements_put (at + 0 * (a + b)) (at + count * (a + b)) a b) (from_elements v p d k count) (visits_from n s p d k count 0) first old l
      (ap (λ (xs : List ℕ). each_element f (after p (0 * (d + k))) xs d k (count - 0)) words ∙ elements_start p d k count (λ q m. each_element f q ws d k m)) (elements_start p d k count (λ q m. from_elements v q d k m)) bound near
      (λ es. ap (λ (j : ℕ). with_cells j (at + count * (a + b)) a b (with_pointers b (trim_elements es)) (filled first old)) start)

  pub elements_stopped : (words i used : ℕ) (now new : List (List ℕ)) (j m : ReadLimiter) (e : Error) → i < count → AreThere s p words → count * (d + k) ≤ words → at + count * (a + b) ≤ first
      → Unwritten (over_used (each (tree_at n s) (after (after p (i * (d + k))) d) k) have_capability (λ ts. with_cells (at + i * (a + b)) (at + i * (a + b) + (a + b)) a b (element (section_at s (after p (i * (d + k))) d) (resized b (trim_each ts)) no_elements)) (from_each (copy_visits n s) (after (after p (i * (d + k))) d) k) used) (copy_state now j) e (copy_state new m)
      → ElementsSoFar n s p (words_there s p words) d k a b count at i first old l used now j
      → Unwritten (over_used (each_element (tree_at n s) p (words_there s p words) d k count) elements_have_capability (elements_put at (at + count * (a + b)) a b) (from_elements (copy_visits n s) p d k count) first) (copy_state old l) e (copy_state new m)
  elements_stopped words i used now new j m e h there fit inside x so_far =
      let ws = words_there s p words in
      let f = tree_at n s in
      let v = copy_visits n s in
      let here = after p (i * (d + k)) in
      let more = so_far.more in
      let size = filled_length used now so_far.bound in
      let room = part_room i count (d + k) h in
      let place = part_room i count (a + b) h in
      let section = section_at s here d in
      let out : Trees → List ℕ = λ ts. with_cells (at + i * (a + b)) (at + i * (a + b) + (a + b)) a b (element section (resized b (trim_each ts)) no_elements) (filled used now) in
      stopped (each_element f p ws d k count) (elements_from n s p ws d k count i) (elements_from n s p ws d k count (i + 1)) elements_have_capability
      (elements_put at (at + count * (a + b)) a b) (elements_put (at + i * (a + b)) (at + count * (a + b)) a b) (elements_put (at + (i + 1) * (a + b)) (at + count * (a + b)) a b)
      (each f (after here d) k) have_capability (λ ts. with_cells (at + i * (a + b)) (at + i * (a + b) + (a + b)) a b (element section (resized b (trim_each ts)) no_elements))
      (from_elements v p d k count) (visits_from n s p d k count i) (from_each v (after here d) k) (visits_from n s p d k count (i + 1)) first old now new l j m used e (elements_met_next p d k i count h v)
      (λ ts es is rest_is. element_join at a b d k i count section (filled used now) ws f p ts es h (omega arith) is rest_is (sym (part_section s p words there.0 (i * (d + k)) d (omega arith)))) (λ xs is. element_parts d k i count ws f p xs h is)
      (λ ts es is rest_is.
      let count_is : element_count (trim_elements es) ≡ count - (i + 1) = count-trim_elements es ∙ each_element_count f (after p ((i + 1) * (d + k))) (drop ((i + 1) * (d + k)) ws) d k (count - (i + 1)) es rest_is in
      let long : length (filled used now) ≤ length (out ts) = cell_longer (at + i * (a + b)) (at + i * (a + b) + (a + b)) a b section (resized b (trim_each ts)) (filled used now) (count-resized b (trim_each ts)) (omega arith) (omega arith) in
      let all : count * (a + b) ≡ (i + 1 + (count - (i + 1))) * (a + b) = ap (λ (c : ℕ). c * (a + b)) (let t : count ≡ i + 1 + (count - (i + 1)) = omega arith in t) in
      let spread : (i + 1 + (count - (i + 1))) * (a + b) ≡ (i + 1) * (a + b) + (count - (i + 1)) * (a + b) = grind arith in
      let rows : element_count (trim_elements es) * (a + b) ≡ (count - (i + 1)) * (a + b) = ap (λ (c : ℕ). c * (a + b)) count_is in
      cells_longer (at + (i + 1) * (a + b)) (at + count * (a + b)) a b (trim_elements es) (out ts) (omega arith) (omega arith)) x so_far

  pub elements_next : (words i used end : ℕ) (now new : List (List ℕ)) (j m : ReadLimiter) → i < count → AreThere s p words → count * (d + k) ≤ words → at + count * (a + b) ≤ first
      → Written (over_used (each (tree_at n s) (after (after p (i * (d + k))) d) k) have_capability (λ ts. with_cells (at + i * (a + b)) (at + i * (a + b) + (a + b)) a b (element (section_at s (after p (i * (d + k))) d) (resized b (trim_each ts)) no_elements)) (from_each (copy_visits n s) (after (after p (i * (d + k))) d) k) used) (copy_state now j) end (copy_state new m)
      → ElementsSoFar n s p (words_there s p words) d k a b count at i first old l used now j → ElementsSoFar n s p (words_there s p words) d k a b count at (i + 1) first old l end new m
  elements_next words i used end now new j m h there fit inside written so_far =
      let ws = words_there s p words in
      let f = tree_at n s in
      let v = copy_visits n s in
      let here = after p (i * (d + k)) in
      let more = so_far.more in
      let size = filled_length used now so_far.bound in
      let room = part_room i count (d + k) h in
      let section = section_at s here d in
      next (each_element f p ws d k count) (elements_from n s p ws d k count i) (elements_from n s p ws d k count (i + 1)) elements_have_capability
      (elements_put at (at + count * (a + b)) a b) (elements_put (at + i * (a + b)) (at + count * (a + b)) a b) (elements_put (at + (i + 1) * (a + b)) (at + count * (a + b)) a b)
      (each f (after here d) k) have_capability (λ ts. with_cells (at + i * (a + b)) (at + i * (a + b) + (a + b)) a b (element section (resized b (trim_each ts)) no_elements))
      (from_elements v p d k count) (visits_from n s p d k count i) (visits_from n s p d k count (i + 1)) (from_each v (after here d) k) first old now new l j m used end
      (elements_met_next p d k i count h v)
      (λ x y is rest_is. element_join at a b d k i count section (filled used now) ws f p x y h (omega arith) is rest_is (sym (part_section s p words there.0 (i * (d + k)) d (omega arith)))) (λ xs is. element_parts d k i count ws f p xs h is) written so_far

  pub elements_ended : (ws : List ℕ) (i used : ℕ) (now : List (List ℕ)) (m : ReadLimiter) → i ≡ count → ElementsSoFar n s p ws d k a b count at i first old l used now m
      → Written (over_used (each_element (tree_at n s) p ws d k count) elements_have_capability (elements_put at (at + count * (a + b)) a b) (from_elements (copy_visits n s) p d k count) first) (copy_state old l) used (copy_state now m)
  unfolding has_capability trim
  elements_ended ws i used now m same so_far =
      let f = tree_at n s in
      let v = copy_visits n s in
      let here = after p (i * (d + k)) in
      let past : count ≤ i = omega arith in
      let end : at + i * (a + b) ≡ at + count * (a + b) = ap (λ (j : ℕ). at + j * (a + b)) same in
      ended (each_element f p ws d k count) (elements_from n s p ws d k count i) elements_have_capability (elements_put at (at + count * (a + b)) a b) (elements_put (at + i * (a + b)) (at + count * (a + b)) a b) (from_elements v p d k count) (visits_from n s p d k count i) first old now l m used no_elements
      (row_end count i (each_element f here (drop (i * (d + k)) ws) d k) past) refl (cells_all (at + i * (a + b)) (at + count * (a + b)) a b (filled used now) end) (row_end count i (from_elements v here d k) past) so_far
