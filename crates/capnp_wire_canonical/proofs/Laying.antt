-- Elements whose own words are at their places before their pointers are written.
use Rattle.std.proofs.Common.{◌≡◌, ℕ, zero, suc, ◌+◌, ◌-◌, ◌*◌, ◌^◌, ◌<◌, ◌≤◌, true, List, ◌++◌, length, take, drop, refl, ap, sym, ◌∙◌, subst, arith, append_assoc}
use Rattle.std.specs.Int.{from_le_bytes, w64}
use Rattle.std.specs.Option.{is_some}
use Rattle.std.proofs.Math.Nat.{mul-le-mul_right}
use Rattle.std.proofs.Math.Seq.{take-append_seam, drop-append_seam, drop-append-add}
use Rattle.std.proofs.lemmas.List.{take-append-drop, take-append-le, drop-append-le, length-map, length-append, length-take, length-drop, drop-drop, drop-take, take-take}
use Rattle.capnp_model.specs.Sections.{words_of}
use Rattle.capnp_model.specs.Segments.{Segments, Place, after, words_at}
use Rattle.capnp_model.specs.Spelling.{AreWords}
use Rattle.capnp_model.specs.Trees.{Trees, Elements, none, no_elements, element, tree_count, resized, has_capability, have_capability, elements_have_capability}
use Rattle.capnp_model.specs.Traversal.{tree_at, each, each_element}
use Rattle.capnp_model.specs.Trimming.{trim, trim_each, trim_elements, with_pointers}
use Rattle.capnp_model.specs.Coverage.{from_each, from_elements}
use Rattle.capnp_model.specs.Encoding.{links, bodies, cells, element_bodies}
use Rattle.capnp_model.proofs.lemmas.Numbers.{length-numbers_in}
use Rattle.capnp_model.proofs.lemmas.RoundTrip.{links_length}
use Rattle.capnp_model.proofs.lemmas.TrimFits.{count-trim_each}
use Rattle.capnp_model.proofs.lemmas.Counts.{each_count}
use Rattle.capnp_units.specs.declared.errors.Error.{Error}
use Rattle.capnp_units.specs.declared.limiter.ReadLimiter.{ReadLimiter}
use Rattle.capnp_units.specs.Limits.{Follows}
use Rattle.capnp_units.proofs.lemmas.Spending.{spends_nothing}
use Rattle.capnp_wire_objects.specs.Objects.{AreThere}
use Rattle.capnp_wire_objects.specs.Inside.{section_at, words_there}
use Rattle.capnp_wire_objects.proofs.lemmas.Walks.{walked_none}
use Rattle.capnp_wire_canonical.specs.Standing.{segment_words}
use Rattle.capnp_wire_canonical.specs.Widths.{kept}
use Rattle.capnp_wire_canonical.specs.Writes.{words_view, filled, with_section_at, with_links, with_cells}
use Rattle.capnp_wire_canonical.specs.Copies.{copy_visits, Behind, Written, Unwritten, copy_state}
use Rattle.capnp_wire_canonical.proofs.Copying.{over_used, behind_none, behind_more}
use Rattle.capnp_wire_canonical.proofs.Objects.{filled_length}
use Rattle.capnp_wire_canonical.proofs.Holding.{own_words_are}
use Rattle.capnp_wire_canonical.proofs.Parts.{part_there, part_is, part_room, there_length}
use Rattle.capnp_wire_canonical.proofs.lemmas.Putting.{take_with_words, links_all}
use Rattle.capnp_wire_canonical.proofs.Kept.{kept_few}
use Rattle.capnp_wire_canonical.proofs.Elements.{ElementsSoFar, elements_put, elements_begun, elements_stopped, elements_next}
use Rattle.capnp_wire_canonical.proofs.Finals.{element_halts, element_gives}

-- ---- words that are at their place

-- words that change nothing are there
held_part : (x d section : ℕ) (out : List ℕ) → x + d ≤ length out → out ≡ with_section_at x d section out → take d (drop x out) ≡ words_of d section
unfolding with_section_at
held_part x d section out room held =
    let w = words_of d section in
    let front = take x out in
    let rest = drop (x + d) out in
    let long : length front ≡ x = omega (arith, length-take x out) in
    let size : length w ≡ d = length-numbers_in 64 d section in
    ap (λ (ws : List ℕ). take d (drop x ws)) held
    ∙ ap (λ (j : ℕ). take d (drop j (front ++ (w ++ rest)))) (sym long)
    ∙ ap (take d) (drop-append_seam front (w ++ rest))
    ∙ ap (λ (j : ℕ). take j (w ++ rest)) (sym size)
    ∙ take-append_seam w rest

-- words that are there change nothing
part_held : (x d section : ℕ) (out : List ℕ) → take d (drop x out) ≡ words_of d section → out ≡ with_section_at x d section out
unfolding with_section_at
part_held x d section out is =
    sym (
    ap (λ (ws : List ℕ). take x out ++ (ws ++ drop (x + d) out)) (sym is)
    ∙ ap (λ (ws : List ℕ). take x out ++ (take d (drop x out) ++ ws)) (sym (drop-drop d x out))
    ∙ ap (λ (ws : List ℕ). take x out ++ ws) (take-append-drop d (drop x out))
    ∙ take-append-drop x out)

-- among the words in use
in_use : (x d used : ℕ) (into : List (List ℕ)) → x + d ≤ used → take d (drop x (filled used into)) ≡ take d (drop x (words_view into))
in_use x d used into h =
    let rest = used - x in
    let sum : x + rest ≡ used = omega arith in
    ap (λ (j : ℕ). take d (drop x (take j (words_view into)))) (sym sum)
    ∙ ap (take d) (drop-take x rest (words_view into))
    ∙ take-take d rest (drop x (words_view into)) (omega arith)

-- pointers before them leave them as they are
behind_links : (a e x d : ℕ) (ts : Trees) (out : List ℕ) → a + tree_count ts ≡ e → e ≤ x → x + d ≤ length out → take d (drop x (with_links a e ts out)) ≡ take d (drop x out)
unfolding with_links
behind_links a e x d ts out is h room =
    let ls = links 0 (length out - e) ts in
    let front = take a out ++ ls in
    let back = drop e out ++ bodies ts in
    let long : length front ≡ e = omega (arith, length-append (take a out) ls, length-take a out, links_length ts 0 (length out - e)) in
    let gap = x - e in
    let sum : length front + gap ≡ x = omega arith in
    let sum_too : e + gap ≡ x = omega arith in
    let size = length-drop e out in
    ap (λ (ws : List ℕ). take d (drop x ws)) (sym (append_assoc (take a out) ls back))
    ∙ ap (λ (j : ℕ). take d (drop j (front ++ back))) (sym sum)
    ∙ ap (take d) (drop-append-add front back gap)
    ∙ ap (take d) (drop-append-le gap (drop e out) (bodies ts) (omega arith))
    ∙ take-append-le d (drop gap (drop e out)) (bodies ts) (omega (arith, length-drop gap (drop e out)))
    ∙ ap (take d) (drop-drop gap e out)
    ∙ ap (λ (j : ℕ). take d (drop j out)) sum_too

still_held : (x d section a e used end : ℕ) (ts : Trees) (now new : List (List ℕ)) → a + tree_count ts ≡ e → e ≤ x → x + d ≤ used → used ≤ end → used ≤ length now
    → filled end new ≡ with_links a e ts (filled used now) → words_view now ≡ with_section_at x d section (words_view now) → words_view new ≡ with_section_at x d section (words_view new)
still_held x d section a e used end ts now new is h room more inside words held =
    let view = length-map now (from_le_bytes w64) in
    part_held x d section (words_view new) (
    sym (in_use x d end new (omega arith))
    ∙ ap (λ (ws : List ℕ). take d (drop x ws)) words
    ∙ behind_links a e x d ts (filled used now) is h (omega (arith, filled_length used now inside))
    ∙ in_use x d used now room
    ∙ held_part x d section (words_view now) (omega arith) held)

-- ---- elements from one of them on

-- The own words of the elements from one of them on are at their places.
abbrev pub AreLaid : Segments → Place → ℕ → ℕ → ℕ → ℕ → ℕ → List (List ℕ) → Type 0
AreLaid s p d k count at i into = (j : ℕ) → i ≤ j → j < count → words_view into ≡ with_section_at (at + j * (d + k)) d (section_at s (after p (j * (d + k))) d) (words_view into)

laid_next : (n : ℕ) (s : Segments) (p q : Place) (d k count at i used end : ℕ) (now new : List (List ℕ)) (l t : ReadLimiter) → i < count → at + count * (d + k) ≤ used → used ≤ length now
    → Written (over_used (each (tree_at n s) q k) have_capability (λ ts. with_links (at + i * (d + k) + d) (at + i * (d + k) + d + k) (trim_each ts)) (from_each (copy_visits n s) q k) used) (copy_state now l) end (copy_state new t)
    → AreLaid s p d k count at i now → AreLaid s p d k count at (i + 1) new
laid_next n s p q d k count at i used end now new l t h room inside w laid = λ j past less.
    let here = part_room j count (d + k) less in
    let before : (i + 1) * (d + k) ≤ j * (d + k) = mul-le-mul_right (d + k) past in
    let step : (i + 1) * (d + k) ≡ i * (d + k) + (d + k) = grind arith in
    let count_is = count-trim_each w.what ∙ each_count (tree_at n s) q k w.what w.there_is in
    still_held (at + j * (d + k)) d (section_at s (after p (j * (d + k))) d) (at + i * (d + k) + d) (at + i * (d + k) + d + k) used end (trim_each w.what) now new
    (ap (λ (c : ℕ). at + i * (d + k) + d + c) count_is) (omega arith) (omega arith) w.more inside w.words (laid j (omega arith) less)

-- what was written of the pointers of an element that keeps all of them
module _ (n : ℕ) (s : Segments) (p : Place) (k at d' used section : ℕ) (now new : List (List ℕ)) (l m : ReadLimiter) (there : is_some (words_at s p k) ≡ true) (few : kept (words_there s p k) ≤ k) (room : at + (d' + k) ≤ used) (inside : used ≤ length now) (held : words_view now ≡ with_section_at at d' section (words_view now)) where
  same_count : k + 0 ≡ k
  same_count = omega arith

  laid_gives : (end : ℕ) → Written (over_used (each (tree_at n s) p k) have_capability (λ ts. with_links (at + d') (at + d' + k) (trim_each ts)) (from_each (copy_visits n s) p k) used) (copy_state now l) end (copy_state new m)
      → Written (over_used (each (tree_at n s) p k) have_capability (λ ts. with_cells at (at + (d' + k)) d' k (element section (resized k (trim_each ts)) no_elements)) (from_each (copy_visits n s) p k) used) (copy_state now l) end (copy_state new m)
  laid_gives end x =
      subst (λ (j : ℕ). Written (over_used (each (tree_at n s) p j) have_capability (λ ts. with_cells at (at + (d' + k)) d' k (element section (resized k (trim_each ts)) no_elements)) (from_each (copy_visits n s) p j) used) (copy_state now l) end (copy_state new m)) same_count
      (element_gives n s p k 0 at d' used section now now new l m m end (ap (λ (j : ℕ). is_some (words_at s p j)) same_count ∙ there) (subst (λ (j : ℕ). kept (words_there s p j) ≤ k) (sym same_count) few) room inside held (behind_none (at + d') now) follows (spends_nothing m) x)
    where
      follows : Follows m m 0
      follows = omega arith

  laid_halts : (e : Error) → Unwritten (over_used (each (tree_at n s) p k) have_capability (λ ts. with_links (at + d') (at + d' + k) (trim_each ts)) (from_each (copy_visits n s) p k) used) (copy_state now l) e (copy_state new m)
      → Unwritten (over_used (each (tree_at n s) p k) have_capability (λ ts. with_cells at (at + (d' + k)) d' k (element section (resized k (trim_each ts)) no_elements)) (from_each (copy_visits n s) p k) used) (copy_state now l) e (copy_state new m)
  laid_halts e x =
      subst (λ (j : ℕ). Unwritten (over_used (each (tree_at n s) p j) have_capability (λ ts. with_cells at (at + (d' + k)) d' k (element section (resized k (trim_each ts)) no_elements)) (from_each (copy_visits n s) p j) used) (copy_state now l) e (copy_state new m)) same_count
      (element_halts n s p k 0 at d' used section now now new l m e (ap (λ (j : ℕ). is_some (words_at s p j)) same_count ∙ there) (subst (λ (j : ℕ). kept (words_there s p j) ≤ k) (sym same_count) few) room inside held (behind_none (at + d') now) x)

-- ---- all own words at once

-- a part of words that were put is there
module _ (s : Segments) (p : Place) (d k count at : ℕ) (old new : List (List ℕ)) (there : is_some (words_at s p (count * (d + k))) ≡ true) (are : AreWords (segment_words s p.segment)) (room : at + count * (d + k) ≤ length old) (words : words_view new ≡ with_section_at at (count * (d + k)) (section_at s p (count * (d + k))) (words_view old)) where
  put_part : (x : ℕ) → x + d ≤ count * (d + k) → take d (drop (at + x) (words_view new)) ≡ words_of d (section_at s (after p x) d)
  unfolding with_section_at
  put_part x h =
      let all = count * (d + k) in
      let w = words_of all (section_at s p all) in
      let front = take at (words_view old) in
      let rest = drop (at + all) (words_view old) in
      let view = length-map old (from_le_bytes w64) in
      let long : length front ≡ at = omega (arith, length-take at (words_view old)) in
      let sum : length front + x ≡ at + x = ap (λ (j : ℕ). j + x) long in
      let size : length w ≡ all = length-numbers_in 64 all (section_at s p all) in
      ap (λ (ws : List ℕ). take d (drop (at + x) ws)) words
      ∙ ap (λ (j : ℕ). take d (drop j (front ++ (w ++ rest)))) (sym sum)
      ∙ ap (take d) (drop-append-add front (w ++ rest) x)
      ∙ ap (take d) (drop-append-le x w rest (omega arith))
      ∙ take-append-le d (drop x w) rest (omega (arith, length-drop x w))
      ∙ ap (λ (ws : List ℕ). take d (drop x ws)) (own_words_are s p all there are)
      ∙ sym (part_is s p all there x d h)
      ∙ sym (own_words_are s (after p x) d (part_there s p all there x d h) are)

  pub laid_first : AreLaid s p d k count at 0 new
  laid_first = λ j past less.
      let here = part_room j count (d + k) less in
      part_held (at + j * (d + k)) d (section_at s (after p (j * (d + k))) d) (words_view new) (put_part (j * (d + k)) (omega arith))

-- what is put over words doesn't depend on them
pub cells_over : (at n used section d k : ℕ) (es : Elements) (old mid : List (List ℕ)) → at + n ≤ used → used ≤ length old → words_view mid ≡ with_section_at at n section (words_view old)
    → with_cells at (at + n) d k es (filled used mid) ≡ with_cells at (at + n) d k es (filled used old)
unfolding with_cells with_section_at
cells_over at n used section d k es old mid h inside words =
    let view = length-map old (from_le_bytes w64) in
    let out = filled used old in
    let size : length out ≡ used = filled_length used old inside in
    let w = words_of n section in
    let front = take at out in
    let rest = drop (at + n) out in
    let both = front ++ w in
    let over = front ++ (w ++ rest) in
    let base : filled used mid ≡ over = ap (take used) words ∙ take_with_words at n used section (words_view old) h (omega arith) in
    let long : length front ≡ at = omega (arith, length-take at out) in
    let wide : length w ≡ n = length-numbers_in 64 n section in
    let whole : length both ≡ at + n = omega (arith, length-append front w) in
    let all : length over ≡ length out = omega (arith, length-append front (w ++ rest), length-append w rest, length-drop (at + n) out) in
    let first : take at over ≡ front = ap (λ (j : ℕ). take j over) (sym long) ∙ take-append_seam front (w ++ rest) in
    let behind : drop (at + n) over ≡ rest = ap (drop (at + n)) (sym (append_assoc front w rest)) ∙ ap (λ (j : ℕ). drop j (both ++ rest)) (sym whole) ∙ drop-append_seam both rest in
    ap (λ (ws : List ℕ). take at ws ++ (cells (length ws - (at + n)) d k es ++ (drop (at + n) ws ++ element_bodies es))) base
    ∙ ap (λ (ws : List ℕ). ws ++ (cells (length over - (at + n)) d k es ++ (drop (at + n) over ++ element_bodies es))) first
    ∙ ap (λ (j : ℕ). front ++ (cells (j - (at + n)) d k es ++ (drop (at + n) over ++ element_bodies es))) all
    ∙ ap (λ (ws : List ℕ). front ++ (cells (length out - (at + n)) d k es ++ (ws ++ element_bodies es))) behind

-- ---- the elements of a list, whose own words were put at once

module _ (n : ℕ) (s : Segments) (p : Place) (d k count at first : ℕ) (old : List (List ℕ)) (l : ReadLimiter) where
  -- What was written so far, where elements keep their widths.
  abbrev pub LaidSoFar : List ℕ → ℕ → ℕ → List (List ℕ) → ReadLimiter → Type 0
  LaidSoFar ws i used now m = ElementsSoFar n s p ws d k d k count at i first old l used now m × AreLaid s p d k count at i now

  pub laid_begins : (ws : List ℕ) (section : ℕ) (mid : List (List ℕ)) → at + count * (d + k) ≤ first → first ≤ length old → first < 2 ^ 29 → words_view mid ≡ with_section_at at (count * (d + k)) section (words_view old) → Behind (at + count * (d + k)) old mid
      → ElementsSoFar n s p ws d k d k count at 0 first old l first mid l
  laid_begins ws section mid room bound near words behind =
      let x = elements_begun n s p d k d k count at first old l ws bound near in
      let start : at + 0 * (d + k) ≡ at = omega arith in
      let e = at + count * (d + k) in
      let same = behind.0 in
      let over : (es : Elements) → with_cells (at + 0 * (d + k)) e d k es (filled first mid) ≡ with_cells (at + 0 * (d + k)) e d k es (filled first old) = λ es.
      ap (λ (j : ℕ). with_cells j e d k es (filled first mid)) start
      ∙ cells_over at (count * (d + k)) first section d k es old mid room bound words
      ∙ ap (λ (j : ℕ). with_cells j e d k es (filled first old)) (sym start) in
      record {
        done = x.done;
        path_is = x.path_is;
        cost = x.cost;
        cost_is = x.cost_is;
        walked = x.walked;
        behind = behind_more e first old mid room behind;
        bound = omega arith;
        near = near;
        more = x.more;
        few = x.few;
        read = λ es is. let r = x.read es is in (r.0, r.1, r.2, over (with_pointers k (trim_elements es)) ∙ r.3);
        back = x.back;
      }

  module _ (words i used : ℕ) (now new : List (List ℕ)) (j m : ReadLimiter) (h : i < count) (there : AreThere s p words) (fit : count * (d + k) ≤ words) (inside : at + count * (d + k) ≤ first) (so_far : LaidSoFar (words_there s p words) i used now j) where
    pub laid_preserved : (end : ℕ) → Written (over_used (each (tree_at n s) (after (after p (i * (d + k))) d) k) have_capability (λ ts. with_links (at + i * (d + k) + d) (at + i * (d + k) + d + k) (trim_each ts)) (from_each (copy_visits n s) (after (after p (i * (d + k))) d) k) used) (copy_state now j) end (copy_state new m)
        → LaidSoFar (words_there s p words) (i + 1) end new m
    laid_preserved end w =
        let room = part_room i count (d + k) h in
        let more = so_far.0.more in
        let all = part_there s p words there.0 (i * (d + k)) (d + k) (omega arith) in
        let pointers = part_there s (after p (i * (d + k))) (d + k) all d k (omega arith) in
        let few = kept_few (words_there s (after (after p (i * (d + k))) d) k) in
        let long = there_length s (after (after p (i * (d + k))) d) k pointers in
        let held = so_far.1 i (omega arith) h in
        let one = laid_gives n s (after (after p (i * (d + k))) d) k (at + i * (d + k)) d used (section_at s (after p (i * (d + k))) d) now new j m pointers (omega arith) (omega arith) so_far.0.bound held end w in
        (elements_next n s p d k d k count at first old l words i used end now new j m h there fit inside one so_far.0, laid_next n s p (after (after p (i * (d + k))) d) d k count at i used end now new j m h (omega arith) so_far.0.bound w so_far.1)

    pub laid_stopped : (e : Error) → Unwritten (over_used (each (tree_at n s) (after (after p (i * (d + k))) d) k) have_capability (λ ts. with_links (at + i * (d + k) + d) (at + i * (d + k) + d + k) (trim_each ts)) (from_each (copy_visits n s) (after (after p (i * (d + k))) d) k) used) (copy_state now j) e (copy_state new m)
        → Unwritten (over_used (each_element (tree_at n s) p (words_there s p words) d k count) elements_have_capability (elements_put at (at + count * (d + k)) d k) (from_elements (copy_visits n s) p d k count) first) (copy_state old l) e (copy_state new m)
    laid_stopped e w =
        let room = part_room i count (d + k) h in
        let more = so_far.0.more in
        let all = part_there s p words there.0 (i * (d + k)) (d + k) (omega arith) in
        let pointers = part_there s (after p (i * (d + k))) (d + k) all d k (omega arith) in
        let few = kept_few (words_there s (after (after p (i * (d + k))) d) k) in
        let long = there_length s (after (after p (i * (d + k))) d) k pointers in
        let held = so_far.1 i (omega arith) h in
        let one = laid_halts n s (after (after p (i * (d + k))) d) k (at + i * (d + k)) d used (section_at s (after p (i * (d + k))) d) now new j m pointers (omega arith) (omega arith) so_far.0.bound held e w in
        elements_stopped n s p d k d k count at first old l words i used now new j m e h there fit inside one so_far.0

  -- ---- elements without pointers

  -- nothing is written of a row without pointers
  no_row : (q : Place) (x used : ℕ) (now : List (List ℕ)) (j : ReadLimiter) → used ≤ length now → used < 2 ^ 29
      → Written (over_used (each (tree_at n s) q 0) have_capability (λ ts. with_links x (x + 0) (trim_each ts)) (from_each (copy_visits n s) q 0) used) (copy_state now j) used (copy_state now j)
  unfolding has_capability trim
  no_row q x used now j bound near = record {
    what = none;
    there_is = refl;
    clean = refl;
    words = sym (links_all x (x + 0) (filled used now) (omega arith));
    behind = behind_none used now;
    bound = bound;
    near = near;
    more = omega arith;
    cost = 0;
    cost_is = refl;
    walked = walked_none j;
    few = omega arith;
  }

  module _ (words : ℕ) (mid : List (List ℕ)) (without : k ≡ 0) (there : AreThere s p words) (fit : count * (d + k) ≤ words) (inside : at + count * (d + k) ≤ first) where
    pub laid_through : (i : ℕ) → i ≤ count → LaidSoFar (words_there s p words) 0 first mid l → LaidSoFar (words_there s p words) i first mid l
    laid_through zero h x = x
    laid_through (suc i) h x =
        let so_far = laid_through i (omega arith) x in
        let q = after (after p (i * (d + k))) d in
        let a = at + i * (d + k) + d in
        let row = subst (λ (y : ℕ). Written (over_used (each (tree_at n s) q y) have_capability (λ ts. with_links a (a + y) (trim_each ts)) (from_each (copy_visits n s) q y) first) (copy_state mid l) first (copy_state mid l)) (sym without) (no_row q a first mid l so_far.0.bound so_far.0.near) in
        let one : i + 1 ≡ suc i = omega arith in
        subst (λ (y : ℕ). LaidSoFar (words_there s p words) y first mid l) one (laid_preserved words i first mid mid l l (omega arith) there fit inside so_far first row)
