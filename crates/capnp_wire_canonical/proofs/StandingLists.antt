-- Whether lists stand that are paid for.
use Rattle.std.proofs.Common.{◌≡◌, ℕ, zero, suc, ◌+◌, ◌-◌, ◌*◌, ◌%◌, ◌^◌, ◌<◌, ◌≤◌, true, List, [], ◌∷◌, ◌++◌, length, get_or, take, set, Option, Some, Result, Ok, refl, ap, sym, ◌∙◌, subst, arith}
use Rattle.std.specs.Option.{is_some}
use Rattle.std.proofs.lemmas.List.{length-append, set-get_or, get_or-set_same}
use Rattle.capnp_model.specs.Chains.{◌>>=◌}
use Rattle.capnp_model.specs.Sections.{words_of, words_for, section_of, needed_words}
use Rattle.capnp_model.specs.Segments.{Segments, Place, place, after, word_at, words_at}
use Rattle.capnp_model.specs.Spelling.{AreWords}
use Rattle.capnp_model.specs.Trees.{Tree, plain_list, pointer_list, struct_list, Trees, Elements, no_elements, element, tree_count, element_count, size_bits, has_capability, have_capability, elements_have_capability}
use Rattle.capnp_model.specs.Traversal.{tree_at, each, each_element}
use Rattle.capnp_model.specs.Coverage.{from_each, from_elements}
use Rattle.capnp_model.specs.Visits.{visits}
use Rattle.capnp_model.specs.Trimming.{common_words, common_pointers, with_pointers, trim, trim_each, trim_elements}
use Rattle.capnp_model.specs.Encoding.{struct_pointer, list_pointer, links, bodies, cells, element_bodies}
use Rattle.capnp_model.proofs.lemmas.Chaining.{bind_some, some_is}
use Rattle.capnp_model.proofs.lemmas.Locality.{word_is, word_was}
use Rattle.capnp_model.proofs.lemmas.Numbers.{length-numbers_in}
use Rattle.capnp_model.proofs.lemmas.RoundTrip.{links_length}
use Rattle.capnp_model.proofs.lemmas.TrimFits.{count-trim_each, count-with_pointers, count-trim_elements}
use Rattle.capnp_units.specs.declared.errors.Error.{Error}
use Rattle.capnp_units.specs.declared.limiter.ReadLimiter.{ReadLimiter}
use Rattle.capnp_units.specs.declared.sizes.ElementSize.{ElementSize}
use Rattle.capnp_units.specs.Sizes.{size_number, data_bits}
use Rattle.capnp_wire_objects.specs.declared.place.Place as wire
use Rattle.capnp_wire_objects.specs.declared.object.Object.TheVariants as object
use Rattle.capnp_wire_objects.specs.Places.{place_view}
use Rattle.capnp_wire_objects.specs.Objects.{AreThere}
use Rattle.capnp_wire_objects.specs.Inside.{section_at, words_there}
use Rattle.capnp_wire_objects.proofs.lemmas.Walks.{walked_none}
use Rattle.capnp_wire_objects.proofs.lemmas.Measuring.{data_bits_plain}
use Rattle.capnp_model.proofs.lemmas.Counts.{each_count, each_element_count}
use Rattle.capnp_model.proofs.lemmas.Stripping.{resized_all}
use Rattle.capnp_wire_canonical.specs.Reaches.{reach}
use Rattle.capnp_wire_canonical.specs.Widths.{kept, widest}
use Rattle.capnp_wire_canonical.specs.Standing.{Hold, Stands, StandEach, StandElements, segment_words, IsSmall}
use Rattle.capnp_wire_canonical.specs.Checks.{Tests, object_test, row_test, elements_test}
use Rattle.capnp_wire_canonical.proofs.lemmas.Checking.{made_of}
use Rattle.capnp_wire_canonical.proofs.Holding.{hold_parts, hold_both, hold_at, hold_own, own_words_are}
use Rattle.capnp_wire_canonical.proofs.Masks.{last_cut}
use Rattle.capnp_wire_canonical.proofs.Parts.{there_is, front_there}
use Rattle.capnp_wire_canonical.proofs.Rows.{least_words, least_pointers}
use Rattle.capnp_wire_canonical.proofs.StandingObjects.{body_both, body_parts}

-- ---- the bits behind the last element

masked : (bits section : ℕ) → (bits % 64 ≡ 0 → ⊥) → set (words_of (words_for bits) section) (words_for bits - 1) (get_or (words_of (words_for bits) section) (words_for bits - 1) 0 % 2 ^ (bits % 64)) ≡ words_of (words_for bits) (section % 2 ^ bits)
masked bits section some = last_cut [] (words_of (words_for bits) section) bits section (words_for bits) 0 refl (length-numbers_in 64 (words_for bits) section) some

pub last_whole : (bits section : ℕ) → (bits % 64 ≡ 0 → ⊥) → get_or (words_of (words_for bits) section) (words_for bits - 1) 0 % 2 ^ (bits % 64) ≡ get_or (words_of (words_for bits) section) (words_for bits - 1) 0 → words_of (words_for bits) (section % 2 ^ bits) ≡ words_of (words_for bits) section
last_whole bits section some e =
    let ws = words_of (words_for bits) section in
    let i = words_for bits - 1 in
    sym (masked bits section some) ∙ ap (set ws i) e ∙ set-get_or ws i 0

pub last_cut_off : (bits section : ℕ) → (bits % 64 ≡ 0 → ⊥) → words_of (words_for bits) (section % 2 ^ bits) ≡ words_of (words_for bits) section → get_or (words_of (words_for bits) section) (words_for bits - 1) 0 % 2 ^ (bits % 64) ≡ get_or (words_of (words_for bits) section) (words_for bits - 1) 0
last_cut_off bits section some e =
    let ws = words_of (words_for bits) section in
    let i = words_for bits - 1 in
    let long = length-numbers_in 64 (words_for bits) section in
    let x = get_or ws i 0 % 2 ^ (bits % 64) in
    sym (get_or-set_same ws i x 0 (omega arith)) ∙ ap (λ (xs : List ℕ). get_or xs i 0) (masked bits section some ∙ e)

-- ---- a list of plain elements

module _ (n : ℕ) (s : Segments) (p : Place) (head : ℕ) (start : wire.Place) (z : ElementSize) (c : ℕ) (plain : size_number z < 6) (inside : AreThere s (place_view start) (words_for (data_bits (size_number z) * c))) (whole : AreWords (segment_words s p.segment))
    (here : place_view start ≡ place p.segment head) where
  list_section : ℕ
  list_section = section_at s (place_view start) (words_for (data_bits (size_number z) * c))

  pub own_words : words_of (words_for (data_bits (size_number z) * c)) (section_at s (place_view start) (words_for (data_bits (size_number z) * c))) ≡ words_there s (place_view start) (words_for (data_bits (size_number z) * c))
  own_words = own_words_are s (place_view start) (words_for (data_bits (size_number z) * c)) inside.0 (subst (λ (i : ℕ). AreWords (segment_words s i)) (sym (ap (λ (r : Place). r.segment) here)) whole)

  pub list_yes : (l : ReadLimiter) → word_at s p ≡ Some (list_pointer (head - p.position - 1) (size_number z) c)
      → words_of (words_for (data_bits (size_number z) * c)) (section_at s (place_view start) (words_for (data_bits (size_number z) * c)) % 2 ^ (data_bits (size_number z) * c)) ≡ words_of (words_for (data_bits (size_number z) * c)) (section_at s (place_view start) (words_for (data_bits (size_number z) * c)))
      → Tests (object_test (reach n s) p head (object.List start z c)) l (Ok (Some ((place_view start).position + words_for (data_bits (size_number z) * c)))) l
  unfolding has_capability trim
  list_yes l link cut =
      let q = place_view start in
      let bits = data_bits (size_number z) * c in
      let all = words_for bits in
      let section = section_at s q all in
      let bits_are : size_bits (size_number z) * c ≡ bits = ap (λ (b : ℕ). b * c) (data_bits_plain (size_number z) plain) in
      let words : words_of (words_for (size_bits (size_number z) * c)) (section % 2 ^ bits) ≡ words_of all section = ap (λ (b : ℕ). words_of (words_for b) (section % 2 ^ bits)) bits_are ∙ cut in
      let held : Hold s (place p.segment head) (words_of all section) = subst (λ (r : Place). Hold s r (words_of all section)) here (hold_own s q all inside.0 (subst (λ (i : ℕ). AreWords (segment_words s i)) (sym (ap (λ (r : Place). r.segment) here)) whole)) in
      let long = length-numbers_in 64 all section in
      let at : q.position ≡ head = ap (λ (r : Place). r.position) here in
      let size : length (words_of (words_for (size_bits (size_number z) * c)) (section % 2 ^ bits)) ≡ all = ap length words ∙ long in
      let ends : q.position + all ≡ head + length (words_of (words_for (size_bits (size_number z) * c)) (section % 2 ^ bits)) = omega arith in
      record {
        what = plain_list (size_number z) c (section % 2 ^ bits);
        there_is = refl;
        clean = refl;
        stand = record { link = link; targets = subst (Hold s (place p.segment head)) (sym words) held; ends = ends };
        near = inside.1;
        walked = walked_none l;
      }

  pub list_words : (end : ℕ) (t : Tree) → Some (plain_list (size_number z) c (section_at s (place_view start) (words_for (data_bits (size_number z) * c)) % 2 ^ (data_bits (size_number z) * c))) ≡ Some t → Stands s p head (trim t) end
      → words_of (words_for (data_bits (size_number z) * c)) (section_at s (place_view start) (words_for (data_bits (size_number z) * c)) % 2 ^ (data_bits (size_number z) * c)) ≡ words_of (words_for (data_bits (size_number z) * c)) (section_at s (place_view start) (words_for (data_bits (size_number z) * c)))
  unfolding trim
  list_words end t e y =
      let q = place_view start in
      let bits = data_bits (size_number z) * c in
      let all = words_for bits in
      let section = section_at s q all in
      let bits_are : size_bits (size_number z) * c ≡ bits = ap (λ (b : ℕ). b * c) (data_bits_plain (size_number z) plain) in
      let x : Stands s p head (trim (plain_list (size_number z) c (section % 2 ^ bits))) end = subst (λ (u : Tree). Stands s p head (trim u) end) (sym (some_is _ _ e)) y in
      let held : Hold s (place p.segment head) (words_of all (section % 2 ^ bits)) = subst (λ (b : ℕ). Hold s (place p.segment head) (words_of (words_for b) (section % 2 ^ bits))) bits_are x.targets in
      let long = length-numbers_in 64 all (section % 2 ^ bits) in
      let there : words_at s q all ≡ Some (words_of all (section % 2 ^ bits)) = ap (λ (j : ℕ). words_at s q j) (sym long) ∙ subst (λ (r : Place). Hold s r (words_of all (section % 2 ^ bits))) (sym here) held in
      some_is _ _ (sym there ∙ there_is s q all inside.0) ∙ sym own_words

-- the word of a pointer to a list that stands
pub list_word : (s : Segments) (p : Place) (head z c section end : ℕ) (t : Tree) → Some (plain_list z c section) ≡ Some t → Stands s p head (trim t) end → word_at s p ≡ Some (list_pointer (head - p.position - 1) z c)
unfolding trim
list_word s p head z c section end t e y =
    let x : Stands s p head (trim (plain_list z c section)) end = subst (λ (u : Tree). Stands s p head (trim u) end) (sym (some_is _ _ e)) y in
    x.link

-- ---- a list of pointers

module _ (n : ℕ) (s : Segments) (p : Place) (head : ℕ) (start : wire.Place) (c : ℕ) (inside : AreThere s (place_view start) c) (whole : AreWords (segment_words s p.segment)) (here : place_view start ≡ place p.segment head)
    (link : word_at s p ≡ Some (list_pointer (head - p.position - 1) 6 c)) where
  row_full : (f : Place → Option Tree) (ts : Trees) → each f (place_view start) c ≡ Some ts → tree_count (trim_each ts) ≡ c
  row_full f ts e = count-trim_each ts ∙ each_count f (place_view start) c ts e

  no_further : (place_view start).position ≡ (place_view start).position + 0
  no_further = omega arith

  pub pointers_tests : (l m : ReadLimiter) (r : Result (Option ℕ) Error) → Tests (row_test (reach n s) (place_view start) c ((place_view start).position + c)) l r m → Tests (object_test (reach n s) p head (object.PointerList start c)) l r m
  unfolding has_capability trim
  pointers_tests l m r x =
      let q = place_view start in
      let g = tree_at n s in
      let f : ℕ → Place → Option Tree = λ more. tree_at (more + n) s in
      let behind = q.position + c in
      let segment_is : q.segment ≡ p.segment = ap (λ (r : Place). r.segment) here in
      let at : q.position ≡ head = ap (λ (r : Place). r.position) here in
      let small = subst (λ (i : ℕ). AreWords (segment_words s i)) (sym segment_is) whole in
      let none_there = front_there s q c inside.0 0 (omega arith) in
      made_of (each g q c) (λ more. each (f more) q c) have_capability (λ ts. StandEach s q behind (trim_each ts)) (each g q c >>= λ ts. Some (pointer_list ts)) (λ more. each (f more) q c >>= λ ts. Some (pointer_list ts)) has_capability (λ t. Stands s p head (trim t)) (IsSmall s q) (IsSmall s p) (from_each (visits n s) q c) l m r
      (λ h. subst (λ (i : ℕ). length (segment_words s i) < 2 ^ 29) (sym segment_is) h)
      (λ ts end e clean y.
      let us = trim_each ts in
      let b = body_both s q 0 c behind end us none_there small (row_full g ts e) (omega arith) (subst (λ (j : ℕ). StandEach s (place q.segment j) behind us end) no_further y) in (
        pointer_list ts,
        ap (λ (o : Option Trees). o >>= λ us. Some (pointer_list us)) e,
        clean,
        record { link = link ∙ ap (λ (j : ℕ). Some (list_pointer (head - p.position - 1) 6 j)) (sym (row_full g ts e)); targets = subst (λ (r : Place). Hold s r (links 0 0 us ++ bodies us)) here b.0; ends = b.1 ∙ ap (λ (j : ℕ). j + length (links 0 0 us ++ bodies us)) at },
      ))
      (λ more t end e clean y.
      let b = bind_some (each (f more) q c) _ t e in
      let us = trim_each b.0 in
      let is : pointer_list b.0 ≡ t = some_is _ _ b.2 in
      let z : Stands s p head (trim (pointer_list b.0)) end = subst (λ (u : Tree). Stands s p head (trim u) end) (sym is) y in
      let row = body_parts s q 0 c behind end us (row_full (f more) b.0 b.1) (omega arith) (subst (λ (r : Place). Hold s r (links 0 0 us ++ bodies us)) (sym here) z.targets) (z.ends ∙ ap (λ (j : ℕ). j + length (links 0 0 us ++ bodies us)) (sym at)) in
      (b.0, b.1, ap has_capability is ∙ clean, subst (λ (j : ℕ). StandEach s (place q.segment j) behind us end) (sym no_further) row))
      x

pub pointers_word : (s : Segments) (p q : Place) (head c end : ℕ) (f : Place → Option Tree) (t : Tree) → (each f q c >>= λ ts. Some (pointer_list ts)) ≡ Some t → Stands s p head (trim t) end → word_at s p ≡ Some (list_pointer (head - p.position - 1) 6 c)
unfolding trim
pointers_word s p q head c end f t e y =
    let b = bind_some (each f q c) _ t e in
    let x : Stands s p head (trim (pointer_list b.0)) end = subst (λ (u : Tree). Stands s p head (trim u) end) (sym (some_is _ _ b.2)) y in
    x.link ∙ ap (λ (j : ℕ). Some (list_pointer (head - p.position - 1) 6 j)) (count-trim_each b.0 ∙ each_count f q c b.0 b.1)

-- ---- a list of structs

cells_long : (f : Place → Option Tree) (p : Place) (ws : List ℕ) (d k n before : ℕ) (es : Elements) → each_element f p ws d k n ≡ Some es → length (cells before d k (trim_elements es)) ≡ n * (d + k)
unfolding trim
cells_long f p ws d k zero before es e = ap (λ (xs : Elements). length (cells before d k (trim_elements xs))) (sym (some_is no_elements es e)) ∙ (let z : 0 ≡ 0 * (d + k) = omega arith in z)
cells_long f p ws d k (suc n) before es e =
    let a = bind_some (each f (after p d) k) _ es e in
    let b = bind_some (each_element f (after p (d + k)) _ d k n) _ es a.2 in
    let ts = trim_each a.0 in
    let xs = trim_elements b.0 in
    let rest = cells_long f (after p (d + k)) _ d k n (before + length (bodies ts)) b.0 b.1 in
    let section = section_of (take d ws) in
    let ls = links (element_count xs * (d + k)) before ts in
    let cs = cells (before + length (bodies ts)) d k xs in
    let count : tree_count ts ≡ k = count-trim_each a.0 ∙ each_count f (after p d) k a.0 a.1 in
    let sum : suc n * (d + k) ≡ (d + k) + n * (d + k) = omega arith in
    ap (λ (ys : Elements). length (cells before d k (trim_elements ys))) (sym (some_is _ _ b.2)) ∙ omega (arith, length-append (words_of d section) (ls ++ cs), length-append ls cs, length-numbers_in 64 d section, links_length ts (element_count xs * (d + k)) before)

all_pointers : (f : Place → Option Tree) (p : Place) (ws : List ℕ) (d k n : ℕ) (es : Elements) → each_element f p ws d k n ≡ Some es → with_pointers k (trim_elements es) ≡ trim_elements es
unfolding trim
all_pointers f p ws d k zero es e = ap (λ (xs : Elements). with_pointers k (trim_elements xs)) (sym (some_is no_elements es e)) ∙ ap trim_elements (some_is no_elements es e)
all_pointers f p ws d k (suc n) es e =
    let a = bind_some (each f (after p d) k) _ es e in
    let b = bind_some (each_element f (after p (d + k)) _ d k n) _ es a.2 in
    let rest = all_pointers f (after p (d + k)) _ d k n b.0 b.1 in
    let section = section_of (take d ws) in
    let kids = resized_all k (trim_each a.0) (count-trim_each a.0 ∙ each_count f (after p d) k a.0 a.1) in
    let whole : element section a.0 b.0 ≡ es = some_is _ _ b.2 in
    ap (λ (xs : Elements). with_pointers k (trim_elements xs)) (sym whole) ∙ ap (λ (us : Trees). element section us (with_pointers k (trim_elements b.0))) kids ∙ ap (element section (trim_each a.0)) rest ∙ ap trim_elements whole

module _ (n : ℕ) (s : Segments) (p : Place) (head : ℕ) (start : wire.Place) (words c d k : ℕ) (here : place_view start ≡ place p.segment (head + 1)) (own : words ≡ c * (d + k))
    (least : (m : ℕ) (es : Elements) → each_element (tree_at m s) (place_view start) (words_there s (place_view start) (c * (d + k))) d k c ≡ Some es → (common_words d (trim_elements es) ≡ d) × (common_pointers (trim_elements es) ≡ k))
    (link : word_at s p ≡ Some (list_pointer (head - p.position - 1) 7 (c * (d + k)))) (tag : word_at s (place p.segment head) ≡ Some (struct_pointer c d k)) where
  elements_full : (m : ℕ) (es : Elements) → each_element (tree_at m s) (place_view start) (words_there s (place_view start) (c * (d + k))) d k c ≡ Some es → element_count (trim_elements es) ≡ c
  elements_full m es e = count-trim_elements es ∙ each_element_count (tree_at m s) (place_view start) (words_there s (place_view start) (c * (d + k))) d k c es e

  least_is : (m : ℕ) (es : Elements) → each_element (tree_at m s) (place_view start) (words_there s (place_view start) (c * (d + k))) d k c ≡ Some es → trim (struct_list d k es) ≡ struct_list d k (trim_elements es)
  unfolding trim
  least_is m es e =
      let xs = trim_elements es in
      let x = least m es e in
      ap (λ (j : ℕ). struct_list j (common_pointers xs) (with_pointers (common_pointers xs) xs)) x.0 ∙ ap (λ (j : ℕ). struct_list d j (with_pointers j xs)) x.1
      ∙ ap (struct_list d k) (all_pointers (tree_at m s) (place_view start) (words_there s (place_view start) (c * (d + k))) d k c es e)

  list_both : (m : ℕ) (es : Elements) (end : ℕ) → each_element (tree_at m s) (place_view start) (words_there s (place_view start) (c * (d + k))) d k c ≡ Some es → StandElements s (place_view start) d k ((place_view start).position + c * (d + k)) (trim_elements es) end → Stands s p head (struct_list d k (trim_elements es)) end
  list_both m es end e x =
      let q = place_view start in
      let xs = trim_elements es in
      let w = d + k in
      let behind = q.position + c * w in
      let count = elements_full m es e in
      let at : q.position ≡ head + 1 = ap (λ (r : Place). r.position) here in
      let rows : element_count xs * w ≡ c * w = ap (λ (j : ℕ). j * w) count in
      let none_before : behind - q.position - element_count xs * w ≡ 0 = omega arith in
      let cs = cells 0 d k xs in
      let bs = element_bodies xs in
      let long = cells_long (tree_at m s) q (words_there s q (c * w)) d k c 0 es e in
      let row : Hold s q cs = subst (λ (j : ℕ). Hold s q (cells j d k xs)) none_before x.row in
      let at_targets : behind ≡ q.position + length cs = omega arith in
      let behind_tag : Hold s q (cs ++ bs) = hold_both s q cs bs row (hold_at s q.segment behind (q.position + length cs) bs at_targets x.targets) in
      let size = length-append cs bs in
      let last = x.ends in
      record {
        link = link ∙ ap (λ (j : ℕ). Some (list_pointer (head - p.position - 1) 7 j)) (sym rows);
        targets = hold_both s (place p.segment head) (struct_pointer (element_count xs) d k ∷ []) (cs ++ bs) (word_is s (place p.segment head) _ (tag ∙ ap (λ (j : ℕ). Some (struct_pointer j d k)) (sym count))) (subst (λ (r : Place). Hold s r (cs ++ bs)) here behind_tag);
        ends = omega arith;
      }

  list_parts : (m : ℕ) (es : Elements) (end : ℕ) → each_element (tree_at m s) (place_view start) (words_there s (place_view start) (c * (d + k))) d k c ≡ Some es → Stands s p head (struct_list d k (trim_elements es)) end → StandElements s (place_view start) d k ((place_view start).position + c * (d + k)) (trim_elements es) end
  list_parts m es end e x =
      let q = place_view start in
      let xs = trim_elements es in
      let w = d + k in
      let behind = q.position + c * w in
      let count = elements_full m es e in
      let at : q.position ≡ head + 1 = ap (λ (r : Place). r.position) here in
      let rows : element_count xs * w ≡ c * w = ap (λ (j : ℕ). j * w) count in
      let none_before : 0 ≡ behind - q.position - element_count xs * w = omega arith in
      let cs = cells 0 d k xs in
      let bs = element_bodies xs in
      let long = cells_long (tree_at m s) q (words_there s q (c * w)) d k c 0 es e in
      let own_parts = hold_parts s (place p.segment head) (struct_pointer (element_count xs) d k ∷ []) (cs ++ bs) x.targets in
      let more = hold_parts s q cs bs (subst (λ (r : Place). Hold s r (cs ++ bs)) (sym here) own_parts.1) in
      let at_targets : q.position + length cs ≡ behind = omega arith in
      let size = length-append cs bs in
      let last = x.ends in
      record {
        row = subst (λ (j : ℕ). Hold s q (cells j d k xs)) none_before more.0;
        targets = hold_at s q.segment (q.position + length cs) behind bs at_targets more.1;
        ends = omega arith;
      }

  pub structs_tests : (l m : ReadLimiter) (r : Result (Option ℕ) Error) → Tests (elements_test (reach n s) (place_view start) c d k ((place_view start).position + c * (d + k))) l r m → Tests (object_test (reach n s) p head (object.StructList start words c d k)) l r m
  unfolding has_capability
  structs_tests l m r x =
      let q = place_view start in
      let g = tree_at n s in
      let f : ℕ → Place → Option Tree = λ more. tree_at (more + n) s in
      let w = d + k in
      let behind = q.position + c * w in
      let ws = words_there s q (c * w) in
      let segment_is : q.segment ≡ p.segment = ap (λ (r : Place). r.segment) here in
      let exact : Option Elements = each_element g q ws d k c in
      let read : ℕ → Option Elements = λ more. each_element (f more) q ws d k c in
      let y : Tests (record { there = exact >>= λ es. Some (struct_list d k es); deeper = λ more. read more >>= λ es. Some (struct_list d k es); bad = has_capability; stands = λ t. Stands s p head (trim t); premise = IsSmall s p; path = from_elements (visits n s) q d k c }) l r m =
      made_of exact read elements_have_capability (λ es. StandElements s q d k behind (trim_elements es)) (exact >>= λ es. Some (struct_list d k es)) (λ more. read more >>= λ es. Some (struct_list d k es)) has_capability (λ t. Stands s p head (trim t)) (IsSmall s q) (IsSmall s p) (from_elements (visits n s) q d k c) l m r
      (λ h. subst (λ (i : ℕ). length (segment_words s i) < 2 ^ 29) (sym segment_is) h)
      (λ es end e clean y. (
        struct_list d k es,
        ap (λ (o : Option Elements). o >>= λ us. Some (struct_list d k us)) e,
        clean,
        subst (λ (t : Tree). Stands s p head t end) (sym (least_is n es e)) (list_both n es end e y),
      ))
      (λ more t end e clean y.
      let b = bind_some (read more) _ t e in
      let is : struct_list d k b.0 ≡ t = some_is _ _ b.2 in
      let z : Stands s p head (trim (struct_list d k b.0)) end = subst (λ (u : Tree). Stands s p head (trim u) end) (sym is) y in
      (b.0, b.1, ap has_capability is ∙ clean, list_parts (more + n) b.0 end b.1 (subst (λ (u : Tree). Stands s p head u end) (least_is (more + n) b.0 b.1) z)))
      x in
      subst (λ (j : ℕ). Tests (record { there = each_element g q (words_there s q j) d k c >>= λ es. Some (struct_list d k es); deeper = λ more. each_element (f more) q (words_there s q j) d k c >>= λ es. Some (struct_list d k es); bad = has_capability; stands = λ t. Stands s p head (trim t); premise = IsSmall s p; path = from_elements (visits n s) q d k c }) l r m) (sym own) y

-- the words of the pointer to a list of structs that stands, and of its tag
structs_words : (s : Segments) (p q : Place) (head c d k a b end : ℕ) (f : Place → Option Tree) (ws : List ℕ) (t : Tree) → ((es : Elements) → each_element f q ws d k c ≡ Some es → (common_words d (trim_elements es) ≡ a) × (common_pointers (trim_elements es) ≡ b))
    → (each_element f q ws d k c >>= λ es. Some (struct_list d k es)) ≡ Some t → Stands s p head (trim t) end → (word_at s p ≡ Some (list_pointer (head - p.position - 1) 7 (c * (a + b)))) × (word_at s (place p.segment head) ≡ Some (struct_pointer c a b))
unfolding trim
structs_words s p q head c d k a b end f ws t least e y =
    let r = bind_some (each_element f q ws d k c) _ t e in
    let es = trim_elements r.0 in
    let i = common_words d es in
    let j = common_pointers es in
    let xs = with_pointers j es in
    let is = least r.0 r.1 in
    let x : Stands s p head (trim (struct_list d k r.0)) end = subst (λ (u : Tree). Stands s p head (trim u) end) (sym (some_is _ _ r.2)) y in
    let count : element_count xs ≡ c = count-with_pointers j es ∙ count-trim_elements r.0 ∙ each_element_count f q ws d k c r.0 r.1 in
    let first = hold_parts s (place p.segment head) (struct_pointer (element_count xs) i j ∷ []) (cells 0 i j xs ++ element_bodies xs) x.targets in (
      x.link ∙ ap (λ (m : ℕ). Some (list_pointer (head - p.position - 1) 7 (m * (i + j)))) count ∙ ap (λ (m : ℕ). Some (list_pointer (head - p.position - 1) 7 (c * (m + j)))) is.0 ∙ ap (λ (m : ℕ). Some (list_pointer (head - p.position - 1) 7 (c * (a + m)))) is.1,
      word_was s (place p.segment head) _ first.0 ∙ ap (λ (m : ℕ). Some (struct_pointer m i j)) count ∙ ap (λ (m : ℕ). Some (struct_pointer c m j)) is.0 ∙ ap (λ (m : ℕ). Some (struct_pointer c a m)) is.1,
    )

-- the least sizes of elements that are read
pub least_of : (n : ℕ) (s : Segments) (q : Place) (words c d k a b : ℕ) → is_some (words_at s q words) ≡ true → c * (d + k) ≤ words → a ≡ widest (λ r. needed_words d (section_at s r d)) q (d + k) c → b ≡ widest (λ r. kept (words_there s r k)) (after q d) (d + k) c
    → (es : Elements) → each_element (tree_at n s) q (words_there s q words) d k c ≡ Some es → (common_words d (trim_elements es) ≡ a) × (common_pointers (trim_elements es) ≡ b)
least_of n s q words c d k a b there fit ais bis es e = (least_words c s q words d k (tree_at n s) es there fit e ∙ sym ais, least_pointers c n s q (words_there s q words) words d k es there fit e ∙ sym bis)

pub structs_read : (n : ℕ) (s : Segments) (p q : Place) (head words c d k a b end : ℕ) (t : Tree) → is_some (words_at s q words) ≡ true → c * (d + k) ≤ words → a ≡ widest (λ r. needed_words d (section_at s r d)) q (d + k) c → b ≡ widest (λ r. kept (words_there s r k)) (after q d) (d + k) c
    → (each_element (tree_at n s) q (words_there s q words) d k c >>= λ es. Some (struct_list d k es)) ≡ Some t → Stands s p head (trim t) end → (word_at s p ≡ Some (list_pointer (head - p.position - 1) 7 (c * (a + b)))) × (word_at s (place p.segment head) ≡ Some (struct_pointer c a b))
structs_read n s p q head words c d k a b end t there fit ais bis e y = structs_words s p q head c d k a b end (tree_at n s) (words_there s q words) t (least_of n s q words c d k a b there fit ais bis) e y
