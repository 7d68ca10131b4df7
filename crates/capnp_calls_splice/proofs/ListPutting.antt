-- What is put at an index of a list behind a pointer of a struct stands there.
use Rattle.std.proofs.Common.{◌≡◌, ℕ, suc, ◌+◌, ◌-◌, ◌*◌, ◌^◌, ◌<◌, ◌≤◌, Option, List, [], ◌∷◌, ◌++◌, length, take, drop, get_or, refl, ap, sym, subst, ◌∙◌, length-append, arith}
use Rattle.std.specs.Prelude.{IfSome}
use Rattle.std.specs.Int.{from_le_bytes, w64}
use Rattle.std.proofs.Math.Nat.{mul-le-mul_left}
use Rattle.std.proofs.lemmas.List.{length-map}
use Rattle.capnp_model.specs.Sections.{words_of, words_for}
use Rattle.capnp_model.specs.Trees.{Tree, null, capability, structure, plain_list, pointer_list, struct_list, Trees, tree_count, child, with_child, size_bits}
use Rattle.capnp_model.specs.Fits.{Fits, FitEach}
use Rattle.capnp_model.specs.Encoding.{pointer, list_pointer, body, links, bodies}
use Rattle.capnp_model.specs.Edits.{Cell, put_child}
use Rattle.capnp_model.proofs.lemmas.Bounds.{with_bits_lt}
use Rattle.capnp_model.proofs.lemmas.Counts.{count-with_child}
use Rattle.capnp_model.proofs.lemmas.Numbers.{length-numbers_in, wider}
use Rattle.capnp_model.proofs.lemmas.RoundTrip.{links_length}
use Rattle.capnp_wire_canonical.specs.Writes.{words_view, filled}
use Rattle.capnp_calls_splice.specs.Blobs.{tree_of_blob}
use Rattle.capnp_calls_splice.specs.DataWords.{put_set, AreData}
use Rattle.capnp_calls_splice.specs.Splices.{IsPlainList, IsElement, PutsBlobAt, PutsIntoCell, set_element}
use Rattle.capnp_calls_splice.specs.Cells.{Frame, framed, StandsIn, HasPut, ChangesUpTo, IsPointerList, AreLinks, IsEnd}
use Rattle.capnp_calls_splice.specs.declared.area.Area.{Area}
use Rattle.capnp_calls_splice.specs.declared.area.Placed.{Placed}
use Rattle.capnp_calls_splice.specs.declared.area.Run.{Run}
use Rattle.capnp_calls_splice.specs.declared.blob.Blob.{Blob}
use Rattle.capnp_calls_splice.specs.declared.plain.PlainSet.{PlainSet}
use Rattle.capnp_calls_splice.specs.declared.splice.Put.TheVariants as puts
use Rattle.capnp_calls_splice.proofs.Children.{fronts, backs, child-fits, with_child-fit}
use Rattle.capnp_calls_splice.proofs.Segmenting.{filled_length, part_is, part_put}
use Rattle.capnp_calls_splice.proofs.Placing.{slot_front, slot_gap, slot_later, slot_between, slot_back, slotted, own_slot, with_slot, slot_place, slot_near, own_end, moved, struct_frame, in_struct_frame}
use Rattle.capnp_calls_splice.proofs.Putting.{Moves, pointer_there, regrouped}
use Rattle.capnp_calls_splice.proofs.lemmas.DataWords.{long_as}

-- Where what a pointer leads to begins.
target_place : (area : Area) (f : Frame) (c : Cell) (i p n : ℕ) (ws : List ℕ) → StandsIn area f c ws → i < area.pointers
    → length (slot_front area.data_words f c i ++ p ∷ (slot_later f c i n ++ slot_between f c i)) ≡ area.at + area.data_words + i + 1 + slot_gap f c i
target_place area f c i p n ws st l =
    let d : ℕ = area.data_words in
    let place = slot_place area f c ws i st l in
    let a = length-append (slot_front d f c i) (p ∷ (slot_later f c i n ++ slot_between f c i)) in
    let b = length-append (slot_later f c i n) (slot_between f c i) in
    let g = links_length (backs i c.kids) f.behind (f.before + length (bodies (fronts i c.kids)) + n) in
    let h = length-append f.middle (bodies (fronts i c.kids)) in
    let m = st.between in
    omega arith

-- ---- a text or data

module _ (b : Blob) (area list : Area) (f : Frame) (c : Cell) (i k count : ℕ) (q : Placed) (xs mid ys : List (List ℕ)) (a m : ℕ)
    (st : StandsIn area f c (filled count xs)) (l : i < area.pointers) (room : count ≤ length xs) (few : count < 2 ^ 29) (short : q.count < 2 ^ 29) (more : q.count ≤ length mid)
    (at : a ≡ area.at + area.data_words + i + 1) (size : m ≡ area.at + area.data_words + area.pointers - a)
    (place : list.at ≡ area.at + area.data_words + i + 1 + slot_gap f c i) (bare : list.data_words ≡ 0)
    (ends_at : Option ℕ) (ends : IfSome ends_at (λ e. e + length (slot_back f c i) ≡ count)) (rec : ChangesUpTo (PutsIntoCell (puts.Blob k b)) list ends_at count xs mid q)
    (move : Moves count q.count (take m (drop a mid)) ys) where
  in_pointers : (ts : Trees) → child c.kids i ≡ pointer_list ts → list.pointers ≡ tree_count ts → HasPut (puts.BlobAt i k b) [] area f c area.data_words (filled q.count (take a mid ++ (ys ++ drop m (drop a mid))))
  in_pointers ts e pointers =
      let d : ℕ = area.data_words in
      let n : ℕ = length (body (child c.kids i)) in
      let p : ℕ = pointer (slot_gap f c i) (pointer_list ts) in
      let g : Frame = struct_frame d f c i p n in
      let own : Cell = record { section = 0; kids = ts } in
      let inside : i < tree_count c.kids = (let z = st.pointers in omega arith) in
      let fits : Fits (pointer_list ts) = subst Fits e (child-fits c.kids i st.each) in
      let begins = target_place area f c i p n (filled count xs) st l in
      let spelled : filled count xs ≡ framed 0 g own =
      st.spelled ∙ own_slot d f c i inside ∙ ap (λ (u : Tree). slotted d f c i (pointer (slot_gap f c i) u) n (body u)) e ∙ in_struct_frame d 0 0 ts f c i p n in
      let stands : StandsIn list g own (filled count xs) =
      record {
        place = begins ∙ sym place;
        between = refl;
        spelled = spelled ∙ ap (λ (w : ℕ). framed w g own) (sym bare);
        section = subst (λ (w : ℕ). 0 < 2 ^ (64 * w)) (sym bare) (omega arith);
        pointers = sym pointers;
        each = fits.1;
      } in
      let h = rec g own ends stands in
      let puts = h.changes in
      let t : Tree = pointer_list (with_child ts k (tree_of_blob b)) in
      let kids : h.cell.kids ≡ with_child ts k (tree_of_blob b) = ap (λ (z : Cell). z.kids) puts.2 in
      let none : q.data_words ≡ 0 = puts.0 ∙ bare in
      let same : tree_count ts ≡ tree_count (with_child ts k (tree_of_blob b)) = sym pointers ∙ sym h.stands.pointers ∙ ap tree_count kids in
      let told : p ≡ pointer (slot_gap f c i) t = ap (λ (z : ℕ). list_pointer (slot_gap f c i) 6 z) same in
      let is : filled q.count mid ≡ slotted d f c i (pointer (slot_gap f c i) t) n (body t) =
      h.stands.spelled ∙ ap (λ (w : ℕ). framed w g h.cell) none
      ∙ ap (λ (us : Trees). g.front ++ (links g.behind g.before us ++ (g.middle ++ (bodies us ++ g.back)))) kids
      ∙ sym (in_struct_frame d 0 0 (with_child ts k (tree_of_blob b)) f c i p n) ∙ ap (λ (z : ℕ). slotted d f c i z n (body t)) told in
      let fit : Fits t = (subst (λ (z : ℕ). z < 2 ^ 29) same fits.0, subst FitEach kids h.stands.each) in
      record {
        cell = put_child i t c;
        changes = (refl, t, subst (λ (u : Tree). PutsBlobAt k b u t) (sym e) (puts.1, refl), refl);
        stands = moved area f c i t (filled count xs) count q.count mid ys a m st l (filled_length xs count room) few short more fit is at size move;
      }

  in_list : (t : Tree) → child c.kids i ≡ t → IsPointerList list.pointers t → HasPut (puts.BlobAt i k b) [] area f c area.data_words (filled q.count (take a mid ++ (ys ++ drop m (drop a mid))))
  in_list null e h = absurd h
  in_list (capability j) e h = absurd h
  in_list (structure w s ts) e h = absurd h
  in_list (plain_list z n s) e h = absurd h
  in_list (pointer_list ts) e h = in_pointers ts e h
  in_list (struct_list d j es) e h = absurd h

pub blob_at_put : (b : Blob) (area list : Area) (f : Frame) (c : Cell) (i k s p count : ℕ) (q : Placed) (xs mid ys : List (List ℕ)) (a m : ℕ)
    → StandsIn area f c (filled count xs) → i < area.pointers → area.at + area.data_words + area.pointers ≤ count → count ≤ length xs → count < 2 ^ 29 → q.count < 2 ^ 29 → q.count ≤ length mid
    → s ≡ area.at + area.data_words + i → a ≡ area.at + area.data_words + i + 1 → m ≡ area.at + area.data_words + area.pointers - a
    → p ≡ from_le_bytes w64 (get_or xs s [])
    → ((gap : ℕ) (t : Tree) → Fits t → gap < 2 ^ 30 → p ≡ pointer gap t → IsPointerList list.pointers t × (list.at ≡ area.at + area.data_words + i + 1 + gap)) → list.data_words ≡ 0
    → (end own : Option ℕ) → IfSome end (λ e. e + length f.back ≡ count)
    → (z : ℕ) → z ≡ m → ((k1 j : ℕ) (ts : Trees) → AreLinks k1 j ts (take z (drop a xs)) → IsEnd end (a + (tree_count ts + k1 + j) + length (bodies ts)) → IsEnd own (a + (tree_count ts + k1 + j)))
    → ChangesUpTo (PutsIntoCell (puts.Blob k b)) list own count xs mid q → Moves count q.count (take m (drop a mid)) ys
    → HasPut (puts.BlobAt i k b) [] area f c area.data_words (filled q.count (take a mid ++ (ys ++ drop m (drop a mid))))
blob_at_put b area list f c i k s p count q xs mid ys a m st l within room few short more there at size is leads bare end own ended z same tells rec move =
    let word = pointer_there area f c i p count xs st l (omega arith) (is ∙ ap (λ (j : ℕ). from_le_bytes w64 (get_or xs j [])) there) in
    let near = slot_near area f c (filled count xs) i st l (let e = filled_length xs count room in omega arith) in
    let found = leads (slot_gap f c i) (child c.kids i) (child-fits c.kids i st.each) near word in
    in_list b area list f c i k count q xs mid ys a m st l room few short more at size found.1 bare own (own_end area f c i count xs a z end own st l room few at (same ∙ size) ended tells) rec move (child c.kids i) refl found.0

-- ---- a number

module _ (p : PlainSet) (area : Area) (f : Frame) (c : Cell) (i k count start m : ℕ) (xs ys : List (List ℕ))
    (st : StandsIn area f c (filled count xs)) (l : i < area.pointers) (room : count ≤ length xs)
    (begins : start ≡ area.at + area.data_words + i + 1 + slot_gap f c i) (len : m ≡ length (body (child c.kids i)))
    (puts_it : (s : ℕ) → AreData (take m (drop start xs)) s → AreData ys (put_set p s)) (size : length ys ≡ length (take m (drop start xs))) where
  in_plain : (z n u : ℕ) → child c.kids i ≡ plain_list z n u → IsElement k p (plain_list z n u) → HasPut (puts.NumberAt i k p) [] area f c area.data_words (filled count (take start xs ++ (ys ++ drop m (drop start xs))))
  in_plain z n u e h =
      let d : ℕ = area.data_words in
      let w : ℕ = words_for (size_bits z * n) in
      let old : List (List ℕ) = take m (drop start xs) in
      let head : ℕ = pointer (slot_gap f c i) (plain_list z n u) in
      let inside : i < tree_count c.kids = (let g = st.pointers in omega arith) in
      let fits : Fits (plain_list z n u) = subst Fits e (child-fits c.kids i st.each) in
      let long : length (words_of w u) ≡ m = ap (λ (t : Tree). length (body t)) (sym e) ∙ sym len in
      let x : List ℕ = slot_front d f c i ++ head ∷ (slot_later f c i w ++ slot_between f c i) in
      let spelled : filled count xs ≡ x ++ (words_of w u ++ slot_back f c i) =
      st.spelled ∙ own_slot d f c i inside ∙ ap (λ (t : Tree). slotted d f c i (pointer (slot_gap f c i) t) (length (body t)) (body t)) e
      ∙ ap (λ (j : ℕ). slotted d f c i head j (words_of w u)) (length-numbers_in 64 w u) ∙ regrouped (slot_front d f c i) (slot_later f c i w) (slot_between f c i) (words_of w u) (slot_back f c i) head in
      let place : length x ≡ start = target_place area f c i head w (filled count xs) st l ∙ sym begins in
      let view : words_view old ≡ words_of w u = part_is xs count start m x (words_of w u) (slot_back f c i) spelled place long in
      let wide : length old ≡ w = sym (length-map old (from_le_bytes w64)) ∙ ap length view ∙ length-numbers_in 64 w u in
      let small : u < 2 ^ (64 * w) = wider u (size_bits z * n) (64 * w) (omega arith) fits.2 in
      let new : ℕ = put_set p u in
      let now : AreData ys new = puts_it u (long_as old w u wide small view) in
      let words : words_view ys ≡ words_of w new = now.words ∙ ap (λ (j : ℕ). words_of j new) (size ∙ wide) in
      let put = part_put xs ys count start m x (words_of w u) (slot_back f c i) (words_of w new) room spelled place long words (length-numbers_in 64 w new ∙ sym (length-numbers_in 64 w u) ∙ long) in
      let t : Tree = plain_list z n new in
      let again : slotted d f c i head w (body t) ≡ x ++ (words_of w new ++ slot_back f c i) = regrouped (slot_front d f c i) (slot_later f c i w) (slot_between f c i) (words_of w new) (slot_back f c i) head in
      let sized : slotted d f c i head w (body t) ≡ slotted d f c i head (length (body t)) (body t) = ap (λ (j : ℕ). slotted d f c i head j (body t)) (sym (length-numbers_in 64 w new)) in
      let most : p.width * suc k ≤ p.width * n = mul-le-mul_left p.width (omega (arith, h.1)) in
      let bits : p.width * n ≡ size_bits z * n = ap (λ (j : ℕ). j * n) (sym h.0) in
      let at = h.2 in
      let fit : Fits t = (fits.0, fits.1, with_bits_lt (64 * p.word + p.shift) p.width p.bits u (size_bits z * n) p.fits (omega arith) fits.2) in
      record {
        cell = put_child i t c;
        changes = (refl, subst (IsElement k p) (sym e) h, ap (λ (v : Tree). put_child i v c) (ap (set_element p) (sym e)));
        stands = record {
          place = st.place;
          between = st.between;
          spelled = put ∙ sym again ∙ sized ∙ sym (with_slot d f c i t inside);
          section = st.section;
          pointers = count-with_child c.kids i t inside ∙ st.pointers;
          each = with_child-fit c.kids i t inside st.each fit;
        };
      }

  pub in_numbers : (t : Tree) → child c.kids i ≡ t → IsElement k p t → HasPut (puts.NumberAt i k p) [] area f c area.data_words (filled count (take start xs ++ (ys ++ drop m (drop start xs))))
  in_numbers null e h = absurd h
  in_numbers (capability j) e h = absurd h
  in_numbers (structure w s ts) e h = absurd h
  in_numbers (plain_list z n u) e h = in_plain z n u e h
  in_numbers (pointer_list ts) e h = absurd h
  in_numbers (struct_list d j es) e h = absurd h

pub number_at_put : (p : PlainSet) (area : Area) (f : Frame) (c : Cell) (i k s w count m : ℕ) (run : Run) (xs ys : List (List ℕ))
    → StandsIn area f c (filled count xs) → i < area.pointers → area.at + area.data_words + area.pointers ≤ count → count ≤ length xs → count < 2 ^ 29
    → s ≡ area.at + area.data_words + i → w ≡ from_le_bytes w64 (get_or xs s [])
    → ((gap : ℕ) (t : Tree) → Fits t → gap < 2 ^ 30 → w ≡ pointer gap t → IsPlainList t × (run.start ≡ area.at + area.data_words + i + 1 + gap) × (run.len ≡ length (body t)))
    → ((gap : ℕ) (t : Tree) → Fits t → gap < 2 ^ 30 → w ≡ pointer gap t → IsPlainList t → IsElement k p t) → m ≡ run.len
    → ((u : ℕ) → AreData (take m (drop run.start xs)) u → AreData ys (put_set p u)) → length ys ≡ length (take m (drop run.start xs))
    → HasPut (puts.NumberAt i k p) [] area f c area.data_words (filled count (take run.start xs ++ (ys ++ drop m (drop run.start xs))))
number_at_put p area f c i k s w count m run xs ys st l own room few there is leads fits_there same puts_it size =
    let word = pointer_there area f c i w count xs st l (omega arith) (is ∙ ap (λ (j : ℕ). from_le_bytes w64 (get_or xs j [])) there) in
    let near = slot_near area f c (filled count xs) i st l (let e = filled_length xs count room in omega arith) in
    let child_fits = child-fits c.kids i st.each in
    let found = leads (slot_gap f c i) (child c.kids i) child_fits near word in
    in_numbers p area f c i k count run.start m xs ys st l room found.1 (same ∙ found.2) puts_it size (child c.kids i) refl (fits_there (slot_gap f c i) (child c.kids i) child_fits near word found.0)
