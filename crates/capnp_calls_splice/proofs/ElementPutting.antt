-- What is put into an element of a list behind a pointer of a struct stands there.
use Rattle.std.proofs.Common.{◌≡◌, ℕ, suc, ◌+◌, ◌-◌, ◌*◌, ◌^◌, ◌<◌, ◌≤◌, Option, List, [], ◌∷◌, ◌++◌, length, take, drop, get_or, refl, ap, sym, subst, ◌∙◌, append_assoc, length-append, arith}
use Rattle.std.specs.Prelude.{IfSome}
use Rattle.std.specs.Int.{from_le_bytes, w64}
use Rattle.std.proofs.lemmas.List.{length-map}
use Rattle.capnp_model.specs.Sections.{words_of}
use Rattle.capnp_model.specs.Trees.{Tree, null, capability, structure, plain_list, pointer_list, struct_list, Trees, Elements, tree_count, element_count, child}
use Rattle.capnp_model.specs.Fits.{Fits, FitElements}
use Rattle.capnp_model.specs.Encoding.{pointer, struct_pointer, list_pointer, body, links, bodies, cells, element_bodies}
use Rattle.capnp_model.specs.Edits.{Cell, put_child}
use Rattle.capnp_model.proofs.lemmas.Numbers.{length-numbers_in}
use Rattle.capnp_model.proofs.lemmas.RoundTrip.{links_length}
use Rattle.capnp_wire_canonical.specs.Writes.{words_view, filled}
use Rattle.capnp_calls_splice.specs.Splices.{PutsBehind, InList}
use Rattle.capnp_calls_splice.specs.Cells.{Frame, framed, StandsIn, HasPut, ChangesUpTo, AreLinks, IsEnd, AreNear, AreCells, IsStructs, place_behind, words_of_later, TellsBegin, MovesElements}
use Rattle.capnp_calls_splice.specs.declared.area.Area.{Area}
use Rattle.capnp_calls_splice.specs.declared.area.Placed.{Placed}
use Rattle.capnp_calls_splice.specs.declared.area.Structs.{Structs}
use Rattle.capnp_calls_splice.specs.declared.splice.Hop.{Hop}
use Rattle.capnp_calls_splice.specs.declared.splice.Hop.TheVariants as hops
use Rattle.capnp_calls_splice.specs.declared.splice.Put.{Put}
use Rattle.capnp_calls_splice.proofs.Children as slots
use Rattle.capnp_calls_splice.proofs.ElementParts.{fronts, backs, cell_at, with_cell, cell-parts, in_elements, fronts_count, backs_count, with_cell-count, FitsCell, cell-fits, fronts-fit, backs-fit, with_cell-fits, cells_before, cells_before-length, cells_length, around}
use Rattle.capnp_calls_splice.proofs.Segmenting.{filled_length, part_is}
use Rattle.capnp_calls_splice.proofs.ElementTargets.{end_is, end_back}
use Rattle.capnp_calls_splice.proofs.Placing.{slot_front, slot_gap, slot_later, slot_between, slot_back, slotted, own_slot, slot_place, slot_near, own_end, moved}
use Rattle.capnp_calls_splice.proofs.Putting.{Moves, pointer_there, regrouped as split}

pub framed_length : (d : ℕ) (f : Frame) (c : Cell) → length (framed d f c) ≡ length f.front + (d + (tree_count c.kids + (length f.middle + (length (bodies c.kids) + length f.back))))
framed_length d f c =
    let a = length-append f.front (words_of d c.section ++ (links f.behind f.before c.kids ++ (f.middle ++ (bodies c.kids ++ f.back)))) in
    let b = length-append (words_of d c.section) (links f.behind f.before c.kids ++ (f.middle ++ (bodies c.kids ++ f.back))) in
    let e = length-append (links f.behind f.before c.kids) (f.middle ++ (bodies c.kids ++ f.back)) in
    let g = length-append f.middle (bodies c.kids ++ f.back) in
    let h = length-append (bodies c.kids) f.back in
    let i = length-numbers_in 64 d c.section in
    let j = links_length c.kids f.behind f.before in
    omega arith

regrouped : (x w l ce ef r : List ℕ) → x ++ (w ++ (l ++ ((ce ++ ef) ++ r))) ≡ (x ++ (w ++ l)) ++ (ce ++ (ef ++ r))
regrouped x w l ce ef r = simp append_assoc

-- Where what an element leads to ends, behind which lie the targets of those behind it and more words.
element_end : (w k j count : ℕ) (list : Structs) (own after : Option ℕ) (more m : ℕ) (es : Elements) (xs : List (List ℕ)) (x r : List ℕ) → count ≤ length xs → count < 2 ^ 29 → filled count xs ≡ x ++ (cells m w k es ++ r) → FitElements w k es
    → list.data_words ≡ w → list.pointers ≡ k → element_count es + (j + 1) ≡ list.count → length x ≡ list.first + (j + 1) * (w + k) → length r ≡ m + (length (element_bodies es) + more)
    → IfSome after (λ e. e + more ≡ count) → TellsBegin list j after xs own → IfSome own (λ e. e + (length (element_bodies es) + more) ≡ count)
element_end w k j count list own after more m es xs x r room few parts fit words pointers many at rest ends tells =
    let a : ℕ = place_behind list j in
    let size : ℕ = list.first + list.count * (list.data_words + list.pointers) - place_behind list j in
    let wide : list.data_words + list.pointers ≡ w + k = omega (arith, words, pointers) in
    let begins : length x ≡ a = at ∙ ap (λ (z : ℕ). list.first + (j + 1) * z) (sym wide) in
    let total : list.count * (list.data_words + list.pointers) ≡ element_count es * (w + k) + (j + 1) * (w + k) = ap (λ (z : ℕ). z * (list.data_words + list.pointers)) (sym many) ∙ ap (λ (z : ℕ). (element_count es + (j + 1)) * z) wide ∙ omega arith in
    let cells_are = cells_length m w k es fit in
    let long : length (cells m w k es) ≡ size = omega (arith, cells_are, total, begins, at) in
    let spelled : words_view (words_of_later list j xs) ≡ cells m w k es = part_is xs count a size x (cells m w k es) r parts begins long in
    let slice : length (words_of_later list j xs) ≡ element_count es * (w + k) = sym (length-map (words_of_later list j xs) (from_le_bytes w64)) ∙ ap length spelled ∙ cells_are in
    let used = filled_length xs count room in
    let all = ap length parts in
    let first = length-append x (cells m w k es ++ r) in
    let second = length-append (cells m w k es) r in
    let near : AreNear m w k es = omega (arith, used, all, first, second, cells_are, rest, few) in
    let are : AreCells m list.data_words list.pointers es (words_of_later list j xs) = subst (λ (z : ℕ). AreCells m z list.pointers es (words_of_later list j xs)) (sym words) (subst (λ (z : ℕ). AreCells m w z es (words_of_later list j xs)) (sym pointers) (record { fit = fit; near = near; spelled = spelled })) in
    let known = tells m es many are (end_is after (place_behind list j + length (words_of_later list j xs) + m + length (element_bodies es)) more count (omega (arith, used, all, first, second, cells_are, rest, slice, begins)) ends) in
    end_back own (place_behind list j + length (words_of_later list j xs) + m) (length (element_bodies es) + more) count (omega (arith, used, all, first, second, cells_are, rest, slice, begins)) known

-- ---- the frame of an element

abbrev pub list_front : ℕ → Frame → Cell → ℕ → ℕ → ℕ → ℕ → ℕ → ℕ → Elements → List ℕ
list_front d f c i p n w k j es = slot_front d f c i ++ p ∷ (slot_later f c i n ++ (slot_between f c i ++ struct_pointer (element_count es) w k ∷ cells_before (suc (element_count (backs j es))) 0 w k (fronts j es)))

abbrev pub element_frame : ℕ → Frame → Cell → ℕ → ℕ → ℕ → ℕ → ℕ → ℕ → ℕ → Elements → Frame
element_frame d f c i p n z w k j es =
    record {
      front = list_front d f c i p n w k j es;
      middle = cells (length (element_bodies (fronts j es)) + z) w k (backs j es) ++ element_bodies (fronts j es);
      back = element_bodies (backs j es) ++ slot_back f c i;
      behind = element_count (backs j es) * (w + k);
      before = length (element_bodies (fronts j es));
    }

-- the words of the list with a cell in it
with_element : (d : ℕ) (f : Frame) (c : Cell) (i p n w k j : ℕ) (es : Elements) (cell : Cell) → j < element_count es
    → slotted d f c i p n (body (struct_list w k (with_cell j cell es))) ≡ framed w (element_frame d f c i p n (length (bodies cell.kids)) w k j es) cell
with_element d f c i p n w k j es cell l = around (slot_front d f c i) (slot_later f c i n) (slot_between f c i) (slot_back f c i) p w k j cell es l

-- where its data begin
front_length : (area : Area) (f : Frame) (c : Cell) (ws : List ℕ) (i p n w k j : ℕ) (es : Elements) → StandsIn area f c ws → i < area.pointers → j < element_count es → FitElements w k es
    → length (list_front area.data_words f c i p n w k j es) ≡ area.at + area.data_words + i + 1 + slot_gap f c i + 1 + j * (w + k)
front_length area f c ws i p n w k j es st l less fit =
    let d : ℕ = area.data_words in
    let co : List ℕ = cells_before (suc (element_count (backs j es))) 0 w k (fronts j es) in
    let a = length-append (slot_front d f c i) (p ∷ (slot_later f c i n ++ (slot_between f c i ++ struct_pointer (element_count es) w k ∷ co))) in
    let b = length-append (slot_later f c i n) (slot_between f c i ++ struct_pointer (element_count es) w k ∷ co) in
    let e = length-append (slot_between f c i) (struct_pointer (element_count es) w k ∷ co) in
    let g = length-append f.middle (bodies (slots.fronts i c.kids)) in
    let h = links_length (slots.backs i c.kids) f.behind (f.before + length (bodies (slots.fronts i c.kids)) + n) in
    let own : length co ≡ j * (w + k) = cells_before-length (suc (element_count (backs j es))) 0 w k (fronts j es) (fronts-fit w k es j fit) ∙ ap (λ (z : ℕ). z * (w + k)) (fronts_count es j less) in
    let place = slot_place area f c ws i st l in
    let between = st.between in
    omega arith

module _ (put : Put) (way : List Hop) (area inner : Area) (list : Structs) (f : Frame) (c : Cell) (i j count : ℕ) (q : Placed) (xs mid after ys : List (List ℕ)) (a m : ℕ)
    (st : StandsIn area f c (filled count xs)) (l : i < area.pointers) (room : count ≤ length xs) (few : count < 2 ^ 29) (short : q.count < 2 ^ 29) (more : q.count ≤ length mid) (stays : q.count ≤ length after) (keeps : q.data_words ≡ list.data_words)
    (at : a ≡ area.at + area.data_words + i + 1) (size : m ≡ area.at + area.data_words + area.pointers - a)
    (less : j < list.count) (place : inner.at ≡ list.first + j * (list.data_words + list.pointers)) (words : inner.data_words ≡ list.data_words) (slots_are : inner.pointers ≡ list.pointers)
    (first : list.first ≡ area.at + area.data_words + i + 1 + slot_gap f c i + 1)
    (after_end own_end_at : Option ℕ) (ends : IfSome after_end (λ e. e + length (slot_back f c i) ≡ count)) (tells : TellsBegin list j after_end xs own_end_at)
    (rec : ChangesUpTo (PutsBehind put way) inner own_end_at count xs mid q)
    (shift : MovesElements list j count q.count mid after)
    (move : Moves count q.count (take m (drop a after)) ys) where
  abbrev now : ℕ
  now = q.count

  -- The frame of the element.
  abbrev own_frame : Elements → Frame
  own_frame es = element_frame area.data_words f c i (pointer (slot_gap f c i) (struct_list list.data_words list.pointers es)) (length (body (child c.kids i))) (length (bodies (cell_at j es).kids)) list.data_words list.pointers j es

  put_there : (es : Elements) → child c.kids i ≡ struct_list list.data_words list.pointers es → list.count ≡ element_count es → filled count xs ≡ framed list.data_words (own_frame es) (cell_at j es)
      → HasPut put way inner (own_frame es) (cell_at j es) q.data_words (filled q.count mid) → HasPut put (hops.Element i j ∷ way) area f c area.data_words (filled q.count (take a after ++ (ys ++ drop m (drop a after))))
  put_there es e many spelled h =
      let d : ℕ = area.data_words in
      let w : ℕ = list.data_words in
      let k : ℕ = list.pointers in
      let n : ℕ = length (body (child c.kids i)) in
      let p : ℕ = pointer (slot_gap f c i) (struct_list w k es) in
      let own : Cell = cell_at j es in
      let z : ℕ = length (bodies own.kids) in
      let ef : ℕ = length (element_bodies (fronts j es)) in
      let g : Frame = own_frame es in
      let inside : j < element_count es = omega arith in
      let fits : Fits (struct_list w k es) = subst Fits e (slots.child-fits c.kids i st.each) in
      let fit = fits.4 in
      let cell_fit = cell-fits w k es j inside fit in
      let begins = front_length area f c (filled count xs) i p n w k j es st l inside fit in
      let new : Cell = h.cell in
      let to : ℕ = length (bodies new.kids) in
      let ds : Elements = with_cell j new es in
      let t : Tree = struct_list w k ds in
      let spelled_then : filled now mid ≡ framed w g new = h.stands.spelled ∙ ap (λ (y : ℕ). framed y g new) keeps in
      let x : List ℕ = g.front ++ (words_of w new.section ++ links g.behind g.before new.kids) in
      let r : List ℕ = element_bodies (fronts j es) ++ (bodies new.kids ++ g.back) in
      let parts : filled now mid ≡ x ++ (cells (ef + z) w k (backs j es) ++ r) =
      spelled_then ∙ regrouped g.front (words_of w new.section) (links g.behind g.before new.kids) (cells (ef + z) w k (backs j es)) (element_bodies (fronts j es)) (bodies new.kids ++ g.back) in
      let was = ap length spelled in
      let becomes = ap length spelled_then in
      let whole = framed_length w g own in
      let then = framed_length w g new in
      let used = filled_length xs count room in
      let used_then = filled_length mid now more in
      let kids_were = cell_fit.pointers in
      let kids_are = h.stands.pointers in
      let back_is = length-append (element_bodies (backs j es)) (slot_back f c i) in
      let difference : ef + z + now ≡ ef + to + count = omega arith in
      let x_is : length x ≡ list.first + (j + 1) * (w + k) = (
      let b = length-append g.front (words_of w new.section ++ links g.behind g.before new.kids) in
      let o = length-append (words_of w new.section) (links g.behind g.before new.kids) in
      let q = length-numbers_in 64 w new.section in
      let u = links_length new.kids g.behind g.before in
      omega arith) in
      let behind : element_count (backs j es) + (j + 1) ≡ list.count = (let b = backs_count es j inside in omega arith) in
      let shifted : filled now after ≡ x ++ (cells (ef + to) w k (backs j es) ++ r) =
      shift now (ef + z) (ef + to) (backs j es) x r more behind (backs-fit w k es j fit) difference (omega arith) (omega arith) x_is parts in
      let same : element_count ds ≡ element_count es = with_cell-count es j new inside in
      let told : p ≡ pointer (slot_gap f c i) t = ap (λ (y : ℕ). list_pointer (slot_gap f c i) 7 (y * (w + k))) (sym same) in
      let is : filled now after ≡ slotted d f c i (pointer (slot_gap f c i) t) n (body t) =
      shifted ∙ sym (regrouped g.front (words_of w new.section) (links g.behind g.before new.kids) (cells (ef + to) w k (backs j es)) (element_bodies (fronts j es)) (bodies new.kids ++ g.back))
      ∙ sym (with_element d f c i p n w k j es new inside) ∙ ap (λ (y : ℕ). slotted d f c i y n (body t)) told in
      let new_fits : FitsCell w k new =
      record { section = subst (λ (y : ℕ). new.section < 2 ^ (64 * y)) keeps h.stands.section; pointers = h.stands.pointers ∙ slots_are; each = h.stands.each } in
      let fits_then : Fits t = (fits.0, fits.1, subst (λ (y : ℕ). y < 2 ^ 30) (sym same) fits.2, subst (λ (y : ℕ). y * (w + k) < 2 ^ 29) (sym same) fits.3, with_cell-fits w k es j new inside fit new_fits) in
      let puts : PutsBehind put way w w own new = subst (λ (y : ℕ). PutsBehind put way w y own new) keeps (subst (λ (y : ℕ). PutsBehind put way y q.data_words own new) words h.changes) in
      record {
        cell = put_child i t c;
        changes = (refl, t, subst (λ (u : Tree). InList (PutsBehind put way) j u t) (sym e) (ds, in_elements (PutsBehind put way w w) es j new inside puts, refl), refl);
        stands = moved area f c i t (filled count xs) count now after ys a m st l (filled_length xs count room) few short stays fits_then is at size move;
      }

  in_structs : (es : Elements) → child c.kids i ≡ struct_list list.data_words list.pointers es → list.count ≡ element_count es → HasPut put (hops.Element i j ∷ way) area f c area.data_words (filled q.count (take a after ++ (ys ++ drop m (drop a after))))
  in_structs es e many =
      let d : ℕ = area.data_words in
      let w : ℕ = list.data_words in
      let k : ℕ = list.pointers in
      let n : ℕ = length (body (child c.kids i)) in
      let p : ℕ = pointer (slot_gap f c i) (struct_list w k es) in
      let own : Cell = cell_at j es in
      let z : ℕ = length (bodies own.kids) in
      let ef : ℕ = length (element_bodies (fronts j es)) in
      let g : Frame = own_frame es in
      let within : i < tree_count c.kids = (let h = st.pointers in omega arith) in
      let inside : j < element_count es = omega arith in
      let fits : Fits (struct_list w k es) = subst Fits e (slots.child-fits c.kids i st.each) in
      let fit = fits.4 in
      let cell_fit = cell-fits w k es j inside fit in
      let begins = front_length area f c (filled count xs) i p n w k j es st l inside fit in
      let spelled : filled count xs ≡ framed w g own =
      st.spelled ∙ own_slot d f c i within ∙ ap (λ (u : Tree). slotted d f c i (pointer (slot_gap f c i) u) n (body u)) e
      ∙ ap (λ (ds : Elements). slotted d f c i p n (body (struct_list w k ds))) (cell-parts es j inside) ∙ with_element d f c i p n w k j es own inside in
      let middle : length g.middle ≡ g.behind + g.before = length-append (cells (ef + z) w k (backs j es)) (element_bodies (fronts j es)) ∙ ap (λ (y : ℕ). y + ef) (cells_length (ef + z) w k (backs j es) (backs-fit w k es j fit)) in
      let stands : StandsIn inner g own (filled count xs) =
      record {
        place = omega arith;
        between = middle;
        spelled = spelled ∙ ap (λ (y : ℕ). framed y g own) (sym words);
        section = subst (λ (y : ℕ). own.section < 2 ^ (64 * y)) (sym words) cell_fit.section;
        pointers = cell_fit.pointers ∙ sym slots_are;
        each = cell_fit.each;
      } in
      let x0 : List ℕ = g.front ++ (words_of w own.section ++ links g.behind g.before own.kids) in
      let r0 : List ℕ = element_bodies (fronts j es) ++ (bodies own.kids ++ g.back) in
      let parts0 : filled count xs ≡ x0 ++ (cells (ef + z) w k (backs j es) ++ r0) =
      spelled ∙ regrouped g.front (words_of w own.section) (links g.behind g.before own.kids) (cells (ef + z) w k (backs j es)) (element_bodies (fronts j es)) (bodies own.kids ++ g.back) in
      let ended = element_end w k j count list own_end_at after_end (length (slot_back f c i)) (ef + z) (backs j es) xs x0 r0 room few parts0 (backs-fit w k es j fit) refl refl
      (omega (arith, backs_count es j inside)) (
      let b = length-append g.front (words_of w own.section ++ links g.behind g.before own.kids) in
      let o = length-append (words_of w own.section) (links g.behind g.before own.kids) in
      let q = length-numbers_in 64 w own.section in
      let u = links_length own.kids g.behind g.before in
      let kids_were = cell_fit.pointers in
      omega arith) (
      let b = length-append (element_bodies (fronts j es)) (bodies own.kids ++ g.back) in
      let o = length-append (bodies own.kids) g.back in
      let q = length-append (element_bodies (backs j es)) (slot_back f c i) in
      omega arith) ends tells in
      put_there es e many spelled (rec g own (subst (λ (y : ℕ). IfSome own_end_at (λ e. e + y ≡ count)) (sym (length-append (element_bodies (backs j es)) (slot_back f c i))) ended) stands)

  in_list : (t : Tree) → child c.kids i ≡ t → IsStructs list t → HasPut put (hops.Element i j ∷ way) area f c area.data_words (filled q.count (take a after ++ (ys ++ drop m (drop a after))))
  in_list null e h = absurd h
  in_list (capability k) e h = absurd h
  in_list (structure w s ts) e h = absurd h
  in_list (plain_list y n s) e h = absurd h
  in_list (pointer_list ts) e h = absurd h
  in_list (struct_list w k es) e h = in_structs es (e ∙ ap (λ (y : ℕ). struct_list y k es) (sym h.1) ∙ ap (λ (y : ℕ). struct_list list.data_words y es) (sym h.2)) h.0

pub element_put : (put : Put) (way : List Hop) (area inner : Area) (list : Structs) (f : Frame) (c : Cell) (i j p count : ℕ) (q : Placed) (xs mid after ys : List (List ℕ)) (a m : ℕ)
    → StandsIn area f c (filled count xs) → i < area.pointers → area.at + area.data_words + area.pointers ≤ count → count ≤ length xs → count < 2 ^ 29 → q.count < 2 ^ 29 → q.count ≤ length mid → q.data_words ≡ list.data_words → length after ≡ length mid
    → a ≡ area.at + area.data_words + i + 1 → m ≡ area.at + area.data_words + area.pointers - a
    → p ≡ from_le_bytes w64 (get_or xs (area.at + area.data_words + i) [])
    → ((gap : ℕ) (t : Tree) (x r : List ℕ) → Fits t → gap < 2 ^ 30 → p ≡ pointer gap t → filled count xs ≡ x ++ (body t ++ r) → length x ≡ area.at + area.data_words + i + 1 + gap
    → IsStructs list t × (list.first ≡ area.at + area.data_words + i + 1 + gap + 1))
    → (j < list.count) × (inner.at ≡ list.first + j * (list.data_words + list.pointers)) × (inner.data_words ≡ list.data_words) × (inner.pointers ≡ list.pointers)
    → (end after_end own : Option ℕ) → IfSome end (λ e. e + length f.back ≡ count)
    → (z : ℕ) → z ≡ m → ((k1 m1 : ℕ) (ts : Trees) → AreLinks k1 m1 ts (take z (drop a xs)) → IsEnd end (a + (tree_count ts + k1 + m1) + length (bodies ts)) → IsEnd after_end (a + (tree_count ts + k1 + m1)))
    → TellsBegin list j after_end xs own
    → ChangesUpTo (PutsBehind put way) inner own count xs mid q
    → MovesElements list j count q.count mid after
    → Moves count q.count (take m (drop a after)) ys
    → HasPut put (hops.Element i j ∷ way) area f c area.data_words (filled q.count (take a after ++ (ys ++ drop m (drop a after))))
element_put put way area inner list f c i j p count q xs mid after ys a m st l inside room few short more keeps same at size is leads element end after_end own ended z as_many begins tells rec shift move =
    let d : ℕ = area.data_words in
    let n : ℕ = length (body (child c.kids i)) in
    let head : ℕ = pointer (slot_gap f c i) (child c.kids i) in
    let within : i < tree_count c.kids = (let e = st.pointers in omega arith) in
    let word = pointer_there area f c i p count xs st l (omega arith) is in
    let near = slot_near area f c (filled count xs) i st l (let e = filled_length xs count room in omega arith) in
    let place = slot_place area f c (filled count xs) i st l in
    let spelled : filled count xs ≡ (slot_front d f c i ++ head ∷ (slot_later f c i n ++ slot_between f c i)) ++ (body (child c.kids i) ++ slot_back f c i) =
    st.spelled ∙ own_slot d f c i within ∙ split (slot_front d f c i) (slot_later f c i n) (slot_between f c i) (body (child c.kids i)) (slot_back f c i) head in
    let long : length (slot_front d f c i ++ head ∷ (slot_later f c i n ++ slot_between f c i)) ≡ area.at + area.data_words + i + 1 + slot_gap f c i = (
    let g = length-append (slot_front d f c i) (head ∷ (slot_later f c i n ++ slot_between f c i)) in
    let h = length-append (slot_later f c i n) (slot_between f c i) in
    let k = links_length (slots.backs i c.kids) f.behind (f.before + length (bodies (slots.fronts i c.kids)) + n) in
    let o = length-append f.middle (bodies (slots.fronts i c.kids)) in
    let b = st.between in
    omega arith) in
    let found = leads (slot_gap f c i) (child c.kids i) (slot_front d f c i ++ head ∷ (slot_later f c i n ++ slot_between f c i)) (slot_back f c i) (slots.child-fits c.kids i st.each) near word spelled long in
    in_list put way area inner list f c i j count q xs mid after ys a m st l room few short more (omega arith) keeps at size element.0 element.1 element.2 element.3 found.1 after_end own (own_end area f c i count xs a z end after_end st l room few at (as_many ∙ size) ended begins) tells rec shift move (child c.kids i) refl found.0
