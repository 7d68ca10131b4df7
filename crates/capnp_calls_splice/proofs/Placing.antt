-- A struct's pointers, and what is put behind one of them.
use Rattle.std.proofs.Common.{◌≡◌, ℕ, suc, ◌+◌, ◌-◌, ◌^◌, ◌<◌, ◌≤◌, Option, Some, None, List, [], ◌∷◌, ◌++◌, length, take, drop, refl, ap, sym, subst, ◌∙◌, append_assoc, length-append, arith}
use Rattle.std.specs.Prelude.{IfSome}
use Rattle.capnp_model.specs.Sections.{words_of}
use Rattle.capnp_model.specs.Trees.{Tree, structure, Trees, tree_count, child}
use Rattle.capnp_model.specs.Fits.{Fits, FitEach}
use Rattle.capnp_model.specs.Encoding.{pointer, body, links, bodies}
use Rattle.capnp_model.specs.Edits.{Cell, put_child}
use Rattle.capnp_model.proofs.lemmas.Numbers.{length-numbers_in}
use Rattle.capnp_wire_canonical.specs.Writes.{words_view, filled}
use Rattle.capnp_model.proofs.lemmas.RoundTrip.{links_length}
use Rattle.capnp_model.proofs.lemmas.Counts.{count-with_child}
use Rattle.capnp_calls_splice.specs.Cells.{Frame, framed, StandsIn, FitsInOffsets, AreLinks, IsEnd}
use Rattle.capnp_calls_splice.specs.declared.area.Area.{Area}
use Rattle.capnp_calls_splice.proofs.Children.{fronts, backs, with_child-parts, child-parts, fronts_count, backs_count, child-fits, fronts-fit, backs-fit, with_child-fit, around}
use Rattle.capnp_calls_splice.proofs.Segmenting.{filled_length, part_is, part_put}

-- ---- the words around a pointer and its target

abbrev pub slot_front : ℕ → Frame → Cell → ℕ → List ℕ
slot_front d f c i = f.front ++ (words_of d c.section ++ links (suc (tree_count (backs i c.kids)) + f.behind) f.before (fronts i c.kids))

abbrev pub slot_gap : Frame → Cell → ℕ → ℕ
slot_gap f c i = tree_count (backs i c.kids) + f.behind + (f.before + length (bodies (fronts i c.kids)))

abbrev pub slot_later : Frame → Cell → ℕ → ℕ → List ℕ
slot_later f c i n = links f.behind (f.before + length (bodies (fronts i c.kids)) + n) (backs i c.kids)

abbrev pub slot_between : Frame → Cell → ℕ → List ℕ
slot_between f c i = f.middle ++ bodies (fronts i c.kids)

abbrev pub slot_back : Frame → Cell → ℕ → List ℕ
slot_back f c i = bodies (backs i c.kids) ++ f.back

-- The words with a pointer and the words of its target; the pointers behind it are those where that has so many.
abbrev pub slotted : ℕ → Frame → Cell → ℕ → ℕ → ℕ → List ℕ → List ℕ
slotted d f c i p n t = slot_front d f c i ++ p ∷ (slot_later f c i n ++ (slot_between f c i ++ (t ++ slot_back f c i)))

pub with_slot : (d : ℕ) (f : Frame) (c : Cell) (i : ℕ) (t : Tree) → i < tree_count c.kids → framed d f (put_child i t c) ≡ slotted d f c i (pointer (slot_gap f c i) t) (length (body t)) (body t)
with_slot d f c i t l =
    ap (λ (ts : Trees). f.front ++ (words_of d c.section ++ (links f.behind f.before ts ++ (f.middle ++ (bodies ts ++ f.back))))) (with_child-parts c.kids i t l)
    ∙ around f.front (words_of d c.section) f.middle f.back (fronts i c.kids) (backs i c.kids) t f.behind f.before

pub own_slot : (d : ℕ) (f : Frame) (c : Cell) (i : ℕ) → i < tree_count c.kids → framed d f c ≡ slotted d f c i (pointer (slot_gap f c i) (child c.kids i)) (length (body (child c.kids i))) (body (child c.kids i))
own_slot d f c i l =
    ap (λ (ts : Trees). f.front ++ (words_of d c.section ++ (links f.behind f.before ts ++ (f.middle ++ (bodies ts ++ f.back))))) (child-parts c.kids i l)
    ∙ around f.front (words_of d c.section) f.middle f.back (fronts i c.kids) (backs i c.kids) (child c.kids i) f.behind f.before

-- ---- how many they are

pub slot_place : (area : Area) (f : Frame) (c : Cell) (ws : List ℕ) (i : ℕ) → StandsIn area f c ws → i < area.pointers → length (slot_front area.data_words f c i) ≡ area.at + area.data_words + i
slot_place area f c ws i st l =
    let d : ℕ = area.data_words in
    let inside : i < tree_count c.kids = (let e = st.pointers in omega arith) in
    let a = length-append f.front (words_of d c.section ++ links (suc (tree_count (backs i c.kids)) + f.behind) f.before (fronts i c.kids)) in
    let b = length-append (words_of d c.section) (links (suc (tree_count (backs i c.kids)) + f.behind) f.before (fronts i c.kids)) in
    let e = length-numbers_in 64 d c.section in
    let g = links_length (fronts i c.kids) (suc (tree_count (backs i c.kids)) + f.behind) f.before in
    let h = fronts_count c.kids i inside in
    let k = st.place in
    omega arith

pub slotted_length : (d : ℕ) (f : Frame) (c : Cell) (i p n : ℕ) (t : List ℕ)
    → length (slotted d f c i p n t) ≡ length (slot_front d f c i) + suc (tree_count (backs i c.kids) + (length f.middle + length (bodies (fronts i c.kids)) + (length t + (length (bodies (backs i c.kids)) + length f.back))))
slotted_length d f c i p n t =
    let a = length-append (slot_front d f c i) (p ∷ (slot_later f c i n ++ (slot_between f c i ++ (t ++ slot_back f c i)))) in
    let b = length-append (slot_later f c i n) (slot_between f c i ++ (t ++ slot_back f c i)) in
    let e = links_length (backs i c.kids) f.behind (f.before + length (bodies (fronts i c.kids)) + n) in
    let g = length-append (slot_between f c i) (t ++ slot_back f c i) in
    let h = length-append f.middle (bodies (fronts i c.kids)) in
    let k = length-append t (slot_back f c i) in
    let m = length-append (bodies (backs i c.kids)) f.back in
    omega arith

-- A pointer's target lies in a message.
pub slot_near : (area : Area) (f : Frame) (c : Cell) (ws : List ℕ) (i : ℕ) → StandsIn area f c ws → i < area.pointers → length ws < 2 ^ 29 → slot_gap f c i < 2 ^ 30
slot_near area f c ws i st l few =
    let inside : i < tree_count c.kids = (let e = st.pointers in omega arith) in
    let a = slotted_length area.data_words f c i (pointer (slot_gap f c i) (child c.kids i)) (length (body (child c.kids i))) (body (child c.kids i)) in
    let b = ap length (st.spelled ∙ own_slot area.data_words f c i inside) in
    let e = st.between in
    omega arith

-- The pointers behind one.
pub later_links : (area : Area) (f : Frame) (c : Cell) (i count : ℕ) (xs : List (List ℕ)) (a m : ℕ) → StandsIn area f c (filled count xs) → i < area.pointers → count ≤ length xs → count < 2 ^ 29
    → a ≡ area.at + area.data_words + i + 1 → m ≡ area.at + area.data_words + area.pointers - a
    → AreLinks f.behind (f.before + length (bodies (fronts i c.kids)) + length (body (child c.kids i))) (backs i c.kids) (take m (drop a xs))
later_links area f c i count xs a m st l room few at size =
    let d : ℕ = area.data_words in
    let inside : i < tree_count c.kids = (let e = st.pointers in omega arith) in
    let n : ℕ = length (body (child c.kids i)) in
    let p : ℕ = pointer (slot_gap f c i) (child c.kids i) in
    let before : ℕ = f.before + length (bodies (fronts i c.kids)) in
    let x : List ℕ = slot_front d f c i ++ p ∷ [] in
    let r : List ℕ = slot_between f c i ++ (body (child c.kids i) ++ slot_back f c i) in
    let place = slot_place area f c (filled count xs) i st l in
    let e : filled count xs ≡ x ++ (slot_later f c i n ++ r) = st.spelled ∙ own_slot d f c i inside ∙ sym (append_assoc (slot_front d f c i) (p ∷ []) (slot_later f c i n ++ r)) in
    let begins : length x ≡ a = length-append (slot_front d f c i) (p ∷ []) ∙ omega arith in
    let backs_are = backs_count c.kids i inside in
    let later : length (slot_later f c i n) ≡ m = links_length (backs i c.kids) f.behind (before + n) ∙ (let g = st.pointers in omega arith) in
    let whole = slotted_length d f c i p n (body (child c.kids i)) in
    let was = ap length (st.spelled ∙ own_slot d f c i inside) in
    let used = filled_length xs count room in
    let between = st.between in
    record { fit = backs-fit c.kids i st.each; near = omega arith; spelled = part_is xs count a m x (slot_later f c i n) r e begins later }

-- Those in front of one.
front_split : (x w l r : List ℕ) → (x ++ (w ++ l)) ++ r ≡ (x ++ w) ++ (l ++ r)
front_split x w l r = simp append_assoc

pub front_links : (area : Area) (f : Frame) (c : Cell) (i count : ℕ) (xs : List (List ℕ)) (a m : ℕ) → StandsIn area f c (filled count xs) → i < area.pointers → count ≤ length xs → count < 2 ^ 29
    → a ≡ area.at + area.data_words → m ≡ i → AreLinks (suc (tree_count (backs i c.kids)) + f.behind) f.before (fronts i c.kids) (take m (drop a xs))
front_links area f c i count xs a m st l room few at size =
    let d : ℕ = area.data_words in
    let inside : i < tree_count c.kids = (let e = st.pointers in omega arith) in
    let n : ℕ = length (body (child c.kids i)) in
    let p : ℕ = pointer (slot_gap f c i) (child c.kids i) in
    let own : List ℕ = links (suc (tree_count (backs i c.kids)) + f.behind) f.before (fronts i c.kids) in
    let r : List ℕ = p ∷ (slot_later f c i n ++ (slot_between f c i ++ (body (child c.kids i) ++ slot_back f c i))) in
    let e : filled count xs ≡ (f.front ++ words_of d c.section) ++ (own ++ r) = st.spelled ∙ own_slot d f c i inside ∙ front_split f.front (words_of d c.section) own r in
    let begins : length (f.front ++ words_of d c.section) ≡ a = length-append f.front (words_of d c.section) ∙ (let place = st.place in let long = length-numbers_in 64 d c.section in omega arith) in
    let fronts_are = fronts_count c.kids i inside in
    let long : length own ≡ m = links_length (fronts i c.kids) (suc (tree_count (backs i c.kids)) + f.behind) f.before ∙ omega arith in
    let backs_are = backs_count c.kids i inside in
    let place = slot_place area f c (filled count xs) i st l in
    let whole = slotted_length d f c i p n (body (child c.kids i)) in
    let was = ap length (st.spelled ∙ own_slot d f c i inside) in
    let used = filled_length xs count room in
    let between = st.between in
    record { fit = fronts-fit c.kids i st.each; near = omega arith; spelled = part_is xs count a m (f.front ++ words_of d c.section) own r e begins long }

-- Where what the pointers behind one lead to ends.
pub end_there : (area : Area) (f : Frame) (c : Cell) (i count : ℕ) (ws : List ℕ) (a : ℕ) (end : Option ℕ) → StandsIn area f c ws → i < area.pointers → length ws ≡ count → a ≡ area.at + area.data_words + i + 1
    → IfSome end (λ e. e + length f.back ≡ count)
    → IsEnd end (a + (tree_count (backs i c.kids) + f.behind + (f.before + length (bodies (fronts i c.kids)) + length (body (child c.kids i)))) + length (bodies (backs i c.kids)))
end_there area f c i count ws a None st l long at h = tt
end_there area f c i count ws a (Some e) st l long at h =
    let d : ℕ = area.data_words in
    let inside : i < tree_count c.kids = (let g = st.pointers in omega arith) in
    let n : ℕ = length (body (child c.kids i)) in
    let place = slot_place area f c ws i st l in
    let whole = slotted_length d f c i (pointer (slot_gap f c i) (child c.kids i)) n (body (child c.kids i)) in
    let was = ap length (st.spelled ∙ own_slot d f c i inside) in
    let between = st.between in
    omega arith

-- So what one itself leads to ends where it is told.
pub own_end : (area : Area) (f : Frame) (c : Cell) (i count : ℕ) (xs : List (List ℕ)) (a m : ℕ) (end own : Option ℕ) → StandsIn area f c (filled count xs) → i < area.pointers → count ≤ length xs → count < 2 ^ 29
    → a ≡ area.at + area.data_words + i + 1 → m ≡ area.at + area.data_words + area.pointers - a → IfSome end (λ e. e + length f.back ≡ count)
    → ((k j : ℕ) (ts : Trees) → AreLinks k j ts (take m (drop a xs)) → IsEnd end (a + (tree_count ts + k + j) + length (bodies ts)) → IsEnd own (a + (tree_count ts + k + j)))
    → IfSome own (λ e. e + length (slot_back f c i) ≡ count)
own_end area f c i count xs a m end None st l room few at size h tells = tt
own_end area f c i count xs a m end (Some e) st l room few at size h tells =
    let d : ℕ = area.data_words in
    let inside : i < tree_count c.kids = (let g = st.pointers in omega arith) in
    let n : ℕ = length (body (child c.kids i)) in
    let used = filled_length xs count room in
    let told = tells f.behind (f.before + length (bodies (fronts i c.kids)) + n) (backs i c.kids) (later_links area f c i count xs a m st l room few at size) (end_there area f c i count (filled count xs) a end st l used at h) in
    let place = slot_place area f c (filled count xs) i st l in
    let whole = slotted_length d f c i (pointer (slot_gap f c i) (child c.kids i)) n (body (child c.kids i)) in
    let was = ap length (st.spelled ∙ own_slot d f c i inside) in
    let back = length-append (bodies (backs i c.kids)) f.back in
    let between = st.between in
    omega arith

-- ---- the pointers behind are moved

pub moved : (area : Area) (f : Frame) (c : Cell) (i : ℕ) (t : Tree) (ws : List ℕ) (count now : ℕ) (xs ys : List (List ℕ)) (a m : ℕ)
    → StandsIn area f c ws → i < area.pointers → length ws ≡ count → count < 2 ^ 29 → now < 2 ^ 29 → now ≤ length xs → Fits t
    → filled now xs ≡ slotted area.data_words f c i (pointer (slot_gap f c i) t) (length (body (child c.kids i))) (body t)
    → a ≡ area.at + area.data_words + i + 1 → m ≡ area.at + area.data_words + area.pointers - a
    → ((behind before after : ℕ) (ts : Trees) → before + now ≡ after + count → FitsInOffsets behind before ts → FitsInOffsets behind after ts → FitEach ts → words_view (take m (drop a xs)) ≡ links behind before ts → words_view ys ≡ links behind after ts)
    → StandsIn area f (put_child i t c) (filled now (take a xs ++ (ys ++ drop m (drop a xs))))
moved area f c i t ws count now xs ys a m st l long few short room fit is at size move =
    let d : ℕ = area.data_words in
    let inside : i < tree_count c.kids = (let e = st.pointers in omega arith) in
    let p : ℕ = pointer (slot_gap f c i) t in
    let n : ℕ = length (body (child c.kids i)) in
    let to : ℕ = length (body t) in
    let before : ℕ = f.before + length (bodies (fronts i c.kids)) in
    let x : List ℕ = slot_front d f c i ++ p ∷ [] in
    let r : List ℕ = slot_between f c i ++ (body t ++ slot_back f c i) in
    let place = slot_place area f c ws i st l in
    let e : filled now xs ≡ x ++ (slot_later f c i n ++ r) = is ∙ sym (append_assoc (slot_front d f c i) (p ∷ []) (slot_later f c i n ++ r)) in
    let begins : length x ≡ a = length-append (slot_front d f c i) (p ∷ []) ∙ omega arith in
    let backs_are = backs_count c.kids i inside in
    let later : length (slot_later f c i n) ≡ m = links_length (backs i c.kids) f.behind (before + n) ∙ (let g = st.pointers in omega arith) in
    let whole = slotted_length d f c i (pointer (slot_gap f c i) (child c.kids i)) n (body (child c.kids i)) in
    let then = slotted_length d f c i p n (body t) in
    let was = ap length (st.spelled ∙ own_slot d f c i inside) in
    let becomes = ap length is in
    let used = filled_length xs now room in
    let between = st.between in
    let difference : before + n + now ≡ before + to + count = omega arith in
    let new : words_view ys ≡ slot_later f c i to = move f.behind (before + n) (before + to) (backs i c.kids) difference (omega arith) (omega arith) (backs-fit c.kids i st.each) (part_is xs now a m x (slot_later f c i n) r e begins later) in
    let same : length (slot_later f c i to) ≡ m = links_length (backs i c.kids) f.behind (before + to) ∙ (let g = st.pointers in omega arith) in
    record {
      place = st.place;
      between = st.between;
      spelled = part_put xs ys now a m x (slot_later f c i n) r (slot_later f c i to) room e begins later new same ∙ append_assoc (slot_front d f c i) (p ∷ []) (slot_later f c i to ++ r) ∙ sym (with_slot d f c i t inside);
      section = st.section;
      pointers = count-with_child c.kids i t inside ∙ st.pointers;
      each = with_child-fit c.kids i t inside st.each fit;
    }

-- ---- a struct behind a pointer

abbrev pub struct_frame : ℕ → Frame → Cell → ℕ → ℕ → ℕ → Frame
struct_frame d f c i p n = record { front = slot_front d f c i ++ p ∷ (slot_later f c i n ++ slot_between f c i); middle = []; back = slot_back f c i; behind = 0; before = 0 }

regrouped : (x l m w k b q : List ℕ) (p : ℕ) → x ++ p ∷ (l ++ (m ++ ((w ++ (k ++ b)) ++ q))) ≡ (x ++ p ∷ (l ++ m)) ++ (w ++ (k ++ (b ++ q)))
regrouped x l m w k b q p = simp append_assoc

pub in_struct_frame : (d e s : ℕ) (ts : Trees) (f : Frame) (c : Cell) (i p n : ℕ) → slotted d f c i p n (body (structure e s ts)) ≡ framed e (struct_frame d f c i p n) (record { section = s; kids = ts })
in_struct_frame d e s ts f c i p n = regrouped (slot_front d f c i) (slot_later f c i n) (slot_between f c i) (words_of e s) (links 0 0 ts) (bodies ts) (slot_back f c i) p

pub enters : (area inner : Area) (f : Frame) (c : Cell) (i s : ℕ) (ts : Trees) (ws : List ℕ) → StandsIn area f c ws → i < area.pointers → child c.kids i ≡ structure inner.data_words s ts → inner.pointers ≡ tree_count ts
    → inner.at ≡ area.at + area.data_words + i + 1 + slot_gap f c i
    → StandsIn inner (struct_frame area.data_words f c i (pointer (slot_gap f c i) (structure inner.data_words s ts)) (length (body (child c.kids i)))) (record { section = s; kids = ts }) ws
enters area inner f c i s ts ws st l e count at =
    let d : ℕ = area.data_words in
    let t : Tree = structure inner.data_words s ts in
    let p : ℕ = pointer (slot_gap f c i) (structure inner.data_words s ts) in
    let n : ℕ = length (body (child c.kids i)) in
    let inside : i < tree_count c.kids = (let g = st.pointers in omega arith) in
    let place = slot_place area f c ws i st l in
    let a = length-append (slot_front d f c i) (p ∷ (slot_later f c i n ++ slot_between f c i)) in
    let b = length-append (slot_later f c i n) (slot_between f c i) in
    let g = links_length (backs i c.kids) f.behind (f.before + length (bodies (fronts i c.kids)) + n) in
    let h = length-append f.middle (bodies (fronts i c.kids)) in
    let m = st.between in
    let fits : Fits (structure inner.data_words s ts) = subst Fits e (child-fits c.kids i st.each) in
    record {
      place = omega arith;
      between = refl;
      spelled = st.spelled ∙ own_slot d f c i inside ∙ ap (λ (u : Tree). slotted d f c i (pointer (slot_gap f c i) u) n (body u)) e ∙ in_struct_frame d inner.data_words s ts f c i p n;
      section = fits.2;
      pointers = sym count;
      each = fits.3;
    }
