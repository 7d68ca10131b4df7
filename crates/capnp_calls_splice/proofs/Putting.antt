-- What is put behind a pointer of a struct stands there.
use Rattle.std.proofs.Common.{◌≡◌, ℕ, ◌+◌, ◌-◌, ◌^◌, ◌<◌, ◌≤◌, suc, max, Result, Ok, Err, Option, Some, None, List, [], ◌∷◌, ◌++◌, length, take, drop, get_or, set, refl, ap, sym, subst, ◌∙◌, append_assoc, length-append, arith}
use Rattle.std.specs.Prelude.{IfOk, IfSome}
use Rattle.std.specs.Int.{from_le_bytes, w64}
use Rattle.std.proofs.lemmas.List.{length-set, append-nil}
use Rattle.capnp_model.specs.Sections.{words_of}
use Rattle.capnp_model.specs.Trees.{Tree, null, capability, structure, plain_list, pointer_list, struct_list, Trees, tree_count, child, depths}
use Rattle.capnp_model.specs.Fits.{Fits, FitEach}
use Rattle.capnp_model.specs.Encoding.{pointer, list_pointer, body, links, bodies, canonical_words}
use Rattle.capnp_model.specs.Edits.{Cell, put_child}
use Rattle.capnp_wire_canonical.specs.Writes.{words_view, filled}
use Rattle.capnp_model.proofs.lemmas.RoundTrip.{links_length}
use Rattle.capnp_calls_splice.specs.Blobs.{tree_of_blob}
use Rattle.capnp_calls_splice.specs.Splices.{TakesBlob, PutsIntoCell, PutsBehind, InStruct, HasSpliced}
use Rattle.capnp_calls_splice.specs.Cells.{Frame, StandsIn, HasChanged, HasPut, ChangesArea, ChangesUpTo, IsStructWith, IsSizedStruct, FitsInOffsets, AreLinks, IsEnd}
use Rattle.capnp_calls_splice.specs.declared.area.Area.{Area}
use Rattle.capnp_calls_splice.specs.declared.area.Placed.{Placed}
use Rattle.capnp_calls_splice.specs.declared.area.Unput.{Unput}
use Rattle.capnp_calls_splice.specs.declared.area.Run.{Run}
use Rattle.capnp_calls_splice.specs.declared.blob.Blob.{Blob}
use Rattle.capnp_calls_splice.specs.declared.splice.Hop.{Hop}
use Rattle.capnp_calls_splice.specs.declared.splice.Hop.TheVariants as hops
use Rattle.capnp_calls_splice.specs.declared.splice.Put.{Put}
use Rattle.capnp_calls_splice.specs.declared.splice.Put.TheVariants as puts
use Rattle.capnp_calls_splice.specs.declared.splice.Splice.{Splice}
use Rattle.capnp_calls_splice.proofs.Children.{fronts, backs, child-fits}
use Rattle.capnp_calls_splice.proofs.Segmenting.{filled_length, word_is, word_put}
use Rattle.capnp_calls_splice.proofs.Targets.{slot_takes}
use Rattle.capnp_calls_splice.proofs.Placing.{slot_front, slot_gap, slot_later, slot_between, slot_back, slotted, own_slot, slot_place, slot_near, later_links, front_links, end_there, own_end, moved, struct_frame, in_struct_frame, enters}

-- The pointer at a place of the words.
pub pointer_there : (area : Area) (f : Frame) (c : Cell) (i p count : ℕ) (xs : List (List ℕ)) → StandsIn area f c (filled count xs) → i < area.pointers → area.at + area.data_words + i < length xs
    → p ≡ from_le_bytes w64 (get_or xs (area.at + area.data_words + i) []) → p ≡ pointer (slot_gap f c i) (child c.kids i)
pointer_there area f c i p count xs st l inside is =
    let d : ℕ = area.data_words in
    let n : ℕ = length (body (child c.kids i)) in
    let within : i < tree_count c.kids = (let e = st.pointers in omega arith) in
    word_is xs count (area.at + d + i) p (pointer (slot_gap f c i) (child c.kids i)) (slot_front d f c i) (slot_later f c i n ++ (slot_between f c i ++ (body (child c.kids i) ++ slot_back f c i)))
    (st.spelled ∙ own_slot d f c i within) (slot_place area f c (filled count xs) i st l) inside is

-- Later pointers are moved with what they lead to.
abbrev pub Moves : ℕ → ℕ → List (List ℕ) → List (List ℕ) → Type 0
Moves count now old new = (behind before after : ℕ) (ts : Trees) → before + now ≡ after + count → FitsInOffsets behind before ts → FitsInOffsets behind after ts → FitEach ts → words_view old ≡ links behind before ts → words_view new ≡ links behind after ts

-- ---- in the struct behind the pointer

module _ (put : Put) (way : List Hop) (area inner : Area) (f : Frame) (c : Cell) (i s v count : ℕ) (q : Placed) (bytes : List ℕ) (xs mid ys : List (List ℕ)) (a m : ℕ)
    (st : StandsIn area f c (filled count xs)) (l : i < area.pointers) (room : count ≤ length xs) (few : count < 2 ^ 29) (short : q.count < 2 ^ 29) (more : q.count ≤ length mid) (narrow : q.data_words < 2 ^ 16)
    (there : s ≡ area.at + area.data_words + i) (at : a ≡ area.at + area.data_words + i + 1) (size : m ≡ area.at + area.data_words + area.pointers - a)
    (place : inner.at ≡ area.at + area.data_words + i + 1 + slot_gap f c i)
    (own : Option ℕ) (ends : IfSome own (λ e. e + length (slot_back f c i) ≡ count))
    (rec : ChangesUpTo (PutsBehind put way) inner own count xs mid q)
    (points : (x : ℕ) (ts : Trees) (u : Tree) → child c.kids i ≡ structure inner.data_words x ts → inner.pointers ≡ tree_count ts → IsStructWith q.data_words inner.pointers u → v ≡ pointer (slot_gap f c i) u)
    (spells : from_le_bytes w64 bytes ≡ v)
    (move : Moves count q.count (take m (drop a (set mid s bytes))) ys) where
  abbrev after : List (List ℕ)
  after = set mid s bytes

  in_structure : (u : ℕ) (ts : Trees) → child c.kids i ≡ structure inner.data_words u ts → inner.pointers ≡ tree_count ts → HasPut put (hops.Pointer i ∷ way) area f c area.data_words (filled q.count (take a after ++ (ys ++ drop m (drop a after))))
  in_structure u ts e pointers =
      let d : ℕ = area.data_words in
      let w : ℕ = inner.data_words in
      let n : ℕ = length (body (child c.kids i)) in
      let p : ℕ = pointer (slot_gap f c i) (structure w u ts) in
      let h = rec (struct_frame d f c i p n) (record { section = u; kids = ts }) ends (enters area inner f c i u ts (filled count xs) st l e pointers place) in
      let new : Cell = h.cell in
      let t : Tree = structure q.data_words new.section new.kids in
      let same : tree_count ts ≡ tree_count new.kids = sym pointers ∙ sym h.stands.pointers in
      let told : v ≡ pointer (slot_gap f c i) t = points u ts t e pointers (refl, sym h.stands.pointers) in
      let fits : Fits (structure w u ts) = subst Fits e (child-fits c.kids i st.each) in
      let fit : Fits t = (narrow, subst (λ (k : ℕ). k < 2 ^ 16) same fits.1, h.stands.section, h.stands.each) in
      let stands : filled q.count mid ≡ slotted d f c i p n (body t) = h.stands.spelled ∙ sym (in_struct_frame d q.data_words new.section new.kids f c i p n) in
      let is : filled q.count after ≡ slotted d f c i (pointer (slot_gap f c i) t) n (body t) =
      word_put mid q.count s p v bytes (slot_front d f c i) (slot_later f c i n ++ (slot_between f c i ++ (body t ++ slot_back f c i))) more stands (slot_place area f c (filled count xs) i st l ∙ sym there) spells
      ∙ ap (λ (x : ℕ). slotted d f c i x n (body t)) told in
      record {
        cell = put_child i t c;
        changes = (refl, t, subst (λ (x : Tree). InStruct (PutsBehind put way) x t) (sym e) (q.data_words, new, h.changes, refl), refl);
        stands = moved area f c i t (filled count xs) count q.count after ys a m st l (filled_length xs count room) few short (let g = length-set mid s bytes in omega arith) fit is at size move;
      }

  behind : (t : Tree) → child c.kids i ≡ t → IsSizedStruct inner t → HasPut put (hops.Pointer i ∷ way) area f c area.data_words (filled q.count (take a after ++ (ys ++ drop m (drop a after))))
  behind null e h = absurd h
  behind (capability k) e h = absurd h
  behind (structure w s ts) e h = in_structure s ts (e ∙ ap (λ (k : ℕ). structure k s ts) (sym h.0)) h.1
  behind (plain_list z n s) e h = absurd h
  behind (pointer_list ts) e h = absurd h
  behind (struct_list d k es) e h = absurd h

pub pointer_put : (put : Put) (way : List Hop) (area inner : Area) (f : Frame) (c : Cell) (i s p v count : ℕ) (q : Placed) (bytes : List ℕ) (xs mid ys : List (List ℕ)) (a m : ℕ)
    → StandsIn area f c (filled count xs) → i < area.pointers → area.at + area.data_words + area.pointers ≤ count → count ≤ length xs → count < 2 ^ 29 → q.count < 2 ^ 29 → q.count ≤ length mid → q.data_words < 2 ^ 16
    → s ≡ area.at + area.data_words + i → a ≡ area.at + area.data_words + i + 1 → m ≡ area.at + area.data_words + area.pointers - a
    → p ≡ from_le_bytes w64 (get_or xs s [])
    → ((gap : ℕ) (t : Tree) → Fits t → gap < 2 ^ 30 → p ≡ pointer gap t → IsSizedStruct inner t × (inner.at ≡ area.at + area.data_words + i + 1 + gap)) → 0 < inner.data_words + inner.pointers
    → (end own : Option ℕ) → IfSome end (λ e. e + length f.back ≡ count)
    → (k : ℕ) → k ≡ m → ((k1 j : ℕ) (ts : Trees) → AreLinks k1 j ts (take k (drop a xs)) → IsEnd end (a + (tree_count ts + k1 + j) + length (bodies ts)) → IsEnd own (a + (tree_count ts + k1 + j)))
    → ChangesUpTo (PutsBehind put way) inner own count xs mid q
    → ((gap d k : ℕ) (t u : Tree) → gap < 2 ^ 30 → p ≡ pointer gap t → IsStructWith d k t → 0 < d + k → IsStructWith q.data_words inner.pointers u → v ≡ pointer gap u) → from_le_bytes w64 bytes ≡ v
    → Moves count q.count (take m (drop a (set mid s bytes))) ys
    → HasPut put (hops.Pointer i ∷ way) area f c area.data_words (filled q.count (take a (set mid s bytes) ++ (ys ++ drop m (drop a (set mid s bytes)))))
pointer_put put way area inner f c i s p v count q bytes xs mid ys a m st l within room few short more narrow there at size is leads some end own ended k same tells rec points spells move =
    let word = pointer_there area f c i p count xs st l (omega arith) (is ∙ ap (λ (k : ℕ). from_le_bytes w64 (get_or xs k [])) there) in
    let near = slot_near area f c (filled count xs) i st l (let e = filled_length xs count room in omega arith) in
    let found = leads (slot_gap f c i) (child c.kids i) (child-fits c.kids i st.each) near word in
    behind put way area inner f c i s v count q bytes xs mid ys a m st l room few short more narrow there at size found.1 own (own_end area f c i count xs a k end own st l room few at (same ∙ size) ended tells) rec
    (λ x ts u e count sizes. points (slot_gap f c i) inner.data_words inner.pointers (structure inner.data_words x ts) u near (word ∙ ap (pointer (slot_gap f c i)) e) (refl, count) some sizes) spells move (child c.kids i) refl found.0

-- ---- in a group of the same struct

pub group_put : (put : Put) (way rest : List Hop) (area : Area) (end : Option ℕ) (count : ℕ) (xs new : List (List ℕ)) (found : Result Placed Unput) → way ≡ hops.Group ∷ rest
    → IfOk found (ChangesUpTo (PutsBehind put rest) area end count xs new) → IfOk found (ChangesUpTo (PutsBehind put way) area end count xs new)
group_put put way rest area end count xs new (Err why) is h = tt
group_put put way rest area end count xs new (Ok q) is h = λ f c ended st.
    let k = h f c ended st in
    subst (λ (hs : List Hop). HasPut put hs area f c q.data_words (filled q.count new)) (sym is) (record { cell = k.cell; changes = k.changes; stands = k.stands })

-- ---- what doesn't need the end

pub any_end : (put : Put) (whole : Put) (area : Area) (end : Option ℕ) (count : ℕ) (xs new : List (List ℕ)) (found : Result Placed Unput) → whole ≡ put → IfOk found (ChangesArea (PutsIntoCell put) area count xs new) → IfOk found (ChangesUpTo (PutsIntoCell whole) area end count xs new)
any_end put whole area end count xs new (Err why) is h = tt
any_end put whole area end count xs new (Ok q) is h = λ f c ended st. subst (λ (z : Put). HasChanged (PutsIntoCell z) area f c q.data_words (filled q.count new)) (sym is) (h f c st)

-- ---- bytes in place of the list behind the pointer

pub regrouped : (x l m t q : List ℕ) (p : ℕ) → x ++ p ∷ (l ++ (m ++ (t ++ q))) ≡ (x ++ p ∷ (l ++ m)) ++ (t ++ q)
regrouped x l m t q p = simp append_assoc

module _ (b : Blob) (area : Area) (f : Frame) (c : Cell) (i s p v count now : ℕ) (bytes : List ℕ) (run : Run) (xs mid ys : List (List ℕ)) (a m : ℕ)
    (st : StandsIn area f c (filled count xs)) (l : i < area.pointers) (room : count ≤ length xs) (few : count < 2 ^ 29) (short : now < 2 ^ 29) (more : now ≤ length mid)
    (there : s ≡ area.at + area.data_words + i) (at : a ≡ area.at + area.data_words + i + 1) (size : m ≡ area.at + area.data_words + area.pointers - a)
    (word : p ≡ pointer (slot_gap f c i) (child c.kids i)) (near : slot_gap f c i < 2 ^ 30)
    (takes : TakesBlob (max (depths (fronts i c.kids)) (depths (backs i c.kids))) (child c.kids i))
    (start : run.start ≡ area.at + area.data_words + i + 1 + slot_gap f c i) (len : run.len ≡ length (body (child c.kids i)))
    (replaces : (x l r : List ℕ) → filled count xs ≡ x ++ (l ++ r) → length x ≡ run.start → length l ≡ run.len → filled now mid ≡ x ++ (words_view b.words.items ++ r))
    (told : v ≡ list_pointer (slot_gap f c i) 2 b.len)
    (spells : from_le_bytes w64 bytes ≡ v)
    (move : Moves count now (take m (drop a (set mid s bytes))) ys) where
  in_bytes : HasPut (puts.Blob i b) [] area f c area.data_words (filled now (take a (set mid s bytes) ++ (ys ++ drop m (drop a (set mid s bytes)))))
  in_bytes =
      let d : ℕ = area.data_words in
      let old : ℕ = length (body (child c.kids i)) in
      let t : Tree = tree_of_blob b in
      let within : i < tree_count c.kids = (let g = st.pointers in omega arith) in
      let x : List ℕ = slot_front d f c i in
      let later : List ℕ = slot_later f c i old in
      let mids : List ℕ = slot_between f c i in
      let place = slot_place area f c (filled count xs) i st l ∙ sym there in
      let front : length (slot_front d f c i ++ p ∷ (slot_later f c i old ++ slot_between f c i)) ≡ run.start = (
      let g = length-append (slot_front d f c i) (p ∷ (slot_later f c i old ++ slot_between f c i)) in
      let h = length-append (slot_later f c i old) (slot_between f c i) in
      let k = links_length (backs i c.kids) f.behind (f.before + length (bodies (fronts i c.kids)) + old) in
      let j = length-append f.middle (bodies (fronts i c.kids)) in
      let o = st.between in
      omega arith) in
      let spelled : filled count xs ≡ (slot_front d f c i ++ p ∷ (slot_later f c i old ++ slot_between f c i)) ++ (body (child c.kids i) ++ slot_back f c i) =
      st.spelled ∙ own_slot d f c i within ∙ ap (λ (q : ℕ). slotted d f c i q old (body (child c.kids i))) (sym word) ∙ regrouped (slot_front d f c i) (slot_later f c i old) (slot_between f c i) (body (child c.kids i)) (slot_back f c i) p in
      let put : filled now mid ≡ slot_front d f c i ++ p ∷ (slot_later f c i old ++ (slot_between f c i ++ (words_view b.words.items ++ slot_back f c i))) =
      replaces (slot_front d f c i ++ p ∷ (slot_later f c i old ++ slot_between f c i)) (body (child c.kids i)) (slot_back f c i) spelled front (sym len)
      ∙ sym (regrouped (slot_front d f c i) (slot_later f c i old) (slot_between f c i) (words_view b.words.items) (slot_back f c i) p) in
      let pointed : filled now (set mid s bytes) ≡ slot_front d f c i ++ v ∷ (slot_later f c i old ++ (slot_between f c i ++ (words_view b.words.items ++ slot_back f c i))) =
      word_put mid now s p v bytes (slot_front d f c i) (slot_later f c i old ++ (slot_between f c i ++ (words_view b.words.items ++ slot_back f c i))) more put place spells in
      let is : filled now (set mid s bytes) ≡ slotted d f c i (pointer (slot_gap f c i) t) old (body t) =
      pointed ∙ ap (λ (q : ℕ). slotted d f c i q old (words_view b.words.items)) told ∙ ap (slotted d f c i (pointer (slot_gap f c i) t) old) (sym b.spelled) in
      let fit : Fits t = (omega arith, b.few, b.fits) in
      record {
        cell = put_child i t c;
        changes = (refl, slot_takes c.kids i within takes, refl);
        stands = moved area f c i t (filled count xs) count now (set mid s bytes) ys a m st l (filled_length xs count room) few short (let g = length-set mid s bytes in omega arith) fit is at size move;
      }

pub blob_put : (b : Blob) (area : Area) (f : Frame) (c : Cell) (i s p v count now : ℕ) (bytes : List ℕ) (run : Run) (xs mid ys : List (List ℕ)) (a m o g : ℕ) (end : Option ℕ)
    → StandsIn area f c (filled count xs) → i < area.pointers → area.at + area.data_words + area.pointers ≤ count → count ≤ length xs → count < 2 ^ 29 → now < 2 ^ 29 → now ≤ length mid
    → s ≡ area.at + area.data_words + i → a ≡ area.at + area.data_words + i + 1 → m ≡ area.at + area.data_words + area.pointers - a → o ≡ area.at + area.data_words → g ≡ i
    → p ≡ from_le_bytes w64 (get_or xs s []) → IfSome end (λ e. e + length f.back ≡ count)
    → ((n m1 k l : ℕ) (t : Tree) (ts us : Trees) → Fits t → AreLinks n (m1 + length (body t)) ts (take m (drop a xs)) → AreLinks k l us (take g (drop o xs)) → p ≡ pointer (tree_count ts + n + m1) t
    → IsEnd end (a + (tree_count ts + n + (m1 + length (body t))) + length (bodies ts)) → TakesBlob (max (depths us) (depths ts)) t × (run.len ≡ length (body t)) × (run.start ≡ a + (tree_count ts + n + m1)))
    → ((x l r : List ℕ) → filled count xs ≡ x ++ (l ++ r) → length x ≡ run.start → length l ≡ run.len → filled now mid ≡ x ++ (words_view b.words.items ++ r))
    → v ≡ list_pointer (run.start - a) 2 b.len
    → from_le_bytes w64 bytes ≡ v
    → Moves count now (take m (drop a (set mid s bytes))) ys
    → HasPut (puts.Blob i b) [] area f c area.data_words (filled now (take a (set mid s bytes) ++ (ys ++ drop m (drop a (set mid s bytes)))))
blob_put b area f c i s p v count now bytes run xs mid ys a m o g end st l own room few short more there at size front_at front_size is ended leads replaces told spells move =
    let n : ℕ = length (body (child c.kids i)) in
    let used = filled_length xs count room in
    let word = pointer_there area f c i p count xs st l (omega arith) (is ∙ ap (λ (k : ℕ). from_le_bytes w64 (get_or xs k [])) there) in
    let near = slot_near area f c (filled count xs) i st l (omega arith) in
    let later = later_links area f c i count xs a m st l room few at size in
    let front = front_links area f c i count xs o g st l room few front_at front_size in
    let before : ℕ = f.before + length (bodies (fronts i c.kids)) in
    let found = leads f.behind before (suc (tree_count (backs i c.kids)) + f.behind) f.before (child c.kids i) (backs i c.kids) (fronts i c.kids) (child-fits c.kids i st.each) later front word
    (end_there area f c i count (filled count xs) a end st l used at ended) in
    let start : run.start ≡ area.at + area.data_words + i + 1 + slot_gap f c i = found.2 ∙ (omega arith) in
    let gap : run.start - a ≡ slot_gap f c i = omega arith in
    in_bytes b area f c i s p v count now bytes run xs mid ys a m st l room few short more there at size word near found.0 start found.1 replaces (told ∙ ap (λ (g : ℕ). list_pointer g 2 b.len) gap) spells move

-- ---- at the root

nothing_behind : (p : ℕ) (w k b : List ℕ) → p ∷ (w ++ (k ++ b)) ≡ (p ∷ []) ++ (w ++ (k ++ ([] ++ (b ++ []))))
nothing_behind p w k b = simp append-nil

module _ (p : Splice) (inner : Area) (v count : ℕ) (q : Placed) (bytes : List ℕ) (xs mid : List (List ℕ)) (at : inner.at ≡ 1) (more : q.count ≤ length mid) (narrow : q.data_words < 2 ^ 16)
    (end : Option ℕ) (ends : IfSome end (λ e. e + 0 ≡ count)) (rec : ChangesUpTo (PutsBehind p.put p.hops.items) inner end count xs mid q)
    (points : (s : ℕ) (ts : Trees) (u : Tree) → inner.pointers ≡ tree_count ts → filled count xs ≡ canonical_words (structure inner.data_words s ts) → IsStructWith q.data_words inner.pointers u → v ≡ pointer 0 u)
    (spells : from_le_bytes w64 bytes ≡ v) where
  abbrev root_frame : ℕ → Frame
  root_frame w = record { front = w ∷ []; middle = []; back = []; behind = 0; before = 0 }

  at_structure : (s : ℕ) (ts : Trees) → Fits (structure inner.data_words s ts) → inner.pointers ≡ tree_count ts → filled count xs ≡ canonical_words (structure inner.data_words s ts) → HasSpliced p (structure inner.data_words s ts) (filled q.count (set mid 0 bytes))
  unfolding canonical_words
  at_structure s ts fits pointers e =
      let w : ℕ = inner.data_words in
      let m : ℕ = q.data_words in
      let word : ℕ = pointer 0 (structure w s ts) in
      let h = rec (root_frame word) (record { section = s; kids = ts }) ends
      (record { place = sym at; between = refl; spelled = e ∙ nothing_behind word (words_of w s) (links 0 0 ts) (bodies ts); section = fits.2; pointers = sym pointers; each = fits.3 }) in
      let cell : Cell = h.cell in
      let t : Tree = structure m cell.section cell.kids in
      let same : tree_count ts ≡ tree_count cell.kids = sym pointers ∙ sym h.stands.pointers in
      let told : v ≡ pointer 0 t = points s ts t pointers e (refl, sym h.stands.pointers) in
      let there : filled q.count mid ≡ word ∷ body t = h.stands.spelled ∙ sym (nothing_behind word (words_of m cell.section) (links 0 0 cell.kids) (bodies cell.kids)) in
      record {
        value = t;
        spliced = (m, cell, h.changes, refl);
        fits = (narrow, subst (λ (k : ℕ). k < 2 ^ 16) same fits.1, h.stands.section, h.stands.each);
        spelled = word_put mid q.count 0 word v bytes [] (body t) more there refl spells ∙ ap (λ (k : ℕ). k ∷ body t) told;
      }

  at_root : (t : Tree) → Fits t → IsSizedStruct inner t → filled count xs ≡ canonical_words t → HasSpliced p t (filled q.count (set mid 0 bytes))
  at_root null f h e = absurd h
  at_root (capability k) f h e = absurd h
  at_root (structure w s ts) f h e =
      subst (λ (k : ℕ). HasSpliced p (structure k s ts) (filled q.count (set mid 0 bytes))) h.0
      (at_structure s ts (subst (λ (k : ℕ). Fits (structure k s ts)) (sym h.0) f) h.1 (e ∙ ap (λ (k : ℕ). canonical_words (structure k s ts)) (sym h.0)))
  at_root (plain_list z n s) f h e = absurd h
  at_root (pointer_list ts) f h e = absurd h
  at_root (struct_list d k es) f h e = absurd h

root_end : (end : Option ℕ) (count : ℕ) → IfSome end (λ e. e ≡ count) → IfSome end (λ e. e + 0 ≡ count)
root_end None count h = tt
root_end (Some e) count h = omega arith

pub root_put : (p : Splice) (t : Tree) (inner : Area) (w v count : ℕ) (q : Placed) (bytes : List ℕ) (xs mid : List (List ℕ)) (way : List Hop) → Fits t → filled count xs ≡ canonical_words t → 0 < length xs → w ≡ from_le_bytes w64 (get_or xs 0 [])
    → ((gap : ℕ) (t : Tree) → Fits t → gap < 2 ^ 30 → w ≡ pointer gap t → IsSizedStruct inner t × (inner.at ≡ 1 + gap)) → 0 < inner.data_words + inner.pointers
    → q.count ≤ length mid → q.data_words < 2 ^ 16 → way ≡ p.hops.items → (end : Option ℕ) → IfSome end (λ e. e ≡ count) → ChangesUpTo (PutsBehind p.put way) inner end count xs mid q
    → ((gap d k : ℕ) (t u : Tree) → gap < 2 ^ 30 → w ≡ pointer gap t → IsStructWith d k t → 0 < d + k → IsStructWith q.data_words inner.pointers u → v ≡ pointer gap u) → from_le_bytes w64 bytes ≡ v
    → HasSpliced p t (filled q.count (set mid 0 bytes))
unfolding canonical_words
root_put p t inner w v count q bytes xs mid way f e is_some is leads some more narrow same end ends rec points spells =
    let word : w ≡ pointer 0 t = word_is xs count 0 w (pointer 0 t) [] (body t) e refl is_some is in
    let found = leads 0 t f (omega arith) word in
    at_root p inner v count q bytes xs mid (found.1 ∙ omega arith) more narrow end (root_end end count ends) (subst (λ (hs : List Hop). ChangesUpTo (PutsBehind p.put hs) inner end count xs mid q) same rec)
    (λ s ts u pointers told sizes. points 0 inner.data_words inner.pointers (structure inner.data_words s ts) u (omega arith)
    (word_is xs count 0 w (pointer 0 (structure inner.data_words s ts)) [] (body (structure inner.data_words s ts)) told refl is_some is) (refl, pointers) some sizes) spells t f found.0 e
