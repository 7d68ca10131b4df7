-- A list that is widened: the tag is written, its elements move, the old list is cleared and the pointer written.
use Rattle.std.proofs.Common.{◌≡◌, ℕ, suc, ◌+◌, ◌-◌, ◌*◌, ◌<◌, List, [], ◌∷◌, ◌++◌, length, map, true, Option, Ok, ap, sym, ◌∙◌, subst, arith}
use Rattle.std.specs.Option.{is_some}
use Rattle.capnp_model.specs.Segments.{Segments, Place, word_at}
use Rattle.capnp_model.specs.Pointers.{Object, nothing, a_list, Found, found_at}
use Rattle.capnp_model.specs.Trees.{Tree, null}
use Rattle.capnp_model.specs.Coverage.{Span, span, pads_at}
use Rattle.capnp_model.specs.Encoding.{struct_pointer, list_pointer}
use Rattle.capnp_model.proofs.lemmas.Locality.{found_kept}
use Rattle.capnp_units.specs.Sizes.{size_number}
use Rattle.capnp_wire_objects.specs.Places.{place_view}
use Rattle.capnp_wire_objects.specs.declared.place.Place as code
use Rattle.capnp_model_writes.specs.Footprints.{OwnsObject}
use Rattle.capnp_model_writes.specs.Changes.{Replaces}
use Rattle.capnp_model_writes.specs.Detached.{Detached}
use Rattle.capnp_model_writes.specs.NewObjects.{new_structs, new_pointer, Fits, pointed}
use Rattle.capnp_model_writes.specs.Writes.{with_words}
use Rattle.capnp_model_writes.proofs.lemmas.Detached.{detached_owns, detached_tagged, detached_value}
use Rattle.capnp_model_writes.proofs.lemmas.Levels.{owned_more}
use Rattle.capnp_model_writes.proofs.lemmas.Lift.{slot_is, object_of_pointer}
use Rattle.capnp_model_writes.proofs.lemmas.Spans.{held, held_is, held_split}
use Rattle.capnp_model_writes.proofs.lemmas.Splices.{Rewrites, splice_rewrites}
use Rattle.capnp_model_writes.proofs.lemmas.Writing.{rewrites_keep}
use Rattle.capnp_copy_arenas.proofs.lemmas.Taken.{takes_so}
use Rattle.capnp_copy_arenas.specs.Clearing.{ClearsValue}
use Rattle.capnp_copy_arenas.specs.Lists.{object_of_list}
use Rattle.capnp_copy_arenas.specs.Rooms.{begin_of, linked}
use Rattle.capnp_copy_arenas.specs.Values.{LeadsTo}
use Rattle.capnp_copy_arenas.specs.declared.init.ListPlace.{ListPlace}
use Rattle.capnp_copy_arenas.specs.declared.room.Room.{Room}
use Rattle.capnp_copy_widening.specs.Moves.{pads_of}
use Rattle.capnp_copy_widening.specs.MovedElements.{IsOfList, FillsAsStructs, as_structs, zeros_at}
use Rattle.capnp_copy_widening.specs.Widened.{WiderRoom, TakesNear}
use Rattle.capnp_copy_widening.specs.WidenedLists.{WidensList}
use Rattle.capnp_copy_widening.proofs.WiderRooms.{pad_spare, room_spare, wider_extends, found_grown, linked_value}

pub some_list : (count d k : ℕ) → (o : ℕ) → 0 < new_pointer o (new_structs count d k)
some_list count d k o = omega arith

-- words written where nothing is yet leave what a pointer leads to
found_beside_words : (n : ℕ) (z m : Segments) (p b : Place) (f : Found) (t : Tree) (k : ℕ) (w : ℕ) (spare : List Span) → 0 < k → found_at m p ≡ Ok f → Detached n z m p t (span b k ∷ spare) nothing null → found_at (with_words m b (w ∷ [])) p ≡ Ok f
found_beside_words n z m p b f t k w spare l e h =
    let r : Rewrites m (with_words m b (w ∷ [])) b 1 = splice_rewrites m b (w ∷ []) in
    let sum : k ≡ 1 + (k - 1) = omega (arith, l) in
    let kept = rewrites_keep m (with_words m b (w ∷ [])) b 1 (span p 1 ∷ pads_at m p) r (λ q. (let all : held b k q ≡ held b (1 + (k - 1)) q = ap (λ (j : ℕ). held b j q) sum in omega (arith, h.apart q, slot_is n m p f q e, held_is b k spare q, all, held_split b 1 (k - 1) q))) in
    found_kept m (with_words m b (w ∷ [])) p f kept.0 kept.1 e

pub list_widened : (s m x y z u : Segments) (p : Place) (old new : ListPlace) (k segment : ℕ) (room : Room) (pads : Option code.Place) → is_some (word_at s p) ≡ true → LeadsTo s p (object_of_list old) → ((n : ℕ) (t : Tree) → OwnsObject n s (object_of_list old) t → IsOfList old t)
    → size_number new.size ≡ 7 → place_view new.start ≡ begin_of p room → new.claimed ≡ new.count * (new.data_words + new.pointers) → Fits (new_structs new.count new.data_words new.pointers)
    → WiderRoom s m p segment (1 + new.claimed) (2 * k) room pads → x ≡ pointed m (place_view new.start) (struct_pointer new.count new.data_words new.pointers) → FillsAsStructs x y old new (pads_of pads k) → ClearsValue y z p → u ≡ linked z p room (list_pointer 0 7 new.claimed)
    → WidensList s u p new.data_words new.pointers
list_widened s m x y z u p old new k segment room pads there leads of_list seven at claims fits r tagged fills clears links = λ n t o. (
    let b = begin_of p room in
    let c = new.count in
    let d = new.data_words in
    let j = new.pointers in
    let rest : List Span = pads_of pads k ++ pad_spare room in
    let o1 = owned_more n (suc n) s p t (omega arith) o in
    let e = leads.1 in
    let old_tree = of_list n t (object_of_pointer n s p (record { pads = leads.0; object = object_of_list old }) t e o1) in
    let h1 = room_spare n s m p t segment (1 + new.claimed) k room pads (omega arith) o1 r in
    let em = found_grown s m p (record { pads = leads.0; object = object_of_list old }) (wider_extends s m p segment (1 + new.claimed) (2 * k) room pads r) e in
    let ex1 = found_beside_words n s m p b (record { pads = leads.0; object = object_of_list old }) t (1 + new.claimed) (struct_pointer c d j) rest (omega arith) em h1 in
    let h2 : Detached n s m p t (span (begin_of p room) (1 + new.count * (new.data_words + new.pointers)) ∷ (pads_of pads k ++ pad_spare room)) nothing null = subst (λ (i : ℕ). Detached n s m p t (span (begin_of p room) (1 + i) ∷ (pads_of pads k ++ pad_spare room)) nothing null) claims h1 in
    let h3 = detached_tagged n s m p t b c d j rest h2 fits in
    let now : x ≡ pointed m (begin_of p room) (struct_pointer new.count new.data_words new.pointers) = tagged ∙ ap (λ (q : Place). pointed m q (struct_pointer new.count new.data_words new.pointers)) at in
    let ex : found_at x p ≡ Ok (record { pads = leads.0; object = object_of_list old }) = subst (λ (v : Segments). found_at v p ≡ Ok (record { pads = leads.0; object = object_of_list old })) (sym now) ex1 in
    let h4 : Detached n s x p t (pads_of pads k ++ pad_spare room) (a_list (begin_of p room) 7 (new.count * (new.data_words + new.pointers))) (zeros_at new) = subst (λ (v : Segments). Detached n s v p t (pads_of pads k ++ pad_spare room) (a_list (begin_of p room) 7 (new.count * (new.data_words + new.pointers))) (zeros_at new)) (sym now) h3 in
    let place_is : a_list (begin_of p room) 7 (new.count * (new.data_words + new.pointers)) ≡ object_of_list new = ap (λ (q : Place). a_list q 7 (new.count * (new.data_words + new.pointers))) (sym at) ∙ ap (a_list (place_view new.start) 7) (sym claims) ∙ ap (λ (i : ℕ). a_list (place_view new.start) i new.claimed) (sym seven) in
    let h5 = subst (λ (v : Object). Detached n s x p t (pads_of pads k ++ pad_spare room) v (zeros_at new)) place_is h4 in
    let filled = fills n leads.0 s p t (pad_spare room) old_tree ex h5 in
    let h6 : Detached n s y p filled.0 (pad_spare room) (a_list (begin_of p room) 7 (new.count * (new.data_words + new.pointers))) (as_structs new.data_words new.pointers t) = subst (λ (v : Object). Detached n s y p filled.0 (pad_spare room) v (as_structs new.data_words new.pointers t)) (sym place_is) filled.1 in
    let owned = detached_owns n s y p filled.0 (as_structs d j t) (pad_spare room) (a_list (begin_of p room) 7 (new.count * (new.data_words + new.pointers))) h6 in
    let cleared = clears (suc n) filled.0 owned.0 in
    let h7 = detached_value n s y z p filled.0 null (as_structs d j t) (pad_spare room) (a_list (begin_of p room) 7 (new.count * (new.data_words + new.pointers))) h6 cleared in
    let all = linked_value n s m z p segment (1 + new.claimed) (2 * k) room pads (new_structs c d j) (as_structs d j t) there (omega arith) r (some_list c d j) fits h7 in
    let linked_is : u ≡ linked z p room (list_pointer 0 7 (new.count * (new.data_words + new.pointers))) = links ∙ ap (λ (i : ℕ). linked z p room (list_pointer 0 7 i)) claims in
    subst (λ (v : Segments). Replaces (suc n) s v p (as_structs new.data_words new.pointers t)) (sym linked_is) all
    )

-- ---- the words that are taken

pub near_so : (s : Segments) (free : List ℕ) (m u : Segments) (i j n : ℕ) → map length u ≡ map length m → TakesNear s free m i j n → TakesNear s free u i j n
near_so s free m u i j n e h = (λ same. takes_so s free m u j n e (h.0 same), λ other. takes_so s free m u j (1 + n) e (h.1 other))
