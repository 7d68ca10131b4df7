-- A new object of zeros in room that was allocated before the old value was cleared.
use Rattle.std.proofs.Common.{◌≡◌, ◌≢◌, ℕ, zero, suc, ◌+◌, ◌-◌, ◌*◌, ◌^◌, ◌<◌, ◌≤◌, true, List, [], ◌∷◌, length, replicate, Option, Some, None, Ok, refl, ap, sym, ◌∙◌, subst, arith}
use Rattle.std.specs.Option.{is_some}
use Rattle.std.proofs.lemmas.List.{length-replicate}
use Rattle.capnp_model.specs.Segments.{Segments, Place, place, after, word_at, words_at}
use Rattle.capnp_model.specs.Pointers.{found_at, nothing}
use Rattle.capnp_model.specs.Trees.{Tree, null}
use Rattle.capnp_model.specs.Coverage.{Grows}
use Rattle.capnp_model.specs.Encoding.{struct_pointer, list_pointer}
use Rattle.capnp_wire_objects.specs.Places.{place_view}
use Rattle.capnp_model_writes.specs.Footprints.{Owns}
use Rattle.capnp_model_writes.specs.Changes.{Replaces}
use Rattle.capnp_model_writes.specs.Writes.{with_zeros, segment_end}
use Rattle.capnp_model_writes.specs.NewObjects.{New, new_struct, new_list, filled_list, new_pointers, new_structs, new_words, new_pointer, new_object, new_tree, Fits, pointed, pointed_far, IsOffsetTo, IsNamed, Prepared}
use Rattle.capnp_model_writes.proofs.lemmas.Spans.{still_there}
use Rattle.capnp_model_writes.proofs.lemmas.Growing.{zeros_extend}
use Rattle.capnp_model_writes.proofs.lemmas.Levels.{owned_more, grown_owned}
use Rattle.capnp_model_writes.proofs.lemmas.Lift.{replaced_owned}
use Rattle.capnp_model_writes.proofs.lemmas.Prepared.{prepared_here, near_new, init_near, init_far, near_leads, far_leads, starts_near, starts_here, some_pointer}
use Rattle.capnp_copy_arenas.specs.declared.room.Room.{Room}
use Rattle.capnp_copy_arenas.specs.declared.room.Room.TheVariants.{Here, Near, Far}
use Rattle.capnp_copy_arenas.specs.Clearing.{ClearsValue}
use Rattle.capnp_copy_arenas.specs.Rooms.{RoomFor, begin_of, linked}
use Rattle.capnp_copy_arenas.specs.Values.{Becomes, LeadsTo}
use Rattle.capnp_copy_arenas.proofs.lemmas.Ends.{word_before_end, end_within}
use Rattle.capnp_copy_arenas.proofs.lemmas.RoomLaws.{word_there, room_grows, room_pad, pad_stays}

-- ---- pointer words

pub at_offset : (o : ℕ) (x : New) → new_pointer 0 x + 4 * o ≡ new_pointer o x
at_offset o (new_struct d k) = omega arith
at_offset o (new_list size count) = omega arith
at_offset o (filled_list size count ws) = omega arith
at_offset o (new_pointers count) = omega arith
at_offset o (new_structs count d k) = omega arith

some_struct : (o d k n : ℕ) → d + k ≡ n → 0 < n → 0 < struct_pointer o d k
some_struct o d k n e l = omega (arith, e, l)

some_list : (o size n : ℕ) → 0 < list_pointer o size n
some_list o size n = omega arith

positive : (o n : ℕ) (x : New) → new_words x ≡ replicate n 0 → 0 < n → 0 < new_pointer o x
positive o n (new_struct d k) e l = let same = ap length e in some_struct o d k n (omega (arith, same, length-replicate {A = ℕ} (d + k) 0, length-replicate {A = ℕ} n 0)) l
positive o n (new_list size count) e l = some_list o size count
positive o n (filled_list size count ws) e l = some_list o size count
positive o n (new_pointers count) e l = some_list o 6 count
positive o n (new_structs count d k) e l = some_list o 7 (count * (d + k))

-- ---- the slot

pub some_word : (s : Segments) (p : Place) → is_some (word_at s p) ≡ true → (w : ℕ) × (word_at s p ≡ Some w)
some_word s p e = by_cases (word_at s p) refl
  where
    by_cases : (o : Option ℕ) → word_at s p ≡ o → (w : ℕ) × (word_at s p ≡ Some w)
    by_cases (Some w) f = (w, f)
    by_cases None f = absurd (let g = sym e ∙ ap is_some f in cc)

segment_there : (s : Segments) (i k : ℕ) → is_some (word_at s (place i k)) ≡ true → i < length s
segment_there [] i k e = absurd cc
segment_there (xs ∷ s) zero k e = omega arith
segment_there (xs ∷ s) (suc i) k e = let l = segment_there s i k e in omega (arith, l)

-- a place at the end of its segment is another one
pub beyond : (s : Segments) (p r : Place) → is_some (word_at s p) ≡ true → r.position ≡ segment_end s r.segment → p ≢ r
beyond s p r e end same =
    let l = word_before_end s p.segment p.position e in
    let ends : segment_end s p.segment ≡ segment_end s r.segment = ap (λ (q : Place). segment_end s q.segment) same in
    let at : p.position ≡ r.position = ap (λ (q : Place). q.position) same in
    absurd (omega (arith, l, ends, at, end))

-- ---- the value

grown : (n : ℕ) (s : Segments) (p : Place) (t : Tree) (i k : ℕ) → i ≤ length s → Owns n s p t → Owns n (with_zeros s i k) p t
grown n s p t i k l o = replaced_owned n s (with_zeros s i k) p t t o (grown_owned n s (with_zeros s i k) p (place i (segment_end s i)) k t o (zeros_extend s i k l))

pub nulled_in : (n : ℕ) (s m u : Segments) (p : Place) (t : Tree) (i k : ℕ) → i ≤ length s → m ≡ with_zeros s i k → ClearsValue m u p → Owns (suc n) s p t → Replaces (suc n) (with_zeros s i k) u p null
nulled_in n s m u p t i k l e c o = subst (λ (x : Segments). ClearsValue x u p) e c (suc n) t (grown (suc n) s p t i k l o)

pub made : (s m u : Segments) (p : Place) (k : ℕ) (room : Room) (x : New) → is_some (words_at s p 1) ≡ true → RoomFor s m p k room → ClearsValue m u p → new_words x ≡ replicate k 0 → Fits x → Becomes s (linked u p room (new_pointer 0 x)) p (new_tree x)
made s m u p k Here x e r c ws fits = λ n t o. (
    let o1 = owned_more n (suc n) s p t (omega arith) o in
    let null_now : Replaces (suc n) s u p null = subst (λ (v : Segments). ClearsValue v u p) r.1 c (suc n) t o1 in
    let none_left : new_words x ≡ [] = ws ∙ ap (λ (j : ℕ). replicate {A = ℕ} j 0) r.0 in
    let ready : Prepared n s u p p 0 (new_words x) = subst (λ (vs : List ℕ). Prepared n s u p p 0 vs) (sym none_left) (prepared_here n s u p null_now) in
    let all = near_new n s u p p (2 ^ 30 - 1) 0 x ready (starts_here p) (omega arith) (some_pointer x) fits in
    subst (λ (w : ℕ). Replaces (suc n) s (pointed u p w) p (new_tree x)) (sym (at_offset (2 ^ 30 - 1) x)) all
    )
made s m u p k (Near offset) x e r c ws fits = λ n t o. (
    let o1 = owned_more n (suc n) s p t (omega arith) o in
    let a = r.1 in
    let there = segment_there s p.segment p.position (word_there s p e) in
    let null_now = nulled_in n s m u p t p.segment k a.among a.now c o1 in
    let short : offset < 2 ^ 29 = (let h = end_within s p.segment in omega (arith, h, a.end, a.few)) in
    let all = init_near n s u p t offset k x there ws o1 null_now a.end short (positive offset k x ws r.0) fits in
    subst (λ (w : ℕ). Replaces (suc n) s (pointed u p w) p (new_tree x)) (sym (at_offset offset x)) all
    )
made s m u p k (Far pad) x e r c ws fits = λ n t o. (
    let o1 = owned_more n (suc n) s p t (omega arith) o in
    let a = r.1 in
    let null_now = nulled_in n s m u p t pad.segment (1 + k) a.among a.now c o1 in
    let named : IsNamed (place pad.segment (segment_end s pad.segment)) = record { segment_fits = r.2; position_fits = (let h = end_within s pad.segment in omega (arith, h, a.few)) } in
    let all = init_far n s u p t pad.segment k x a.among ws o1 null_now named fits in
    subst (λ (j : ℕ). Replaces (suc n) s (pointed_far u p (place pad.segment j) (new_pointer 0 x)) p (new_tree x)) (sym a.end) all
    )

-- ---- where the pointer leads

pub word_later : (s m u : Segments) (p : Place) → is_some (words_at s p 1) ≡ true → Grows s m → Grows m u → (w : ℕ) × (word_at u p ≡ Some w)
word_later s m u p e g h =
    let x = some_word s p (word_there s p e) in
    let y = still_there s m p x.0 g x.1 in
    still_there m u p y.0 h y.1

pub leads : (s m u : Segments) (p : Place) (k : ℕ) (room : Room) (x : New) → is_some (words_at s p 1) ≡ true → RoomFor s m p k room → Grows m u → new_words x ≡ replicate k 0 → Fits x → LeadsTo (linked u p room (new_pointer 0 x)) p (new_object (begin_of p room) x)
leads s m u p k Here x e r g ws fits =
    let v = word_later s m u p e (room_grows s m p k Here r) g in
    (0, subst (λ (w : ℕ). found_at (pointed u p w) p ≡ Ok (record { pads = 0; object = new_object p x })) (sym (at_offset (2 ^ 30 - 1) x)) (near_leads u p p (2 ^ 30 - 1) v.0 x v.1 (starts_here p) (omega arith) (some_pointer x) fits))
leads s m u p k (Near offset) x e r g ws fits =
    let v = word_later s m u p e (room_grows s m p k (Near offset) r) g in
    let a = r.1 in
    let short : offset < 2 ^ 29 = (let h = end_within s p.segment in omega (arith, h, a.end, a.few)) in
    let near : IsOffsetTo p (after p (1 + offset)) offset = record { same = refl; gap = omega arith; short = short } in
    (0, subst (λ (w : ℕ). found_at (pointed u p w) p ≡ Ok (record { pads = 0; object = new_object (after p (1 + offset)) x })) (sym (at_offset offset x)) (near_leads u p (after p (1 + offset)) offset v.0 x v.1 (starts_near p (after p (1 + offset)) offset near) (omega (arith, short)) (positive offset k x ws r.0) fits))
leads s m u p k (Far pad) x e r g ws fits =
    let v = word_later s m u p e (room_grows s m p k (Far pad) r) g in
    let a = r.1 in
    let named : IsNamed (place_view pad) = record { segment_fits = r.2; position_fits = (let h = end_within s pad.segment in omega (arith, h, a.end, a.few)) } in
    let padded = some_word u (place_view pad) (word_there u (place_view pad) (pad_stays m u (Far pad) g (room_pad s m p k (Far pad) r))) in
    (1, far_leads u p (place_view pad) v.0 padded.0 x v.1 padded.1 (beyond s p (place_view pad) (word_there s p e) a.end) named fits)

-- A null pointer leads to nothing.
pub null_found : (s : Segments) (p : Place) → word_at s p ≡ Some 0 → LeadsTo s p nothing
null_found s p e = (0, rw e refl)
