-- A new list of structs of zeros and nulls: its tag is written before the pointer.
use Rattle.std.proofs.Common.{◌≡◌, ℕ, suc, ◌+◌, ◌*◌, ◌^◌, ◌<◌, ◌≤◌, true, List, [], ◌∷◌, replicate, Ok, refl, ap, sym, ◌∙◌, subst, arith}
use Rattle.std.specs.Option.{is_some}
use Rattle.capnp_model.specs.Segments.{Segments, Place, place, after, word_at, words_at}
use Rattle.capnp_model.specs.Pointers.{a_list, found_at}
use Rattle.capnp_model.specs.Trees.{struct_list}
use Rattle.capnp_model.specs.Coverage.{Grows}
use Rattle.capnp_model.specs.Encoding.{struct_pointer, list_pointer}
use Rattle.capnp_wire_objects.specs.Places.{place_view}
use Rattle.capnp_model_writes.specs.Changes.{Replaces}
use Rattle.capnp_model_writes.specs.Writes.{segment_end}
use Rattle.capnp_model_writes.specs.NewObjects.{New, new_structs, new_words, new_pointer, new_object, new_tree, Fits, pointed, pointed_far, zero_elements, IsOffsetTo, IsNamed, Prepared}
use Rattle.capnp_model_writes.proofs.lemmas.Spans.{grows_then}
use Rattle.capnp_model_writes.proofs.lemmas.Splices.{splice_grows}
use Rattle.capnp_model_writes.proofs.lemmas.Levels.{owned_more}
use Rattle.capnp_model_writes.proofs.lemmas.Prepared.{prepared_new, tag_written, tag_written_far, near_new, far_new, near_leads, far_leads, starts_near}
use Rattle.capnp_copy_arenas.specs.declared.room.Room.{Room}
use Rattle.capnp_copy_arenas.specs.declared.room.Room.TheVariants.{Here, Near, Far}
use Rattle.capnp_copy_arenas.specs.Clearing.{ClearsValue}
use Rattle.capnp_copy_arenas.specs.Rooms.{RoomFor, begin_of, linked}
use Rattle.capnp_copy_arenas.specs.Values.{Becomes, LeadsTo}
use Rattle.capnp_copy_arenas.proofs.lemmas.Ends.{end_within}
use Rattle.capnp_copy_arenas.proofs.lemmas.RoomLaws.{word_there, room_grows, room_pad, pad_stays}
use Rattle.capnp_copy_arenas.proofs.lemmas.Making.{at_offset, nulled_in, beyond, word_later, some_word}

-- some list pointer isn't 0
some_list : (o n : ℕ) → 0 < list_pointer o 7 n
some_list o n = omega arith

pub structs_made : (s m u v : Segments) (p : Place) (count d k c : ℕ) (room : Room) → c ≡ count * (d + k) → is_some (words_at s p 1) ≡ true → RoomFor s m p (1 + c) room → ClearsValue m u p → v ≡ pointed u (begin_of p room) (struct_pointer count d k) → Fits (new_structs count d k)
    → Becomes s (linked v p room (list_pointer 0 7 c)) p (struct_list d k (zero_elements count k))
structs_made s m u v p count d k c Here ce e r cl ve fits = absurd (omega (arith, r.0))
structs_made s m u v p count d k c (Near offset) ce e r cl ve fits = λ n t o. (
    let o1 = owned_more n (suc n) s p t (omega arith) o in
    let a = r.1 in
    let null_now = nulled_in n s m u p t p.segment (1 + c) a.among a.now cl o1 in
    let short : offset < 2 ^ 29 = (let h = end_within s p.segment in omega (arith, h, a.end, a.few)) in
    let at : p.position + (1 + offset) ≡ segment_end s p.segment = omega (arith, a.end) in
    let new = prepared_new n s u p t p.segment (1 + c) a.among o1 null_now in
    let here : Prepared n s u p (after p (1 + offset)) (1 + c) (replicate (1 + c) 0) = subst (λ (j : ℕ). Prepared n s u p (place p.segment j) (1 + c) (replicate (1 + c) 0)) (sym at) new in
    let tagged = tag_written n s u p (after p (1 + offset)) c (struct_pointer count d k) here in
    let tagged_v : Prepared n s v p (after p (1 + offset)) (1 + c) (struct_pointer count d k ∷ replicate c 0) = subst (λ (x : Segments). Prepared n s x p (after p (1 + offset)) (1 + c) (struct_pointer count d k ∷ replicate c 0)) (sym ve) tagged in
    let ready : Prepared n s v p (after p (1 + offset)) (1 + c) (new_words (new_structs count d k)) = subst (λ (j : ℕ). Prepared n s v p (after p (1 + offset)) (1 + c) (struct_pointer count d k ∷ replicate j 0)) ce tagged_v in
    let near : IsOffsetTo p (after p (1 + offset)) offset = record { same = refl; gap = omega arith; short = short } in
    let all = near_new n s v p (after p (1 + offset)) offset (1 + c) (new_structs count d k) ready (starts_near p (after p (1 + offset)) offset near) (omega (arith, short)) (some_list offset (count * (d + k))) fits in
    let word : list_pointer offset 7 (count * (d + k)) ≡ list_pointer 0 7 c + 4 * offset = sym (at_offset offset (new_structs count d k)) ∙ ap (λ (j : ℕ). list_pointer 0 7 j + 4 * offset) (sym ce) in
    subst (λ (w : ℕ). Replaces (suc n) s (pointed v p w) p (struct_list d k (zero_elements count k))) word all
    )
structs_made s m u v p count d k c (Far pad) ce e r cl ve fits = λ n t o. (
    let o1 = owned_more n (suc n) s p t (omega arith) o in
    let a = r.1 in
    let null_now = nulled_in n s m u p t pad.segment (1 + (1 + c)) a.among a.now cl o1 in
    let named : IsNamed (place_view pad) = record { segment_fits = r.2; position_fits = (let h = end_within s pad.segment in omega (arith, h, a.end, a.few)) } in
    let new = prepared_new n s u p t pad.segment (1 + (1 + c)) a.among o1 null_now in
    let here : Prepared n s u p (place_view pad) (1 + (1 + c)) (replicate (1 + (1 + c)) 0) = subst (λ (j : ℕ). Prepared n s u p (place pad.segment j) (1 + (1 + c)) (replicate (1 + (1 + c)) 0)) (sym a.end) new in
    let tagged = tag_written_far n s u p (place_view pad) c (struct_pointer count d k) here in
    let tagged_v : Prepared n s v p (place_view pad) (1 + (1 + c)) (0 ∷ (struct_pointer count d k ∷ replicate c 0)) = subst (λ (x : Segments). Prepared n s x p (place_view pad) (1 + (1 + c)) (0 ∷ (struct_pointer count d k ∷ replicate c 0))) (sym ve) tagged in
    let ready : Prepared n s v p (place_view pad) (1 + (1 + c)) (0 ∷ new_words (new_structs count d k)) = subst (λ (j : ℕ). Prepared n s v p (place_view pad) (1 + (1 + c)) (0 ∷ (struct_pointer count d k ∷ replicate j 0))) ce tagged_v in
    let all = far_new n s v p (place_view pad) (1 + c) 0 (new_structs count d k) ready named fits in
    subst (λ (j : ℕ). Replaces (suc n) s (pointed_far v p (place_view pad) (list_pointer 0 7 j)) p (struct_list d k (zero_elements count k))) (sym ce) all
    )

pub structs_lead : (s m u v : Segments) (p : Place) (count d k c : ℕ) (room : Room) → c ≡ count * (d + k) → is_some (words_at s p 1) ≡ true → RoomFor s m p (1 + c) room → Grows m u → v ≡ pointed u (begin_of p room) (struct_pointer count d k) → Fits (new_structs count d k)
    → LeadsTo (linked v p room (list_pointer 0 7 c)) p (a_list (begin_of p room) 7 c)
structs_lead s m u v p count d k c Here ce e r g ve fits = absurd (omega (arith, r.0))
structs_lead s m u v p count d k c (Near offset) ce e r g ve fits =
    let later : Grows m v = subst (λ (x : Segments). Grows m x) (sym ve) (grows_then m u (pointed u (after p (1 + offset)) (struct_pointer count d k)) g (splice_grows u (after p (1 + offset)) (struct_pointer count d k ∷ []))) in
    let w = word_later s m v p e (room_grows s m p (1 + c) (Near offset) r) later in
    let a = r.1 in
    let short : offset < 2 ^ 29 = (let h = end_within s p.segment in omega (arith, h, a.end, a.few)) in
    let near : IsOffsetTo p (after p (1 + offset)) offset = record { same = refl; gap = omega arith; short = short } in
    let all = near_leads v p (after p (1 + offset)) offset w.0 (new_structs count d k) w.1 (starts_near p (after p (1 + offset)) offset near) (omega (arith, short)) (some_list offset (count * (d + k))) fits in
    let word : list_pointer offset 7 (count * (d + k)) ≡ list_pointer 0 7 c + 4 * offset = sym (at_offset offset (new_structs count d k)) ∙ ap (λ (j : ℕ). list_pointer 0 7 j + 4 * offset) (sym ce) in
    let now = subst (λ (x : ℕ). found_at (pointed v p x) p ≡ Ok (record { pads = 0; object = a_list (after p (1 + offset)) 7 (count * (d + k)) })) word all in
    (0, subst (λ (j : ℕ). found_at (pointed v p (list_pointer 0 7 c + 4 * offset)) p ≡ Ok (record { pads = 0; object = a_list (after p (1 + offset)) 7 j })) (sym ce) now)
structs_lead s m u v p count d k c (Far pad) ce e r g ve fits =
    let later : Grows m v = subst (λ (x : Segments). Grows m x) (sym ve) (grows_then m u (pointed u (after (place_view pad) 1) (struct_pointer count d k)) g (splice_grows u (after (place_view pad) 1) (struct_pointer count d k ∷ []))) in
    let w = word_later s m v p e (room_grows s m p (1 + c) (Far pad) r) later in
    let a = r.1 in
    let named : IsNamed (place_view pad) = record { segment_fits = r.2; position_fits = (let h = end_within s pad.segment in omega (arith, h, a.end, a.few)) } in
    let padded = some_word v (place_view pad) (word_there v (place_view pad) (pad_stays m v (Far pad) later (room_pad s m p (1 + c) (Far pad) r))) in
    let all = far_leads v p (place_view pad) w.0 padded.0 (new_structs count d k) w.1 padded.1 (beyond s p (place_view pad) (word_there s p e) a.end) named fits in
    (1, subst (λ (j : ℕ). found_at (pointed_far v p (place_view pad) (list_pointer 0 7 j)) p ≡ Ok (record { pads = 1; object = a_list (after (place_view pad) 1) 7 j })) (sym ce) all)
