-- Room that was allocated, and what stays in it.
use Rattle.std.proofs.Common.{◌≡◌, ℕ, zero, suc, ◌+◌, ◌-◌, ◌*◌, ◌^◌, ◌<◌, ◌≤◌, Bool, true, false, List, [], ◌∷◌, length, map, replicate, Option, Some, None, refl, ap, sym, ◌∙◌, subst, arith}
use Rattle.std.specs.List.{slice_get}
use Rattle.std.specs.Option.{is_some}
use Rattle.capnp_model.specs.Segments.{Segments, Place, place, after, word_at, words_at}
use Rattle.capnp_model.specs.Coverage.{Grows}
use Rattle.capnp_model.proofs.lemmas.Chaining.{some_is}
use Rattle.capnp_model.proofs.lemmas.Locality.{word_was}
use Rattle.capnp_wire_objects.specs.Places.{place_view}
use Rattle.capnp_model_writes.specs.Writes.{with_words, with_zeros, segment_end}
use Rattle.capnp_model_writes.proofs.lemmas.Spans.{words_front, words_back, grows_then}
use Rattle.capnp_model_writes.proofs.lemmas.Rows.{words_grown}
use Rattle.capnp_model_writes.proofs.lemmas.Splices.{splice_grows}
use Rattle.capnp_model_writes.proofs.lemmas.Growing.{Extends, zeros_extend}
use Rattle.capnp_model.proofs.lemmas.ReadFits.{words_length}
use Rattle.capnp_copy_arenas.specs.Allocations.{total_words, Allocates}
use Rattle.capnp_copy_arenas.specs.declared.room.Room.{Room}
use Rattle.capnp_copy_arenas.specs.declared.room.Room.TheVariants.{Here, Near, Far}
use Rattle.capnp_copy_arenas.specs.Rooms.{RoomFor, IsAddressed, HasPad, begin_of, slot_word, with_pad, linked}
use Rattle.capnp_copy_arenas.proofs.lemmas.Ends.{end_within}

-- ---- what is there stays

pub some_of : (s : Segments) (p : Place) (n : ℕ) → is_some (words_at s p n) ≡ true → (ws : List ℕ) × (words_at s p n ≡ Some ws)
some_of s p n e = by_cases (words_at s p n) refl
  where
    by_cases : (o : Option (List ℕ)) → words_at s p n ≡ o → (ws : List ℕ) × (words_at s p n ≡ Some ws)
    by_cases (Some ws) f = (ws, f)
    by_cases None f = absurd (let g : is_some (words_at s p n) ≡ false = ap is_some f in let h : true ≡ false = sym e ∙ g in cc)

pub still_some : (s u : Segments) (p : Place) (n : ℕ) → Grows s u → is_some (words_at s p n) ≡ true → is_some (words_at u p n) ≡ true
still_some s u p n g e = let x = some_of s p n e in let y = words_grown s u p n x.0 g x.1 in ap is_some y.1

pub sizes_grow : (s u : Segments) → map length u ≡ map length s → Grows s u
sizes_grow [] u e i xs f = absurd cc
sizes_grow (ws ∷ s) [] e i xs f = absurd cc
sizes_grow (ws ∷ s) (vs ∷ u) e zero xs f =
    let same : length vs ≡ length ws = cc in
    let is : ws ≡ xs = some_is _ _ f in
    let long : length ws ≡ length xs = ap length is in
    (vs, refl, omega (arith, same, long))
sizes_grow (ws ∷ s) (vs ∷ u) e (suc i) xs f = let rest : map length u ≡ map length s = cc in sizes_grow s u rest i xs f

pub words_stay : (s u : Segments) (p : Place) (n : ℕ) → map length u ≡ map length s → is_some (words_at s p n) ≡ true → is_some (words_at u p n) ≡ true
words_stay s u p n e there = still_some s u p n (sizes_grow s u e) there

pub still_written : (s : Segments) (q p : Place) (vs : List ℕ) (n : ℕ) → is_some (words_at s p n) ≡ true → is_some (words_at (with_words s q vs) p n) ≡ true
still_written s q p vs n e = still_some s (with_words s q vs) p n (splice_grows s q vs) e

pub still_padded : (s : Segments) (p : Place) (room : Room) (w n : ℕ) → is_some (words_at s p n) ≡ true → is_some (words_at (with_pad s room w) p n) ≡ true
still_padded s p Here w n e = e
still_padded s p (Near offset) w n e = e
still_padded s p (Far pad) w n e = still_written s (place_view pad) p (w ∷ []) n e

-- ---- the room

pub word_there : (s : Segments) (p : Place) → is_some (words_at s p 1) ≡ true → is_some (word_at s p) ≡ true
word_there s p e = let x = some_of s p 1 e in one x.0 x.1 (words_length s p 1 x.0 x.1)
  where
    one : (ws : List ℕ) → words_at s p 1 ≡ Some ws → length ws ≡ 1 → is_some (word_at s p) ≡ true
    one [] f l = absurd (omega (arith, l))
    one (w ∷ []) f l = ap is_some (word_was s p w f)
    one (a ∷ (b ∷ ws)) f l = absurd (omega (arith, l))

pub room_addressed : (s u : Segments) (p : Place) (n : ℕ) (room : Room) → RoomFor s u p n room → IsAddressed room
room_addressed s u p n Here r = tt
room_addressed s u p n (Near offset) r = let e = end_within s p.segment in let a = r.1 in omega (arith, e, a.end, a.few)
room_addressed s u p n (Far pad) r = let e = end_within s pad.segment in let a = r.1 in omega (arith, e, a.end, a.few)

pub room_grows : (s u : Segments) (p : Place) (n : ℕ) (room : Room) → RoomFor s u p n room → Grows s u
room_grows s u p n Here r = subst (λ (x : Segments). Grows s x) (sym r.1) (λ i xs e. (xs, e, omega arith))
room_grows s u p n (Near offset) r = let a = r.1 in subst (λ (x : Segments). Grows s x) (sym a.now) (zeros_extend s p.segment n a.among).grows
room_grows s u p n (Far pad) r = let a = r.1 in subst (λ (x : Segments). Grows s x) (sym a.now) (zeros_extend s pad.segment (1 + n) a.among).grows

pub zeros_now : (s u : Segments) (i at n : ℕ) → Allocates s u i at n → words_at u (place i at) n ≡ Some (replicate n 0)
zeros_now s u i at n a =
    let x = zeros_extend s i n a.among in
    let e : words_at (with_zeros s i n) (place i (segment_end s i)) n ≡ Some (replicate n 0) = x.zeros in
    let f : words_at (with_zeros s i n) (place i at) n ≡ Some (replicate n 0) = ap (λ (k : ℕ). words_at (with_zeros s i n) (place i k) n) a.end ∙ e in
    subst (λ (v : Segments). words_at v (place i at) n ≡ Some (replicate n 0)) (sym a.now) f

pub room_pad : (s u : Segments) (p : Place) (n : ℕ) (room : Room) → RoomFor s u p n room → HasPad u room
room_pad s u p n Here r = tt
room_pad s u p n (Near offset) r = tt
room_pad s u p n (Far pad) r = ap is_some (words_front u (place_view pad) 1 n _ (zeros_now s u pad.segment pad.position (1 + n) r.1))

pub pad_stays : (u v : Segments) (room : Room) → Grows u v → HasPad u room → HasPad v room
pad_stays u v Here g h = tt
pad_stays u v (Near offset) g h = tt
pad_stays u v (Far pad) g h = still_some u v (place_view pad) 1 g h

pub room_words : (s u : Segments) (p : Place) (n : ℕ) (room : Room) → is_some (words_at s p 1) ≡ true → RoomFor s u p n room → is_some (words_at u (begin_of p room) n) ≡ true
room_words s u p n Here e r =
    let x = some_of s p 1 e in
    let none = words_front s p 0 1 x.0 x.1 in
    let same : words_at u p n ≡ words_at s p 0 = ap (λ (m : ℕ). words_at u p m) r.0 ∙ ap (λ (v : Segments). words_at v p 0) r.1 in
    ap is_some (same ∙ none)
room_words s u p n (Near offset) e r =
    let sum : p.position + 1 + offset ≡ p.position + (1 + offset) = omega arith in
    let z = zeros_now s u p.segment (p.position + 1 + offset) n r.1 in
    let f : words_at u (after p (1 + offset)) n ≡ Some (replicate n 0) = ap (λ (k : ℕ). words_at u (place p.segment k) n) (sym sum) ∙ z in
    ap is_some f
room_words s u p n (Far pad) e r = ap is_some (words_back u (place_view pad) 1 n _ (zeros_now s u pad.segment pad.position (1 + n) r.1))

pub still_linked : (s : Segments) (p : Place) (room : Room) (w : ℕ) (q : Place) (n : ℕ) → is_some (words_at s q n) ≡ true → is_some (words_at (linked s p room w) q n) ≡ true
still_linked s p room w q n e = still_written (with_pad s room w) p q (slot_word room w ∷ []) n (still_padded s q room w n e)

pub room_near : (s u : Segments) (p : Place) (n : ℕ) (room : Room) → p.position < 2 ^ 61 → RoomFor s u p n room → (begin_of p room).position + n < 2 ^ 61
room_near s u p n Here l r = omega (arith, l, r.0)
room_near s u p n (Near offset) l r = let e = end_within s p.segment in let a = r.1 in omega (arith, e, a.end, a.few)
room_near s u p n (Far pad) l r = let e = end_within s pad.segment in let a = r.1 in omega (arith, e, a.end, a.few)

pub first_there : (s : Segments) (p : Place) (n : ℕ) → is_some (words_at s p (1 + n)) ≡ true → is_some (words_at s p 1) ≡ true
first_there s p n e = let x = some_of s p (1 + n) e in ap is_some (words_front s p 1 n x.0 x.1)

pub part_there : (s : Segments) (p : Place) (i w : ℕ) → i < w → is_some (words_at s p w) ≡ true → is_some (words_at s (after p i) 1) ≡ true
part_there s p i w l e =
    let sum : w ≡ i + (1 + (w - i - 1)) = omega (arith, l) in
    let x = some_of s p w e in
    let all : words_at s p (i + (1 + (w - i - 1))) ≡ Some x.0 = subst (λ (k : ℕ). words_at s p k ≡ Some x.0) sum x.1 in
    ap is_some (words_front s (after p i) 1 (w - i - 1) _ (words_back s p i (1 + (w - i - 1)) x.0 all))
