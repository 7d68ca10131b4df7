-- Room for a wider object, and the pointer to what was made in it.
use Rattle.std.proofs.Common.{◌≡◌, ◌≢◌, ℕ, zero, suc, ◌+◌, ◌*◌, ◌<◌, ◌^◌, true, List, [], ◌∷◌, ◌++◌, replicate, Option, Some, None, Ok, refl, ap, sym, ◌∙◌, subst, arith}
use Rattle.std.specs.Option.{is_some}
use Rattle.std.proofs.lemmas.List.{length-replicate, length-append}
use Rattle.capnp_model.specs.Segments.{Segments, Place, place, after, word_at, words_at}
use Rattle.capnp_model.specs.Pointers.{Object, nothing, Found, found_at}
use Rattle.capnp_model.specs.Trees.{Tree, null}
use Rattle.capnp_model.specs.Coverage.{Span, span, pads_at, Grows}
use Rattle.capnp_wire_objects.specs.Places.{place_view}
use Rattle.capnp_wire_objects.specs.declared.place.Place as code
use Rattle.capnp_model_writes.specs.Footprints.{Owns, object_footprint}
use Rattle.capnp_model_writes.specs.Changes.{Replaces, ReplacesObject}
use Rattle.capnp_model_writes.specs.Detached.{Detached}
use Rattle.capnp_model_writes.specs.NewObjects.{New, new_pointer, new_object, Fits, pointed, IsOffsetTo, IsNamed}
use Rattle.capnp_model_writes.specs.Writes.{with_zeros, segment_end}
use Rattle.capnp_model_writes.proofs.lemmas.Algebra.{beside_kept}
use Rattle.capnp_model_writes.proofs.lemmas.Detached.{detached_start, detached_more, detached_split, detached_near}
use Rattle.capnp_model_writes.proofs.lemmas.FarPointing.{detached_far, reaches_ahead}
use Rattle.capnp_model_writes.proofs.lemmas.Growing.{zeros_extend}
use Rattle.capnp_model.proofs.lemmas.Locality.{found_kept}
use Rattle.capnp_model_writes.proofs.lemmas.Lift.{slot_is}
use Rattle.capnp_model_writes.proofs.lemmas.Prepared.{near_leads, far_leads, starts_near}
use Rattle.capnp_model_writes.proofs.lemmas.Rows.{after_none}
use Rattle.capnp_model_writes.proofs.lemmas.Spans.{grows_same, words_front, words_back}
use Rattle.capnp_model_writes.proofs.lemmas.SpareMoves.{detached_swapped}
use Rattle.capnp_model_writes.proofs.lemmas.There.{spans_kept}
use Rattle.capnp_copy_arenas.specs.Allocations.{Allocates, total_words}
use Rattle.capnp_copy_arenas.specs.Rooms.{RoomFor, IsAddressed, HasPad, begin_of, linked}
use Rattle.capnp_copy_arenas.specs.Values.{LeadsTo}
use Rattle.capnp_copy_arenas.specs.declared.room.Room.{Room}
use Rattle.capnp_copy_arenas.specs.declared.room.Room.TheVariants.{Here, Near, Far}
use Rattle.capnp_copy_arenas.proofs.lemmas.Making.{at_offset}
use Rattle.capnp_copy_arenas.proofs.lemmas.RoomLaws.{zeros_now}
use Rattle.capnp_copy_arenas.proofs.lemmas.Taken.{longer_total}
use Rattle.capnp_copy_arenas.proofs.lemmas.Parts.{section_there}
use Rattle.capnp_copy_arenas.proofs.lemmas.Ends.{word_before_end, end_within}
use Rattle.capnp_copy_widening.specs.Moves.{pads_of, HasPads}
use Rattle.capnp_copy_widening.specs.Widened.{WiderRoom}
use Rattle.capnp_copy_widening.proofs.lemmas.Standing.{one_word, within_total}

-- the pad's own word
pub pad_spare : Room → List Span
pad_spare Here = []
pad_spare (Near offset) = []
pad_spare (Far pad) = span (place_view pad) 1 ∷ []

-- ---- what was allocated

pub room_block : (n : ℕ) (s m : Segments) (p : Place) (t : Tree) (k : ℕ) (room : Room) → 0 < k → Owns (suc n) s p t → RoomFor s m p k room → Detached n s m p t (span (begin_of p room) k ∷ pad_spare room) nothing null
unfolding pad_spare
room_block n s m p t k Here l o r = absurd (omega (arith, l, r.0))
room_block n s m p t k (Near offset) l o r =
    let a = r.1 in
    let h = detached_more n s s p t null [] nothing p.segment k a.among (detached_start n s p t o) in
    let at : segment_end s p.segment ≡ p.position + (1 + offset) = omega (arith, a.end) in
    let h' : Detached n s (with_zeros s p.segment k) p t (span (after p (1 + offset)) k ∷ []) nothing null = subst (λ (j : ℕ). Detached n s (with_zeros s p.segment k) p t (span (place p.segment j) k ∷ []) nothing null) at h in
    subst (λ (v : Segments). Detached n s v p t (span (after p (1 + offset)) k ∷ []) nothing null) (sym a.now) h'
room_block n s m p t k (Far pad) l o r =
    let a = r.1 in
    let h = detached_more n s s p t null [] nothing pad.segment (1 + k) a.among (detached_start n s p t o) in
    let h' : Detached n s (with_zeros s pad.segment (1 + k)) p t (span (place_view pad) (1 + k) ∷ []) nothing null = subst (λ (j : ℕ). Detached n s (with_zeros s pad.segment (1 + k)) p t (span (place pad.segment j) (1 + k) ∷ []) nothing null) (sym a.end) h in
    let h'' = subst (λ (v : Segments). Detached n s v p t (span (place_view pad) (1 + k) ∷ []) nothing null) (sym a.now) h' in
    detached_split n s m p t null (place_view pad) 1 k [] nothing h''

pub room_spare : (n : ℕ) (s m : Segments) (p : Place) (t : Tree) (segment words k : ℕ) (room : Room) (pads : Option code.Place) → 0 < words → Owns (suc n) s p t → WiderRoom s m p segment words (2 * k) room pads → Detached n s m p t (span (begin_of p room) words ∷ (pads_of pads k ++ pad_spare room)) nothing null
room_spare n s m p t segment words k room None l o r = room_block n s m p t words room l o r.0
room_spare n s m p t segment words k room (Some q) l o r =
    let h = room_block n s m p t (words + 2 * k) room (omega (arith, l)) o r.0 in
    let h' = detached_split n s m p t null (begin_of p room) words (2 * k) (pad_spare room) nothing h in
    let h'' = detached_swapped n s m p t null (span (after (begin_of p room) words) (2 * k)) (span (begin_of p room) words) (pad_spare room) nothing h' in
    subst (λ (r : Place). Detached n s m p t (span (begin_of p room) words ∷ (span r (2 * k) ∷ pad_spare room)) nothing null) (sym r.1) h''

-- ---- what stays

pub room_extends : (s m : Segments) (p : Place) (k : ℕ) (room : Room) → RoomFor s m p k room → Grows s m × ((q : Place) (w : ℕ) → word_at s q ≡ Some w → word_at m q ≡ Some w)
room_extends s m p k Here r = subst (λ (x : Segments). Grows s x × ((q : Place) (w : ℕ) → word_at s q ≡ Some w → word_at x q ≡ Some w)) (sym r.1) (grows_same s, λ q w e. e)
room_extends s m p k (Near offset) r = let a = r.1 in subst (λ (x : Segments). Grows s x × ((q : Place) (w : ℕ) → word_at s q ≡ Some w → word_at x q ≡ Some w)) (sym a.now) ((zeros_extend s p.segment k a.among).grows, (zeros_extend s p.segment k a.among).kept)
room_extends s m p k (Far pad) r = let a = r.1 in subst (λ (x : Segments). Grows s x × ((q : Place) (w : ℕ) → word_at s q ≡ Some w → word_at x q ≡ Some w)) (sym a.now) ((zeros_extend s pad.segment (1 + k) a.among).grows, (zeros_extend s pad.segment (1 + k) a.among).kept)

pub wider_extends : (s m : Segments) (p : Place) (segment words pads : ℕ) (room : Room) (pad : Option code.Place) → WiderRoom s m p segment words pads room pad → Grows s m × ((q : Place) (w : ℕ) → word_at s q ≡ Some w → word_at m q ≡ Some w)
wider_extends s m p segment words pads room None r = room_extends s m p words room r.0
wider_extends s m p segment words pads room (Some q) r = room_extends s m p (words + pads) room r.0

pub found_grown : (s m : Segments) (p : Place) (f : Found) → Grows s m × ((q : Place) (w : ℕ) → word_at s q ≡ Some w → word_at m q ≡ Some w) → found_at s p ≡ Ok f → found_at m p ≡ Ok f
found_grown s m p f g e =
    let kept = spans_kept s m (span p 1 ∷ pads_at s p) g.0 (λ q w l h. g.1 q w h) in
    found_kept s m p f kept.0 kept.1 e

pub found_beside : (n : ℕ) (z s m : Segments) (p : Place) (f : Found) (t v w : Tree) (spare : List Span) (o : Object) → found_at s p ≡ Ok f → Detached n z s p t spare o v → ReplacesObject n s m o w → found_at m p ≡ Ok f
found_beside n z s m p f t v w spare o e h r =
    let kept = beside_kept s m (object_footprint n s o) (object_footprint n m o) (span p 1 ∷ pads_at s p) r.changes (λ q. omega (arith, h.apart q, slot_is n s p f q e)) in
    found_kept s m p f kept.0 kept.1 e

-- ---- the pointer

-- it can be told
pub record ToldRoom (s : Segments) (p : Place) (room : Room) : Type 0 where
  pub addressed : IsAddressed room
  pub named : (pad : code.Place) → room ≡ Far pad → IsNamed (place_view pad) × (p ≢ place_view pad)

room_told : (s m : Segments) (p : Place) (k : ℕ) (room : Room) → is_some (word_at s p) ≡ true → RoomFor s m p k room → ToldRoom s p room
room_told s m p k Here e r = record { addressed = tt; named = λ pad is. absurd cc }
room_told s m p k (Near offset) e r = let a = r.1 in let l = end_within s p.segment in record { addressed = omega (arith, l, a.end, a.few); named = λ pad is. absurd cc }
room_told s m p k (Far pad) e r =
    let a = r.1 in
    let l = end_within s pad.segment in
    let w = word_before_end s p.segment p.position e in
    let away : p ≢ place_view pad = λ same. (
    let ends : segment_end s p.segment ≡ segment_end s pad.segment = ap (λ (q : Place). segment_end s q.segment) same in
    let at : p.position ≡ pad.position = ap (λ (q : Place). q.position) same in
    omega (arith, w, ends, at, a.end)
    ) in
    let is_named : IsNamed (place_view pad) = record { segment_fits = r.2; position_fits = omega (arith, l, a.end, a.few) } in
    record { addressed = omega (arith, l, a.end, a.few); named = λ q is. subst (λ (x : Room). let o : Type 0 = IsNamed (place_view q) × (p ≢ place_view q) in o) is (same_pad q is is_named away) }
  where
    same_pad : (q : code.Place) → Far pad ≡ Far q → IsNamed (place_view pad) → p ≢ place_view pad → IsNamed (place_view q) × (p ≢ place_view q)
    same_pad q is n a = let e : pad ≡ q = cc in subst (λ (x : code.Place). IsNamed (place_view x) × (p ≢ place_view x)) e (n, a)

wider_told : (s m : Segments) (p : Place) (segment words pads : ℕ) (room : Room) (pad : Option code.Place) → is_some (word_at s p) ≡ true → WiderRoom s m p segment words pads room pad → ToldRoom s p room
wider_told s m p segment words pads room None e r = room_told s m p words room e r.0
wider_told s m p segment words pads room (Some q) e r = room_told s m p (words + pads) room e r.0

pub wider_addressed : (s m : Segments) (p : Place) (segment words pads : ℕ) (room : Room) (pad : Option code.Place) → is_some (word_at s p) ≡ true → WiderRoom s m p segment words pads room pad → IsAddressed room
wider_addressed s m p segment words pads room pad e r = (wider_told s m p segment words pads room pad e r).addressed

-- an object with words takes room
takes_room : (s m : Segments) (p : Place) (segment words pads : ℕ) (pad : Option code.Place) → 0 < words → WiderRoom s m p segment words pads Here pad → ⊥
takes_room s m p segment words pads None l r = let z = r.0 in omega (arith, l, z.0)
takes_room s m p segment words pads (Some q) l r = let z = r.0 in omega (arith, l, z.0)

pub linked_value : (n : ℕ) (s m z : Segments) (p : Place) (segment words pads : ℕ) (room : Room) (pad : Option code.Place) (x : New) (v : Tree) → is_some (word_at s p) ≡ true → 0 < words → WiderRoom s m p segment words pads room pad → ((o : ℕ) → 0 < new_pointer o x) → Fits x
    → Detached n s z p null (pad_spare room) (new_object (begin_of p room) x) v → Replaces (suc n) s (linked z p room (new_pointer 0 x)) p v
unfolding pad_spare
linked_value n s m z p segment words pads Here pad x v e l r positive fits h = absurd (takes_room s m p segment words pads pad l r)
linked_value n s m z p segment words pads (Near offset) pad x v e l r positive fits h =
    let short : offset < 2 ^ 29 = (wider_told s m p segment words pads (Near offset) pad e r).addressed in
    let near : IsOffsetTo p (after p (1 + offset)) offset = record { same = refl; gap = omega arith; short = short } in
    let all = detached_near n s z p v (after p (1 + offset)) offset x [] h (reaches_ahead p (after p (1 + offset)) offset near) (positive offset) fits in
    subst (λ (w : ℕ). Replaces (suc n) s (pointed z p w) p v) (sym (at_offset offset x)) all
linked_value n s m z p segment words pads (Far q) pad x v e l r positive fits h =
    let known = (wider_told s m p segment words pads (Far q) pad e r).named q refl in
    let near : IsOffsetTo (place_view q) (after (place_view q) 1) 0 = record { same = refl; gap = omega arith; short = omega arith } in
    detached_far n s z p (place_view q) v (after (place_view q) 1) 0 x [] h known.0 (reaches_ahead (place_view q) (after (place_view q) 1) 0 near) fits

pub linked_leads : (s m z : Segments) (p : Place) (segment words pads : ℕ) (room : Room) (pad : Option code.Place) (x : New) → is_some (word_at s p) ≡ true → is_some (words_at z p 1) ≡ true → HasPad z room → 0 < words → WiderRoom s m p segment words pads room pad → ((o : ℕ) → 0 < new_pointer o x) → Fits x
    → LeadsTo (linked z p room (new_pointer 0 x)) p (new_object (begin_of p room) x)
linked_leads s m z p segment words pads Here pad x e there padded l r positive fits = absurd (takes_room s m p segment words pads pad l r)
linked_leads s m z p segment words pads (Near offset) pad x e there padded l r positive fits =
    let short : offset < 2 ^ 29 = (wider_told s m p segment words pads (Near offset) pad e r).addressed in
    let near : IsOffsetTo p (after p (1 + offset)) offset = record { same = refl; gap = omega arith; short = short } in
    let v = one_word z p there in
    (0, subst (λ (w : ℕ). found_at (pointed z p w) p ≡ Ok (record { pads = 0; object = new_object (after p (1 + offset)) x })) (sym (at_offset offset x)) (near_leads z p (after p (1 + offset)) offset v.0 x v.1 (starts_near p (after p (1 + offset)) offset near) (omega (arith, short)) (positive offset) fits))
linked_leads s m z p segment words pads (Far q) pad x e there padded l r positive fits =
    let known = (wider_told s m p segment words pads (Far q) pad e r).named q refl in
    let v = one_word z p there in
    let w = one_word z (place_view q) padded in
    (1, far_leads z p (place_view q) v.0 w.0 x v.1 w.1 known.1 known.0 fits)

-- ---- its words

few_now : (s m : Segments) (i at k : ℕ) → Allocates s m i at k → total_words m < 2 ^ 29
few_now s m i at k a = let e = ap total_words a.now in omega (arith, e, longer_total s i k, a.few)

-- what is there of an allocation
pub record RoomWords (m : Segments) (p : Place) (k : ℕ) (room : Room) : Type 0 where
  pub words : is_some (words_at m (begin_of p room) k) ≡ true
  pub few : total_words m < 2 ^ 29
  pub pad : HasPad m room

room_words : (s m : Segments) (p : Place) (k : ℕ) (room : Room) → 0 < k → RoomFor s m p k room → RoomWords m p k room
room_words s m p k Here l r = absurd (omega (arith, l, r.0))
room_words s m p k (Near offset) l r =
    let sum : p.position + 1 + offset ≡ p.position + (1 + offset) = omega arith in
    let z = zeros_now s m p.segment (p.position + 1 + offset) k r.1 in
    let f : words_at m (after p (1 + offset)) k ≡ Some (replicate k 0) = ap (λ (j : ℕ). words_at m (place p.segment j) k) (sym sum) ∙ z in
    record { words = ap is_some f; few = few_now s m p.segment (p.position + 1 + offset) k r.1; pad = tt }
room_words s m p k (Far q) l r =
    let z = zeros_now s m q.segment q.position (1 + k) r.1 in
    record { words = ap is_some (words_back m (place_view q) 1 k _ z); few = few_now s m q.segment q.position (1 + k) r.1; pad = ap is_some (words_front m (place_view q) 1 k _ z) }

pub record WiderWords (m : Segments) (p : Place) (words k : ℕ) (room : Room) (pads : Option code.Place) : Type 0 where
  pub words_there : is_some (words_at m (begin_of p room) words) ≡ true
  pub few : total_words m < 2 ^ 29
  pub pad : HasPad m room
  pub pads_there : HasPads m pads k

pub wider_words : (s m : Segments) (p : Place) (segment words k : ℕ) (room : Room) (pads : Option code.Place) → 0 < words → WiderRoom s m p segment words (2 * k) room pads → WiderWords m p words k room pads
wider_words s m p segment words k room None l r =
    let x = room_words s m p words room l r.0 in
    record { words_there = x.words; few = x.few; pad = x.pad; pads_there = tt }
wider_words s m p segment words k room (Some q) l r =
    let x = room_words s m p (words + 2 * k) room (omega (arith, l)) r.0 in
    let all = within_total m (begin_of p room) (words + 2 * k) x.words in
    let back = section_there m (begin_of p room) words (2 * k) (words + 2 * k) (omega arith) x.words in
    let front = section_there m (begin_of p room) 0 words (words + 2 * k) (omega arith) x.words in
    let none : after (begin_of p room) 0 ≡ begin_of p room = after_none (begin_of p room) in
    let at : q.position ≡ (begin_of p room).position + words = ap (λ (y : Place). y.position) r.1 in
    record {
      words_there = subst (λ (y : Place). is_some (words_at m y words) ≡ true) none front;
      few = x.few;
      pad = x.pad;
      pads_there = (subst (λ (y : Place). is_some (words_at m y (2 * k)) ≡ true) (sym r.1) back, omega (arith, all, x.few, at));
    }
