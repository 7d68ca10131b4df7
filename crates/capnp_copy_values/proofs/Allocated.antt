-- Room that was allocated, beside a value.
use Rattle.std.proofs.Common.{◌≡◌, ℕ, suc, ◌+◌, ◌≤◌, true, List, [], ◌∷◌, replicate, Some, refl, ap, sym, ◌∙◌, subst, arith}
use Rattle.std.specs.Option.{is_some}
use Rattle.capnp_model.specs.Segments.{Segments, Place, place, after, words_at}
use Rattle.capnp_model.specs.Pointers.{nothing}
use Rattle.capnp_model.specs.Trees.{Tree, null}
use Rattle.capnp_model.specs.Coverage.{Span, span}
use Rattle.capnp_wire_objects.specs.Places.{place_view}
use Rattle.capnp_model_writes.specs.Footprints.{footprint, Owns}
use Rattle.capnp_model_writes.specs.Changes.{absent}
use Rattle.capnp_model_writes.specs.Detached.{all_taken, Detached}
use Rattle.capnp_model_writes.specs.Writes.{with_zeros, segment_end}
use Rattle.capnp_model_writes.proofs.lemmas.Algebra.{changes_nothing, changes_alike}
use Rattle.capnp_model_writes.proofs.lemmas.Detached.{detached_start, detached_more, detached_split}
use Rattle.capnp_model_writes.proofs.lemmas.Growing.{zeros_extend, zero_held}
use Rattle.capnp_model_writes.proofs.lemmas.Spans.{held, held_is, held_split, there, words_front, words_back}
use Rattle.capnp_model_writes.proofs.lemmas.Zeros.{held_none, drop_zeros}
use Rattle.capnp_copy_arenas.specs.Allocations.{Allocates}
use Rattle.capnp_copy_arenas.specs.declared.room.Room.{Room}
use Rattle.capnp_copy_arenas.specs.declared.room.Room.TheVariants.{Here, Near, Far}
use Rattle.capnp_copy_arenas.specs.Rooms.{RoomFor, begin_of}
use Rattle.capnp_copy_arenas.proofs.lemmas.RoomLaws.{some_of}
use Rattle.capnp_copy_values.specs.Copies.{GrowsByZeros}

-- the pad of an object in such room
abbrev pub pads_in : Room → List Span
pads_in Here = []
pads_in (Near offset) = []
pads_in (Far pad) = span (place_view pad) 1 ∷ []

-- no words
none_there : (s : Segments) (p : Place) → is_some (words_at s p 1) ≡ true → words_at s p 0 ≡ Some (replicate 0 0)
none_there s p e = let x = some_of s p 1 e in words_front s p 0 1 x.0 x.1

pub allocated : (n : ℕ) (s m : Segments) (p : Place) (k : ℕ) (room : Room) (t : Tree) → is_some (words_at s p 1) ≡ true → RoomFor s m p k room → Owns (suc n) s p t → Detached n s m p t (span (begin_of p room) k ∷ pads_in room) nothing null
allocated n s m p k Here t e r o =
    let x = detached_start n s p t o in
    let none : (q : Place) → all_taken n s p (span p 0 ∷ []) nothing q ≡ all_taken n s p [] nothing q = λ q. omega (arith, held_is p 0 [] q, held_none p q) in
    let here : Detached n s s p t (span p 0 ∷ []) nothing null = record {
      value = x.value;
      object = x.object;
      zeros = (none_there s p e, tt);
      changes = changes_alike s s (footprint (suc n) s p) (all_taken n s p [] nothing) (footprint (suc n) s p) (all_taken n s p (span p 0 ∷ []) nothing) x.changes (λ q. refl) none;
      apart = λ q. omega (arith, x.apart q, none q);
    } in
    subst (λ (v : Segments). Detached n s v p t (span p k ∷ []) nothing null) (sym r.1) (subst (λ (j : ℕ). Detached n s s p t (span p j ∷ []) nothing null) (sym r.0) here)
allocated n s m p k (Near offset) t e r o =
    let a = r.1 in
    let x = detached_more n s s p t null [] nothing p.segment k a.among (detached_start n s p t o) in
    let sum : segment_end s p.segment ≡ p.position + (1 + offset) = (let z = a.end in omega (arith, z)) in
    let y = subst (λ (j : ℕ). Detached n s (with_zeros s p.segment k) p t (span (place p.segment j) k ∷ []) nothing null) sum x in
    subst (λ (v : Segments). Detached n s v p t (span (after p (1 + offset)) k ∷ []) nothing null) (sym a.now) y
allocated n s m p k (Far pad) t e r o =
    let a = r.1 in
    let x = detached_more n s s p t null [] nothing pad.segment (1 + k) a.among (detached_start n s p t o) in
    let y = subst (λ (j : ℕ). Detached n s (with_zeros s pad.segment (1 + k)) p t (span (place pad.segment j) (1 + k) ∷ []) nothing null) (sym a.end) x in
    let z = subst (λ (v : Segments). Detached n s v p t (span (place_view pad) (1 + k) ∷ []) nothing null) (sym a.now) y in
    detached_split n s m p t null (place_view pad) 1 k [] nothing z

-- ---- without a value

by_zeros : (s m : Segments) (i at n : ℕ) → Allocates s m i at n → GrowsByZeros s m × (words_at m (place i at) n ≡ Some (replicate n 0)) × ((q : Place) → held (place i at) n q ≤ absent s q)
by_zeros s m i at n a = subst (λ (v : Segments). GrowsByZeros s v × (words_at v (place i at) n ≡ Some (replicate n 0)) × ((q : Place) → held (place i at) n q ≤ absent s q)) (sym a.now) (subst (λ (j : ℕ). GrowsByZeros s (with_zeros s i n) × (words_at (with_zeros s i n) (place i j) n ≡ Some (replicate n 0)) × ((q : Place) → held (place i j) n q ≤ absent s q)) (sym a.end) now)
  where
    now : GrowsByZeros s (with_zeros s i n) × (words_at (with_zeros s i n) (place i (segment_end s i)) n ≡ Some (replicate n 0)) × ((q : Place) → held (place i (segment_end s i)) n q ≤ absent s q)
    now =
        let x = zeros_extend s i n a.among in (
          record {
            grows = x.grows;
            kept = λ q w e z. x.kept q w e;
            within = λ q. omega arith;
            cleared = λ q w e z l. zero_held (with_zeros s i n) (place i (segment_end s i)) n q w x.zeros e (omega (arith, l, x.only q, there (with_zeros s i n) q w e));
          },
          x.zeros,
          λ q. omega (arith, x.only q),
        )

-- new zero words, which nothing had
pub record NewWords (s m : Segments) (r : Place) (k : ℕ) : Type 0 where
  pub grows : GrowsByZeros s m
  pub zeros : words_at m r k ≡ Some (replicate k 0)
  pub new : (q : Place) → held r k q ≤ absent s q

pub room_new : (s m : Segments) (p : Place) (k : ℕ) (room : Room) → is_some (words_at s p 1) ≡ true → RoomFor s m p k room → NewWords s m (begin_of p room) k
room_new s m p k Here e r =
    let same : GrowsByZeros s m = subst (λ (v : Segments). GrowsByZeros s v) (sym r.1) (changes_nothing s (λ q. 0)) in
    let none : words_at m p 0 ≡ Some (replicate 0 0) = subst (λ (v : Segments). words_at v p 0 ≡ Some (replicate 0 0)) (sym r.1) (none_there s p e) in
    record {
      grows = same;
      zeros = subst (λ (j : ℕ). words_at m p j ≡ Some (replicate j 0)) (sym r.0) none;
      new = λ q. (let z : held p k q ≡ held p 0 q = ap (λ (j : ℕ). held p j q) r.0 in omega (arith, z, held_none p q));
    }
room_new s m p k (Near offset) e r =
    let sum : p.position + 1 + offset ≡ p.position + (1 + offset) = omega arith in
    let x = by_zeros s m p.segment (p.position + 1 + offset) k r.1 in
    subst (λ (j : ℕ). NewWords s m (place p.segment j) k) sum (record { grows = x.0; zeros = x.1; new = x.2 })
room_new s m p k (Far pad) e r =
    let x = by_zeros s m pad.segment pad.position (1 + k) r.1 in
    record {
      grows = x.0;
      zeros = words_back m (place_view pad) 1 k _ x.1 ∙ ap (λ (ws : List ℕ). Some ws) (drop_zeros 1 k);
      new = λ q. omega (arith, x.2 q, held_split (place_view pad) 1 k q);
    }
