-- The words that a copy allocates.
use Rattle.std.proofs.Common.{◌≡◌, ℕ, zero, suc, ◌+◌, ◌*◌, ◌≤◌, eqb, false, List, [], ◌∷◌, length, map, replicate, refl, ap, sym, arith}
use Rattle.std.proofs.lemmas.List.{length-append, length-replicate}
use Rattle.capnp_model.specs.Sections.{words_for}
use Rattle.capnp_model.specs.Segments.{Segments, Place}
use Rattle.capnp_units.specs.declared.limiter.ReadLimiter.{ReadLimiter}
use Rattle.capnp_units.specs.Sizes.{size_number, data_bits}
use Rattle.capnp_units.proofs.lemmas.Spending.{spends_nothing, spends_both}
use Rattle.capnp_wire_objects.specs.declared.object.Object.{Object}
use Rattle.capnp_wire_objects.specs.declared.object.Object.TheVariants as object
use Rattle.capnp_wire_objects.specs.Objects.{IsInside}
use Rattle.capnp_wire_objects.specs.Follow.{own_cost, Pays}
use Rattle.capnp_model_writes.specs.Writes.{with_words, with_zeros}
use Rattle.capnp_model_writes.proofs.lemmas.Pointing.{not_zero}
use Rattle.capnp_copy_arenas.specs.Allocations.{total_words}
use Rattle.capnp_copy_arenas.specs.declared.room.Room.{Room}
use Rattle.capnp_copy_arenas.specs.declared.room.Room.TheVariants.{Here, Near, Far}
use Rattle.capnp_copy_arenas.specs.Rooms.{RoomFor}
use Rattle.capnp_copy_arenas.proofs.lemmas.ZeroedWords.{written_sizes}
use Rattle.capnp_copy_values.specs.Objects.{copied_words}
use Rattle.capnp_copy_values.specs.Copies.{TakesFew, TakesObject}

-- ---- words in all

pub total_alike : (u y : Segments) → map length y ≡ map length u → total_words u ≡ total_words y
unfolding total_words
total_alike [] [] e = refl
total_alike [] (xs ∷ y) e = absurd cc
total_alike (xs ∷ u) [] e = absurd cc
total_alike (xs ∷ u) (ys ∷ y) e =
    let first : length ys ≡ length xs = cc in
    let rest : map length y ≡ map length u = cc in
    omega (arith, first, total_alike u y rest)

pub written_total : (s : Segments) (p : Place) (vs : List ℕ) → total_words (with_words s p vs) ≡ total_words s
written_total s p vs = total_alike (with_words s p vs) s (sym (written_sizes s p vs))

zeros_total : (s : Segments) (i n : ℕ) → i ≤ length s → total_words (with_zeros s i n) ≡ total_words s + n
unfolding with_zeros total_words
zeros_total [] i n l = omega (arith, length-replicate {A = ℕ} n 0)
zeros_total (xs ∷ s) zero n l = omega (arith, length-append xs (replicate n 0), length-replicate {A = ℕ} n 0)
zeros_total (xs ∷ s) (suc i) n l = omega (arith, zeros_total s i n (omega (arith, l)))

pub room_total : (s m : Segments) (p : Place) (k : ℕ) (room : Room) → RoomFor s m p k room → total_words m ≤ total_words s + 2 * k
room_total s m p k Here r = let e = ap total_words r.1 in omega (arith, e)
room_total s m p k (Near offset) r = let a = r.1 in let e = ap total_words a.now in omega (arith, e, zeros_total s p.segment k a.among)
room_total s m p k (Far pad) r = let a = r.1 in let e = ap total_words a.now in let some = r.0 in omega (arith, e, some, zeros_total s pad.segment (1 + k) a.among)

-- ---- what is taken

pub takes_none : (s u : Segments) (l : ReadLimiter) → total_words u ≡ total_words s → TakesFew s u l l
takes_none s u l e = record { granted = 0; spends = spends_nothing l; few = omega (arith, e) }

pub takes_same : (s u v : Segments) (l k : ReadLimiter) → total_words v ≡ total_words u → TakesFew s u l k → TakesFew s v l k
takes_same s u v l k e t = let few = t.few in record { granted = t.granted; spends = t.spends; few = omega (arith, few, e) }

pub takes_both : (s m u : Segments) (l k n : ReadLimiter) → TakesFew s m l k → TakesFew m u k n → TakesFew s u l n
takes_both s m u l k n a b =
    let first = a.few in
    let second = b.few in
    record { granted = a.granted + b.granted; spends = spends_both l k n a.granted b.granted a.spends b.spends; few = omega (arith, first, second) }

-- an object's own words are paid for
own_enough : (from : Segments) (o : Object) → IsInside from o → copied_words o ≤ own_cost o
own_enough from object.Null i = omega arith
own_enough from (object.Capability j) i = omega arith
own_enough from (object.Struct p d k) i = omega arith
own_enough from (object.List p size n) i = by (size_number size) refl
  where
    by : (z : ℕ) → size_number size ≡ z → words_for (data_bits (size_number size) * n) ≤ own_cost (object.List p size n)
    by zero e = rw e (omega arith)
    by (suc z) e = let nz : eqb (size_number size) 0 ≡ false = not_zero (size_number size) (omega (arith, e)) in rw nz (omega arith)
own_enough from (object.PointerList p n) i = omega arith
own_enough from (object.StructList p words n d k) i = let fit = i.1 in omega (arith, fit)

-- its room, and what is behind it
pub object_taken : (s m u : Segments) (p : Place) (k : ℕ) (room : Room) (old new : ReadLimiter) → RoomFor s m p k room → TakesFew m u old new → TakesObject k s u old new
object_taken s m u p k room old new r t = let few = t.few in record { granted = t.granted; spends = t.spends; few = omega (arith, few, room_total s m p k room r) }

pub object_untaken : (k : ℕ) (s u : Segments) (l : ReadLimiter) → total_words u ≡ total_words s → TakesObject k s u l l
object_untaken k s u l e = record { granted = 0; spends = spends_nothing l; few = omega (arith, e) }

pub object_same : (k : ℕ) (s u v : Segments) (old new : ReadLimiter) → total_words v ≡ total_words u → TakesObject k s u old new → TakesObject k s v old new
object_same k s u v old new e t = let few = t.few in record { granted = t.granted; spends = t.spends; few = omega (arith, few, e) }

-- paid for by the pointer to it
pub visit_taken : (from s u : Segments) (q : Place) (o : Object) (old mid new : ReadLimiter) → IsInside from o → Pays from q old o mid → TakesObject (copied_words o) s u mid new → TakesFew s u old new
visit_taken from s u q o old mid new i x t =
    let few = t.few in
    record { granted = x.pads + own_cost o + t.granted; spends = spends_both old mid new (x.pads + own_cost o) t.granted x.spends t.spends; few = omega (arith, few, own_enough from o i) }

pub none_taken : (from s u : Segments) (q : Place) (o : Object) (old mid : ReadLimiter) → total_words u ≡ total_words s → Pays from q old o mid → TakesFew s u old mid
none_taken from s u q o old mid e x = record { granted = x.pads + own_cost o; spends = x.spends; few = omega (arith, e) }
