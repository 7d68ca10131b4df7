-- How many words of which segment are taken by what is made.
use Rattle.std.proofs.Common.{◌≡◌, ℕ, zero, suc, ◌+◌, ◌<◌, ◌≤◌, Bool, true, false, List, [], ◌∷◌, ◌++◌, length, map, replicate, refl, ap, sym, ◌∙◌, subst, arith, cond}
use Rattle.capnp_model.specs.Segments.{Segments, Place, after}
use Rattle.capnp_wire_objects.specs.Places.{place_view}
use Rattle.capnp_model.specs.Bytes.{words_in_bytes}
use Rattle.capnp_model_writes.specs.Writes.{with_words, with_zeros}
use Rattle.capnp_copy_arenas.specs.Allocations.{total_words, HasRoom, TakesJust, TakesAtMost}
use Rattle.capnp_copy_arenas.specs.Blobs.{whole_of, front_of, last_of, with_bytes}
use Rattle.capnp_copy_arenas.specs.declared.room.Room.{Room}
use Rattle.capnp_copy_arenas.specs.declared.room.Room.TheVariants.{Here, Near, Far}
use Rattle.capnp_copy_arenas.specs.Rooms.{RoomFor, IsNearWhereRoom, slot_word, with_pad, linked}
use Rattle.std.proofs.lemmas.List.{length-replicate, length-append}
use Rattle.capnp_copy_arenas.proofs.lemmas.ZeroedWords.{written_sizes}

padded_sizes : (s : Segments) (room : Room) (w : ℕ) → map length (with_pad s room w) ≡ map length s
padded_sizes s Here w = refl
padded_sizes s (Near offset) w = refl
padded_sizes s (Far pad) w = written_sizes s (place_view pad) (w ∷ [])

pub linked_sizes : (s : Segments) (p : Place) (room : Room) (w : ℕ) → map length (linked s p room w) ≡ map length s
linked_sizes s p room w = written_sizes (with_pad s room w) p (slot_word room w ∷ []) ∙ padded_sizes s room w

no_more : (s : Segments) (i : ℕ) → i < length s → map length s ≡ map length (with_zeros s i 0)
unfolding with_zeros
no_more [] i l = absurd (omega (arith, l))
no_more (xs ∷ s) zero l = ap (λ (n : ℕ). n ∷ map length s) (same xs)
  where
    same : (ys : List ℕ) → length ys ≡ length (ys ++ [])
    same [] = refl
    same (y ∷ ys) = ap suc (same ys)
no_more (xs ∷ s) (suc i) l = ap (λ (ns : List ℕ). length xs ∷ ns) (no_more s i (omega (arith, l)))

pub room_takes : (s : Segments) (free : List ℕ) (m : Segments) (p : Place) (n : ℕ) (room : Room) → RoomFor s m p n room → IsNearWhereRoom s free p.segment n room → TakesJust s free m p.segment n
room_takes s free m p n Here r near h = ap (λ (x : Segments). map length x) r.1 ∙ (no_more s p.segment h.0 ∙ ap (λ (k : ℕ). map length (with_zeros s p.segment k)) (sym r.0))
room_takes s free m p n (Near offset) r near h = ap (λ (x : Segments). map length x) r.1.now
room_takes s free m p n (Far pad) r near h = absurd (near h)

-- what has as many words takes as many
pub takes_so : (s : Segments) (free : List ℕ) (m u : Segments) (i n : ℕ) → map length u ≡ map length m → TakesJust s free m i n → TakesJust s free u i n
takes_so s free m u i n e t h = e ∙ t h

pub bytes_sizes : (s : Segments) (p : Place) (n : ℕ) (bytes : List ℕ) → map length (with_bytes s p n bytes) ≡ map length s
bytes_sizes s p n bytes = by_cases _
  where
    by_cases : (b : Bool) → map length (cond b (with_words (with_words s p (words_in_bytes (whole_of bytes) (front_of bytes))) (after p (whole_of bytes)) (last_of bytes ∷ [])) (with_words s p (words_in_bytes (whole_of bytes) (front_of bytes)))) ≡ map length s
    by_cases true = written_sizes (with_words s p (words_in_bytes (whole_of bytes) (front_of bytes))) (after p (whole_of bytes)) (last_of bytes ∷ []) ∙ written_sizes s p (words_in_bytes (whole_of bytes) (front_of bytes))
    by_cases false = written_sizes s p (words_in_bytes (whole_of bytes) (front_of bytes))

-- ---- how many words a message has

pub longer_total : (s : Segments) (i k : ℕ) → total_words (with_zeros s i k) ≡ total_words s + k
unfolding total_words with_zeros
longer_total [] i k = omega (arith, length-replicate {A = ℕ} k 0)
longer_total (xs ∷ s) zero k = omega (arith, length-append xs (replicate k 0), length-replicate {A = ℕ} k 0)
longer_total (xs ∷ s) (suc i) k = omega (arith, longer_total s i k)

lengths_total : (ns : List ℕ) → ℕ
lengths_total [] = 0
lengths_total (n ∷ ns) = n + lengths_total ns

as_lengths : (s : Segments) → total_words s ≡ lengths_total (map length s)
unfolding total_words lengths_total
as_lengths [] = refl
as_lengths (xs ∷ s) = ap (λ (n : ℕ). length xs + n) (as_lengths s)

pub same_total : (s u : Segments) → map length u ≡ map length s → total_words u ≡ total_words s
same_total s u e = as_lengths u ∙ (ap lengths_total e ∙ sym (as_lengths s))

pub room_bounds : (s m : Segments) (p : Place) (n : ℕ) (room : Room) → RoomFor s m p n room → TakesAtMost s m n 1
room_bounds s m p n Here r = let e = ap total_words r.1 in (omega (arith, e), λ _. omega (arith, e))
room_bounds s m p n (Near offset) r = let e = ap total_words r.1.now in (omega (arith, e, longer_total s p.segment n), λ z. omega (arith, z, r.0))
room_bounds s m p n (Far pad) r = let e = ap total_words r.1.now in (omega (arith, e, longer_total s pad.segment (1 + n)), λ z. omega (arith, z, r.0))

-- what has as many words has as many new
pub bounds_so : (s m u : Segments) (n pads : ℕ) → map length u ≡ map length m → TakesAtMost s m n pads → TakesAtMost s u n pads
bounds_so s m u n pads e b = let same = same_total m u e in (omega (arith, same, b.0), λ z. omega (arith, same, b.1 z))
