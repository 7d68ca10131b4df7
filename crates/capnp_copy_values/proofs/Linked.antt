-- The pointer to a copy is written.
use Rattle.std.proofs.Common.{ℕ, suc, ◌+◌, ◌-◌, ◌^◌, ◌<◌, [], refl, sym, subst, arith}
use Rattle.capnp_model.specs.Segments.{Segments, Place, after}
use Rattle.capnp_model.specs.Trees.{Tree, null}
use Rattle.capnp_wire_objects.specs.Places.{place_view}
use Rattle.capnp_model_writes.specs.Changes.{Replaces}
use Rattle.capnp_model_writes.specs.Detached.{Detached, Reaches}
use Rattle.capnp_model_writes.specs.NewObjects.{New, new_pointer, new_object, Fits, pointed, IsOffsetTo, IsNamed}
use Rattle.capnp_model_writes.proofs.lemmas.Detached.{detached_near}
use Rattle.capnp_model_writes.proofs.lemmas.FarPointing.{detached_far, reaches_ahead}
use Rattle.capnp_model_writes.proofs.lemmas.Prepared.{starts_here, some_pointer}
use Rattle.capnp_copy_arenas.specs.declared.room.Room.{Room}
use Rattle.capnp_copy_arenas.specs.declared.room.Room.TheVariants.{Here, Near, Far}
use Rattle.capnp_copy_arenas.specs.Rooms.{RoomFor, begin_of, linked}
use Rattle.capnp_copy_arenas.proofs.lemmas.Ends.{end_within}
use Rattle.capnp_copy_arenas.proofs.lemmas.Making.{at_offset}
use Rattle.capnp_copy_values.proofs.Allocated.{pads_in}

pub linked_value : (n : ℕ) (s m u : Segments) (p : Place) (k : ℕ) (room : Room) (x : New) (v : Tree) → RoomFor s m p k room → ((o : ℕ) → 0 < k → 0 < new_pointer o x) → Fits x → Detached n s u p null (pads_in room) (new_object (begin_of p room) x) v → Replaces (suc n) s (linked u p room (new_pointer 0 x)) p v
linked_value n s m u p k Here x v r some fits d =
    let at : Reaches p p (2 ^ 30 - 1) = record { fits = omega arith; starts = starts_here p } in
    subst (λ (w : ℕ). Replaces (suc n) s (pointed u p w) p v) (sym (at_offset (2 ^ 30 - 1) x)) (detached_near n s u p v p (2 ^ 30 - 1) x [] d at (some_pointer x) fits)
linked_value n s m u p k (Near offset) x v r some fits d =
    let a = r.1 in
    let short : offset < 2 ^ 29 = (let h = end_within s p.segment in omega (arith, h, a.end, a.few)) in
    let near : IsOffsetTo p (after p (1 + offset)) offset = record { same = refl; gap = omega arith; short = short } in
    subst (λ (w : ℕ). Replaces (suc n) s (pointed u p w) p v) (sym (at_offset offset x)) (detached_near n s u p v (after p (1 + offset)) offset x [] d (reaches_ahead p (after p (1 + offset)) offset near) (some offset r.0) fits)
linked_value n s m u p k (Far pad) x v r some fits d =
    let a = r.1 in
    let named : IsNamed (place_view pad) = record { segment_fits = r.2; position_fits = (let h = end_within s pad.segment in omega (arith, h, a.end, a.few)) } in
    let near : IsOffsetTo (place_view pad) (after (place_view pad) 1) 0 = record { same = refl; gap = omega arith; short = omega arith } in
    detached_far n s u p (place_view pad) v (after (place_view pad) 1) 0 x [] d named (reaches_ahead (place_view pad) (after (place_view pad) 1) 0 near) fits
