-- Words of a struct's data section are written, and its pointers lead where they led.
use Rattle.std.proofs.Common.{◌≡◌, ℕ, suc, ◌+◌, ◌*◌, ◌/◌, ◌<◌, ◌≤◌, [], ◌∷◌, refl, sym, subst, arith}
use Rattle.capnp_model.specs.Segments.{Segments, Place, after}
use Rattle.capnp_model.specs.Pointers.{Found}
use Rattle.capnp_model.specs.Trees.{Tree, structure, with_child}
use Rattle.capnp_model.specs.Coverage.{span, pads_at, times_held}
use Rattle.capnp_model.specs.Edits.{put_child}
use Rattle.capnp_model.proofs.lemmas.Locality.{found_kept}
use Rattle.capnp_wire_objects.specs.Places.{place_view}
use Rattle.capnp_model_writes.specs.Writes.{with_words}
use Rattle.capnp_model_writes.proofs.lemmas.Algebra.{changes_nothing, beside_kept}
use Rattle.capnp_model_writes.proofs.lemmas.Lift.{struct_is, slot_is, object_replaced_owned}
use Rattle.capnp_model_writes.proofs.lemmas.Rows.{child_le}
use Rattle.capnp_model_writes.proofs.lemmas.Spans.{held_is}
use Rattle.capnp_model_writes.proofs.lemmas.Splices.{Rewrites, splice_rewrites}
use Rattle.capnp_model_writes.proofs.lemmas.Writing.{changes_inside, wider}
use Rattle.capnp_copy_arenas.specs.Structs.{object_of_struct, WritesWord}
use Rattle.capnp_copy_arenas.specs.Values.{LeadsTo}
use Rattle.capnp_copy_arenas.specs.declared.fields.StructPlace.{StructPlace}
use Rattle.capnp_schema_structs.specs.Edits.{WritesData}
use Rattle.capnp_schema_structs.specs.Inits.{LeadsFrom}
use Rattle.capnp_schema_structs.specs.Puts.{Deepens}
use Rattle.capnp_schema_structs.proofs.lemmas.Deeper.{object_owned_more}

pub data_same : (s : Segments) (p : StructPlace) → WritesData s s p
data_same s p = changes_nothing s (times_held (span (place_view p.start) p.data_words ∷ []))

pub data_written : (s u : Segments) (p : StructPlace) (at : ℕ) → at + 16 ≤ 64 * p.data_words → WritesWord s u p at → WritesData s u p
data_written s u p at l w =
    let start = place_view p.start in
    let i = at / 64 in
    let c = times_held (span (place_view p.start) p.data_words ∷ []) in
    let one = splice_rewrites s (after start i) (w.0 ∷ []) in
    let all : Rewrites s (with_words s (after start i) (w.0 ∷ [])) start p.data_words = wider s (with_words s (after start i) (w.0 ∷ [])) start i 1 p.data_words (omega (arith, l)) one in
    let moved = subst (λ v. Rewrites s v start p.data_words) (sym w.1) all in
    changes_inside s u start p.data_words c c moved (λ q. refl) (λ q. let e = held_is start p.data_words [] q in omega (arith, e))

module _ (s m u : Segments) (p : StructPlace) (i : ℕ) (t : Tree) (l : i < p.pointers) (a : Deepens s m p (put_child i t)) (w : WritesData m u p) where
  pub leads_from : (slot : Place) (o : StructPlace) → slot ≡ after (after (place_view p.start) p.data_words) i → LeadsTo m slot (object_of_struct o) → LeadsFrom s u p i o
  leads_from slot o at_is leads n section kids own =
      let start = place_view p.start in
      let here = after (after (place_view p.start) p.data_words) i in
      let c = times_held (span (place_view p.start) p.data_words ∷ []) in
      let new = a n section kids own in
      let more = object_owned_more n (suc n) s (object_of_struct p) (structure p.data_words section kids) (omega arith) own in
      let owned = object_replaced_owned (suc n) s m (object_of_struct p) (structure p.data_words section kids) (structure p.data_words section (with_child kids i t)) more new in
      let lead = subst (λ q. LeadsTo m q (object_of_struct o)) at_is leads in
      let f : Found = record { pads = lead.0; object = object_of_struct o } in
      let le = child_le (suc n) m (after start p.data_words) here p.pointers i refl l in
      let kept = beside_kept m u c c (span here 1 ∷ pads_at m here) w
      (λ q. omega (arith, owned.apart q, struct_is (suc n) m start p.data_words p.pointers q, le q, slot_is n m here f q lead.1, held_is start p.data_words [] q)) in
      (lead.0, found_kept m u here f kept.0 kept.1 lead.1)
