-- Groups, their fields one after the other.
use Rattle.std.proofs.Common.{◌≡◌, ℕ, zero, suc, ◌<◌, ◌≤◌, max, true, false, Option, Some, None, refl, sym, ap, subst, ◌∙◌, arith}
use Rattle.capnp_model.specs.Schemas.{PlainType, width, Ty, Shape, shape, Fields, no_fields, field, Body, void_slot, plain_slot, pointer_slot, group_slot}
use Rattle.capnp_model.specs.Printing.{fields_in}
use Rattle.capnp_model.specs.Edits.{Cell, Edit, put_bits, mark, is_kept, edit_if, cleared, cleared_fields, cleared_body}
use Rattle.capnp_values_queries.specs.Fields.{Entry, field_at, field_count, union_in}
use Rattle.capnp_model.specs.Segments.{Segments, Place, after}
use Rattle.capnp_model.specs.Trees.{Tree, null, child}
use Rattle.capnp_model_writes.specs.Footprints.{Owns}
use Rattle.capnp_model_writes.specs.Changes.{Replaces}
use Rattle.capnp_model_writes.proofs.lemmas.Lift.{child_of_struct, struct_of_child}
use Rattle.capnp_wire_objects.specs.Places.{place_view}
use Rattle.capnp_copy_arenas.specs.Structs.{SetsBits}
use Rattle.capnp_copy_arenas.specs.Clearing.{ClearsValue}
use Rattle.capnp_copy_arenas.specs.declared.fields.StructPlace.{StructPlace}
use Rattle.capnp_schema_structs.specs.Edits.{Edits, cleared_entry}
use Rattle.capnp_schema_structs.proofs.lemmas.Writes.{edits_none, edits_alike}

-- ---- how deep groups are nested

unfoldable mutual
  pub shape_depth : Shape → ℕ
  shape_depth (shape nid w p u fs) = suc (fields_depth fs)

  pub fields_depth : Fields → ℕ
  fields_depth no_fields = 0
  fields_depth (field n m b fs) = max (body_depth b) (fields_depth fs)

  pub body_depth : Body → ℕ
  body_depth (void_slot j) = 0
  body_depth (plain_slot p at d) = 0
  body_depth (pointer_slot i ty d) = 0
  body_depth (group_slot g) = shape_depth g

pub depth_of_fields : (g : Shape) → fields_depth (fields_in g) < shape_depth g
unfolding shape_depth
depth_of_fields (shape nid w p u fs) = omega arith

pub depth_of_group : (g : Shape) → body_depth (group_slot g) ≡ shape_depth g
unfolding shape_depth
depth_of_group g = refl

pub entry_depth : (fs : Fields) (i : ℕ) (e : Entry) → field_at fs i ≡ Some e → body_depth e.body ≤ fields_depth fs
unfolding shape_depth
entry_depth no_fields i e h = absurd cc
entry_depth (field n m b fs) zero e h = let is : b ≡ e.body = ap (λ (o : Option Entry). elim o as (λ _. Body) [ None ↦ b | Some x ↦ x.body ]) h in subst (λ x. body_depth x ≤ max (body_depth b) (fields_depth fs)) is (omega arith)
entry_depth (field n m b fs) (suc i) e h = let more = entry_depth fs i e h in omega arith

-- ---- the first fields of a group that is cleared

unfoldable pub cleared_front : ℕ → Fields → Edit
cleared_front zero fs c = c
cleared_front (suc i) no_fields c = c
cleared_front (suc i) (field n m b fs) c = cleared_front i fs (edit_if (is_kept m) (cleared_body b) c)

pub front_none : (fs : Fields) (c : Cell) → cleared_front 0 fs c ≡ c
unfolding cleared_front
front_none fs c = refl

pub front_next : (i : ℕ) (fs : Fields) (c : Cell) → cleared_front (suc i) fs c ≡ cleared_entry (field_at fs i) (cleared_front i fs c)
unfolding cleared_front
front_next zero no_fields c = refl
front_next (suc i) no_fields c = refl
front_next zero (field n m b fs) c = refl
front_next (suc i) (field n m b fs) c = front_next i fs (edit_if (is_kept m) (cleared_body b) c)

front_all : (fs : Fields) (c : Cell) → cleared_front (field_count fs) fs c ≡ cleared_fields fs c
unfolding cleared_front cleared
front_all no_fields c = refl
front_all (field n m b fs) c = front_all fs (edit_if (is_kept m) (cleared_body b) c)

pub group_is : (g : Shape) (c : Cell) → cleared_front (field_count (fields_in g)) (fields_in g) (mark (union_in g) (Some 0) c) ≡ cleared g c
unfolding cleared
group_is (shape nid w p u fs) c = front_all fs (mark u (Some 0) c)

-- ---- single fields

module _ (s u : Segments) (p : StructPlace) where
  pub clears_void : (j : ℕ) → Edits s s p (cleared_body (void_slot j))
  unfolding cleared
  clears_void j = edits_none s p

  pub clears_plain : (q : PlainType) (at d w : ℕ) → w ≡ width q → SetsBits s u p at w 0 → Edits s u p (cleared_body (plain_slot q at d))
  unfolding cleared
  clears_plain q at d w e h = subst (λ w. Edits s u p (put_bits at w 0)) e h

  pub clears_pointer : (i : ℕ) (ty : Ty) (d : Option Tree) (r : Place) → i < p.pointers → r ≡ after (after (place_view p.start) p.data_words) i → ClearsValue s u r → Edits s u p (cleared_body (pointer_slot i ty d))
  unfolding cleared
  clears_pointer i ty d r l e h n section kids o =
      let o' = child_of_struct n s (place_view p.start) p.data_words p.pointers i p.data_words section kids l o in
      let cleared = subst (λ q. Replaces n s u q null) e (h n (child kids i) (subst (λ q. Owns n s q (child kids i)) (sym e) o')) in
      struct_of_child n s u (place_view p.start) p.data_words p.pointers i p.data_words section kids null l o cleared

  pub clears_group : (g : Shape) → Edits s u p (cleared g) → Edits s u p (cleared_body (group_slot g))
  unfolding cleared
  clears_group g h = h

pub clears_kept : (s u : Segments) (p : StructPlace) (e : Option Entry) (x : Entry) → e ≡ Some x → is_kept x.member ≡ true → Edits s u p (cleared_body x.body) → Edits s u p (cleared_entry e)
clears_kept s u p e x is k h = edits_alike s u p (cleared_body x.body) (cleared_entry e) (ap (λ b. edit_if b (cleared_body x.body)) (sym k) ∙ ap cleared_entry (sym is)) h

pub leaves_other : (s : Segments) (p : StructPlace) (e : Option Entry) (x : Entry) → e ≡ Some x → is_kept x.member ≡ false → Edits s s p (cleared_entry e)
leaves_other s p e x is k = edits_alike s s p (λ c. c) (cleared_entry e) (ap (λ b. edit_if b (cleared_body x.body)) (sym k) ∙ ap cleared_entry (sym is)) (edits_none s p)
