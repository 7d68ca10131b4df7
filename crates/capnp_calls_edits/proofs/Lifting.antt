-- A change of what lies behind a pointer is a change of what holds the pointer.
use Rattle.std.proofs.Common.{◌≡◌, ℕ, suc, ◌+◌, ◌<◌, List, sym, subst, arith}
use Rattle.capnp_model.specs.Segments.{Segments, Place, after}
use Rattle.capnp_model.specs.Pointers.{Found}
use Rattle.capnp_model.specs.Trees.{Tree, Trees, structure, child}
use Rattle.capnp_model.specs.Schemas.{Ty, Schema}
use Rattle.capnp_model.specs.Calls.{Step, Verb}
use Rattle.capnp_model.specs.Edits.{Cell, Edit, put_child}
use Rattle.capnp_model_writes.specs.Footprints.{Owns, OwnsObject}
use Rattle.capnp_model_writes.specs.Changes.{Replaces, ReplacesObject}
use Rattle.capnp_model_writes.proofs.lemmas.Lift.{object_of_pointer, pointer_of_object, child_of_struct, struct_of_child, replaced_owned, replaced_then}
use Rattle.capnp_model_writes.proofs.lemmas.Levels.{owned_more, replaced_more}
use Rattle.capnp_model_writes.proofs.lemmas.Turns.{struct_shape}
use Rattle.capnp_wire_objects.specs.Places.{place_view}
use Rattle.capnp_copy_arenas.specs.Structs.{object_of_struct}
use Rattle.capnp_copy_arenas.specs.Values.{LeadsTo}
use Rattle.capnp_copy_arenas.specs.declared.fields.StructPlace.{StructPlace}
use Rattle.capnp_schema_structs.specs.Edits.{Edits}
use Rattle.capnp_schema_structs.specs.Puts.{Deepens}
use Rattle.capnp_schema_structs.proofs.lemmas.Deeper.{object_owned_more}
use Rattle.capnp_calls.specs.Sizes.{IsDone}
use Rattle.capnp_calls_edits.specs.Written.{EditsWhere, value_outcome, value_edit, EditsValueAt}

-- ---- the struct behind a pointer

-- the cell of data and children
abbrev pub cell : ℕ → Trees → Cell
cell section kids = record { section = section; kids = kids }

-- the value of a pointer to a struct is a struct of its words, and an edit of it makes that value another
pub record Lifted (n : ℕ) (s v : Segments) (p : Place) (words : ℕ) (t : Tree) (f : Edit) : Type 0 where
  pub section : ℕ
  pub kids : Trees
  pub is : t ≡ structure words section kids
  pub more : ℕ
  pub replaces : Replaces (n + more) s v p (structure words (f (cell section kids)).section (f (cell section kids)).kids)

module _ (s u v : Segments) (p : Place) (o : StructPlace) (Holds : Cell → Type 0) (f : Edit) where
  pub behind_pointer : (n : ℕ) (t t1 : Tree) → Owns n s p t → LeadsTo u p (object_of_struct o) → Replaces (n + 65) s u p t1 → EditsWhere Holds u v o f
      → ((section : ℕ) (kids : Trees) → t1 ≡ structure o.data_words section kids → Holds (cell section kids)) → Lifted n s v p o.data_words t1 f
  behind_pointer n t t1 own leads got edits holds =
      let first : Owns (n + 65) s p t = owned_more n (n + 65) s p t (omega arith) own in
      let deep : n + 65 ≡ suc (n + 64) = omega arith in
      let now : Owns (suc (n + 64)) u p t1 = subst (λ k. Owns k u p t1) deep (replaced_owned (n + 65) s u p t t1 first got) in
      let found : Found = record { pads = leads.0; object = object_of_struct o } in
      let inner : OwnsObject (n + 64) u (object_of_struct o) t1 = object_of_pointer (n + 64) u p found t1 leads.1 now in
      let shape = struct_shape (n + 64) u (place_view o.start) o.data_words o.pointers t1 inner in
      let section : ℕ = shape.0 in
      let kids : Trees = shape.1 in
      let inner_struct : OwnsObject (n + 64) u (object_of_struct o) (structure o.data_words section kids) = subst (λ x. OwnsObject (n + 64) u (object_of_struct o) x) shape.2 inner in
      let w = edits (n + 64) section kids inner_struct (holds section kids shape.2) in
      let d : Cell = f (cell section kids) in
      let new : Tree = structure o.data_words d.section d.kids in
      let levels : ℕ = suc (n + 64 + w.0) in
      let wider : Owns levels u p t1 = owned_more (suc (n + 64)) levels u p t1 (omega arith) now in
      let out : Replaces levels u v p new = pointer_of_object (n + 64 + w.0) u v p found t1 new leads.1 wider w.1 in
      let before : Replaces levels s u p t1 = replaced_more (n + 65) levels s u p t t1 (omega arith) first got in
      let whole : Replaces levels s v p new = replaced_then levels s u v p t1 new before out in
      let sum : levels ≡ n + (65 + w.0) = omega arith in
      record {
        section = section;
        kids = kids;
        is = shape.2;
        more = 65 + w.0;
        replaces = subst (λ k. Replaces k s v p new) sum whole;
      }

-- ---- a child of a struct

module _ (s u : Segments) (p : StructPlace) (i : ℕ) (r : Place) (around : Schema) (ty : Ty) (d : Tree) (path : List Step) (verb : Verb) where
  pub through_child : i < p.pointers → r ≡ after (after (place_view p.start) p.data_words) i → EditsValueAt s u r (record { around = around; ty = ty; default = d }) (record { path = path; verb = verb })
      → EditsWhere (λ c. IsDone (value_outcome (record { around = around; ty = ty; default = d }) path verb (child c.kids i))) s u p (λ c. put_child i (value_edit (record { around = around; ty = ty; default = d }) path verb (child c.kids i)) c)
  through_child l e h n section kids o done =
      let owned = child_of_struct n s (place_view p.start) p.data_words p.pointers i p.data_words section kids l o in
      let t : Tree = child kids i in
      let new : Tree = value_edit (record { around = around; ty = ty; default = d }) path verb t in
      let w = h n t (subst (λ q. Owns n s q t) (sym e) owned) done in
      let here = subst (λ q. Replaces (n + w.0) s u q new) e w.1 in
      let more = object_owned_more n (n + w.0) s (object_of_struct p) (structure p.data_words section kids) (omega arith) o in
      (w.0, struct_of_child (n + w.0) s u (place_view p.start) p.data_words p.pointers i p.data_words section kids new l more here)

-- ---- edits with other tests, or other words for what they make

pub edits_alike : (s u : Segments) (p : StructPlace) (A B : Cell → Type 0) (f g : Edit) → ((c : Cell) → B c → A c × (f c ≡ g c)) → EditsWhere A s u p f → EditsWhere B s u p g
edits_alike s u p A B f g same h n section kids o holds =
    let x = same (cell section kids) holds in
    let w = h n section kids o x.0 in
    (w.0, subst (λ (c : Cell). ReplacesObject (n + w.0) s u (object_of_struct p) (structure p.data_words c.section c.kids)) x.1 w.1)

-- an edit in place, and one that adds a level
pub edits_any : (s u : Segments) (p : StructPlace) (A : Cell → Type 0) (f : Edit) → Edits s u p f → EditsWhere A s u p f
edits_any s u p A f h n section kids o holds =
    let e : n ≡ n + 0 = omega arith in
    let d : Cell = f (cell section kids) in
    (0, subst (λ k. ReplacesObject k s u (object_of_struct p) (structure p.data_words d.section d.kids)) e (h n section kids o))

pub deepens_any : (s u : Segments) (p : StructPlace) (A : Cell → Type 0) (f : Edit) → Deepens s u p f → EditsWhere A s u p f
deepens_any s u p A f h n section kids o holds =
    let e : suc n ≡ n + 1 = omega arith in
    let d : Cell = f (cell section kids) in
    (1, subst (λ k. ReplacesObject k s u (object_of_struct p) (structure p.data_words d.section d.kids)) e (h n section kids o))
