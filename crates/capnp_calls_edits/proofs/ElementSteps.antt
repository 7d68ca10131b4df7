-- A call that goes on inside an element: what it does to the struct or the value there, it does to the element.
use Rattle.std.proofs.Common.{◌≡◌, ◌≢◌, ℕ, ◌+◌, List, [], ◌∷◌, refl, subst, ap, arith}
use Rattle.capnp_model.specs.Segments.{Segments}
use Rattle.capnp_model.specs.Trees.{Tree, null, structure, child}
use Rattle.capnp_model.specs.Schemas.{Ty, struct, list, Shape, shape, Schema}
use Rattle.capnp_model.specs.Readings.{record_as, shape_record, read_child}
use Rattle.capnp_model.specs.Printing.{fields_in}
use Rattle.capnp_model.specs.Calls.{Step, name, index, Verb}
use Rattle.capnp_model.specs.Steps.{on_name, opened, through_value, step_field, step_element}
use Rattle.capnp_model.specs.Edits.{Cell, Edit, put_child, edit_named, edit_list, edit_field, edit_element, edit_value}
use Rattle.capnp_wire_objects.specs.declared.place.Place as code
use Rattle.capnp_wire_objects.specs.Places.{place_view}
use Rattle.capnp_model_writes.specs.Footprints.{OwnsObject}
use Rattle.capnp_model_writes.specs.Changes.{ReplacesObject}
use Rattle.capnp_copy_arenas.specs.Lists.{object_of_list}
use Rattle.capnp_copy_arenas.specs.Structs.{object_of_struct}
use Rattle.capnp_copy_arenas.specs.declared.fields.StructPlace.{StructPlace}
use Rattle.capnp_copy_arenas.specs.declared.init.ListPlace.{ListPlace}
use Rattle.capnp_values_queries.specs.Fields.{union_in}
use Rattle.capnp_values_queries.specs.Structs.{schema_around, shape_of_struct, id_of}
use Rattle.capnp_values_queries.specs.declared.structs.StructSchema.{StructSchema}
use Rattle.capnp_schema_structs.specs.Edits.{HoldsShape}
use Rattle.capnp_schema_lists.specs.Lists.{IsListOf, HasSizes, GrowsIn}
use Rattle.capnp_schema_lists.specs.Places.{IsStructAt}
use Rattle.capnp_schema_lists.specs.Parts.{cell_in, IsElementStruct, IsPointerOf, on_child}
use Rattle.capnp_calls.specs.Sizes.{IsDone}
use Rattle.capnp_calls.specs.Paths.{shape_edit}
use Rattle.capnp_model.proofs.lemmas.Paths.{read_child-is}
use Rattle.capnp_schema_structs.specs.Grown.{GrowsAround, GrowsBehind}
use Rattle.capnp_model.proofs.lemmas.EveryPath.{opened_null}
use Rattle.capnp_calls_edits.specs.Written.{EditsValueAt, value_outcome, value_edit}
use Rattle.capnp_calls_edits.specs.Elements.{IsDoneWithin, WritesWithin, IsElementDone, EditsElementAt}
use Rattle.capnp_calls_edits.proofs.lemmas.Outcomes.{unmapped}

-- ---- an element that is a struct

pub struct_within : (s : Schema) (id : ℕ) (path : List Step) (verb : Verb) (c : Cell) → path ≢ [] → IsElementDone s (struct id) path verb c → IsDoneWithin s (s.shape_of id) path verb c
unfolding step_element
struct_within s id [] verb c some h = absurd (some refl)
struct_within s id (index k ∷ rest) verb c some h = absurd h.1
struct_within s id (name n ∷ rest) verb c some h = (h.0, unmapped record_as (on_name (step_field s rest verb) n (fields_in (s.shape_of id)) (shape_record (s.shape_of id) h.0 c.section (read_child s c.kids))) h.1)

struct_edits : (s : Schema) (id : ℕ) (path : List Step) (verb : Verb) (words pointers : ℕ) (c : Cell) → path ≢ [] → IsElementDone s (struct id) path verb c → shape_edit s (s.shape_of id) path verb c ≡ edit_element s path verb (struct id) words pointers c
unfolding step_element edit_element
struct_edits s id [] verb words pointers c some h = absurd (some refl)
struct_edits s id (index k ∷ rest) verb words pointers c some h = absurd h.1
struct_edits s id (name n ∷ rest) verb words pointers c some h = by (s.shape_of id)
  where
    by : (g : Shape) → edit_named (edit_field s rest verb) n (union_in g) (fields_in g) c ≡ (elim g [ shape nid w p union fs ↦ edit_named (edit_field s rest verb) n union fs c ])
    by (shape nid w p union fs) = refl

module _ (s u : Segments) (o : ListPlace) (k : ℕ) (p : StructPlace) (parts : (n : ℕ) (t : Tree) → IsListOf o t → OwnsObject n s (object_of_list o) t → IsElementStruct n s o k p t) where
  pub element_written : (schema : StructSchema) (path : List Step) (verb : Verb) → path ≢ [] → WritesWithin s u p schema (record { path = path; verb = verb }) → EditsElementAt s u (record { place = o; at = k; around = schema_around schema; ty = struct (id_of schema) }) (record { path = path; verb = verb })
  element_written schema path verb some h n t is own is_done =
      let around = schema_around schema in
      let id = id_of schema in
      let x = parts n t is own in
      let c = cell_in t k in
      let w = h n c.section c.kids x.owns (struct_within around id path verb c some is_done) in
      let edit = struct_edits around id path verb p.data_words p.pointers c some is_done in
      let here : ReplacesObject (n + w.0) s u (object_of_struct p) (let d = edit_element around path verb (struct id) p.data_words p.pointers c in structure p.data_words d.section d.kids) =
      subst (λ (d : Cell). ReplacesObject (n + w.0) s u (object_of_struct p) (structure p.data_words d.section d.kids)) edit w.1 in
      (w.0, x.lifts (n + w.0) u (edit_element around path verb (struct id)) (omega arith) here)

  pub element_grows : GrowsAround s u p → GrowsIn s u o
  element_grows h n t is own =
      let x = parts n t is own in
      let c = cell_in t k in
      h n c.section c.kids x.owns

pub element_wide : (o : ListPlace) (k : ℕ) (p : StructPlace) (g : Shape) → IsStructAt o k p → HasSizes o g → (schema : StructSchema) → g ≡ shape_of_struct schema → HoldsShape p (shape_of_struct schema)
element_wide o k p g at has schema e =
    let sizes = subst (HasSizes o) e has in
    let words = sizes.words in
    let pointers = sizes.pointers in
    let same = at.data_words in
    let alike = at.pointers in
    record { words = omega (arith, words, same); pointers = omega (arith, pointers, alike) }

-- ---- an element that is a pointer to a list

pub value_within : (s : Schema) (e : Ty) (path : List Step) (verb : Verb) (c : Cell) → path ≢ [] → IsElementDone s (list e) path verb c → IsDone (value_outcome (record { around = s; ty = list e; default = null }) path verb (child c.kids 0))
unfolding step_element
value_within s e [] verb c some h = absurd (some refl)
value_within s e (st ∷ rest) verb c some h =
    subst (λ r. IsDone (through_value s st (step_field s rest verb) (step_element s rest verb) (list e) (opened s (list e) null r))) (read_child-is s c.kids 0 (list e)) h.1

value_edits : (s : Schema) (e : Ty) (path : List Step) (verb : Verb) → path ≢ [] → (words pointers : ℕ) (c : Cell) → on_child (value_edit (record { around = s; ty = list e; default = null }) path verb) words pointers c ≡ edit_element s path verb (list e) words pointers c
unfolding edit_element
value_edits s e [] verb some words pointers c = absurd (some refl)
value_edits s e (name n ∷ rest) verb some words pointers c = ap (λ x. put_child 0 (edit_value s (name n) (edit_field s rest verb) (edit_element s rest verb) (list e) x) c) (opened_null (list e) (child c.kids 0))
value_edits s e (index j ∷ rest) verb some words pointers c = ap (λ x. put_child 0 (edit_value s (index j) (edit_field s rest verb) (edit_element s rest verb) (list e) x) c) (opened_null (list e) (child c.kids 0))

module _ (s u : Segments) (o : ListPlace) (k : ℕ) (q : code.Place) (parts : (n : ℕ) (t : Tree) → IsListOf o t → OwnsObject n s (object_of_list o) t → IsPointerOf n s o k q t) where
  pub value_written : (around : Schema) (e : Ty) (path : List Step) (verb : Verb) → path ≢ [] → EditsValueAt s u (place_view q) (record { around = around; ty = list e; default = null }) (record { path = path; verb = verb }) → EditsElementAt s u (record { place = o; at = k; around = around; ty = list e }) (record { path = path; verb = verb })
  value_written around e path verb some h n t is own is_done =
      let x = parts n t is own in
      let c = cell_in t k in
      let w = h n (child c.kids 0) x.owns (value_within around e path verb c some is_done) in
      let lifted = x.lifts (n + w.0) u (value_edit (record { around = around; ty = list e; default = null }) path verb) (omega arith) w.1 in
      let same : on_child (value_edit (record { around = around; ty = list e; default = null }) path verb) ≡ edit_element around path verb (list e) = λ j words pointers c. value_edits around e path verb some words pointers c j in
      (w.0, subst (λ (f : ℕ → ℕ → Edit). ReplacesObject (n + w.0) s u (object_of_list o) (edit_list f k t)) same lifted)

  pub value_grows : GrowsBehind s u (place_view q) → GrowsIn s u o
  value_grows h n t is own =
      let x = parts n t is own in
      h n (child (cell_in t k).kids 0) x.owns
