-- Calls along paths through lists, written where the lists and their elements lie. (Encoding, "Lists")
use Rattle.std.specs.Prelude.{ℕ, ◌+◌, ◌*◌, ◌%◌, ◌^◌, ◌<◌, ◌≡◌, true, List, [], Option, Some, None}
use Rattle.capnp_model.specs.Segments.{Segments}
use Rattle.capnp_model.specs.Trees.{Tree, null, capability, Trees, structure, plain_list, pointer_list, struct_list, tree_count, element_count, resized}
use Rattle.capnp_model.specs.Schemas.{Ty, Shape, Schema}
use Rattle.capnp_model.specs.Readings.{Extent, is_accepted_as, expected_size, shape_record, read_child, body_of, element_as}
use Rattle.capnp_model.specs.Printing.{fields_in}
use Rattle.capnp_model.specs.Calls.{Step, Verb, Call}
use Rattle.capnp_model.specs.Steps.{step_path, step_field, step_element}
use Rattle.capnp_model.specs.Edits.{Cell, as_list, edit_list, edit_element}
use Rattle.capnp_wire_objects.specs.declared.place.Place as code
use Rattle.capnp_wire_objects.specs.Places.{place_view}
use Rattle.capnp_wire.specs.Reads.{list_head}
use Rattle.capnp_model_writes.specs.Footprints.{Owns, OwnsObject}
use Rattle.capnp_model_writes.specs.Changes.{ReplacesObject}
use Rattle.capnp_copy_arenas.specs.Lists.{object_of_list}
use Rattle.capnp_copy_arenas.specs.Structs.{object_of_struct}
use Rattle.capnp_copy_arenas.specs.Values.{LeadsTo}
use Rattle.capnp_copy_arenas.specs.declared.fields.StructPlace.{StructPlace}
use Rattle.capnp_copy_arenas.specs.declared.init.ListPlace.{ListPlace}
use Rattle.capnp_layout_builders.specs.Gets.{Gets}
use Rattle.capnp_values_queries.specs.Fields.{Entry}
use Rattle.capnp_values_queries.specs.Structs.{schema_around, shape_of_struct}
use Rattle.capnp_values_queries.specs.Handles.{entry_of_field}
use Rattle.capnp_values_queries.specs.declared.structs.StructSchema.{StructSchema}
use Rattle.capnp_values_queries.specs.declared.fields.Field.{Field}
use Rattle.capnp_schema_lists.specs.Lists.{IsListThere, IsListOf}
use Rattle.capnp_schema_lists.specs.Parts.{cell_in}
use Rattle.capnp_schema_lists.specs.Places.{ElementAt}
use Rattle.capnp_calls.specs.Sizes.{IsDone}
use Rattle.capnp_calls.specs.Paths.{shape_edit}
use Rattle.capnp_calls_edits.specs.Written.{EditsWhere, ClaimsWhere, edit_at}

-- ---- at a struct or a field

-- A plain element that stands for a struct is read no further than its own bits. Once its list is
-- widened it is read as a whole word, where its union may have another active member. So the record
-- machine does a call there as it reads the data to some extent, whichever it is.
abbrev pub IsDoneWithin : Schema → Shape → List Step → Verb → Cell → Type 0
IsDoneWithin s g path verb c = (e : Extent) × IsDone (step_path s (fields_in g) path verb (shape_record g e c.section (read_child s c.kids)))

-- Where it does, the struct's data and children become what the call's edit makes of them.
abbrev pub WritesWithin : Segments → Segments → StructPlace → StructSchema → Call → Type 0
WritesWithin s u p g c = EditsWhere (IsDoneWithin (schema_around g) (shape_of_struct g) c.path c.verb) s u p (shape_edit (schema_around g) (shape_of_struct g) c.path c.verb)

-- Where the record machine does the call so: the claim.
abbrev pub WhereDoneWithin : Segments → StructPlace → StructSchema → Call → Type 0 → Type 0
WhereDoneWithin s p g c Claim = ClaimsWhere (IsDoneWithin (schema_around g) (shape_of_struct g) c.path c.verb) s p Claim

-- The record machine does the rest of a call at a field that is active, read to some extent; at none it does nothing.
abbrev pub IsFieldDone : Field → List Step → Verb → Option Entry → Cell → Type 0
IsFieldDone f path verb None c = ⊥
IsFieldDone f path verb (Some e) c = let s = schema_around f.parent in (x : Extent) × IsDone (step_field s path verb e.body (body_of e.body x c.section (read_child s c.kids)))

-- Where it does, the struct becomes what it makes of it.
abbrev pub WritesFieldWithin : Segments → Segments → StructPlace → Field → Call → Type 0
WritesFieldWithin s u p f c = EditsWhere (IsFieldDone f c.path c.verb (entry_of_field f)) s u p (edit_at f c.path c.verb (entry_of_field f))

-- Where it does: the claim.
abbrev pub WhereFieldDone : Segments → StructPlace → Field → Call → Type 0 → Type 0
WhereFieldDone s p f c Claim = ClaimsWhere (IsFieldDone f c.path c.verb (entry_of_field f)) s p Claim

-- ---- at an element

-- The record machine does the rest of a call at an element of a type, read to some extent.
abbrev pub IsElementDone : Schema → Ty → List Step → Verb → Cell → Type 0
IsElementDone s ty path verb c = (e : Extent) × IsDone (step_element s path verb ty (element_as s ty e c.section (read_child s c.kids)))

-- What a call does where its path ends.
abbrev pub call_at_end : Verb → Call
call_at_end verb = record { path = []; verb = verb }

-- Whatever elements the list has: where the rest of a call is done at the one of the index, that
-- becomes what it makes of it. Some levels of pointers may be new, and nothing else changes.
abbrev pub EditsElementAt : Segments → Segments → ElementAt → Call → Type 0
EditsElementAt s u x c =
    (n : ℕ) (t : Tree) → IsListOf x.place t → OwnsObject n s (object_of_list x.place) t → IsElementDone x.around x.ty c.path c.verb (cell_in t x.at)
    → (more : ℕ) × ReplacesObject (n + more) s u (object_of_list x.place) (edit_list (edit_element x.around c.path c.verb x.ty) x.at t)

-- Where it is done at that element: the claim.
abbrev pub WhereElementDone : Segments → ElementAt → Call → Type 0 → Type 0
WhereElementDone s x c Claim = (n : ℕ) (t : Tree) → IsListOf x.place t → OwnsObject n s (object_of_list x.place) t → IsElementDone x.around x.ty c.path c.verb (cell_in t x.at) → Claim

-- Where the record machine does the end of a call at an element, whatever stands there: the claim.
abbrev pub WhereElementTakes : Schema → Ty → Verb → Type 0 → Type 0
WhereElementTakes around ty verb Claim = (c : Cell) → IsElementDone around ty [] verb c → Claim

-- ---- lists that are got

-- How many elements a list has; other values have none.
abbrev pub list_count : Tree → ℕ
list_count (plain_list size n section) = n
list_count (pointer_list ts) = tree_count ts
list_count (struct_list words pointers es) = element_count es
list_count t = 0

-- A list is there, and whatever value it has, its place tells of.
pub record IsListFound (s : Segments) (o : ListPlace) : Type 0 where
  pub there : IsListThere s o
  pub values : (n : ℕ) (t : Tree) → OwnsObject n s (object_of_list o) t → IsListOf o t

-- A list of elements of a type is got: a default in place of null. Where the elements are structs,
-- it is a list of structs of their schema's sizes at least. Where it has an element, the pointer
-- leads to it.
pub record ListBehind (default : Option (List (List ℕ))) (s u : Segments) (slot : code.Place) (around : Schema) (ty : Ty) (o : ListPlace) : Type 0 where
  pub value : Gets default s u (place_view slot) (as_list around ty)
  pub object : 0 < o.count → LeadsTo u (place_view slot) (object_of_list o)
  pub found : 0 < o.count → IsListFound u o
  pub counts : (n : ℕ) (t : Tree) → Owns n u (place_view slot) t → o.count ≡ list_count t
  pub accepted : 0 < o.count → is_accepted_as (expected_size ty) (list_head o.size o.data_words o.pointers) ≡ true

-- ---- values of messages

-- A struct, or null.
abbrev pub IsOfStruct : Tree → Type 0
IsOfStruct null = Unit {0}
IsOfStruct (capability i) = ⊥
IsOfStruct (structure words section kids) = Unit {0}
IsOfStruct (plain_list size n section) = ⊥
IsOfStruct (pointer_list ts) = ⊥
IsOfStruct (struct_list words pointers es) = ⊥

-- Whatever struct is owned there takes over the content of a struct, as far as it fits, where 65 levels of pointers may be new, and nothing else changes.
abbrev pub TakesTree : Segments → Segments → StructPlace → Tree → Type 0
TakesTree s u p (structure w section kids) =
    (n own : ℕ) (old : Trees) → OwnsObject n s (object_of_struct p) (structure p.data_words own old)
    → ReplacesObject (n + 65) s u (object_of_struct p) (structure p.data_words (section % 2 ^ (64 * p.data_words)) (resized p.pointers kids))
TakesTree s u p t = Unit {0}
