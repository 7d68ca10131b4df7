-- What contracts see of gets of dynamic builders. (Encoding, "Structs" and "Lists")
use Rattle.std.specs.Prelude.{◌≡◌, ℕ, ℤ, List, Result}
use Rattle.capnp_model.specs.Accepted.{schema_of}
use Rattle.capnp_model.specs.Trees.{Tree, Trees, structure}
use Rattle.capnp_units.specs.declared.errors.Error.{Error}
use Rattle.capnp_model_writes.specs.Footprints.{OwnsObject}
use Rattle.capnp_copy_arenas.specs.Structs.{object_of_struct}
use Rattle.capnp_copy_arenas.specs.Lists.{object_of_list}
use Rattle.capnp_records.specs.Sets.{nodes_of}
use Rattle.capnp_values_queries.specs.Types.{ty_of}
use Rattle.capnp_values_queries.specs.declared.fields.Field.{Field}
use Rattle.capnp_schema_structs.specs.Builders.{struct_view_of, words_around_struct as words_of_struct, IsReady as IsStructReady}
use Rattle.capnp_schema_structs.specs.declared.dynamic_struct.Builder.{Builder as DynamicStruct}
use Rattle.capnp_schema_lists.specs.Builders.{words_around_list as words_of_list, IsReadyList as IsListReady}
use Rattle.capnp_schema_lists.specs.Readers.{list_of}
use Rattle.capnp_schema_lists.specs.Places.{typed_element}
use Rattle.capnp_schema_lists.specs.Lists.{IsListOf}
use Rattle.capnp_schema_lists.specs.declared.dynamic_list.Builder.{Builder as DynamicList}
use Rattle.capnp_schema_values.specs.declared.placed.Placed.{Placed}
use Rattle.capnp_schema_values.specs.Fields.{GetsField}
use Rattle.capnp_schema_values.specs.Elements.{GetsElement}

module _ {A : Type 0} (bytes : A → List (List ℕ)) (nesting : A → ℤ) where
  -- A field of a struct is got, by a handle that stays where it was.
  pub record GetsFieldByHandle (old new : DynamicStruct A) (f : Field) (r : Result Placed Error) : Type 0 where
    pub same : new.memory.ghost_name ≡ old.memory.ghost_name
    pub place : new.place ≡ old.place
    pub schema : new.schema ≡ old.schema
    pub gets : GetsField (struct_view_of bytes nesting old) (words_of_struct bytes old) (words_of_struct bytes new) old.place f r

  -- An element of a list.
  pub record GetsAt (old new : DynamicList A) (index : ℕ) (r : Result Placed Error) : Type 0 where
    pub same : new.memory.ghost_name ≡ old.memory.ghost_name
    pub place : new.place ≡ old.place
    pub set : new.set.now ≡ old.set.now
    pub element_type : new.element_type ≡ old.element_type
    pub gets : GetsElement (list_of bytes nesting old) (words_of_list bytes old) (words_of_list bytes new) (typed_element old.place index (schema_of (nodes_of old.set.now)) (ty_of old.element_type)) r

module _ {A : Type 0} (bytes : A → List (List ℕ)) where
  -- Whatever struct is owned there, the handle is still ready.
  abbrev pub KeepsReady : DynamicStruct A → DynamicStruct A → Type 0
  KeepsReady old new = (n section : ℕ) (kids : Trees) → OwnsObject n (words_of_struct bytes old) (object_of_struct old.place) (structure old.place.data_words section kids) → IsStructReady bytes new

  -- Whatever elements the list has, the same.
  abbrev pub KeepsListReady : DynamicList A → DynamicList A → Type 0
  KeepsListReady old new = (n : ℕ) (t : Tree) → IsListOf old.place t → OwnsObject n (words_of_list bytes old) (object_of_list old.place) t → IsListReady bytes new
