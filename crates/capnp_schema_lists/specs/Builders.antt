-- What contracts see of list builders. (Encoding, "Lists")
use Rattle.std.specs.Prelude.{◌≡◌, ⊤, ℕ, List, Result, OnOk, IfErr, true}
use Rattle.capnp_model.specs.Segments.{Segments}
use Rattle.capnp_model.specs.Accepted.{schema_of}
use Rattle.capnp_model.specs.Schemas.{struct}
use Rattle.capnp_model.specs.Calls.{Content}
use Rattle.capnp_model.specs.Edits.{Edit}
use Rattle.capnp_units.specs.Segments.{words_in}
use Rattle.capnp_units.specs.declared.errors.Error.{Error}
use Rattle.capnp_copy_values.specs.Copies.{GrowsByZeros}
use Rattle.capnp_layout_builders.specs.Making.{state_of}
use Rattle.capnp_records.specs.Sets.{nodes_of}
use Rattle.capnp_values_queries.specs.Structs.{nodes_around, shape_of_struct, id_of}
use Rattle.capnp_values_queries.specs.Types.{ty_of, is_type_of}
use Rattle.capnp_schema_structs.specs.Edits.{IsThere, HoldsShape}
use Rattle.capnp_schema_structs.specs.Puts.{HasCause}
use Rattle.capnp_schema_structs.specs.declared.init.Part.{Part}
use Rattle.capnp_schema_lists.specs.Lists.{IsListThere}
use Rattle.capnp_schema_lists.specs.Elements.{Holds, HoldsStructs}
use Rattle.capnp_schema_lists.specs.Places.{IsStructAt}
use Rattle.capnp_schema_lists.specs.Puts.{PutsElementContent}
use Rattle.capnp_schema_lists.specs.Values.{GivenElement, PutsElementGiven}
use Rattle.capnp_schema_lists.specs.declared.dynamic_list.Builder.{Builder}

module _ {A : Type 0} (bytes : A → List (List ℕ)) where
  -- The words of the message.
  abbrev pub words_around_list : Builder A → Segments
  words_around_list b = words_in (bytes b.memory.now.arena)

  -- The list is there, with elements of its type.
  pub record IsReadyList (b : Builder A) : Type 0 where
    pub there : IsListThere (words_around_list b) b.place
    pub holds : Holds b.place (ty_of b.element_type)
    pub sizes : HoldsStructs (schema_of (nodes_of b.set.now)) b.place (ty_of b.element_type)
    pub known : is_type_of (nodes_of b.set.now) b.element_type ≡ true

  -- Where the struct at an index lies, and under which schema: the elements'. It is there, and wide enough.
  pub record IsPartAt (b : Builder A) (index : ℕ) (part : Part) : Type 0 where
    pub lies : IsStructAt b.place index part.place
    pub there : IsThere (words_around_list b) part.place
    pub wide : HoldsShape part.place (shape_of_struct part.schema)
    pub nodes : nodes_around part.schema ≡ nodes_of b.set.now
    pub named : ty_of b.element_type ≡ struct (id_of part.schema)

  -- The handle and the message are as they were.
  pub record ListStays (old new : Builder A) : Type 0 where
    pub same : new.memory.ghost_name ≡ old.memory.ghost_name
    pub place : new.place ≡ old.place
    pub set : new.set.now ≡ old.set.now
    pub element_type : new.element_type ≡ old.element_type
    pub bytes_stay : bytes new.memory.now.arena ≡ bytes old.memory.now.arena

  -- The handle is as it was and ready, and all words of the message stand; new ones are zero.
  pub record KeepsWords (old new : Builder A) : Type 0 where
    pub same : new.memory.ghost_name ≡ old.memory.ghost_name
    pub place : new.place ≡ old.place
    pub set : new.set.now ≡ old.set.now
    pub element_type : new.element_type ≡ old.element_type
    pub stands : GrowsByZeros (words_around_list old) (words_around_list new)
    pub ready : IsReadyList new

module _ {A : Type 0} (segments : A → List (List ℕ)) (room : A → List ℕ) (books : A → List (List ℕ)) where
  -- Content is put into an element, by a handle that stays where it was; where an object isn't made, `told` says of the error why.
  pub record PutsElement (told : Error → Type 0) (old new : Builder A) (f : ℕ → ℕ → Edit) (index : ℕ) (content : Content) (r : Result ⊤ Error) : Type 0 where
    pub same : new.memory.ghost_name ≡ old.memory.ghost_name
    pub place : new.place ≡ old.place
    pub set : new.set.now ≡ old.set.now
    pub element_type : new.element_type ≡ old.element_type
    pub puts : PutsElementContent (state_of segments room books old.memory.now) (state_of segments room books new.memory.now) (record { place = old.place; at = index; edit = f }) content r
    pub cause : IfErr r (HasCause content told)

  -- What is given for a value is put into an element, by a handle that stays where it was; where memory lacks, `told` says of the error why.
  pub record SetsElementByHandle (told : Error → Type 0) (old new : Builder A) (f : ℕ → ℕ → Edit) (index : ℕ) (given : GivenElement) (r : Result ⊤ Error) : Type 0 where
    pub same : new.memory.ghost_name ≡ old.memory.ghost_name
    pub place : new.place ≡ old.place
    pub set : new.set.now ≡ old.set.now
    pub element_type : new.element_type ≡ old.element_type
    pub puts : PutsElementGiven told (state_of segments room books old.memory.now) (state_of segments room books new.memory.now) (record { place = old.place; at = index; edit = f }) given r
