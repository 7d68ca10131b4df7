-- What contracts see of struct builders. (Encoding, "Structs")
use Rattle.std.specs.Prelude.{◌≡◌, true, ⊤, ℕ, ℤ, List, length, map, Option, IfSome, Result, OnErr, IfErr}
use Rattle.capnp_model.specs.Segments.{Segments}
use Rattle.capnp_model.specs.Calls.{Content}
use Rattle.capnp_model.specs.Edits.{Edit}
use Rattle.capnp_units.specs.Segments.{words_in}
use Rattle.capnp_units.specs.declared.errors.Error.{Error}
use Rattle.capnp_wire_objects.specs.Places.{place_view}
use Rattle.capnp_wire.specs.Views.{StructView, struct_at}
use Rattle.capnp_values_queries.specs.Structs.{schema_around, shape_of_struct}
use Rattle.capnp_values_queries.specs.Handles.{entry_of_field}
use Rattle.capnp_values_queries.specs.declared.fields.Field.{Field}
use Rattle.capnp_copy_values.specs.Copies.{GrowsByZeros}
use Rattle.capnp_layout_builders.specs.Making.{state_of}
use Rattle.capnp_schema_structs.specs.Edits.{IsThere, HoldsShape, Edits}
use Rattle.capnp_schema_structs.specs.Puts.{PutsContent, HasCause}
use Rattle.capnp_schema_structs.specs.Inits.{LiesIn}
use Rattle.capnp_schema_structs.specs.Begun.{TellsBegun, IsPartThere}
use Rattle.capnp_schema_structs.specs.Values.{Given, PutsGiven, sets_no_group}
use Rattle.capnp_schema_structs.specs.declared.init.Part.{Part}
use Rattle.capnp_schema_structs.specs.declared.dynamic_struct.Builder.{Builder}

module _ {A : Type 0} (bytes : A → List (List ℕ)) where
  -- The words of the message.
  abbrev pub words_around_struct : Builder A → Segments
  words_around_struct b = words_in (bytes b.memory.now.arena)

  -- The struct's words are there, and it has at least its schema's sizes.
  pub record IsReady (b : Builder A) : Type 0 where
    pub there : IsThere (words_around_struct b) b.place
    pub wide : HoldsShape b.place (shape_of_struct b.schema)

  -- The struct becomes what the edit makes of it, and nothing else changes.
  abbrev pub WritesEdit : Builder A → Builder A → Edit → Type 0
  WritesEdit old new f = Edits (words_around_struct old) (words_around_struct new) old.place f

  -- The struct becomes what the edit makes of it, by a handle that stays where it was, in a message
  -- whose segments keep their lengths.
  pub record WritesInPlace (old new : Builder A) (f : Edit) : Type 0 where
    pub same : new.memory.ghost_name ≡ old.memory.ghost_name
    pub place : new.place ≡ old.place
    pub schema : new.schema ≡ old.schema
    pub sizes : map length (words_around_struct new) ≡ map length (words_around_struct old)
    pub writes : WritesEdit old new f

  -- The handle and the message are as they were.
  pub record StructStays (old new : Builder A) : Type 0 where
    pub same : new.memory.ghost_name ≡ old.memory.ghost_name
    pub place : new.place ≡ old.place
    pub schema : new.schema ≡ old.schema
    pub bytes_stay : bytes new.memory.now.arena ≡ bytes old.memory.now.arena

  -- The struct as readers see it, under the arena's nesting limit.
  abbrev pub struct_view_of : (A → ℤ) → Builder A → StructView
  struct_view_of nesting b = struct_at (bytes b.memory.now.arena) (nesting b.memory.now.arena) (place_view b.place.start) b.place.data_words b.place.pointers

module _ {A : Type 0} (segments : A → List (List ℕ)) (room : A → List ℕ) (books : A → List (List ℕ)) where
  -- Content is put into a field of the struct, by a handle that stays where it was; where an object isn't made, `told` says of the error why.
  pub record Puts {X : Type 0} (told : Error → Type 0) (old new : Builder A) (f : Edit) (content : Content) (r : Result X Error) : Type 0 where
    pub same : new.memory.ghost_name ≡ old.memory.ghost_name
    pub place : new.place ≡ old.place
    pub schema : new.schema ≡ old.schema
    pub puts : PutsContent (state_of segments room books old.memory.now) (state_of segments room books new.memory.now) old.place f content r
    pub cause : IfErr r (HasCause content told)

  -- What is given for a value is put into a field of the struct, by a handle that stays where it
  -- was. After a refusal all words stand, and new ones are zero, but where a group was to be set to
  -- a struct. Where memory lacks, `told` says of the error why.
  pub record Sets (told : Error → Type 0) (old new : Builder A) (f : Field) (given : Given) (r : Result ⊤ Error) : Type 0 where
    pub same : new.memory.ghost_name ≡ old.memory.ghost_name
    pub place : new.place ≡ old.place
    pub schema : new.schema ≡ old.schema
    pub puts : PutsGiven told (state_of segments room books old.memory.now) (state_of segments room books new.memory.now) old.place f given r
    pub stands : sets_no_group given ≡ true → OnErr r (GrowsByZeros (words_around_struct segments old) (words_around_struct segments new))

-- The struct that was put into a field: where it lies behind the field's pointer, under which schema; it is there, and has its sizes.
pub record IsPartOf {A : Type 0} (bytes : A → List (List ℕ)) (old new : Builder A) (f : Field) (part : Part) : Type 0 where
  pub lies : LiesIn (words_around_struct bytes old) (words_around_struct bytes new) old.place (schema_around f.parent) (entry_of_field f) part.place part.schema
  pub there : IsPartThere (words_around_struct bytes new) part

-- What is told of a field that `init` began: of a struct or a group, where it lies under which schema; it is there, and wide enough.
pub record IsBegunBy {A : Type 0} (bytes : A → List (List ℕ)) (old new : Builder A) (f : Field) (part : Option Part) : Type 0 where
  pub tells : TellsBegun (words_around_struct bytes old) (words_around_struct bytes new) old.place (schema_around f.parent) (entry_of_field f) part
  pub there : IfSome part (IsPartThere (words_around_struct bytes new))
