-- Fields that `init` begins. (Encoding, "Structs")
use Rattle.std.specs.Prelude.{◌≡◌, Bool, true, false, Option, Some, None, IfSome, Result}
use Rattle.capnp_model.specs.Kinds.{TypeMismatch}
use Rattle.capnp_model.specs.Segments.{Segments}
use Rattle.capnp_model.specs.Schemas.{Ty, void, plain, text, blob, untyped, interface, struct, list, Schema, Body, void_slot, plain_slot, pointer_slot, group_slot}
use Rattle.capnp_model.specs.Calls.{Content, refused_by, bits_of, init, slot_content}
use Rattle.capnp_copy_arenas.specs.declared.fields.StructPlace.{StructPlace}
use Rattle.capnp_values_queries.specs.Fields.{Entry}
use Rattle.capnp_values_queries.specs.Handles.{entry_of_field}
use Rattle.capnp_values_queries.specs.declared.fields.Field.{Field}
use Rattle.capnp_units.specs.declared.errors.Error.{Error}
use Rattle.capnp_layout_builders.specs.Making.{ArenaState}
use Rattle.capnp_values_queries.specs.Structs.{schema_around, shape_of_struct}
use Rattle.capnp_schema_structs.specs.Calls.{edit_of}
use Rattle.capnp_schema_structs.specs.Puts.{PutsContent}
use Rattle.capnp_schema_structs.specs.Edits.{IsThere, HoldsShape}
use Rattle.capnp_schema_structs.specs.Inits.{LiesBehind}
use Rattle.capnp_schema_structs.specs.declared.init.Part.{Part}

-- What `init` puts into a field: a struct of zeros and nulls, or null; a group is cleared.
abbrev pub begun_body : Schema → Body → Content
begun_body s (void_slot j) = slot_content s init (void_slot j)
begun_body s (plain_slot p at d) = slot_content s init (plain_slot p at d)
begun_body s (pointer_slot i ty d) = slot_content s init (pointer_slot i ty d)
begun_body s (group_slot g) = bits_of 0

-- What `init` puts into a field of an index, if there is one.
abbrev pub begun_field : Schema → Option Entry → Content
begun_field s None = refused_by TypeMismatch
begun_field s (Some e) = begun_body s e.body

-- The type is an untyped pointer's.
abbrev pub is_untyped : Ty → Bool
is_untyped void = false
is_untyped (plain p) = false
is_untyped text = false
is_untyped blob = false
is_untyped untyped = true
is_untyped interface = false
is_untyped (struct id) = false
is_untyped (list ty) = false

-- Where a struct or a group lies that was begun, and under which schema. A group is where its
-- holder is, a struct behind the slot's pointer, with its schema's sizes at least.
abbrev pub PartLies : Segments → Segments → StructPlace → Schema → Body → Part → Type 0
PartLies s u p around (void_slot j) part = ⊥
PartLies s u p around (plain_slot q at d) part = ⊥
PartLies s u p around (pointer_slot i ty d) part = LiesBehind s u p around (pointer_slot i ty d) part.place part.schema × HoldsShape part.place (shape_of_struct part.schema)
PartLies s u p around (group_slot g) part = (part.place ≡ p) × (schema_around part.schema ≡ around) × (shape_of_struct part.schema ≡ g)

-- Of an untyped slot no part is told.
abbrev pub has_no_part : Body → Bool
has_no_part (void_slot j) = false
has_no_part (plain_slot p at d) = false
has_no_part (pointer_slot i ty d) = is_untyped ty
has_no_part (group_slot g) = false

-- What is told of a field that was begun.
abbrev pub TellsPart : Segments → Segments → StructPlace → Schema → Body → Option Part → Type 0
TellsPart s u p around b None = has_no_part b ≡ true
TellsPart s u p around b (Some part) = PartLies s u p around b part

-- What is told of a field of an index that was begun.
abbrev pub TellsBegun : Segments → Segments → StructPlace → Schema → Option Entry → Option Part → Type 0
TellsBegun s u p around None o = ⊥
TellsBegun s u p around (Some e) o = TellsPart s u p around e.body o

-- The part is there, and has at least its schema's sizes.
pub record IsPartThere (u : Segments) (part : Part) : Type 0 where
  pub there : IsThere u part.place
  pub wide : HoldsShape part.place (shape_of_struct part.schema)

-- ---- in a field

-- A field is begun: what is put, what is told, and that what is told is there.
abbrev pub PutsBegun : {X : Type 0} → ArenaState → ArenaState → StructPlace → Field → Result X Error → Type 0
PutsBegun old new p f r = PutsContent old new p (edit_of f init) (begun_field (schema_around f.parent) (entry_of_field f)) r

abbrev pub TellsBegunField : Segments → Segments → StructPlace → Field → Option Part → Type 0
TellsBegunField s u p f o = TellsBegun s u p (schema_around f.parent) (entry_of_field f) o

abbrev pub IsThereIfTold : Segments → Option Part → Type 0
IsThereIfTold u o = IfSome o (IsPartThere u)
