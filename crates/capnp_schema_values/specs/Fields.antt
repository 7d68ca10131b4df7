-- Fields of structs that are got to be written. (Encoding, "Structs")
use Rattle.std.specs.Prelude.{◌≡◌, ℕ, Option, Some, Result, IfOk, IfErr}
use Rattle.capnp_model.specs.Segments.{Segments, after}
use Rattle.capnp_model.specs.Schemas.{Field as FieldNode, Body, void_slot, plain_slot, pointer_slot, group_slot, width, Value, Schema}
use Rattle.capnp_model.specs.Accepted.{field_body}
use Rattle.capnp_units.specs.declared.errors.Error.{Error}
use Rattle.capnp_wire_objects.specs.declared.place.Place as code
use Rattle.capnp_wire_objects.specs.Places.{place_view}
use Rattle.capnp_wire.specs.Views.{StructView}
use Rattle.capnp_copy_arenas.specs.declared.fields.StructPlace.{StructPlace}
use Rattle.capnp_values_queries.specs.Structs.{schema_around, shape_of_struct}
use Rattle.capnp_values_queries.specs.Handles.{IsFieldRecord}
use Rattle.capnp_values_queries.specs.declared.fields.Field.{Field}
use Rattle.capnp_values.specs.Shown.{number_shown, default_said}
use Rattle.capnp_values.specs.Sources.{masked_bits}
use Rattle.capnp_schema_values.specs.declared.placed.Placed.{Placed}
use Rattle.capnp_schema_values.specs.declared.placed.Placed.TheVariants as placed
use Rattle.capnp_schema_values.specs.Plain.{placed_shown}
use Rattle.capnp_schema_values.specs.Slots.{IsStruct, IsGot, IsNotGot}

-- The pointer of a number of a struct is the one at this place.
abbrev pub IsSlotOf : StructPlace → ℕ → code.Place → Type 0
IsSlotOf p i slot = place_view slot ≡ after (after (place_view p.start) p.data_words) i

-- A struct that lies in a message: its place, how readers see it, and the schema around it.
pub record StructRead : Type 0 where
  pub place : StructPlace
  pub seen : StructView
  pub around : Schema

-- What a field is got as by its body, of a struct. A plain one is got by its bits, exclusive or
-- those of its default; one behind a pointer as its type is got. A group is got as the same struct
-- under its own shape. Only behind pointers something is written.
abbrev pub IsFieldGot : Body → Option Value → StructRead → Segments → Segments → Placed → Type 0
IsFieldGot (void_slot j) d x s u v = (u ≡ s) × (v ≡ placed.Void)
IsFieldGot (plain_slot q at n) d x s u v = (u ≡ s) × (placed_shown v ≡ Some (number_shown x.around q (masked_bits x.seen at (width q) n)))
IsFieldGot (pointer_slot i ty t) d x s u v = (slot : code.Place) × IsSlotOf x.place i slot × IsGot ty (record { slot = slot; around = x.around; default = d }) s u v
IsFieldGot (group_slot g) d x s u v = (u ≡ s) × IsStruct (λ part. (part.place ≡ x.place) × (schema_around part.schema ≡ x.around) × (shape_of_struct part.schema ≡ g)) v

-- Why it isn't got, and what stands then: only what lies behind pointers is refused.
abbrev pub IsFieldNotGot : Body → Option Value → StructRead → Segments → Segments → Error → Type 0
IsFieldNotGot (void_slot j) d x s u e = ⊥
IsFieldNotGot (plain_slot q at n) d x s u e = ⊥
IsFieldNotGot (pointer_slot i ty t) d x s u e = (slot : code.Place) × IsSlotOf x.place i slot × IsNotGot ty (record { slot = slot; around = x.around; default = d }) s u e
IsFieldNotGot (group_slot g) d x s u e = ⊥

-- What a get of a field returns, and what it leaves, by what its node says of it.
pub record GetsField (v : StructView) (s u : Segments) (p : StructPlace) (f : Field) (r : Result Placed Error) : Type 0 where
  pub said : FieldNode
  pub is : IsFieldRecord f.parent f.index said
  pub got : IfOk r (IsFieldGot (field_body (schema_around f.parent).shape_of said.kind) (default_said said.kind) (record { place = p; seen = v; around = schema_around f.parent }) s u)
  pub refused : IfErr r (IsFieldNotGot (field_body (schema_around f.parent).shape_of said.kind) (default_said said.kind) (record { place = p; seen = v; around = schema_around f.parent }) s u)
