-- Values that are got behind pointers, by the pointers' types. (Encoding, "Structs", "Lists", "Blobs" and "Default Values")
use Rattle.std.specs.Prelude.{◌≡◌, Option, Result, IfOk, IfErr}
use Rattle.capnp_model.specs.Segments.{Segments, Place}
use Rattle.capnp_model.specs.Schemas.{Ty, void, plain, text, blob, untyped, interface, struct, list, Value, Schema}
use Rattle.capnp_units.specs.declared.errors.Error.{Error}
use Rattle.capnp_wire_objects.specs.declared.place.Place as code
use Rattle.capnp_copy_arenas.specs.declared.bytes.BlobPlace.{BlobPlace}
use Rattle.capnp_values_queries.specs.Structs.{schema_around, id_of}
use Rattle.capnp_schema_structs.specs.declared.init.Part.{Part}
use Rattle.capnp_schema_structs.specs.Defaults.{default_words}
use Rattle.capnp_schema_values.specs.Defaults.{default_bytes}
use Rattle.capnp_schema_values.specs.declared.placed.ListPart.{ListPart}
use Rattle.capnp_schema_values.specs.declared.placed.Placed.{Placed}
use Rattle.capnp_schema_values.specs.declared.placed.Placed.TheVariants as placed
use Rattle.capnp_schema_values.specs.Blobs.{TextBytesGot, NoTextBytesGot, DataBytesGot, NoDataBytesGot}
use Rattle.capnp_schema_values.specs.Structs.{PartGot, NoPartGot}
use Rattle.capnp_schema_values.specs.Lists.{ListPartGot, NoListPartGot}

-- ---- a value is of a sort, and lies so

abbrev pub IsText : (BlobPlace → Type 0) → Placed → Type 0
IsText Lies (placed.Text o) = Lies o
IsText Lies _ = ⊥

abbrev pub IsData : (BlobPlace → Type 0) → Placed → Type 0
IsData Lies (placed.Data o) = Lies o
IsData Lies _ = ⊥

abbrev pub IsStruct : (Part → Type 0) → Placed → Type 0
IsStruct Lies (placed.Struct part) = Lies part
IsStruct Lies _ = ⊥

abbrev pub IsList : (ListPart → Type 0) → Placed → Type 0
IsList Lies (placed.List part) = Lies part
IsList Lies _ = ⊥

abbrev pub IsCapability : Placed → Type 0
IsCapability (placed.Capability c) = Unit {0}
IsCapability _ = ⊥

-- ---- behind a pointer

-- A pointer's slot, the schema by which its type is read, and its default.
pub record SlotRead : Type 0 where
  pub slot : code.Place
  pub around : Schema
  pub default : Option Value

-- That by its parts, in the order of the record.
abbrev pub slot_read : code.Place → Schema → Option Value → SlotRead
slot_read slot around default = record { slot = slot; around = around; default = default }

-- What is got behind a pointer of a type, and what is written. A null pointer gets the default;
-- where there is none a struct of zeros and nulls, and any other stays null. A struct or a list of
-- structs is widened to its schema's sizes. Of untyped pointers and capabilities nothing is
-- written.
abbrev pub IsGot : Ty → SlotRead → Segments → Segments → Placed → Type 0
IsGot void x s u v = (u ≡ s) × (v ≡ placed.Void)
IsGot (plain p) x s u v = (u ≡ s) × (v ≡ placed.Void)
IsGot text x s u v = IsText (TextBytesGot (default_bytes x.default) s u x.slot) v
IsGot blob x s u v = IsData (DataBytesGot (default_bytes x.default) s u x.slot) v
IsGot untyped x s u v = (u ≡ s) × (v ≡ placed.AnyPointer x.slot)
IsGot interface x s u v = (u ≡ s) × IsCapability v
IsGot (struct id) x s u v = IsStruct (λ part. (schema_around part.schema ≡ x.around) × (id_of part.schema ≡ id) × PartGot (default_words x.default) s u x.slot part.schema part) v
IsGot (list ty) x s u v = IsList (ListPartGot (record { slot = x.slot; around = x.around; ty = ty; default = default_words x.default }) s u) v

-- Why it isn't got, and what stands then.
abbrev pub IsNotGot : Ty → SlotRead → Segments → Segments → Error → Type 0
IsNotGot void x s u e = ⊥
IsNotGot (plain p) x s u e = ⊥
IsNotGot text x s u e = NoTextBytesGot (default_bytes x.default) s u x.slot e
IsNotGot blob x s u e = NoDataBytesGot (default_bytes x.default) s u x.slot e
IsNotGot untyped x s u e = ⊥
IsNotGot interface x s u e = ⊥
IsNotGot (struct id) x s u e = NoPartGot (default_words x.default) s u x.slot (x.around.shape_of id) e
IsNotGot (list ty) x s u e = NoListPartGot (record { slot = x.slot; around = x.around; ty = ty; default = default_words x.default }) s u e

-- What a get returns, and what it leaves.
abbrev pub GetsValue : Ty → SlotRead → Segments → Segments → Result Placed Error → Type 0
GetsValue ty x s u r = IfOk r (IsGot ty x s u) × IfErr r (IsNotGot ty x s u)
