-- What calls reply that leave a value as it is.
use Rattle.std.specs.Prelude.{◌≡◌, ℕ, ℤ, ◌≤◌, false, List, Some}
use Rattle.capnp_model.specs.Segments.{root}
use Rattle.capnp_model.specs.Trees.{Tree, is_null}
use Rattle.capnp_model.specs.Fits.{Fits}
use Rattle.capnp_model.specs.Encoding.{canonical_words}
use Rattle.capnp_model.specs.Traversal.{tree_at}
use Rattle.capnp_model.specs.Readings.{record_as, record_of}
use Rattle.capnp_model.specs.Calls.{Call}
use Rattle.capnp_model.specs.Answers.{Reply, levels, replies, edits, widened_root}
use Rattle.capnp_model.specs.Printing.{as_it_is}
use Rattle.capnp_units.specs.Segments.{words_in}
use Rattle.capnp_values_queries.specs.Structs.{schema_around, shape_of_struct, id_of}
use Rattle.capnp_values_queries.specs.declared.structs.StructSchema.{StructSchema}
use Rattle.capnp_values.specs.Sources.{struct_seen}
use Rattle.capnp_values.specs.Standing.{IsRecord}
use Rattle.capnp_values.specs.declared.dynamic_struct.Reader.{Reader as DynamicStruct}

-- Calls that start from a value have these replies, and leave it.
pub record LeavesValue (schema : StructSchema) (calls : List Call) (t : Tree) (told : List Reply) : Type 0 where
  pub replied : told ≡ replies (schema_around schema) as_it_is (id_of schema) calls t
  pub left : edits (schema_around schema) (id_of schema) calls t ≡ t

-- A struct that is read stands where the value's record is read.
abbrev pub HasRecordOf : {A : Type 0} → (A → List (List ℕ)) → DynamicStruct A → Tree → Type 0
HasRecordOf bytes reader t =
    let s = schema_around reader.schema in IsRecord s (shape_of_struct reader.schema) (struct_seen bytes reader.source) (record_as (record_of s (id_of reader.schema) t))

-- So it is with whatever value the root of a message leads to, within its nesting limit.
abbrev pub ShowsRoot : {A : Type 0} → (A → List (List ℕ)) → List (List ℕ) → ℤ → DynamicStruct A → Type 0
ShowsRoot bytes message limit reader =
    (n left : ℕ) (t : Tree) → levels limit ≡ Some left → n ≤ left → tree_at n (words_in message) root ≡ Some t → HasRecordOf bytes reader t

-- Calls have these replies at each value whose record a struct that is read has, and leave it.
abbrev pub TellsAt : {A : Type 0} → (A → List (List ℕ)) → DynamicStruct A → List Call → List Reply → Type 0
TellsAt bytes reader calls told = (t : Tree) → HasRecordOf bytes reader t → LeavesValue reader.schema calls t told

-- A value isn't null, and calls that start from it, as its schema opens it, have these replies and leave it.
pub record LeavesRoot (schema : StructSchema) (calls : List Call) (t : Tree) (told : List Reply) : Type 0 where
  pub some : is_null t ≡ false
  pub leaves : LeavesValue schema calls (widened_root (shape_of_struct schema) t) told

-- So it is with the value that has these canonical words.
abbrev pub TellsWords : StructSchema → List Call → List ℕ → List Reply → Type 0
TellsWords schema calls words told = (t : Tree) → Fits t → words ≡ canonical_words t → LeavesRoot schema calls t told
