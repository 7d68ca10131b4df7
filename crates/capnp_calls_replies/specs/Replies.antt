-- What a call replies at a struct that is read. (Encoding, "Value Encoding")
use Rattle.std.specs.Prelude.{ℕ, ◌≡◌, List}
use Rattle.capnp_model.specs.Readings.{record_as, Record}
use Rattle.capnp_model.specs.Calls.{Call}
use Rattle.capnp_model.specs.Steps.{step}
use Rattle.capnp_model.specs.Answers.{Reply, reply_of}
use Rattle.capnp_values_queries.specs.Structs.{schema_around, shape_of_struct, id_of}
use Rattle.capnp_values.specs.Sources.{struct_seen}
use Rattle.capnp_values.specs.Standing.{IsRecord}
use Rattle.capnp_values.specs.declared.dynamic_struct.Reader.{Reader as DynamicStruct}
use Rattle.capnp_model.specs.Printing.{as_it_is}

-- At a struct that is read, the reply is that of the record machine at the struct's record.
abbrev pub RepliesTo : {A : Type 0} → (A → List (List ℕ)) → DynamicStruct A → Call → Reply → Type 0
RepliesTo bytes root call answer =
    let s = schema_around root.schema in
    (r : Record) → IsRecord s (shape_of_struct root.schema) (struct_seen bytes root.source) (record_as r) → answer ≡ reply_of s as_it_is (step s (id_of root.schema) call r)
