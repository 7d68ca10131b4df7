-- Texts and data that slots take. (Encoding, "Blobs")
use Rattle.std.specs.Prelude.{ℕ, List, [], ◌∷◌, ◌++◌}
use Rattle.capnp_schema_structs.specs.declared.setting.Blob.{Blob}
use Rattle.capnp_schema_structs.specs.declared.setting.Blob.TheVariants as blob

-- The bytes of the list that they become.
abbrev pub list_bytes_of : Blob → List ℕ
list_bytes_of (blob.Text b) = b.now ++ 0 ∷ []
list_bytes_of (blob.Data b) = b.now
