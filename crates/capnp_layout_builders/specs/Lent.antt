-- The bytes of texts and data that are built. (Encoding, "Blobs")
use Rattle.std.specs.Prelude.{ℕ, List}
use Rattle.capnp_units.specs.Segments.{words_in}
use Rattle.capnp_copy_arenas.specs.Bytes.{bytes_lent}
use Rattle.capnp_layout_builders.specs.declared.text_builder.TextBuilder.{TextBuilder}
use Rattle.capnp_layout_builders.specs.declared.data_builder.DataBuilder.{DataBuilder}

-- The bytes of a text where they lie, `None` where their words aren't there.
abbrev pub text_lent : {A : Type 0} → (A → List (List ℕ)) → TextBuilder A → List ℕ
text_lent bytes text = bytes_lent (words_in (bytes text.memory.now.arena)) text.place

-- The bytes of data where they lie, `None` where their words aren't there.
abbrev pub data_lent : {A : Type 0} → (A → List (List ℕ)) → DataBuilder A → List ℕ
data_lent bytes data_built = bytes_lent (words_in (bytes data_built.memory.now.arena)) data_built.place
