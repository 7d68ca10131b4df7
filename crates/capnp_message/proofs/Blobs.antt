-- Texts and data that are made.
use Rattle.std.proofs.Common.{ℕ}
use Rattle.capnp_units.specs.Segments.{words_in}
use Rattle.capnp_wire_objects.specs.declared.place.Place as code
use Rattle.capnp_copy_arenas.specs.declared.bytes.BlobPlace.{BlobPlace}
use Rattle.capnp_layout_builders.specs.Blobs.{DataMade, TextMade}
use Rattle.capnp_layout_builders.specs.Making.{ArenaState, MakesData, MakesText}

pub data_made : (old new : ArenaState) (slot : code.Place) (n : ℕ) (o : BlobPlace) → MakesData old new slot n o → DataMade (words_in old.segments) (words_in new.segments) slot n o
data_made old new slot n o m = (record { value = m.0.0.becomes; object = m.0.1; near = m.0.2 }, m.1)

pub text_made : (old new : ArenaState) (slot : code.Place) (n : ℕ) (o : BlobPlace) → MakesText old new slot n o → TextMade (words_in old.segments) (words_in new.segments) slot n o
text_made old new slot n o m = (record { value = m.0.0.becomes; object = m.0.1; near = m.0.2 }, m.1)
