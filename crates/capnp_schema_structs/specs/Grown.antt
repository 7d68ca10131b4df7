-- Messages that grow, whatever value is owned in them. (Encoding, "Messages")
use Rattle.std.specs.Prelude.{ℕ}
use Rattle.capnp_model.specs.Segments.{Segments, Place}
use Rattle.capnp_model.specs.Coverage.{Grows}
use Rattle.capnp_model.specs.Trees.{Tree, Trees, structure}
use Rattle.capnp_model_writes.specs.Footprints.{Owns, OwnsObject}
use Rattle.capnp_copy_arenas.specs.Structs.{object_of_struct}
use Rattle.capnp_copy_arenas.specs.declared.fields.StructPlace.{StructPlace}

-- Whatever struct is owned there: each segment of the message is there later too, and no shorter.
abbrev pub GrowsAround : Segments → Segments → StructPlace → Type 0
GrowsAround s u p = (n section : ℕ) (kids : Trees) → OwnsObject n s (object_of_struct p) (structure p.data_words section kids) → Grows s u

-- Whatever value is owned there, the same.
abbrev pub GrowsBehind : Segments → Segments → Place → Type 0
GrowsBehind s u p = (n : ℕ) (t : Tree) → Owns n s p t → Grows s u
