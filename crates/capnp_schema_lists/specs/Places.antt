-- Where elements that are structs lie, and the pointers of elements. (Encoding, "Lists")
use Rattle.std.specs.Prelude.{◌≡◌, ◌≢◌, ℕ, ◌+◌, ◌*◌}
use Rattle.capnp_model.specs.Schemas.{Ty, Schema}
use Rattle.capnp_model.specs.Segments.{after}
use Rattle.capnp_units.specs.Sizes.{size_number}
use Rattle.capnp_wire_objects.specs.Places.{place_view}
use Rattle.capnp_wire_objects.specs.declared.place.Place as code
use Rattle.capnp_copy_arenas.specs.declared.fields.StructPlace.{StructPlace}
use Rattle.capnp_copy_arenas.specs.declared.init.ListPlace.{ListPlace}

-- An element of a list that lies in a message: its index, and the schema and type by which it is read.
pub record ElementAt : Type 0 where
  pub place : ListPlace
  pub at : ℕ
  pub around : Schema
  pub ty : Ty

abbrev pub typed_element : ListPlace → ℕ → Schema → Ty → ElementAt
typed_element list index s ty = record { place = list; at = index; around = s; ty = ty }

-- The struct is the element at an index of a list of structs, which lie behind the tag.
pub record IsStructAt (o : ListPlace) (i : ℕ) (p : StructPlace) : Type 0 where
  pub structs : size_number o.size ≡ 7
  pub place : place_view p.start ≡ after (after (place_view o.start) 1) (i * (o.data_words + o.pointers))
  pub data_words : p.data_words ≡ o.data_words
  pub pointers : p.pointers ≡ o.pointers

-- The pointer is the element at an index itself, or the first pointer of that struct.
pub record IsElementPointer (o : ListPlace) (i : ℕ) (q : code.Place) : Type 0 where
  pub pointers : size_number o.size ≢ 7 → place_view q ≡ after (place_view o.start) i
  pub structs : size_number o.size ≡ 7 → place_view q ≡ after (after (after (place_view o.start) 1) (i * (o.data_words + o.pointers))) o.data_words
