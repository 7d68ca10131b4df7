-- Lists of zeros, nulls and empty structs that `initn` puts into slots. (Encoding, "Lists", "Blobs")
use Rattle.std.specs.Prelude.{ℕ, suc, ◌<◌, Option, Some, None}
use Rattle.capnp_model.specs.Kinds.{TypeMismatch, InitnIsOnlyValidForListTextOrDataFields}
use Rattle.capnp_model.specs.Trees.{Tree, plain_list, struct_list}
use Rattle.capnp_model.specs.Schemas.{Schema}
use Rattle.capnp_model.specs.Calls.{Content, refused_by, object, initn, slot_content}
use Rattle.capnp_units.specs.Sizes.{size_number}
use Rattle.capnp_units.specs.declared.errors.Error.{Error}
use Rattle.capnp_model_writes.specs.NewObjects.{new_tree, zero_elements}
use Rattle.capnp_copy_arenas.specs.Lists.{zeros_of}
use Rattle.capnp_values_queries.specs.Fields.{Entry}
use Rattle.capnp_layout_builders.specs.Making.{ArenaState, Stays}
use Rattle.capnp_schema_structs.specs.Puts.{NewObjectRefused}
use Rattle.capnp_schema_structs.specs.declared.initn.NewList.{NewList}
use Rattle.capnp_schema_structs.specs.declared.initn.NewList.TheVariants as list

-- The list of n elements; a text has its zero byte besides.
abbrev pub tree_of_new : NewList → ℕ → Tree
tree_of_new list.Text n = plain_list 2 (suc n) 0
tree_of_new (list.Elements size) n = new_tree (zeros_of (size_number size) n)
tree_of_new (list.Structs size) n = struct_list size.data_words size.pointers (zero_elements n size.pointers)

-- Elements that are told by their size alone are plain ones or pointers.
abbrev pub IsMade : NewList → Type 0
IsMade list.Text = Unit {0}
IsMade (list.Elements size) = size_number size < 7
IsMade (list.Structs size) = Unit {0}

-- What is put into a slot for it.
abbrev pub content_of_list : Option NewList → ℕ → Content
content_of_list None n = refused_by InitnIsOnlyValidForListTextOrDataFields
content_of_list (Some x) n = object (tree_of_new x n)

-- What `initn` puts into a field: n zero bytes, zeros, nulls or empty structs.
abbrev pub initn_field : Schema → ℕ → Option Entry → Content
initn_field s n None = refused_by TypeMismatch
initn_field s n (Some e) = slot_content s (initn n) e.body

-- No such object was made, and all stands as it was.
abbrev pub ObjectNotMade : ArenaState → ArenaState → ℕ → Tree → Error → Type 0
ObjectNotMade old new segment t e = NewObjectRefused old segment t e × Stays old new
