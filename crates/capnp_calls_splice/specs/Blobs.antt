-- Texts and data as values. (Encoding, "Lists")
use Rattle.capnp_model.specs.Sections.{section_of}
use Rattle.capnp_model.specs.Trees.{Tree, plain_list}
use Rattle.capnp_wire_canonical.specs.Writes.{words_view}
use Rattle.capnp_calls_splice.specs.declared.blob.Blob.{Blob}

-- The list of bytes.
abbrev pub tree_of_blob : Blob → Tree
tree_of_blob b = plain_list 2 b.len (section_of (words_view b.words.items))
