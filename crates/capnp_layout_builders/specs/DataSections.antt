-- Data sections apart from a message. (Encoding, "Structs")
use Rattle.std.specs.Prelude.{ℕ}
use Rattle.capnp_model.specs.Sections.{section_of}
use Rattle.capnp_wire_canonical.specs.Writes.{words_view}
use Rattle.capnp_layout_builders.specs.declared.data_section.DataSection.{DataSection}

-- The section as a number, its first bit the lowest.
abbrev pub section_number : {n : ℕ} → DataSection n → ℕ
section_number s = section_of (words_view s.words)
