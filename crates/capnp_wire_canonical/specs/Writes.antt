-- Words of a slice, and what is put over them, with those behind.
use Rattle.std.specs.Prelude.{ℕ, ◌+◌, ◌-◌, List, ◌++◌, length, take, drop, map, set}
use Rattle.std.specs.Int.{w64, from_le_bytes}
use Rattle.capnp_model.specs.Sections.{words_of}
use Rattle.capnp_model.specs.Trees.{Tree, Trees, Elements}
use Rattle.capnp_model.specs.Encoding.{pointer, body, links, bodies, cells, element_bodies}

-- The words of a slice, each by its eight bytes, the lowest first.
abbrev pub words_view : List (List ℕ) → List ℕ
words_view into = map (from_le_bytes w64) into

-- The words in use.
abbrev pub filled : ℕ → List (List ℕ) → List ℕ
filled used into = take used (words_view into)

-- n words of a section over those from a place on.
unfoldable pub with_section_at : ℕ → ℕ → ℕ → List ℕ → List ℕ
with_section_at at count section out = take at out ++ (words_of count section ++ drop (at + count) out)

-- The pointer to a value over the word at a place, and the value's words behind all.
unfoldable pub with_link : ℕ → Tree → List ℕ → List ℕ
with_link at t out = set out at (pointer (length out - at - 1) t) ++ body t

-- Pointers over the words from a place to an end, and the words of what they point to behind all.
unfoldable pub with_links : ℕ → ℕ → Trees → List ℕ → List ℕ
with_links at end ts out = take at out ++ (links 0 (length out - end) ts ++ (drop end out ++ bodies ts))

-- The elements of a list of structs over the words from a place to an end, and the words of what they point to behind all.
unfoldable pub with_cells : ℕ → ℕ → ℕ → ℕ → Elements → List ℕ → List ℕ
with_cells at end d k es out = take at out ++ (cells (length out - end) d k es ++ (drop end out ++ element_bodies es))
