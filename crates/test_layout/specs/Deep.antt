-- A number two pointers below the root.
use Rattle.std.specs.Prelude.{ℕ, ◌+◌}
use Rattle.capnp_model.specs.Sections.{with_bits}
use Rattle.capnp_model.specs.Segments.{Segments, root}
use Rattle.capnp_model.specs.Trees.{Tree, null, structure, child, with_child, widened}
use Rattle.capnp_model_writes.specs.Footprints.{Owns}
use Rattle.capnp_model_writes.specs.Changes.{Replaces}

-- The value behind a pointer of a struct.
abbrev pub value_at_pointer : ℕ → Tree → Tree
value_at_pointer i (structure w section kids) = child kids i
value_at_pointer i t = null

-- A struct with another value there.
abbrev pub with_behind : ℕ → Tree → Tree → Tree
with_behind i v (structure w section kids) = structure w section (with_child kids i v)
with_behind i v t = t

-- A struct with this number first.
abbrev pub with_number : ℕ → Tree → Tree
with_number v (structure w section kids) = structure w (with_bits 0 64 v section) kids
with_number v t = t

-- A struct of a pointer at least, and behind it a struct with this number first.
abbrev pub with_inner_number : ℕ → Tree → Tree
with_inner_number v t = with_behind 0 (with_number v (widened 1 0 (value_at_pointer 0 (widened 0 1 t)))) (widened 0 1 t)

-- Whatever value is owned at the root becomes what the function makes of it, and nothing else changes. Each struct that is got may add levels.
abbrev pub EditsRoot : Segments → Segments → (Tree → Tree) → Type 0
EditsRoot s u edited = (n : ℕ) (t : Tree) → Owns n s root t → Replaces (n + 132) s u root (edited t)
