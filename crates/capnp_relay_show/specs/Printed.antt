-- What is printed of the root of a message.
use Rattle.std.specs.Prelude.{ℕ, ℤ, ◌≡◌, List, Some, Result, Ok, Err}
use Rattle.capnp_model.specs.Answers.{levels}
use Rattle.capnp_model.specs.Segments.{Segments, root}
use Rattle.capnp_model.specs.Trees.{Tree}
use Rattle.capnp_model.specs.Traversal.{tree_at}
use Rattle.capnp_values_queries.specs.Structs.{schema_around, id_of}
use Rattle.capnp_values_queries.specs.declared.structs.StructSchema.{StructSchema}
use Rattle.capnp_model.specs.Printing.{as_it_is}
use Rattle.capnp_relay_show.specs.Showing.{NotShown, no_struct, no_text, record_shown}
use Rattle.capnp_relay_show.specs.declared.show.ShowFault.{ShowFault}
use Rattle.capnp_relay_show.specs.declared.show.ShowFault.TheVariants as fault

-- What is shown of a value under a schema.
abbrev pub root_shown : StructSchema → Tree → Result (List ℕ) NotShown
root_shown r t = record_shown (schema_around r) as_it_is (id_of r) t

-- The value of segments under a nesting limit.
pub record HasRoot (limit : ℤ) (s : Segments) (t : Tree) : Type 0 where
  pub nesting : ℕ
  pub limit_is : levels limit ≡ Some nesting
  pub there : tree_at nesting s root ≡ Some t

-- The text is that of the value.
abbrev pub IsRootText : StructSchema → ℤ → Segments → List ℕ → Type 0
IsRootText r limit s text = (t : Tree) → HasRoot limit s t → root_shown r t ≡ Ok text

-- Why the value has none; or memory was wanted.
abbrev pub NoTextOf : Result (List ℕ) NotShown → ShowFault → Type 0
NoTextOf shown fault.Root = shown ≡ Err no_struct
NoTextOf shown fault.Unreadable = shown ≡ Err no_text
NoTextOf shown fault.Memory = Unit {0}
NoTextOf shown fault.Value = ⊥
NoTextOf shown fault.Size = ⊥
NoTextOf shown (fault.Framing kind) = ⊥

-- Why the value of segments has no text; or memory was wanted.
abbrev pub IsNoText : StructSchema → ℤ → Segments → ShowFault → Type 0
IsNoText r limit s why = (t : Tree) → HasRoot limit s t → NoTextOf (root_shown r t) why
