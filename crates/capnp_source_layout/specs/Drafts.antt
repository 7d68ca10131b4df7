-- What stays when a struct gets more fields. (Cap'n Proto's language document, "Evolving Your Protocol")
use Rattle.std.specs.Prelude.{◌≡◌, ℕ, Option, Some, None, List, ◌++◌, ◌≤◌}
use Rattle.std.specs.List.{slice_index_or}
use Rattle.capnp_source_layout.specs.declared.draft.Draft.{Draft}
use Rattle.capnp_source_layout.specs.declared.structs.Layout.{Layout}

-- Each union that has a discriminant keeps it.
abbrev pub Keeps : List (Option ℕ) → List (Option ℕ) → Type 0
Keeps old new = (union offset : ℕ) → slice_index_or old union None ≡ Some offset → slice_index_or new union None ≡ Some offset

-- The offsets of earlier fields come first.
abbrev pub BeginsWith : List ℕ → List ℕ → Type 0
BeginsWith old new = (more : List ℕ) × (new ≡ old ++ more)

-- A later draft leaves all fields and discriminants where they are, and its sections are no smaller.
pub record MovesNone (old new : Draft) : Type 0 where
  pub offsets : BeginsWith old.offsets.items new.offsets.items
  pub discriminants : Keeps old.discriminants.items new.discriminants.items
  pub words : old.sections.words ≤ new.sections.words
  pub pointers : old.sections.pointers ≤ new.sections.pointers

-- The layout of a draft.
pub record IsLayoutOf (draft : Draft) (layout : Layout) : Type 0 where
  pub offsets : layout.offsets.items ≡ draft.offsets.items
  pub discriminants : layout.discriminants.items ≡ draft.discriminants.items
  pub words : layout.data_words ≡ draft.sections.words
  pub pointers : layout.pointers ≡ draft.sections.pointers

-- A newer version leaves each field and each discriminant of the older one where it is, and is no smaller.
pub record KeepsSlots (older newer : Layout) : Type 0 where
  pub offsets : BeginsWith older.offsets.items newer.offsets.items
  pub discriminants : Keeps older.discriminants.items newer.discriminants.items
  pub words : older.data_words ≤ newer.data_words
  pub pointers : older.pointers ≤ newer.pointers
