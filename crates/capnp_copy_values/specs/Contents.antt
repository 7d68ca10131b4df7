-- Structs that take over the content of others.
use Rattle.std.specs.Prelude.{◌≡◌, ⊤, ℕ, ◌*◌, ◌%◌, ◌^◌, ◌≤◌, min, Some, Result}
use Rattle.capnp_model.specs.Segments.{Segments}
use Rattle.capnp_model.specs.Trees.{structure, Trees, resized}
use Rattle.capnp_model.specs.Traversal.{tree_at, each}
use Rattle.capnp_model.specs.Coverage.{Grows}
use Rattle.capnp_units.specs.declared.errors.Error.{Error}
use Rattle.capnp_wire_objects.specs.Places.{place_view}
use Rattle.capnp_model_writes.specs.Children.{with_first}
use Rattle.capnp_model_writes.specs.Footprints.{OwnsObject}
use Rattle.capnp_model_writes.specs.Changes.{ReplacesObject}
use Rattle.capnp_copy_arenas.specs.declared.fields.StructPlace.{StructPlace}
use Rattle.capnp_copy_arenas.specs.Structs.{object_of_struct}
use Rattle.capnp_copy_values.specs.Copies.{CopySource, copy_source, LimitedWords, CopyGives, copy_of_row, StructSource}

-- What fits of a section into n words.
abbrev pub fitting : ℕ → ℕ → ℕ
fitting words section = section % 2 ^ (64 * words)

-- Whatever struct is there: its section becomes what fits of this one, its children these, with
-- nulls behind them or cut. They have n levels at most, and nothing else changes.
abbrev pub TakesContent : ℕ → Segments → Segments → StructPlace → ℕ → Trees → Type 0
TakesContent levels s u o section ts =
    (n own : ℕ) (kids : Trees) → levels ≤ n → OwnsObject n s (object_of_struct o) (structure o.data_words own kids) → ReplacesObject n s u (object_of_struct o) (structure o.data_words (fitting o.data_words section) (resized o.pointers ts))

-- Its section is what fits of the source's, its first n children those that were read, and the
-- others stay.
pub record TakesPart (x : CopySource StructSource) (s u : Segments) (o : StructPlace) : Type 0 where
  pub grows : Grows s u
  pub copied : ℕ
  pub few : copied ≤ min x.what.pointers o.pointers
  pub read : Trees
  pub read_is : each (tree_at x.levels x.segments) (place_view x.what.first) copied ≡ Some read
  pub left : (n own : ℕ) (kids : Trees) → x.levels ≤ n → OwnsObject n s (object_of_struct o) (structure o.data_words own kids) → ReplacesObject n s u (object_of_struct o) (structure o.data_words (fitting o.data_words x.what.section) (with_first copied read kids))

-- A struct takes over the content of one that is read, as far as it fits; the pointers that it has no place for aren't followed.
abbrev pub CopiesContent : CopySource StructSource → StructPlace → LimitedWords → Result ⊤ Error → LimitedWords → Type 0
CopiesContent x o old result new =
    let first = copy_source x.levels x.segments (place_view x.what.first) in
    CopyGives (copy_of_row first (min x.what.pointers o.pointers)) (TakesContent x.levels old.segments new.segments o x.what.section) (TakesPart x old.segments new.segments o) old result new

-- Whatever struct is there: its children behind the first n become null.
abbrev pub ClearsRest : Segments → Segments → StructPlace → ℕ → Type 0
ClearsRest s u o kept =
    (n own : ℕ) (kids : Trees) → OwnsObject n s (object_of_struct o) (structure o.data_words own kids) → ReplacesObject n s u (object_of_struct o) (structure o.data_words own (resized o.pointers (resized kept kids)))

-- Whatever struct is there: its section becomes this one.
abbrev pub SetsSection : Segments → Segments → StructPlace → ℕ → Type 0
SetsSection s u o section =
    (n own : ℕ) (kids : Trees) → OwnsObject n s (object_of_struct o) (structure o.data_words own kids) → ReplacesObject n s u (object_of_struct o) (structure o.data_words section kids)
