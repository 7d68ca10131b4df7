-- Canonical copies of structs and lists that are read, by way of a scratch. (Encoding, "Canonicalization")
use Rattle.std.specs.Prelude.{◌≡◌, ◌⊎◌, ⊤, ℕ, ◌+◌, ◌-◌, ◌^◌, ◌<◌, min, true, false, List, Option, Some, None, MatchOption, Result, Ok, Err}
use Rattle.std.specs.Option.{is_some}
use Rattle.capnp_model.specs.Chains.{◌>>=◌}
use Rattle.capnp_model.specs.Segments.{Segments, Place, words_at}
use Rattle.capnp_model.specs.Trees.{Tree, structure, has_capability}
use Rattle.capnp_model.specs.Traversal.{tree_at, each}
use Rattle.capnp_model.specs.Trimming.{trim}
use Rattle.capnp_units.specs.Segments.{words_in}
use Rattle.capnp_units.specs.declared.errors.Error.{Error}
use Rattle.capnp_units.specs.declared.limiter.ReadLimiter.{ReadLimiter}
use Rattle.capnp_wire_objects.specs.declared.place.Place as code
use Rattle.capnp_wire_objects.specs.Places.{place_view}
use Rattle.capnp_wire.specs.Views.{StructView, ListView}
use Rattle.capnp_copy_values.specs.Copies.{copy_source, BecomesCopy, StructSource}
use Rattle.capnp_copy_values.specs.Canonical.{lent_copy}
use Rattle.capnp_copy_values.specs.Lists.{listed_tree}
use Rattle.capnp_copy_values.specs.declared.lists.ListSource.{ListSource}
use Rattle.capnp_units.specs.Limits.{IsFree}
use Rattle.capnp_layout_builders.specs.declared.pointer_builder.PointerBuilder.{PointerBuilder}
use Rattle.capnp_layout_builders.specs.Copied.{Walk, IsSourceOf, IsListSourceOf}
use Rattle.capnp_layout_canonical.specs.Copied.{SlotChange, slot_changed, CopiesThrough}

-- The word of a pointer is there.
abbrev pub HasSlot : Segments → code.Place → Type 0
HasSlot s p = (is_some (words_at s (place_view p) 1) ≡ true) × (p.position < 2 ^ 61)

-- The words of the message that a handle writes.
abbrev pub words_around : {A : Type 0} → (A → List (List ℕ)) → PointerBuilder A → Segments
words_around bytes b = words_in (bytes b.memory.now.arena)

-- A handle stays where it was.
abbrev pub StaysThere : {A : Type 0} → PointerBuilder A → PointerBuilder A → Type 0
StaysThere old new = (new.memory.ghost_name ≡ old.memory.ghost_name) × (new.place ≡ old.place)

-- The levels of the pointer to an object from whose pointers n may be followed, at most 2^32 - 1.
abbrev pub level_above : Option ℕ → ℕ
level_above None = 0
level_above (Some n) = min (n + 1) (2 ^ 32 - 1)

-- The pointer of a scratch, in the words that it has once it is set, and the words that are lent, before and after.
pub record ScratchUse : Type 0 where
  pub words : Segments
  pub slot : Place
  pub lent : List (List ℕ)
  pub after : List (List ℕ)

-- The pointer of a handle that gets a value, and the words of its message.
abbrev pub slot_change : {A : Type 0} → (A → List (List ℕ)) → PointerBuilder A → PointerBuilder A → SlotChange
slot_change bytes old new = slot_changed (words_around bytes old) (words_around bytes new) (place_view old.place)

-- The scratch's value is put in place of the message's, trimmed, under no limit of words; or it is refused.
pub record CopiesScratch (n : ℕ) (x : ScratchUse) (y : SlotChange) (result : Result ⊤ Error) : Type 0 where
  pub start : ReadLimiter
  pub end : ReadLimiter
  pub free : IsFree start
  pub through : CopiesThrough (lent_copy (copy_source n x.words x.slot) x.lent) x.after y start result end

-- What is read is put into the scratch plainly, and from there in place of the message's value; or the scratch refuses it, and all else stands.
abbrev pub ThroughScratch : Walk → ℕ → ScratchUse → SlotChange → Walk
ThroughScratch plain n x y old result new =
    ((e : Error) × (result ≡ Err e) × (y.new ≡ y.old) × (x.after ≡ x.lent) × plain old (Err e) new) ⊎ (plain old (Ok tt) new × CopiesScratch n x y result)

-- What is there has no capability, and is put in place of the value at p, trimmed.
pub record PutsTrimmed (there : Option Tree) (n : ℕ) (s u : Segments) (p : Place) : Type 0 where
  pub value : Tree
  pub there_is : there ≡ Some value
  pub clean : has_capability value ≡ false
  pub becomes : BecomesCopy n s u p (trim value)

-- The tree of a struct that is read, n levels deep from each of its pointers.
abbrev pub tree_of_struct : ℕ → Segments → StructSource → Option Tree
tree_of_struct n from x = each (tree_at n from) (place_view x.first) x.pointers >>= λ ts. Some (structure x.data_words x.section ts)

-- A struct that is read is put in place of the value at p, trimmed.
abbrev pub PutsStruct : StructView → Segments → Segments → Place → Type 0
PutsStruct v s u p = MatchOption v.levels ⊥ (λ n. (x : StructSource) × IsSourceOf v x × PutsTrimmed (tree_of_struct n v.basis.segments x) (level_above v.levels) s u p)

-- A list that is read is put in place of the value at p, trimmed.
abbrev pub PutsList : ListView → Segments → Segments → Place → Type 0
PutsList v s u p = MatchOption v.levels ⊥ (λ n. (x : ListSource) × (bytes : List ℕ) × IsListSourceOf v x bytes × PutsTrimmed (listed_tree (tree_at n v.basis.segments) x bytes) (level_above v.levels) s u p)
