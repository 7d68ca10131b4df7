-- What is returned where content is put into a field, and what is left. (Encoding, "Structs",
-- "Lists", "Blobs")
use Rattle.std.specs.Prelude.{◌≡◌, ◌⊎◌, ⊤, ℕ, suc, ◌+◌, ◌*◌, ◌^◌, ◌≤◌, List, map, length, Result, Ok, Err, OnOk, IfErr}
use Rattle.capnp_model.specs.Kinds.{Kind}
use Rattle.capnp_model.specs.Segments.{Segments}
use Rattle.capnp_model.specs.Coverage.{Grows}
use Rattle.capnp_model.specs.Trees.{Tree, null, capability, structure, plain_list, pointer_list, struct_list, Trees, tree_count, element_count}
use Rattle.capnp_model.specs.Sizes.{object_words}
use Rattle.capnp_model.specs.Calls.{Content, refused_by, bits_of, object}
use Rattle.capnp_model.specs.Edits.{Edit}
use Rattle.capnp_units.specs.Segments.{words_in}
use Rattle.capnp_units.specs.declared.errors.Error.{Error}
use Rattle.capnp_wire_objects.specs.Places.{seen}
use Rattle.capnp_model_writes.specs.Footprints.{OwnsObject}
use Rattle.capnp_model_writes.specs.Changes.{ReplacesObject}
use Rattle.capnp_copy_arenas.specs.Allocations.{TakesJust, TakesAtMost}
use Rattle.capnp_copy_arenas.specs.Structs.{object_of_struct}
use Rattle.capnp_copy_arenas.specs.declared.fields.StructPlace.{StructPlace}
use Rattle.capnp_layout_builders.specs.Making.{ArenaState, ListRefused}
use Rattle.capnp_schema_structs.specs.Edits.{Edits}

-- Whatever data and children the struct has become what the edit makes of them, where one level of pointers may be new, and nothing else changes.
abbrev pub Deepens : Segments → Segments → StructPlace → Edit → Type 0
Deepens s u p f =
    (n section : ℕ) (kids : Trees) → OwnsObject n s (object_of_struct p) (structure p.data_words section kids)
    → let c = f (record { section = section; kids = kids }) in ReplacesObject (suc n) s u (object_of_struct p) (structure p.data_words c.section c.kids)

-- The struct's data and children become what the edit makes of them, with a new object of n words.
-- It takes exactly these where the struct's segment had room, else at most a pad's more.
pub record PutsObject (old new : ArenaState) (p : StructPlace) (f : Edit) (words : ℕ) : Type 0 where
  pub writes : Deepens (words_in old.segments) (words_in new.segments) p f
  pub taken : TakesJust (words_in old.segments) old.room (words_in new.segments) p.start.segment words
  pub bound : TakesAtMost (words_in old.segments) (words_in new.segments) words 1

-- No segment changes its length.
pub record PutsBits (old new : ArenaState) (p : StructPlace) (f : Edit) : Type 0 where
  pub writes : Edits (words_in old.segments) (words_in new.segments) p f
  pub sizes : map length (words_in new.segments) ≡ map length (words_in old.segments)

-- Segments of these bytes are there later too, and no shorter.
abbrev pub BytesGrow : List (List ℕ) → List (List ℕ) → Type 0
BytesGrow old new = Grows (words_in old) (words_in new)

-- Whether a call was done, or the kind of its refusal.
abbrev pub answered : {X : Type 0} → Result X Error → Result ⊤ Kind
answered r = seen (λ x. tt) r

-- The elements of a list are too many, or its words.
abbrev pub HasTooManyElements : Tree → Type 0
HasTooManyElements null = ⊥
HasTooManyElements (capability i) = ⊥
HasTooManyElements (structure words section kids) = ⊥
HasTooManyElements (plain_list size n section) = 2 ^ 29 ≤ n
HasTooManyElements (pointer_list ts) = 2 ^ 29 ≤ tree_count ts
HasTooManyElements (struct_list words pointers es) = (2 ^ 29 ≤ element_count es) ⊎ (2 ^ 29 ≤ element_count es * (words + pointers))

-- There is no room for the object, or it is a list that is too long.
abbrev pub NewObjectRefused : ArenaState → ℕ → Tree → Error → Type 0
NewObjectRefused old segment t = ListRefused old segment (HasTooManyElements t) (object_words t)

-- Why content isn't put: where it is an object, `told` says of the error why it came.
abbrev pub HasCause : Content → (Error → Type 0) → Error → Type 0
HasCause (refused_by k) told e = Unit {0}
HasCause (bits_of n) told e = Unit {0}
HasCause (object t) told e = told e

-- What is returned, and what the struct becomes, by the content. What is refused by its type is
-- exactly that. Bits are never refused, and take no memory. An object is refused only for want of
-- it.
abbrev pub PutsContent : {X : Type 0} → ArenaState → ArenaState → StructPlace → Edit → Content → Result X Error → Type 0
PutsContent old new p f (refused_by k) r = answered r ≡ Err k
PutsContent old new p f (bits_of n) r = (answered r ≡ Ok tt) × PutsBits old new p f
PutsContent old new p f (object t) r = OnOk r (PutsObject old new p f (object_words t)) × IfErr r (NewObjectRefused old p.start.segment t)
