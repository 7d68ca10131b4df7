-- What is returned where content is put into an element, and what is left. (Encoding, "Lists",
-- "Blobs")
use Rattle.std.specs.Prelude.{◌≡◌, ⊤, ℕ, [], map, length, Result, Ok, Err, OnOk, IfErr}
use Rattle.capnp_model.specs.Sizes.{object_words}
use Rattle.capnp_model.specs.Calls.{Content, refused_by, bits_of, object, initn, element_content}
use Rattle.capnp_model.specs.Edits.{Edit, put_child, edit_element}
use Rattle.capnp_model.specs.Trees.{Tree}
use Rattle.capnp_units.specs.Segments.{words_in}
use Rattle.capnp_units.specs.declared.errors.Error.{Error}
use Rattle.capnp_copy_arenas.specs.Allocations.{TakesJust, TakesAtMost}
use Rattle.capnp_copy_arenas.specs.declared.init.ListPlace.{ListPlace}
use Rattle.capnp_layout_builders.specs.Making.{ArenaState}
use Rattle.capnp_schema_structs.specs.Puts.{answered, NewObjectRefused}
use Rattle.capnp_schema_lists.specs.Lists.{EditsElement, DeepensElement}
use Rattle.capnp_schema_lists.specs.Places.{ElementAt}

-- An element becomes what the edit makes of it, with a new object of n words. It takes exactly
-- these where the list's segment had room, else at most a pad's more.
pub record PutsElementObject (old new : ArenaState) (o : ListPlace) (f : ℕ → ℕ → Edit) (index words : ℕ) : Type 0 where
  pub writes : DeepensElement (words_in old.segments) (words_in new.segments) o f index
  pub taken : TakesJust (words_in old.segments) old.room (words_in new.segments) o.start.segment words
  pub bound : TakesAtMost (words_in old.segments) (words_in new.segments) words 1

-- An element's pointer gets a value that is a new object.
abbrev pub PutsElementTree : ArenaState → ArenaState → ListPlace → Tree → ℕ → Type 0
PutsElementTree old new o t index = PutsElementObject old new o (λ words pointers. put_child 0 t) index (object_words t)

-- No segment changes its length.
pub record PutsElementBits (old new : ArenaState) (o : ListPlace) (f : ℕ → ℕ → Edit) (index : ℕ) : Type 0 where
  pub writes : EditsElement (words_in old.segments) (words_in new.segments) o f index
  pub sizes : map length (words_in new.segments) ≡ map length (words_in old.segments)

-- An element of a list that lies in a message, and what it is to become, by the sizes of its list.
pub record ElementEdit : Type 0 where
  pub place : ListPlace
  pub at : ℕ
  pub edit : ℕ → ℕ → Edit

-- What is returned, and what the element becomes, by the content. What is refused by its type is
-- exactly that. Bits are never refused, and take no memory. An object is refused only for want of
-- it.
abbrev pub PutsElementContent : ArenaState → ArenaState → ElementEdit → Content → Result ⊤ Error → Type 0
PutsElementContent old new x (refused_by k) r = answered r ≡ Err k
PutsElementContent old new x (bits_of n) r = (answered r ≡ Ok tt) × PutsElementBits old new x.place x.edit x.at
PutsElementContent old new x (object t) r = OnOk r (PutsElementObject old new x.place x.edit x.at (object_words t)) × IfErr r (NewObjectRefused old x.place.start.segment t)

-- What is returned where n zeros are put into an element of a type, and what it becomes.
abbrev pub PutsElementZeros : ArenaState → ArenaState → ElementAt → ℕ → Result ⊤ Error → Type 0
PutsElementZeros old new x n = PutsElementContent old new (record { place = x.place; at = x.at; edit = edit_element x.around [] (initn n) x.ty }) (element_content x.around (initn n) x.ty)
