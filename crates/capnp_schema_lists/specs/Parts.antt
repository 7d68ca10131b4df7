-- Elements as structs and as pointers: what is done to these is done to the element. (Encoding, "Lists")
use Rattle.std.specs.Prelude.{ℕ, zero, suc, ◌≤◌, List, [], ◌∷◌}
use Rattle.capnp_model.specs.Segments.{Segments}
use Rattle.capnp_model.specs.Trees.{Tree, structure, plain_list, pointer_list, struct_list, none, ◌▸◌, Elements, no_elements, element, child, plain_elements}
use Rattle.capnp_model.specs.Edits.{Cell, Edit, put_child, edit_list}
use Rattle.capnp_wire_objects.specs.Places.{place_view}
use Rattle.capnp_wire_objects.specs.declared.place.Place as code
use Rattle.capnp_model_writes.specs.Footprints.{Owns, OwnsObject}
use Rattle.capnp_model_writes.specs.Changes.{Replaces, ReplacesObject}
use Rattle.capnp_copy_arenas.specs.Structs.{object_of_struct}
use Rattle.capnp_copy_arenas.specs.Lists.{object_of_list}
use Rattle.capnp_copy_arenas.specs.declared.fields.StructPlace.{StructPlace}
use Rattle.capnp_copy_arenas.specs.declared.init.ListPlace.{ListPlace}

-- ---- the data and the children of an element

-- A plain element is a section of its own.
abbrev pub plain_cell : List ℕ → ℕ → Cell
plain_cell [] i = record { section = 0; kids = none }
plain_cell (x ∷ xs) zero = record { section = x; kids = none }
plain_cell (x ∷ xs) (suc i) = plain_cell xs i

-- One that is a struct.
abbrev pub struct_cell : Elements → ℕ → Cell
struct_cell no_elements i = record { section = 0; kids = none }
struct_cell (element section kids es) zero = record { section = section; kids = kids }
struct_cell (element section kids es) (suc i) = struct_cell es i

-- Any list's; a pointer is an only child.
abbrev pub cell_in : Tree → ℕ → Cell
cell_in (plain_list size n section) i = plain_cell (plain_elements size n section) i
cell_in (pointer_list ts) i = record { section = 0; kids = child ts i ▸ none }
cell_in (struct_list words pointers es) i = struct_cell es i
cell_in t i = record { section = 0; kids = none }

-- ---- where it lies

-- The struct has the element's data and children, and what an edit makes of it, with as many levels or more, it makes of the element.
pub record IsElementStruct (n : ℕ) (s : Segments) (o : ListPlace) (i : ℕ) (p : StructPlace) (t : Tree) : Type 0 where
  pub owns : let c = cell_in t i in OwnsObject n s (object_of_struct p) (structure p.data_words c.section c.kids)
  pub lifts : (m : ℕ) (u : Segments) (f : ℕ → ℕ → Edit) → n ≤ m → let c = f p.data_words p.pointers (cell_in t i) in ReplacesObject m s u (object_of_struct p) (structure p.data_words c.section c.kids) → ReplacesObject m s u (object_of_list o) (edit_list f i t)

-- The first child becomes what is made of it.
abbrev pub on_child : (Tree → Tree) → ℕ → ℕ → Edit
on_child g words pointers c = put_child 0 (g (child c.kids 0)) c

-- The pointer's value is the element's first child, and a change of it is one of the list's.
pub record IsPointerOf (n : ℕ) (s : Segments) (o : ListPlace) (i : ℕ) (q : code.Place) (t : Tree) : Type 0 where
  pub owns : Owns n s (place_view q) (child (cell_in t i).kids 0)
  pub lifts : (m : ℕ) (u : Segments) (g : Tree → Tree) → n ≤ m → Replaces m s u (place_view q) (g (child (cell_in t i).kids 0)) → ReplacesObject m s u (object_of_list o) (edit_list (on_child g) i t)
