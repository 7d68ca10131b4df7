-- Elements that are got, by the type of a list's elements.
use Rattle.std.proofs.Common.{◌≡◌, ℕ, Some, None, Result, Ok, Err, IfOk, IfErr, refl}
use Rattle.capnp_model.specs.Segments.{Segments}
use Rattle.capnp_model.specs.Schemas.{PlainType, width, Ty, void, plain, text, blob, untyped, interface, struct, list, Schema}
use Rattle.capnp_model.specs.Trees.{Tree, child}
use Rattle.capnp_units.specs.declared.errors.Error.{Error}
use Rattle.capnp_wire_objects.specs.declared.place.Place as code
use Rattle.capnp_wire_objects.specs.Places.{place_view}
use Rattle.capnp_wire.specs.Views.{ListView, element_number}
use Rattle.capnp_model_writes.specs.Footprints.{OwnsObject}
use Rattle.capnp_copy_arenas.specs.Lists.{object_of_list}
use Rattle.capnp_copy_arenas.specs.declared.init.ListPlace.{ListPlace}
use Rattle.capnp_values.specs.Shown.{number_shown}
use Rattle.capnp_schema_lists.specs.Lists.{IsListOf, HasPointer, GrowsIn}
use Rattle.capnp_schema_lists.specs.Elements.{Holds}
use Rattle.capnp_schema_lists.specs.Parts.{cell_in, IsPointerOf}
use Rattle.capnp_schema_lists.specs.Places.{IsElementPointer}
use Rattle.capnp_schema_values.specs.Built.{IsPlaced}
use Rattle.capnp_schema_values.specs.declared.placed.Placed.{Placed}
use Rattle.capnp_schema_structs.specs.Grown.{GrowsBehind}
use Rattle.capnp_schema_values.specs.Plain.{IsPlainType, placed_shown}
use Rattle.capnp_schema_values.specs.Kinds.{AreBehindPointers}
use Rattle.capnp_schema_values.proofs.PlainValues.{plain_there}
use Rattle.capnp_schema_values.specs.Slots.{GetsValue}
use Rattle.capnp_schema_values.specs.Elements.{IsBehindGot, IsBehindNotGot, GetsElement}

-- behind an element's pointer
module _ (around : Schema) (l : ListView) (s u : Segments) (o : ListPlace) (i : ℕ) (slot : code.Place) (is : IsElementPointer o i slot) where
  behind : (ty : Ty) (r : Result Placed Error) → GetsValue ty (record { slot = slot; around = around; default = None }) s u r → IfOk r (IsBehindGot ty s u (record { place = o; at = i; around = around; ty = ty })) × IfErr r (IsBehindNotGot ty s u (record { place = o; at = i; around = around; ty = ty }))
  behind ty (Ok x) h = ((slot, is, h.0), tt)
  behind ty (Err e) h = (tt, (slot, is, h.1))

  pub behind_got : (ty : Ty) → AreBehindPointers ty → (r : Result Placed Error) → GetsValue ty (record { slot = slot; around = around; default = None }) s u r → GetsElement l s u (record { place = o; at = i; around = around; ty = ty }) r
  behind_got void b = absurd b
  behind_got (plain p) b = absurd b
  behind_got text b = behind text
  behind_got blob b = behind blob
  behind_got untyped b = behind untyped
  behind_got interface b = behind interface
  behind_got (struct id) b = absurd b
  behind_got (list ty) b = behind (list ty)

-- elements behind pointers have pointers
pub behind_pointers : (o : ListPlace) (ty : Ty) → AreBehindPointers ty → Holds o ty → HasPointer o
behind_pointers o void b h = absurd b
behind_pointers o (plain p) b h = absurd b
behind_pointers o text b h = h
behind_pointers o blob b h = h
behind_pointers o untyped b h = h
behind_pointers o interface b h = h
behind_pointers o (struct id) b h = absurd b
behind_pointers o (list ty) b h = h

-- a plain element
pub plain_got : (around : Schema) (ty : Ty) (l : ListView) (s : Segments) (o : ListPlace) (i : ℕ) (x : Placed) → IsPlainType ty → ((p : PlainType) → ty ≡ plain p → placed_shown x ≡ Some (number_shown around p (element_number l i (width p)))) → GetsElement l s s (record { place = o; at = i; around = around; ty = ty }) (Ok x)
plain_got around void l s o i x b h = absurd b
plain_got around (plain p) l s o i x b h = ((refl, h p refl), tt)
plain_got around text l s o i x b h = absurd b
plain_got around blob l s o i x b h = absurd b
plain_got around untyped l s o i x b h = absurd b
plain_got around interface l s o i x b h = absurd b
plain_got around (struct id) l s o i x b h = absurd b
plain_got around (list ty) l s o i x b h = absurd b

pub plain_is_there : (s : Segments) (around : Schema) (ty : Ty) (l : ListView) (i : ℕ) (x : Placed) → IsPlainType ty → ((p : PlainType) → ty ≡ plain p → placed_shown x ≡ Some (number_shown around p (element_number l i (width p)))) → IsPlaced s x
plain_is_there s around void l i x b h = absurd b
plain_is_there s around (plain p) l i x b h = plain_there s x (number_shown around p (element_number l i (width p))) (h p refl)
plain_is_there s around text l i x b h = absurd b
plain_is_there s around blob l i x b h = absurd b
plain_is_there s around untyped l i x b h = absurd b
plain_is_there s around interface l i x b h = absurd b
plain_is_there s around (struct id) l i x b h = absurd b
plain_is_there s around (list ty) l i x b h = absurd b

-- the pointer of an element
pub element_grows : (s u : Segments) (o : ListPlace) (i : ℕ) (slot : code.Place) → ((n : ℕ) (t : Tree) → IsListOf o t → OwnsObject n s (object_of_list o) t → IsPointerOf n s o i slot t) → GrowsBehind s u (place_view slot) → GrowsIn s u o
element_grows s u o i slot parts h n t is own = h n (child (cell_in t i).kids 0) (parts n t is own).owns
