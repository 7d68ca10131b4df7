-- Elements of lists that are got to be written. (Encoding, "Lists")
use Rattle.std.specs.Prelude.{◌≡◌, ℕ, ℤ, List, Some, None, Result, IfOk, IfErr}
use Rattle.capnp_model.specs.Segments.{Segments}
use Rattle.capnp_model.specs.Schemas.{Ty, void, plain, text, blob, untyped, interface, struct, list, width}
use Rattle.capnp_units.specs.declared.errors.Error.{Error}
use Rattle.capnp_wire_objects.specs.declared.place.Place as code
use Rattle.capnp_units.specs.Segments.{words_in}
use Rattle.capnp_wire.specs.Views.{ListView, element_number}
use Rattle.capnp_wire.specs.Views.{list_at as view_at}
use Rattle.capnp_copy_arenas.specs.Elements.{first_element}
use Rattle.capnp_values_queries.specs.Structs.{schema_around, id_of}
use Rattle.capnp_values.specs.Shown.{number_shown}
use Rattle.capnp_schema_lists.specs.Places.{ElementAt, IsStructAt, IsElementPointer}
use Rattle.capnp_schema_values.specs.declared.placed.Placed.{Placed}
use Rattle.capnp_schema_values.specs.declared.placed.Placed.TheVariants as placed
use Rattle.capnp_schema_values.specs.Plain.{placed_shown}
use Rattle.capnp_schema_values.specs.Slots.{IsStruct, IsGot, IsNotGot}

-- What lies behind the pointer of an element is got, without a default.
abbrev pub IsBehindGot : Ty → Segments → Segments → ElementAt → Placed → Type 0
IsBehindGot ty s u x v = (slot : code.Place) × IsElementPointer x.place x.at slot × IsGot ty (record { slot = slot; around = x.around; default = None }) s u v

abbrev pub IsBehindNotGot : Ty → Segments → Segments → ElementAt → Error → Type 0
IsBehindNotGot ty s u x e = (slot : code.Place) × IsElementPointer x.place x.at slot × IsNotGot ty (record { slot = slot; around = x.around; default = None }) s u e

-- What an element is got as by its type, of a list that readers see so. A plain one is got by the
-- bits at its front, a struct where it lies, any other behind its pointer. Only there something is
-- written.
abbrev pub IsElementGot : Ty → ListView → Segments → Segments → ElementAt → Placed → Type 0
IsElementGot void l s u x v = (u ≡ s) × (v ≡ placed.Void)
IsElementGot (plain p) l s u x v = (u ≡ s) × (placed_shown v ≡ Some (number_shown x.around p (element_number l x.at (width p))))
IsElementGot (struct id) l s u x v = (u ≡ s) × IsStruct (λ part. IsStructAt x.place x.at part.place × (schema_around part.schema ≡ x.around) × (id_of part.schema ≡ id)) v
IsElementGot text l s u x v = IsBehindGot text s u x v
IsElementGot blob l s u x v = IsBehindGot blob s u x v
IsElementGot untyped l s u x v = IsBehindGot untyped s u x v
IsElementGot interface l s u x v = IsBehindGot interface s u x v
IsElementGot (list ty) l s u x v = IsBehindGot (list ty) s u x v

-- Why it isn't got, and what stands then.
abbrev pub IsElementNotGot : Ty → Segments → Segments → ElementAt → Error → Type 0
IsElementNotGot void s u x e = ⊥
IsElementNotGot (plain p) s u x e = ⊥
IsElementNotGot (struct id) s u x e = ⊥
IsElementNotGot text s u x e = IsBehindNotGot text s u x e
IsElementNotGot blob s u x e = IsBehindNotGot blob s u x e
IsElementNotGot untyped s u x e = IsBehindNotGot untyped s u x e
IsElementNotGot interface s u x e = IsBehindNotGot interface s u x e
IsElementNotGot (list ty) s u x e = IsBehindNotGot (list ty) s u x e

-- What a get of an element returns, and what it leaves.
abbrev pub GetsElement : ListView → Segments → Segments → ElementAt → Result Placed Error → Type 0
GetsElement l s u x r = IfOk r (IsElementGot x.ty l s u x) × IfErr r (IsElementNotGot x.ty s u x)

-- What a get of an element returns, and what it leaves, by what an arena holds before and then.
abbrev pub GetsElementAt : {A : Type 0} → (A → List (List ℕ)) → (A → ℤ) → A → A → ElementAt → Result Placed Error → Type 0
GetsElementAt bytes nesting old new x r =
    let o = x.place in
    GetsElement (view_at (bytes old) (nesting old) (first_element o) o.size o.count o.data_words o.pointers) (words_in (bytes old)) (words_in (bytes new)) x r
