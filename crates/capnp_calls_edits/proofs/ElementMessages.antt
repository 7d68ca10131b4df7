-- An element that is set to the value of a message.
use Rattle.std.proofs.Common.{◌≡◌, ℕ, ◌+◌, [], Result, Ok, Err, OnOk, sym, subst, ap, ◌∙◌, arith}
use Rattle.capnp_model.specs.Segments.{Segments}
use Rattle.capnp_model.specs.Trees.{Tree, null, capability, structure, plain_list, pointer_list, struct_list, child}
use Rattle.capnp_model.specs.Schemas.{Ty, struct, list, Schema}
use Rattle.capnp_model.specs.Readings.{is_list_of}
use Rattle.capnp_model.specs.Calls.{set_to, message, message_root, Content, object, struct_content, element_content}
use Rattle.capnp_model.specs.Steps.{reading_after}
use Rattle.capnp_model.specs.Edits.{Cell, Edit, put_in_element, edit_list, edit_element}
use Rattle.capnp_wire_objects.specs.declared.place.Place as code
use Rattle.capnp_wire_objects.specs.Places.{place_view}
use Rattle.capnp_model_writes.specs.Footprints.{OwnsObject}
use Rattle.capnp_model_writes.specs.Changes.{ReplacesObject}
use Rattle.capnp_copy_arenas.specs.Lists.{object_of_list}
use Rattle.capnp_copy_arenas.specs.Structs.{object_of_struct}
use Rattle.capnp_copy_arenas.specs.declared.fields.StructPlace.{StructPlace}
use Rattle.capnp_copy_arenas.specs.declared.init.ListPlace.{ListPlace}
use Rattle.capnp_schema_lists.specs.Lists.{IsListOf}
use Rattle.capnp_schema_lists.specs.Parts.{cell_in, IsElementStruct, IsPointerOf, on_child}
use Rattle.capnp_calls.specs.Sizes.{IsDone}
use Rattle.capnp_schema_structs.specs.GroupSets.{PutsAny}
use Rattle.capnp_calls_edits.specs.Elements.{EditsElementAt, TakesTree}
use Rattle.capnp_calls_edits.proofs.SetMessages.{list_done}
use Rattle.capnp_calls_edits.proofs.ElementEnds.{set_done, last_edit}

content_is : (s : Schema) (e : Ty) (t : Tree) → IsDone (reading_after s (list e) (element_content s (set_to (message t)) (list e))) → element_content s (set_to (message t)) (list e) ≡ object (message_root t)
content_is s e null h = absurd h
content_is s e (capability i) h = absurd h
content_is s e (structure w x ts) h = absurd h
content_is s e (plain_list size n x) h = list_done s (list e) (plain_list size n x) (is_list_of (plain_list size n x) e) h
content_is s e (pointer_list ts) h = list_done s (list e) (pointer_list ts) (is_list_of (pointer_list ts) e) h
content_is s e (struct_list w p es) h = list_done s (list e) (struct_list w p es) (is_list_of (struct_list w p es) e) h

message_written : (s u : Segments) (o : ListPlace) (k : ℕ) (q : code.Place) → ((n : ℕ) (t : Tree) → IsListOf o t → OwnsObject n s (object_of_list o) t → IsPointerOf n s o k q t)
    → (around : Schema) (e : Ty) (t : Tree) → PutsAny s u (place_view q) (message_root t) → EditsElementAt s u (record { place = o; at = k; around = around; ty = list e }) (record { path = []; verb = set_to (message t) })
message_written s u o k q parts around e t puts n v is own is_done =
    let new : Tree = message_root t in
    let x = parts n v is own in
    let w = puts n (child (cell_in v k).kids 0) x.owns in
    let lifted = x.lifts (n + w.0) u (λ y. new) (omega arith) w.1 in
    let content : element_content around (set_to (message t)) (list e) ≡ object new = content_is around e t (set_done around (list e) (message t) (cell_in v k) is_done) in
    let same : on_child (λ y. new) ≡ edit_element around [] (set_to (message t)) (list e) =
    ap (λ (y : Content). λ (words pointers : ℕ) (c : Cell). put_in_element words pointers (list e) y c) (sym content) ∙ last_edit around (set_to (message t)) (list e) in
    (w.0, subst (λ (f : ℕ → ℕ → Edit). ReplacesObject (n + w.0) s u (object_of_list o) (edit_list f k v)) same lifted)

pub list_set : {X E : Type 0} (s u : Segments) (o : ListPlace) (k : ℕ) (q : code.Place) → ((n : ℕ) (t : Tree) → IsListOf o t → OwnsObject n s (object_of_list o) t → IsPointerOf n s o k q t)
    → (around : Schema) (ty e : Ty) (t : Tree) → list e ≡ ty → (r : Result X E) → OnOk r (PutsAny s u (place_view q) (message_root t)) → OnOk r (EditsElementAt s u (record { place = o; at = k; around = around; ty = ty }) (record { path = []; verb = set_to (message t) }))
list_set s u o k q parts around ty e t same (Ok x) puts = subst (λ y. EditsElementAt s u (record { place = o; at = k; around = around; ty = y }) (record { path = []; verb = set_to (message t) })) same (message_written s u o k q parts around e t puts)
list_set s u o k q parts around ty e t same (Err x) puts = tt

-- ---- an element that is a struct

struct_value : (n : ℕ) (s u : Segments) (p : StructPlace) (around : Schema) (id : ℕ) (c : Cell) (m : Tree) → IsDone (reading_after around (struct id) (struct_content m)) → TakesTree s u p m → OwnsObject n s (object_of_struct p) (structure p.data_words c.section c.kids)
    → ReplacesObject (n + 65) s u (object_of_struct p) (let d = put_in_element p.data_words p.pointers (struct id) (struct_content m) c in structure p.data_words d.section d.kids)
struct_value n s u p around id c null h takes own = absurd h
struct_value n s u p around id c (capability i) h takes own = absurd h
struct_value n s u p around id c (structure w x ts) h takes own = takes n c.section c.kids own
struct_value n s u p around id c (plain_list size k x) h takes own = absurd h
struct_value n s u p around id c (pointer_list ts) h takes own = absurd h
struct_value n s u p around id c (struct_list w j es) h takes own = absurd h

struct_written : (s u : Segments) (o : ListPlace) (k : ℕ) (p : StructPlace) → ((n : ℕ) (t : Tree) → IsListOf o t → OwnsObject n s (object_of_list o) t → IsElementStruct n s o k p t)
    → (around : Schema) (id : ℕ) (t : Tree) → TakesTree s u p (message_root t) → EditsElementAt s u (record { place = o; at = k; around = around; ty = struct id }) (record { path = []; verb = set_to (message t) })
struct_written s u o k p parts around id t takes n v is own is_done =
    let x = parts n v is own in
    let c = cell_in v k in
    let put = struct_value n s u p around id c (message_root t) (set_done around (struct id) (message t) c is_done) takes x.owns in
    let here : ReplacesObject (n + 65) s u (object_of_struct p) (let d = edit_element around [] (set_to (message t)) (struct id) p.data_words p.pointers c in structure p.data_words d.section d.kids) =
    subst (λ (f : ℕ → ℕ → Edit). ReplacesObject (n + 65) s u (object_of_struct p) (let d = f p.data_words p.pointers c in structure p.data_words d.section d.kids)) (last_edit around (set_to (message t)) (struct id)) put in
    (65, x.lifts (n + 65) u (edit_element around [] (set_to (message t)) (struct id)) (omega arith) here)

pub struct_set : {X E : Type 0} (s u : Segments) (o : ListPlace) (k : ℕ) (p : StructPlace) → ((n : ℕ) (t : Tree) → IsListOf o t → OwnsObject n s (object_of_list o) t → IsElementStruct n s o k p t)
    → (around : Schema) (ty : Ty) (id : ℕ) (t : Tree) → struct id ≡ ty → (r : Result X E) → OnOk r (TakesTree s u p (message_root t)) → OnOk r (EditsElementAt s u (record { place = o; at = k; around = around; ty = ty }) (record { path = []; verb = set_to (message t) }))
struct_set s u o k p parts around ty id t same (Ok x) takes = subst (λ y. EditsElementAt s u (record { place = o; at = k; around = around; ty = y }) (record { path = []; verb = set_to (message t) })) same (struct_written s u o k p parts around id t takes)
struct_set s u o k p parts around ty id t same (Err x) takes = tt
