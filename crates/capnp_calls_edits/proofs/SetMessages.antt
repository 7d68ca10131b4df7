-- A field that is set to the value of a message.
use Rattle.std.proofs.Common.{◌≡◌, ℕ, ◌+◌, ◌<◌, Bool, true, false, if◌then◌else◌, [], Option, Some, Result, OnOk, refl, sym, ap, subst, ◌∙◌, arith}
use Rattle.std.specs.Prelude.{⊤, option_map}
use Rattle.capnp_model.specs.Kinds.{TypeMismatch}
use Rattle.capnp_model.specs.Segments.{Segments, Place, root, after}
use Rattle.capnp_model.specs.Traversal.{tree_at}
use Rattle.capnp_model.specs.Trees.{Tree, null, capability, structure, plain_list, pointer_list, struct_list, none, child, with_child, resized}
use Rattle.capnp_model.specs.Schemas.{Ty, void, plain, text, blob, untyped, interface, struct, list, Field as FieldNode, Body, pointer_slot, Schema}
use Rattle.capnp_model.specs.Readings.{is_list_of}
use Rattle.capnp_model.specs.Steps.{reading_after, step_field}
use Rattle.capnp_model.specs.Calls.{set_to, message, message_root, refused_by, object, struct_content, slot_content}
use Rattle.capnp_model.specs.Edits.{Cell, mark, put_child, put_content}
use Rattle.capnp_units.specs.declared.errors.Error.{Error}
use Rattle.capnp_wire_objects.specs.Places.{place_view}
use Rattle.capnp_model_writes.specs.Footprints.{Owns, OwnsObject}
use Rattle.capnp_model_writes.specs.Changes.{Replaces, ReplacesObject}
use Rattle.capnp_model_writes.proofs.lemmas.Lift.{child_of_struct, struct_of_child, object_replaced_owned, object_replaced_then}
use Rattle.capnp_copy_arenas.specs.Structs.{object_of_struct}
use Rattle.capnp_copy_arenas.specs.Values.{Becomes}
use Rattle.capnp_copy_arenas.specs.declared.fields.StructPlace.{StructPlace}
use Rattle.capnp_copy_values.specs.Defaults.{is_null_or_absent}
use Rattle.capnp_values_queries.specs.Fields.{union_in}
use Rattle.capnp_values_queries.specs.Structs.{schema_around, shape_of_struct}
use Rattle.capnp_values_queries.specs.Handles.{entry_of_field, IsFieldRecord}
use Rattle.capnp_values_queries.specs.declared.fields.Field.{Field}
use Rattle.capnp_schema_structs.specs.Edits.{Edits, marked, marked_in}
use Rattle.capnp_schema_structs.proofs.lemmas.Deeper.{object_owned_more, mark_last}
use Rattle.capnp_calls.specs.Sizes.{IsDone}
use Rattle.capnp_calls.specs.Paths.{field_outcome}
use Rattle.capnp_calls.proofs.lemmas.OneStep.{is_pointer}
use Rattle.capnp_schema_structs.specs.GroupSets.{PutsAny}
use Rattle.capnp_schema_structs.proofs.lemmas.AnyEdits.{puts_becomes}
use Rattle.capnp_schema_structs.proofs.lemmas.NullMembers.{null_at, null_value}
use Rattle.capnp_calls_edits.specs.Written.{edit_at, WritesField, takes_message}
use Rattle.capnp_calls_edits.proofs.Lifting.{cell}
use Rattle.capnp_calls_edits.proofs.lemmas.Outcomes.{done_at, edit_is}
use Rattle.capnp_calls_edits.proofs.Ends.{slot_put, last_step}

-- ---- the value is put

pub emptied : (f s u : Segments) (p : Place) (t : Tree) → tree_at 64 f root ≡ Some t → is_null_or_absent f root ≡ true → Becomes s u p (structure 0 0 (resized 0 none)) → PutsAny s u p (message_root t)
emptied f s u p t e h b =
    let empty : t ≡ null = null_value 64 f root t e h in
    subst (λ x. PutsAny s u p (message_root x)) (sym empty) (puts_becomes s u p (structure 0 0 none) b)

root_is : (f : Segments) (t : Tree) → tree_at 64 f root ≡ Some t → is_null_or_absent f root ≡ false → t ≡ message_root t
root_is f null e h = (let no : true ≡ false = sym (null_at 64 f root e) ∙ h in absurd cc)
root_is f (capability i) e h = refl
root_is f (structure w x ts) e h = refl
root_is f (plain_list size n x) e h = refl
root_is f (pointer_list ts) e h = refl
root_is f (struct_list w p es) e h = refl

pub root_put : (f s u : Segments) (p : Place) (r : Result ⊤ Error) (t : Tree) → tree_at 64 f root ≡ Some t → is_null_or_absent f root ≡ false → OnOk r (PutsAny s u p t) → OnOk r (PutsAny s u p (message_root t))
root_put f s u p r t e h o = subst (λ y. OnOk r (PutsAny s u p y)) (root_is f t e h) o

-- ---- what the call puts

pub list_done : (s : Schema) (ty : Ty) (t : Tree) (b : Bool) → IsDone (reading_after s ty (if b then object t else refused_by TypeMismatch)) → (if b then object t else refused_by TypeMismatch) ≡ object t
list_done s ty t true h = refl
list_done s ty t false h = absurd h

struct_done : (s : Schema) (ty : Ty) (t : Tree) → IsDone (reading_after s ty (struct_content t)) → struct_content t ≡ object t
struct_done s ty null h = absurd h
struct_done s ty (capability i) h = absurd h
struct_done s ty (structure w x ts) h = refl
struct_done s ty (plain_list size n x) h = absurd h
struct_done s ty (pointer_list ts) h = absurd h
struct_done s ty (struct_list w p es) h = absurd h

module _ (s : Schema) (union member : Option ℕ) (i : ℕ) (d : Option Tree) (c : Cell) where
  pub content_is : (ty : Ty) (t : Tree) → takes_message ty ≡ true → IsDone (field_outcome s [] (set_to (message t)) union member (pointer_slot i ty d) c) → slot_content s (set_to (message t)) (pointer_slot i ty d) ≡ object (message_root t)
  unfolding field_outcome step_field
  content_is void t takes h = absurd (cc takes)
  content_is (plain p) t takes h = absurd (cc takes)
  content_is text t takes h = absurd (cc takes)
  content_is blob t takes h = absurd (cc takes)
  content_is untyped t takes h = refl
  content_is interface t takes h = absurd (cc takes)
  content_is (struct id) t takes h = struct_done s (struct id) (message_root t) h
  content_is (list ty) null takes h = absurd h
  content_is (list ty) (capability k) takes h = absurd h
  content_is (list ty) (structure w x ts) takes h = absurd h
  content_is (list ty) (plain_list size n x) takes h = list_done s (list ty) (plain_list size n x) (is_list_of (plain_list size n x) ty) h
  content_is (list ty) (pointer_list ts) takes h = list_done s (list ty) (pointer_list ts) (is_list_of (pointer_list ts) ty) h
  content_is (list ty) (struct_list w p es) takes h = list_done s (list ty) (struct_list w p es) (is_list_of (struct_list w p es) ty) h

-- ---- the field is set

pub message_end : (f : Field) (r : FieldNode) (is : IsFieldRecord f.parent f.index r) (i : ℕ) (ty : Ty) (d : Option Tree) → option_map (λ e. e.body) (entry_of_field f) ≡ Some (pointer_slot i ty d) → takes_message ty ≡ true → (t : Tree) (s m u : Segments) (p : StructPlace) (q : Place)
    → i < p.pointers → q ≡ after (after (place_view p.start) p.data_words) i → PutsAny s m q (message_root t) → Edits m u p (marked f) → WritesField s u p f (record { path = []; verb = set_to (message t) })
message_end f r is i ty d same takes t s m u p q l at puts marks n section kids o done =
    let around = schema_around f.parent in
    let union = union_in (shape_of_struct f.parent) in
    let b : Body = pointer_slot i ty d in
    let verb = set_to (message t) in
    let new : Tree = message_root t in
    let c : Cell = cell section kids in
    let slot = after (after (place_view p.start) p.data_words) i in
    let owned = child_of_struct n s (place_view p.start) p.data_words p.pointers i p.data_words section kids l o in
    let w = puts n (child kids i) (subst (λ x. Owns n s x (child kids i)) (sym at) owned) in
    let k : ℕ = n + w.0 in
    let put : Replaces k s m slot new = subst (λ x. Replaces k s m x new) at w.1 in
    let more = object_owned_more n k s (object_of_struct p) (structure p.data_words section kids) (omega arith) o in
    let first : ReplacesObject k s m (object_of_struct p) (structure p.data_words section (with_child kids i new)) = struct_of_child k s m (place_view p.start) p.data_words p.pointers i p.data_words section kids new l more put in
    let mid : Cell = put_child i new c in
    let own : OwnsObject k m (object_of_struct p) (structure p.data_words section (with_child kids i new)) = object_replaced_owned k s m (object_of_struct p) (structure p.data_words section kids) (structure p.data_words section (with_child kids i new)) more first in
    let last : Cell = marked f mid in
    let second : ReplacesObject k m u (object_of_struct p) (structure p.data_words last.section last.kids) = marks k section (with_child kids i new) own in
    let whole = object_replaced_then k s m u (object_of_struct p) (structure p.data_words section (with_child kids i new)) (structure p.data_words last.section last.kids) first second in
    let content : slot_content around verb b ≡ object new = content_is around union r.member i d c ty t takes (done_at f r is b same [] verb c done) in
    let edit : last ≡ edit_at f [] verb (entry_of_field f) c =
    ap (λ e. marked_in union e mid) is.entry ∙ mark_last union r.member i new c ∙ ap (λ x. put_content b x (mark union r.member c)) (sym content)
    ∙ slot_put around verb b (is_pointer i ty d) (mark union r.member c) ∙ last_step around verb union r.member b c ∙ edit_is f r is b same [] verb c in
    (w.0, subst (λ (x : Cell). ReplacesObject k s u (object_of_struct p) (structure p.data_words x.section x.kids)) edit whole)
