-- Why null pointers of active members aren't set.
use Rattle.std.proofs.Common.{◌≡◌, ℕ, ◌*◌, ◌^◌, ◌≤◌, true, List, length, Option, Some, None, Result, Ok, Err, OnOk, IfErr, inl, inr, refl, sym, ap, subst}
use Rattle.std.specs.Prelude.{⊤, option_map}
use Rattle.capnp_model.specs.Accepted.{slot_body, field_body}
use Rattle.capnp_model.specs.Calls.{blob_tree}
use Rattle.capnp_model.specs.Coverage.{Grows}
use Rattle.capnp_model.specs.Groups.{empty_tree, source_tree}
use Rattle.capnp_model.specs.Schemas.{Ty, void, plain, text, blob, untyped, interface, struct, list, type_of, Value, FieldKind, slot, group, Field as FieldNode, Shape, Body, pointer_slot, Schema, default_or_null}
use Rattle.capnp_model.specs.Sections.{words_for}
use Rattle.capnp_model.specs.Segments.{Segments, root}
use Rattle.capnp_model.specs.Sizes.{object_words}
use Rattle.capnp_model.specs.Traversal.{tree_at}
use Rattle.capnp_model.specs.Trees.{Tree, null, capability, structure, plain_list, pointer_list, struct_list}
use Rattle.capnp_model.specs.Visits.{visits, visits_cost}
use Rattle.capnp_units.specs.Errors.{kind_of}
use Rattle.capnp_units.specs.Segments.{words_in}
use Rattle.capnp_units.specs.declared.errors.Error.{Error}
use Rattle.capnp_wire_objects.specs.declared.place.Place as code
use Rattle.capnp_copy_values.specs.Copies.{Unplaced}
use Rattle.capnp_copy_values.specs.Defaults.{default_segments}
use Rattle.capnp_layout_builders.specs.Making.{ArenaState, Makes, BytesNotSet, ListRefused}
use Rattle.capnp_values_queries.specs.Fields.{Entry}
use Rattle.capnp_values_queries.specs.Structs.{schema_around}
use Rattle.capnp_values_queries.specs.Types.{is_pointer}
use Rattle.capnp_values_queries.specs.Handles.{entry_of_field, IsFieldRecord}
use Rattle.capnp_values_queries.specs.declared.fields.Field.{Field}
use Rattle.capnp_model.proofs.lemmas.Tests.{same_some}
use Rattle.capnp_values.specs.Standing.{IsPointerType}
use Rattle.capnp_schema_structs.specs.NewLists.{ObjectNotMade}
use Rattle.capnp_schema_structs.specs.GroupRefusals.{type_tested, CopyRefused, CopyUnplaced, NotPut, ValueUnplaced, NullRefused, NullBodyRefused, NullEntryRefused, NullFieldRefused}
use Rattle.capnp_schema_structs.specs.GroupSets.{PutsValue}
use Rattle.capnp_schema_structs.proofs.lemmas.GroupFields.{body_is}
use Rattle.capnp_schema_structs.proofs.EmptyValues.{made_puts, list_stands}
use Rattle.capnp_wire_objects.proofs.lemmas.Walks.{unstopped}

-- ---- copies of values that can be read

-- the copy of a value that can be read is refused for want of room alone
copy_unplaced : (told : Error → Type 0) (ws : List (List ℕ)) (t : Tree) (cost : ℕ) (u : Segments) (e : Error) → tree_at 64 (default_segments ws) root ≡ Some t → visits_cost (visits 64 (default_segments ws) root) ≡ Some cost → CopyRefused told 64 (default_segments ws) root u e → CopyUnplaced u t e × told e
copy_unplaced told ws t cost u e holds costs h =
    let path = visits 64 (default_segments ws) root in
    let why : Unplaced (default_segments ws) path u h.old e h.new × told e = elim h.why [ inl x ↦ absurd (unstopped path cost h.old h.new e costs h.unlimited x) | inr x ↦ x ] in
    (record { words = ws; holds = holds; old = h.old; new = h.new; unlimited = h.unlimited; why = why.0 }, why.1)

pub copy_not_put : (told : Error → Type 0) (old new : ArenaState) (segment : ℕ) (ws : List (List ℕ)) (t : Tree) (cost : ℕ) → tree_at 64 (default_segments ws) root ≡ Some t → visits_cost (visits 64 (default_segments ws) root) ≡ Some cost
    → (r : Result ⊤ Error) → IfErr r (CopyRefused told 64 (default_segments ws) root (words_in new.segments)) → IfErr r (NotPut told old new segment t)
copy_not_put told old new segment ws t cost holds costs (Ok x) h = tt
copy_not_put told old new segment ws t cost holds costs (Err e) h = let x = copy_unplaced told ws t cost (words_in new.segments) e holds costs h in inr (inr x.0, x.1)

-- ---- what is put

-- a value by another name
pub put_as : (told : Error → Type 0) (old new : ArenaState) (at : code.Place) (t v : Tree) (r : Result ⊤ Error) → t ≡ v → PutsValue told old new at t r → PutsValue told old new at v r
put_as told old new at t v r e h = subst (λ y. PutsValue told old new at y r) e h

module _ (told : Error → Type 0) (old new : ArenaState) (at : code.Place) where
  object_not_put : (t : Tree) (r : Result ⊤ Error) → IfErr r (ObjectNotMade old new at.segment t) → IfErr r told → IfErr r (NotPut told old new at.segment t)
  object_not_put t (Ok x) h k = tt
  object_not_put t (Err e) h k = inr (inl h, k)

  -- an object is made
  pub object_put : (t v : Tree) (words : ℕ) (r : Result ⊤ Error) → t ≡ v → OnOk r (Makes old new at t words) → IfErr r (ObjectNotMade old new at.segment t) → IfErr r told → OnOk r (Grows (words_in old.segments) (words_in new.segments)) → new.books ≡ old.books → PutsValue told old new at v r
  object_put t v words r same made refused cause grows books =
      put_as told old new at t v r same (record { puts = made_puts r old new at t t words refl made; stands = list_stands r old new at.segment t grows refused; why = object_not_put t r refused cause; books = books })

  bytes_words : (bs : List ℕ) → words_for (8 * length bs) ≡ object_words (blob_tree bs)
  unfolding object_words
  bytes_words bs = refl

  bytes_not_made : (bs : List ℕ) (r : Result ⊤ Error) → IfErr r (BytesNotSet old new at.segment (length bs)) → IfErr r (ObjectNotMade old new at.segment (blob_tree bs))
  bytes_not_made bs (Ok x) h = tt
  bytes_not_made bs (Err e) h = (subst (λ n. ListRefused old at.segment (2 ^ 29 ≤ length bs) n e) (bytes_words bs) h.0, h.1)

  -- a text or data
  pub blob_put : (bs : List ℕ) (words : ℕ) (r : Result ⊤ Error) → OnOk r (Makes old new at (blob_tree bs) words) → IfErr r (BytesNotSet old new at.segment (length bs)) → IfErr r told → OnOk r (Grows (words_in old.segments) (words_in new.segments)) → new.books ≡ old.books → PutsValue told old new at (blob_tree bs) r
  blob_put bs words r made refused cause grows books = object_put (blob_tree bs) (blob_tree bs) words r refl made (bytes_not_made bs r refused) cause grows books

-- ---- a type that is set counts as no null

slot_behind : (offset : ℕ) (u : Ty) (d : Option Value) (i : ℕ) (t : Ty) (x : Option Tree) → slot_body offset u d ≡ pointer_slot i t x → is_pointer t ≡ true
slot_behind offset void d i t x h = absurd (cc h)
slot_behind offset (plain p) d i t x h = absurd (cc h)
slot_behind offset text d i t x h = let e : t ≡ text = cc h in ap is_pointer e
slot_behind offset blob d i t x h = let e : t ≡ blob = cc h in ap is_pointer e
slot_behind offset untyped d i t x h = let e : t ≡ untyped = cc h in ap is_pointer e
slot_behind offset interface d i t x h = let e : t ≡ interface = cc h in ap is_pointer e
slot_behind offset (struct id) d i t x h = let e : t ≡ struct id = cc h in ap is_pointer e
slot_behind offset (list ty) d i t x h = let e : t ≡ list ty = cc h in ap is_pointer e

kind_behind : (groups : ℕ → Shape) (k : FieldKind) (i : ℕ) (t : Ty) (x : Option Tree) → field_body groups k ≡ pointer_slot i t x → is_pointer t ≡ true
kind_behind groups (slot offset ty d) i t x h = slot_behind offset (type_of ty) d i t x h
kind_behind groups (group id) i t x h = absurd (cc h)

empty_some : (s : Schema) (ty : Ty) → is_pointer ty ≡ true → type_tested ty ≡ Ok tt → empty_tree s ty ≡ null → ⊥
empty_some s void b k h = absurd (cc b)
empty_some s (plain p) b k h = absurd (cc b)
empty_some s text b k h = absurd (cc h)
empty_some s blob b k h = absurd (cc h)
empty_some s untyped b k h = absurd (cc k)
empty_some s interface b k h = absurd (cc k)
empty_some s (struct id) b k h = absurd (cc h)
empty_some s (list void) b k h = absurd (cc h)
empty_some s (list (plain p)) b k h = absurd (cc h)
empty_some s (list text) b k h = absurd (cc h)
empty_some s (list blob) b k h = absurd (cc h)
empty_some s (list untyped) b k h = absurd (cc h)
empty_some s (list interface) b k h = absurd (cc h)
empty_some s (list (struct id)) b k h = absurd (cc h)
empty_some s (list (list ty)) b k h = absurd (cc h)

counts_some : (s : Schema) (ty : Ty) (d : Tree) → is_pointer ty ≡ true → type_tested ty ≡ Ok tt → source_tree s ty d null ≡ null → ⊥
counts_some s ty null b k h = empty_some s ty b k h
counts_some s ty (capability i) b k h = absurd (cc h)
counts_some s ty (structure w x ts) b k h = absurd (cc h)
counts_some s ty (plain_list size n x) b k h = absurd (cc h)
counts_some s ty (pointer_list ts) b k h = absurd (cc h)
counts_some s ty (struct_list w p es) b k h = absurd (cc h)

-- ---- a field

in_slot : (told : Error → Type 0) (s : Schema) (o : Option Entry) (i : ℕ) (ty : Ty) (d : Option Tree) (u : Segments) (e : Error) → option_map (λ e. e.body) o ≡ Some (pointer_slot i ty d) → NullRefused told s ty d u e → NullEntryRefused told s o u e
in_slot told s None i ty d u e body h = absurd (cc body)
in_slot told s (Some x) i ty d u e body h = subst (λ (y : Body). NullBodyRefused told s y u e) (sym (same_some body)) h

unplaced : (told : Error → Type 0) (old new : ArenaState) (segment : ℕ) (t : Tree) (e : Error) → (t ≡ null → ⊥) → NotPut told old new segment t e → ValueUnplaced (words_in new.segments) t e × told e
unplaced told old new segment t e some (inl x) = absurd (some x.0)
unplaced told old new segment t e some (inr (inl x, k)) = (inl (record { state = old; words = ap words_in (sym x.1.0); segment = segment; why = x.0 }), k)
unplaced told old new segment t e some (inr (inr x, k)) = (inr x, k)

module _ (told : Error → Type 0) (f : Field) (i : ℕ) (ty : Ty) (d : Option Tree) (body : option_map (λ e. e.body) (entry_of_field f) ≡ Some (pointer_slot i ty d)) (e : Error) where
  -- its type isn't set
  pub null_untaken : (u : Segments) → type_tested ty ≡ Err (kind_of e.kind) → NullFieldRefused told f u e
  null_untaken u h = in_slot told (schema_around f.parent) (entry_of_field f) i ty d u e body (inl h)

  -- it is, but what it counts as isn't put
  pub null_unplaced : (r : FieldNode) → IsFieldRecord f.parent f.index r → type_tested ty ≡ Ok tt → (old new : ArenaState) (segment : ℕ) → NotPut told old new segment (source_tree (schema_around f.parent) ty (default_or_null d) null) e → NullFieldRefused told f (words_in new.segments) e
  null_unplaced r is taken old new segment h =
      let s = schema_around f.parent in
      let behind = kind_behind s.shape_of r.kind i ty d (body_is f r is (pointer_slot i ty d) body) in
      in_slot told s (entry_of_field f) i ty d (words_in new.segments) e body (inr (unplaced told old new segment _ e (counts_some s ty (default_or_null d) behind taken) h))

  -- and then memory is refused
  pub null_told : (r : FieldNode) → IsFieldRecord f.parent f.index r → type_tested ty ≡ Ok tt → (old new : ArenaState) (segment : ℕ) → NotPut told old new segment (source_tree (schema_around f.parent) ty (default_or_null d) null) e → told e
  null_told r is taken old new segment h =
      let s = schema_around f.parent in
      let behind = kind_behind s.shape_of r.kind i ty d (body_is f r is (pointer_slot i ty d) body) in
      (unplaced told old new segment _ e (counts_some s ty (default_or_null d) behind taken) h).1

-- the type of a field behind a pointer
pub behind_pointer : (f : Field) (r : FieldNode) → IsFieldRecord f.parent f.index r → (i : ℕ) (ty : Ty) (d : Option Tree) → option_map (λ e. e.body) (entry_of_field f) ≡ Some (pointer_slot i ty d) → is_pointer ty ≡ true
behind_pointer f r is i ty d body = kind_behind (schema_around f.parent).shape_of r.kind i ty d (body_is f r is (pointer_slot i ty d) body)

pub is_behind : (ty : Ty) → is_pointer ty ≡ true → IsPointerType ty
is_behind void h = absurd (cc h)
is_behind (plain p) h = absurd (cc h)
is_behind text h = tt
is_behind blob h = tt
is_behind untyped h = tt
is_behind interface h = tt
is_behind (struct id) h = tt
is_behind (list ty) h = tt
