-- Why a group isn't set to a struct.
use Rattle.std.proofs.Common.{◌≡◌, ℕ, zero, suc, Bool, true, false, if◌then◌else◌, List, Option, Some, None, Result, Ok, Err, IfErr, ◌⊎◌, inl, inr, refl, sym, ap, subst, ◌∙◌}
use Rattle.std.specs.Prelude.{⊤, MatchOption, option_map}
use Rattle.capnp_model.specs.Kinds.{NestingLimitExceeded}
use Rattle.capnp_model.specs.Segments.{Segments, Place, after}
use Rattle.capnp_model.specs.Trees.{Tree}
use Rattle.capnp_model.specs.Accepted.{schema_of, default_tree, slot_body, field_body}
use Rattle.capnp_model.specs.Printing.{fields_in}
use Rattle.capnp_model.specs.Schemas.{Ty, void, plain, text, blob, untyped, interface, struct, list, type_of, Value, FieldKind, slot, group, Shape, shape, Fields, no_fields, field, Body, pointer_slot, group_slot, Schema}
use Rattle.capnp_units.specs.Errors.{kind_of}
use Rattle.capnp_units.specs.Limits.{left_of}
use Rattle.capnp_units.specs.declared.errors.Error.{Error}
use Rattle.capnp_units.specs.declared.limiter.ReadLimiter.{ReadLimiter}
use Rattle.capnp_wire.specs.Reads.{is_null_pointer}
use Rattle.capnp_wire.specs.Views.{StructView, pointer_field}
use Rattle.capnp_model.specs.Visits.{visits}
use Rattle.capnp_copy_values.specs.Copies.{CopiesValue, IsStoppedOr, copy_source, limited_words}
use Rattle.capnp_values_queries.specs.Fields.{Entry, field_at}
use Rattle.capnp_values_queries.specs.Structs.{nodes_around, schema_around, shape_of_struct, fields_of_struct}
use Rattle.capnp_values_queries.specs.Handles.{entry_of_field}
use Rattle.capnp_values_queries.specs.declared.structs.StructSchema.{StructSchema}
use Rattle.capnp_values_queries.specs.declared.fields.Field.{Field}
use Rattle.capnp_values.specs.Shown.{shown_behind, default_opened, slot_opened, slot_shown, kind_shown, ShowsField}
use Rattle.capnp_model.proofs.lemmas.Tests.{same_some}
use Rattle.capnp_schema_structs.specs.GroupRefusals.{CopyRefused, ChildRefused, SomeRefused, NullBodyRefused, NullEntryRefused, PointerRefused, FieldsRefused, BodyRefused, EntryRefused, FieldRefused}
use Rattle.capnp_schema_structs.proofs.lemmas.GroupFields.{body_is}

-- ---- copies

both : {A B C : Type 0} → A ⊎ B → A ⊎ C → A ⊎ (B × C)
both (inl a) k = inl a
both (inr b) (inl a) = inl a
both (inr b) (inr c) = inr (b, c)

pub copy_refused : (told : Error → Type 0) (levels : ℕ) (f s u : Segments) (q p : Place) (old new : ReadLimiter) (r : Result ⊤ Error) → left_of old ≡ None → CopiesValue (copy_source levels f q) p (limited_words s old) r (limited_words u new) → IsStoppedOr (visits levels f q) old new told r
    → IfErr r (CopyRefused told levels f q u)
copy_refused told levels f s u q p old new (Ok x) none h k = tt
copy_refused told levels f s u q p old new (Err e) none h k = record { old = old; new = new; unlimited = none; why = both h.why k }

pub child_refused : (told : Error → Type 0) (v : StructView) (i levels : ℕ) (u : Segments) → v.levels ≡ Some levels → (r : Result ⊤ Error) → IfErr r (CopyRefused told levels v.basis.segments (after v.first i) u) → IfErr r (ChildRefused told v i u)
child_refused told v i levels u l (Ok x) h = tt
child_refused told v i levels u l (Err e) h = subst (λ o. MatchOption o (kind_of e.kind ≡ NestingLimitExceeded) (λ n. CopyRefused told n v.basis.segments (after v.first i) u e)) (sym l) h

pub child_without : (told : Error → Type 0) (v : StructView) (i : ℕ) (u : Segments) (e : Error) → v.levels ≡ None → kind_of e.kind ≡ NestingLimitExceeded → ChildRefused told v i u e
child_without told v i u e l h = subst (λ o. MatchOption o (kind_of e.kind ≡ NestingLimitExceeded) (λ n. CopyRefused told n v.basis.segments (after v.first i) u e)) (sym l) h

-- ---- what a pointer that isn't null is read as

module _ (s : Schema) (v : StructView) (i : ℕ) (t : Ty) (x : Option Tree) (some : is_null_pointer (pointer_field v i) ≡ false) where
  slot_is : (d : Option Value) → slot_opened s t d (pointer_field v i) ≡ shown_behind s t (pointer_field v i)
  slot_is None = refl
  slot_is (Some d) = ap (λ (b : Bool). if b then default_opened s t (pointer_field v i) d else shown_behind s t (pointer_field v i)) some

  same_slot : (offset : ℕ) (u : Ty) (d : Option Value) → pointer_slot offset u (default_tree d) ≡ pointer_slot i t x → slot_opened s u d (pointer_field v offset) ≡ shown_behind s t (pointer_field v i)
  same_slot offset u d h =
      let at : offset ≡ i = cc h in
      let ty : u ≡ t = cc h in
      ap (λ k. slot_opened s u d (pointer_field v k)) at ∙ ap (λ y. slot_opened s y d (pointer_field v i)) ty ∙ slot_is d

  slot_read : (offset : ℕ) (u : Ty) (d : Option Value) → slot_body offset u d ≡ pointer_slot i t x → slot_shown s v offset u d ≡ shown_behind s t (pointer_field v i)
  slot_read offset void d h = absurd (cc h)
  slot_read offset (plain p) d h = absurd (cc h)
  slot_read offset text d h = same_slot offset text d h
  slot_read offset blob d h = same_slot offset blob d h
  slot_read offset untyped d h = same_slot offset untyped d h
  slot_read offset interface d h = same_slot offset interface d h
  slot_read offset (struct id) d h = same_slot offset (struct id) d h
  slot_read offset (list ty) d h = same_slot offset (list ty) d h

  kind_read : (k : FieldKind) → field_body s.shape_of k ≡ pointer_slot i t x → kind_shown s v k ≡ shown_behind s t (pointer_field v i)
  kind_read (slot offset ty d) h = slot_read offset (type_of ty) d h
  kind_read (group id) h = absurd (cc h)

pub read_refused : {A : Type 0} (bytes : A → List (List ℕ)) (f : Field) (v : StructView) (i : ℕ) (t : Ty) (x : Option Tree) → option_map (λ e. e.body) (entry_of_field f) ≡ Some (pointer_slot i t x) → is_null_pointer (pointer_field v i) ≡ false
    → (e : Error) → ShowsField bytes v f (Err e) → shown_behind (schema_around f.parent) t (pointer_field v i) ≡ Err (kind_of e.kind)
read_refused bytes f v i t x body some e h = sym (kind_read (schema_around f.parent) v i t x some h.said.kind (body_is f h.said h.is (pointer_slot i t x) body)) ∙ sym h.shows

-- ---- a field

pointer_body : (told : Error → Type 0) (s : Schema) (v : StructView) (i : ℕ) (ty : Ty) (d : Option Tree) (b : Bool) (u : Segments) (e : Error) → is_null_pointer (pointer_field v i) ≡ b → PointerRefused told b (record { holder = v; at = i; around = s; ty = ty }) d u e → BodyRefused told s (pointer_slot i ty d) v u e
unfolding FieldsRefused
pointer_body told s v i ty d b u e is h = subst (λ (y : Bool). PointerRefused told y (record { holder = v; at = i; around = s; ty = ty }) d u e) (sym is) h

pub null_refused : (told : Error → Type 0) (s : Schema) (v : StructView) (u : Segments) (o : Option Entry) (i : ℕ) (ty : Ty) (d : Option Tree) → option_map (λ e. e.body) o ≡ Some (pointer_slot i ty d) → is_null_pointer (pointer_field v i) ≡ true → (r : Result ⊤ Error) → IfErr r (NullEntryRefused told s o u) → IfErr r (EntryRefused told s o v u)
null_refused told s v u None i ty d body is r h = absurd (cc body)
null_refused told s v u (Some x) i ty d body is (Ok y) h = tt
null_refused told s v u (Some x) i ty d body is (Err e) h =
    let same = same_some body in
    subst (λ (y : Body). BodyRefused told s y v u e) (sym same) (pointer_body told s v i ty d true u e is (subst (λ (y : Body). NullBodyRefused told s y u e) same h))

pub some_refused : (told : Error → Type 0) (s : Schema) (v : StructView) (u : Segments) (o : Option Entry) (i : ℕ) (ty : Ty) (d : Option Tree) → option_map (λ e. e.body) o ≡ Some (pointer_slot i ty d) → is_null_pointer (pointer_field v i) ≡ false → (r : Result ⊤ Error) → IfErr r (SomeRefused told (record { holder = v; at = i; around = s; ty = ty }) u) → IfErr r (EntryRefused told s o v u)
some_refused told s v u None i ty d body is r h = absurd (cc body)
some_refused told s v u (Some x) i ty d body is (Ok y) h = tt
some_refused told s v u (Some x) i ty d body is (Err e) h = subst (λ (y : Body). BodyRefused told s y v u e) (sym (same_some body)) (pointer_body told s v i ty d false u e is h)

group_body : (told : Error → Type 0) (s : Schema) (g : Shape) (v : StructView) (u : Segments) (e : Error) → FieldsRefused told s (fields_in g) v u e → BodyRefused told s (group_slot g) v u e
unfolding FieldsRefused
group_body told s (shape nid w p un fs) v u e h = h

group_entry : (told : Error → Type 0) (s : Schema) (g : Shape) (v : StructView) (u : Segments) (o : Option Entry) → option_map (λ e. e.body) o ≡ Some (group_slot g) → (r : Result ⊤ Error) → IfErr r (FieldsRefused told s (fields_in g) v u) → IfErr r (EntryRefused told s o v u)
group_entry told s g v u None body r h = absurd (cc body)
group_entry told s g v u (Some x) body (Ok y) h = tt
group_entry told s g v u (Some x) body (Err e) h = subst (λ (y : Body). BodyRefused told s y v u e) (sym (same_some body)) (group_body told s g v u e h)

pub group_isnt_set : (told : Error → Type 0) (f : Field) (g : StructSchema) (v : StructView) (u : Segments) → option_map (λ e. e.body) (entry_of_field f) ≡ Some (group_slot (shape_of_struct g)) → nodes_around g ≡ nodes_around f.parent → (r : Result ⊤ Error) → IfErr r (FieldsRefused told (schema_around g) (fields_of_struct g) v u) → IfErr r (FieldRefused told f v u)
group_isnt_set told f g v u body nodes r h = group_entry told (schema_around f.parent) (shape_of_struct g) v u (entry_of_field f) body r (subst (λ ns. IfErr r (FieldsRefused told (schema_of ns) (fields_of_struct g) v u)) nodes h)

-- ---- one of the fields

at_field : (told : Error → Type 0) (s : Schema) (fs : Fields) (i : ℕ) (x : Entry) (v : StructView) (u : Segments) (e : Error) → field_at fs i ≡ Some x → BodyRefused told s x.body v u e → FieldsRefused told s fs v u e
unfolding FieldsRefused
at_field told s no_fields zero x v u e h k = absurd (cc h)
at_field told s no_fields (suc i) x v u e h k = absurd (cc h)
at_field told s (field n m b fs) zero x v u e h k = inl (subst (λ (y : Entry). BodyRefused told s y.body v u e) (sym (same_some h)) k)
at_field told s (field n m b fs) (suc i) x v u e h k = inr (at_field told s fs i x v u e h k)

by_entry : (told : Error → Type 0) (s : Schema) (fs : Fields) (i : ℕ) (o : Option Entry) (v : StructView) (u : Segments) (e : Error) → field_at fs i ≡ o → EntryRefused told s o v u e → FieldsRefused told s fs v u e
by_entry told s fs i None v u e h k = absurd k
by_entry told s fs i (Some x) v u e h k = at_field told s fs i x v u e h k

pub one_refused : (told : Error → Type 0) (g : StructSchema) (f : Field) → f.parent ≡ g → (v : StructView) (u : Segments) (e : Error) → FieldRefused told f v u e → FieldsRefused told (schema_around g) (fields_of_struct g) v u e
one_refused told g f parent v u e h = subst (λ (y : StructSchema). FieldsRefused told (schema_around y) (fields_of_struct y) v u e) parent (by_entry told (schema_around f.parent) (fields_of_struct f.parent) f.index (entry_of_field f) v u e refl h)
