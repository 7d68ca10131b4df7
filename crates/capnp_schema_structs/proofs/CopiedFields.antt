-- One field of a group after the other is set, where the struct lies.
use Rattle.std.proofs.Common.{◌≡◌, ℕ, suc, ◌+◌, ◌*◌, ◌<◌, Bool, true, false, List, [], ◌∷◌, ◌++◌, Option, Some, None, Result, Ok, Err, sym, ap, subst, ◌∙◌, arith}
use Rattle.std.specs.Prelude.{⊤, option_map}
use Rattle.capnp_model.specs.Segments.{Segments, Place, after}
use Rattle.capnp_model.specs.Trees.{Tree, null, child}
use Rattle.capnp_model.specs.Accepted.{schema_of}
use Rattle.capnp_model.specs.Schemas.{width, PlainType, Ty, Field as FieldNode, Body, void_slot, plain_slot, pointer_slot, group_slot, Schema, default_or_null}
use Rattle.capnp_model.specs.Readings.{field_bits}
use Rattle.capnp_model.specs.Calls.{clear}
use Rattle.capnp_model.specs.Edits.{Cell, Edit, mark, put_bits, put_child, cleared, after_writes, edit_field}
use Rattle.capnp_model.specs.Groups.{source_tree}
use Rattle.capnp_units.specs.declared.errors.Error.{Error}
use Rattle.capnp_wire_objects.specs.Places.{place_view}
use Rattle.capnp_copy_arenas.specs.Structs.{SetsBits}
use Rattle.capnp_copy_arenas.specs.declared.fields.StructPlace.{StructPlace}
use Rattle.capnp_values_queries.specs.Fields.{Entry, field_at, field_count, union_in}
use Rattle.capnp_values_queries.specs.Structs.{nodes_around, schema_around, shape_of_struct, fields_of_struct}
use Rattle.capnp_values_queries.specs.Handles.{entry_of_field, IsFieldRecord}
use Rattle.capnp_values_queries.specs.declared.structs.StructSchema.{StructSchema}
use Rattle.capnp_values_queries.specs.declared.fields.Field.{Field}
use Rattle.capnp_schema_structs.specs.Calls.{edit_entry, edit_of}
use Rattle.capnp_schema_structs.specs.Edits.{Edits, marked, marked_in}
use Rattle.capnp_schema_structs.specs.GroupWrites.{GroupSource, writes_of_body}
use Rattle.capnp_schema_structs.specs.GroupSets.{EditsAny, PutsAny, WritesAsFar, entry_turn, entry_writes, writes_if, turn_writes, copied_field, copied_turn, copied_fields, copied_group}
use Rattle.capnp_schema_structs.proofs.lemmas.Writes.{edits_then}
use Rattle.capnp_schema_structs.proofs.lemmas.Deeper.{mark_last}
use Rattle.capnp_schema_structs.proofs.lemmas.GroupFields.{body_is}
use Rattle.capnp_schema_structs.proofs.lemmas.AnyEdits.{any_of, any_same, any_child, any_then, far_none, far_same, far_then, far_more}
use Rattle.capnp_schema_structs.proofs.lemmas.FieldWrites.{front_writes, front_none, front_next, front_all, front_rest, void_writes, plain_writes, group_written, some_written, null_written, member_written}

module _ (f : Field) (r : FieldNode) (is : IsFieldRecord f.parent f.index r) (b : Body) (same : option_map (λ e. e.body) (entry_of_field f) ≡ Some b) (from : GroupSource) where
  abbrev around : Schema
  around = schema_around f.parent

  abbrev union : Option ℕ
  union = union_in (shape_of_struct f.parent)

  -- the field's writes
  writes_are : writes_of_body around b r.member (mark union r.member) from ≡ copied_field f from
  writes_are = ap (λ x. writes_of_body around x r.member (mark union r.member) from) (sym (body_is f r is b same)) ∙ ap (λ o. entry_writes around union o from) (sym is.entry)

  marks : (c : Cell) → marked f c ≡ mark union r.member c
  marks c = ap (λ o. marked_in union o c) is.entry

  clears : (g : StructSchema) → b ≡ group_slot (shape_of_struct g) → (c : Cell) → edit_of f clear c ≡ cleared (shape_of_struct g) (mark union r.member c)
  unfolding edit_field
  clears g e c = ap (λ o. edit_entry f clear o c) is.entry ∙ ap (λ x. edit_field around [] clear union r.member x c) (body_is f r is b same ∙ e)

  module _ (s m u : Segments) (p : StructPlace) where
    -- a write that is done
    one_done : (x : ⊤) (g : Edit) → (g ∷ []) ≡ writes_of_body around b r.member (mark union r.member) from → EditsAny s u p g → WritesAsFar s u p (copied_field f from) (Ok x)
    one_done x g e h = far_same (Ok x) s u p (g ∷ []) (copied_field f from) (e ∙ writes_are) h

    pub void_field : (x : ⊤) (j : ℕ) → b ≡ void_slot j → Edits s u p (marked f) → WritesAsFar s u p (copied_field f from) (Ok x)
    void_field x j e h =
        one_done x (mark union r.member) (void_writes around r.member (mark union r.member) from j ∙ ap (λ y. writes_of_body around y r.member (mark union r.member) from) (sym e))
        (any_same s u p (marked f) (mark union r.member) marks (any_of s u p (marked f) h))

    pub plain_field : (x : ⊤) (q : PlainType) (o d n w : ℕ) → b ≡ plain_slot q (width q * o) d → n ≡ field_bits from.extent from.section (width q * o) (width q) → w ≡ width q → Edits s m p (marked f) → SetsBits m u p (w * o) w n → WritesAsFar s u p (copied_field f from) (Ok x)
    plain_field x q o d n w e bits wide h k =
        let put = subst (λ y. SetsBits m u p (width q * o) (width q) y) bits (subst (λ v. SetsBits m u p (v * o) v n) wide k) in
        let f1 : Edit = put_bits (width q * o) (width q) (field_bits from.extent from.section (width q * o) (width q)) in
        one_done x (λ c. f1 (mark union r.member c)) (plain_writes around r.member (mark union r.member) from q (width q * o) d ∙ ap (λ y. writes_of_body around y r.member (mark union r.member) from) (sym e))
        (any_same s u p (λ c. f1 (marked f c)) (λ c. f1 (mark union r.member c)) (λ c. ap f1 (marks c)) (any_of s u p (λ c. f1 (marked f c)) (edits_then s m u p (marked f) f1 h put)))

    -- a value behind the pointer, and then the mark
    put_marked : (i : ℕ) (t : Tree) (q : Place) → i < p.pointers → q ≡ after (after (place_view p.start) p.data_words) i → PutsAny s m q t → Edits m u p (marked f) → EditsAny s u p (λ c. put_child i t (mark union r.member c))
    put_marked i t q l at put h =
        any_same s u p (λ c. marked f (put_child i t c)) (λ c. put_child i t (mark union r.member c)) (λ c. marks (put_child i t c) ∙ mark_last union r.member i t c)
        (any_then s m u p (put_child i t) (marked f) (any_child s m p i t q l at put) (any_of m u p (marked f) h))

    pub pointer_field : (x : ⊤) (i : ℕ) (ty : Ty) (d : Option Tree) (q : Place) → b ≡ pointer_slot i ty d → (child from.kids i ≡ null → ⊥) → i < p.pointers → q ≡ after (after (place_view p.start) p.data_words) i → PutsAny s m q (child from.kids i) → Edits m u p (marked f) → WritesAsFar s u p (copied_field f from) (Ok x)
    pointer_field x i ty d q e some l at put h =
        one_done x (λ c. put_child i (child from.kids i) (mark union r.member c))
        (some_written around (mark union r.member) from i ty d r.member some ∙ ap (λ y. writes_of_body around y r.member (mark union r.member) from) (sym e))
        (put_marked i (child from.kids i) q l at put h)

    pub null_field : (x : ⊤) (i : ℕ) (ty : Ty) (d : Option Tree) → b ≡ pointer_slot i ty d → r.member ≡ None → child from.kids i ≡ null → WritesAsFar s s p (copied_field f from) (Ok x)
    null_field x i ty d e other empty =
        far_same (Ok x) s s p [] (copied_field f from)
        (null_written around (mark union None) from i ty d empty ∙ ap (λ y. writes_of_body around (pointer_slot i ty d) y (mark union y) from) (sym other) ∙ ap (λ y. writes_of_body around y r.member (mark union r.member) from) (sym e) ∙ writes_are)
        (far_none s p x)

    pub member_field : (x : ⊤) (i : ℕ) (ty : Ty) (d : Option Tree) (q : Place) (k : ℕ) → b ≡ pointer_slot i ty d → r.member ≡ Some k → child from.kids i ≡ null → i < p.pointers → q ≡ after (after (place_view p.start) p.data_words) i → PutsAny s m q (source_tree around ty (default_or_null d) null) → Edits m u p (marked f) → WritesAsFar s u p (copied_field f from) (Ok x)
    member_field x i ty d q k e member empty l at put h =
        let t : Tree = source_tree around ty (default_or_null d) null in
        one_done x (λ c. put_child i t (mark union r.member c))
        (ap (λ y. (λ c. put_child i t (mark union y c)) ∷ []) member ∙ member_written around (mark union (Some k)) from i ty d k empty ∙ ap (λ y. writes_of_body around (pointer_slot i ty d) y (mark union y) from) (sym member)
        ∙ ap (λ y. writes_of_body around y r.member (mark union r.member) from) (sym e))
        (put_marked i t q l at put h)

    pub group_field : (x : Result ⊤ Error) (g : StructSchema) → b ≡ group_slot (shape_of_struct g) → nodes_around g ≡ nodes_around f.parent → Edits s m p (edit_of f clear) → WritesAsFar m u p (copied_group (schema_around g) (shape_of_struct g) from) x → WritesAsFar s u p (copied_field f from) x
    group_field x g e nodes h k =
        let own = shape_of_struct g in
        let first : Edit = λ c. cleared own (mark union r.member c) in
        let inner = subst (λ ns. WritesAsFar m u p (copied_group (schema_of ns) own from) x) nodes k in
        far_same x s u p (first ∷ copied_group around own from) (copied_field f from)
        (group_written around r.member (mark union r.member) from own ∙ ap (λ y. writes_of_body around y r.member (mark union r.member) from) (sym e) ∙ writes_are)
        (far_then x s m u p (first ∷ []) (copied_group around own from) (any_same s m p (edit_of f clear) first (clears g e) (any_of s m p (edit_of f clear) h)) inner)

-- ---- turns

module _ (x : Result ⊤ Error) (s u : Segments) (p : StructPlace) (around : Schema) (members : Bool) (union : Option ℕ) (o : Option Entry) (from : GroupSource) where
  pub in_turn : entry_turn members union o from ≡ true → WritesAsFar s u p (entry_writes around union o from) x → WritesAsFar s u p (turn_writes around members union o from) x
  in_turn e h = far_same x s u p (entry_writes around union o from) (turn_writes around members union o from) (ap (λ b. writes_if b (entry_writes around union o from)) (sym e)) h

pub out_of_turn : (x : ⊤) (s : Segments) (p : StructPlace) (around : Schema) (members : Bool) (union : Option ℕ) (o : Option Entry) (from : GroupSource) → entry_turn members union o from ≡ false → WritesAsFar s s p (turn_writes around members union o from) (Ok x)
out_of_turn x s p around members union o from e =
    far_same (Ok x) s s p [] (turn_writes around members union o from) (ap (λ b. writes_if b (entry_writes around union o from)) (sym e)) (far_none s p x)

-- ---- one field more

module _ (g : StructSchema) (members : Bool) (from : GroupSource) where
  abbrev pub front : ℕ → List Edit
  front i = front_writes (schema_around g) members i (fields_of_struct g) (union_in (shape_of_struct g)) from

  pub front_begins : (s : Segments) (p : StructPlace) → EditsAny s s p (after_writes (front 0))
  front_begins s p = far_same (Ok tt) s s p [] (front 0) (sym (front_none (schema_around g) members (union_in (shape_of_struct g)) from (fields_of_struct g))) (far_none s p tt)

  pub front_goes : (x : Result ⊤ Error) (s u v : Segments) (p : StructPlace) (i : ℕ) (f : Field) → f.parent ≡ g → f.index ≡ i → EditsAny s u p (after_writes (front i)) → WritesAsFar u v p (copied_turn f members from) x → WritesAsFar s v p (front (i + 1)) x
  front_goes x s u v p i f parent index a b =
      let entry : entry_of_field f ≡ field_at (fields_of_struct g) i = ap (λ y. field_at (fields_of_struct y) f.index) parent ∙ ap (field_at (fields_of_struct g)) index in
      let next = subst (λ y. WritesAsFar u v p (turn_writes (schema_around y) members (union_in (shape_of_struct y)) (entry_of_field f) from) x) parent b in
      let one : suc i ≡ i + 1 = omega arith in
      let step : List Edit = turn_writes (schema_around g) members (union_in (shape_of_struct g)) (entry_of_field f) from in
      far_same x s v p (front i ++ step) (front (i + 1))
      (ap (λ o. front i ++ turn_writes (schema_around g) members (union_in (shape_of_struct g)) o from) entry ∙ sym (front_next (schema_around g) members (union_in (shape_of_struct g)) from i (fields_of_struct g)) ∙ ap front one)
      (far_then x s u v p (front i) step a next)

  pub front_ends : (x : ⊤) (s u : Segments) (p : StructPlace) (i : ℕ) → i ≡ field_count (fields_of_struct g) → EditsAny s u p (after_writes (front i)) → WritesAsFar s u p (copied_fields (schema_around g) members (shape_of_struct g) from) (Ok x)
  front_ends x s u p i all h =
      far_same (Ok x) s u p (front i) (copied_fields (schema_around g) members (shape_of_struct g) from)
      (ap front all ∙ front_all (schema_around g) members (union_in (shape_of_struct g)) from (fields_of_struct g)) h

  pub front_stops : (e : Error) (s u : Segments) (p : StructPlace) (i : ℕ) → WritesAsFar s u p (front i) (Err e) → WritesAsFar s u p (copied_fields (schema_around g) members (shape_of_struct g) from) (Err e)
  front_stops e s u p i h =
      let x = front_rest (schema_around g) members (union_in (shape_of_struct g)) from i (fields_of_struct g) in
      far_same (Err e) s u p (front i ++ x.rest) (copied_fields (schema_around g) members (shape_of_struct g) from) (sym x.whole) (far_more e s u p (front i) x.rest h)
