-- Types of slots, and what slots of them show.
use Rattle.std.proofs.Common.{◌≡◌, ℕ, zero, suc, ◌*◌, ◌<◌, ◌++◌, ◌⊎◌, true, false, Option, Some, None, List, Ok, Err, refl, ap, sym, ◌∙◌, subst, inl, inr, arith}
use Rattle.capnp_model.specs.Chains.{◌and_then◌}
use Rattle.capnp_model.specs.Schemas.{bool, int, uint, «enum», Ty, void, plain, text, blob, untyped, interface, struct, list, lists_of, base_type, Value, BaseType, FieldKind, slot, group, Field as FieldNode, Schema}
use Rattle.capnp_model.specs.Readings.{is_active}
use Rattle.capnp_model.specs.Accepted.{slot_body, field_body, default_bits}
use Rattle.capnp_model.specs.Printing.{Style, number_text, text_text, as_it_is}
use Rattle.capnp_units.specs.declared.errors.Error.{Error}
use Rattle.capnp_units.specs.declared.kinds.ErrorKind.TheVariants.{OutOfMemory}
use Rattle.capnp_units.specs.Errors.{kind_of}
use Rattle.capnp_wire.specs.Views.{StructView, pointer_field}
use Rattle.capnp_wire.specs.Reads.{is_null_pointer}
use Rattle.capnp_values_queries.specs.Fields.{Entry}
use Rattle.capnp_values_queries.specs.Types.{is_pointer}
use Rattle.capnp_values_queries.specs.Structs.{schema_around}
use Rattle.capnp_values_queries.specs.Handles.{entry_of_field, IsFieldRecord}
use Rattle.capnp_values_queries.specs.declared.structs.StructSchema.{StructSchema}
use Rattle.capnp_values_queries.specs.declared.fields.Field.{Field}
use Rattle.capnp_values.specs.Sources.{masked_bits, pointed_text}
use Rattle.capnp_values.specs.Shown.{Shown, a_number, an_enum, a_text, a_blob, a_struct, a_list, a_pointer, a_capability, discriminant_shown, default_said, is_null_slot, slot_shown, kind_shown}
use Rattle.capnp_values_print.specs.Answers.{IsTextRefused}
use Rattle.capnp_values_print.specs.Parts.{member_text}
use Rattle.capnp_values_print.specs.Printed.{no_schema, printed, shown_text}
use Rattle.capnp_values_print.specs.ShownReadings.{reading_within}
use Rattle.capnp_values_print.specs.Singles.{single_text}
use Rattle.capnp_values_print.specs.Slots.{IsNumberWithin, slot_bits, IsSingle, AppendsSingle}
use Rattle.capnp_values_print.proofs.FieldTexts.{Prints, field_there, field_without}
use Rattle.capnp_values_print.proofs.Wholes.{member_is}
use Rattle.capnp_values_print.proofs.lemmas.ElementTexts.{text_or_fault}

pub lists_pointer : (n : ℕ) (t : Ty) → 0 < n → is_pointer (lists_of n t) ≡ true
lists_pointer zero t h = absurd (omega arith)
lists_pointer (suc n) t h = refl

pub no_list : (n : ℕ) (t : Ty) → n ≡ 0 → lists_of n t ≡ t
no_list n t e = ap (λ m. lists_of m t) e

pub null_by_type : (v : StructView) (o : ℕ) (ty : Ty) (d : Option Value) → is_pointer ty ≡ true → is_null_slot v (Some (slot_body o ty d)) ≡ is_null_pointer (pointer_field v o)
null_by_type v o void d h = absurd cc
null_by_type v o (plain p) d h = absurd cc
null_by_type v o text d h = refl
null_by_type v o blob d h = refl
null_by_type v o untyped d h = refl
null_by_type v o interface d h = refl
null_by_type v o (struct id) d h = refl
null_by_type v o (list ty) d h = refl

pub there_by_type : (v : StructView) (o : ℕ) (ty : Ty) (d : Option Value) → is_pointer ty ≡ false → is_null_slot v (Some (slot_body o ty d)) ≡ false
there_by_type v o void d h = refl
there_by_type v o (plain p) d h = refl
there_by_type v o text d h = absurd cc
there_by_type v o blob d h = absurd cc
there_by_type v o untyped d h = absurd cc
there_by_type v o interface d h = absurd cc
there_by_type v o (struct id) d h = absurd cc
there_by_type v o (list ty) d h = absurd cc

-- ---- numbers

number_there : (v : StructView) (o n : ℕ) (ty : Ty) (d : Option Value) → IsNumberWithin ty n → is_null_slot v (Some (slot_body o ty d)) ≡ false
number_there v o n void d h = absurd h
number_there v o n (plain bool) d h = absurd h
number_there v o n (plain (int w)) d h = refl
number_there v o n (plain (uint w)) d h = refl
number_there v o n (plain («enum» id)) d h = absurd h
number_there v o n text d h = absurd h
number_there v o n blob d h = absurd h
number_there v o n untyped d h = absurd h
number_there v o n interface d h = absurd h
number_there v o n (struct id) d h = absurd h
number_there v o n (list ty) d h = absurd h

number_shows : (s : Schema) (v : StructView) (o n : ℕ) (ty : Ty) (d : Option Value) → IsNumberWithin ty n → n ≡ default_bits d → slot_shown s v o ty d ≡ Ok (a_number ty (slot_bits v ty o n))
number_shows s v o n void d h e = absurd h
number_shows s v o n (plain bool) d h e = absurd h
number_shows s v o n (plain (int w)) d h e = ap (λ m. Ok (a_number (plain (int w)) (masked_bits v (w * o) w m))) (sym e)
number_shows s v o n (plain (uint w)) d h e = ap (λ m. Ok (a_number (plain (uint w)) (masked_bits v (w * o) w m))) (sym e)
number_shows s v o n (plain («enum» id)) d h e = absurd h
number_shows s v o n text d h e = absurd h
number_shows s v o n blob d h e = absurd h
number_shows s v o n untyped d h e = absurd h
number_shows s v o n interface d h e = absurd h
number_shows s v o n (struct id) d h e = absurd h
number_shows s v o n (list ty) d h e = absurd h

pub number_appended : (v : StructView) (base : BaseType) (o n : ℕ) (d : Option Value) (old new : List ℕ) → IsNumberWithin (base_type base) n → n ≡ default_bits d → new ≡ old ++ number_text no_schema (base_type base) (slot_bits v (base_type base) o n)
    → AppendsSingle v (slot o (record { list_count = 0; base = base }) d) old new
number_appended v base o n d old new h e there =
    record {
      x = a_number (base_type base) (slot_bits v (base_type base) o n);
      way = inl (λ s. number_there v o n (base_type base) d h);
      single = tt;
      shows = λ s. number_shows s v o n (base_type base) d h e;
      there = there;
    }

-- ---- texts

pub text_appended : (v : StructView) (base : BaseType) (o : ℕ) (d : Option Value) (bytes old new : List ℕ) → base ≡ BaseType.Text → d ≡ None → Ok bytes ≡ pointed_text (pointer_field v o) → new ≡ old ++ text_text as_it_is bytes
    → AppendsSingle v (slot o (record { list_count = 0; base = base }) d) old new
text_appended v base o d bytes old new b none reads there =
    let P : BaseType → Type 0 = λ z. AppendsSingle v (slot o (record { list_count = 0; base = z }) d) old new in
    let Q : Option Value → Type 0 = λ z. AppendsSingle v (slot o (record { list_count = 0; base = BaseType.Text }) z) old new in
    subst P (sym b) (subst Q (sym none) (record {
      x = a_text bytes;
      way = inr refl;
      single = tt;
      shows = λ s. ap (λ r. r and_then λ t. Ok (a_text t)) (sym reads);
      there = there;
    }))

-- ---- what is appended is the field's text

pub single_text_is : (left : ℕ) (style : Style) (x : Shown) → IsSingle x → shown_text left style x ≡ Ok (single_text x)
unfolding printed reading_within
single_text_is left style (a_number ty n) h = refl
single_text_is left style (an_enum s id n) h = refl
single_text_is left style (a_text bytes) h = refl
single_text_is left style (a_blob bytes) h = refl
single_text_is left style (a_struct s g v) h = absurd h
single_text_is left style (a_list s ty l) h = absurd h
single_text_is left style (a_pointer p) h = refl
single_text_is left style a_capability h = refl

module _ (s : StructSchema) (v : StructView) (f : Field) (said : FieldNode) (parent : f.parent ≡ s) (is : IsFieldRecord f.parent f.index said) (e : Entry) (at : entry_of_field f ≡ Some e) (active : is_active e.member (discriminant_shown s v) ≡ true) (left : ℕ) (style : Style) where
  prints : (k : FieldKind) → (((z : Schema) → is_null_slot v (Some (field_body z.shape_of k)) ≡ false) ⊎ (default_said k ≡ None)) → Prints left style (schema_around f.parent) v (field_body (schema_around f.parent).shape_of k) (kind_shown (schema_around f.parent) v k)
  prints k (inl some) = field_there left style (schema_around f.parent) v k (some (schema_around f.parent))
  prints (group id) (inr none) = field_there left style (schema_around f.parent) v (group id) refl
  prints (slot o ty d) (inr none) =
      let P : Option Value → Type 0 = λ z. Prints left style (schema_around f.parent) v (field_body (schema_around f.parent).shape_of (slot o ty z)) (kind_shown (schema_around f.parent) v (slot o ty z)) in
      subst P (sym none) (field_without left style (schema_around f.parent) v o ty)

  text_is : (((z : Schema) → is_null_slot v (Some (field_body z.shape_of said.kind)) ≡ false) ⊎ (default_said said.kind ≡ None)) → text_or_fault left style (kind_shown (schema_around f.parent) v said.kind) ≡ member_text left style s v e
  text_is way = prints said.kind way ∙ sym (member_is s v f said parent is e at left style active)

  pub single_member : (old new : List ℕ) → AppendsSingle v said.kind old new → (bytes : List ℕ) × (member_text left style s v e ≡ Ok bytes) × (new ≡ old ++ bytes)
  single_member old new a = (single_text a.x, sym (text_is a.way) ∙ ap (text_or_fault left style) (a.shows (schema_around f.parent)) ∙ single_text_is left style a.x a.single, a.there)

  pub slot_refused : (err : Error) → (err.kind ≡ OutOfMemory) ⊎ ((default_said said.kind ≡ None) × ((z : Schema) → kind_shown z v said.kind ≡ Err (kind_of err.kind))) → IsTextRefused (member_text left style s v e) err
  slot_refused err (inl memory) = inl memory
  slot_refused err (inr fault) = inr (sym (text_is (inr fault.0)) ∙ ap (text_or_fault left style) (fault.1 (schema_around f.parent)))
