-- A field is printed where it is told to be.
use Rattle.std.proofs.Common.{◌≡◌, ℕ, zero, suc, ◌==◌, ◌&&◌, ◌⊎◌, inl, inr, not, Bool, true, false, if◌then◌else◌, Option, Some, None, option_map, refl, ap, sym, ◌∙◌, subst, arith}
use Rattle.std.proofs.lemmas.Bool.Decides.{nat_tests}
use Rattle.capnp_model.specs.Schemas.{Field as FieldNode, Schema}
use Rattle.capnp_model.specs.Readings.{is_active, only_if}
use Rattle.capnp_model.specs.Accepted.{field_body}
use Rattle.capnp_model.specs.Printing.{is_shown}
use Rattle.capnp_values_queries.specs.Fields.{Entry, entry_in, field_at}
use Rattle.capnp_values_queries.specs.Structs.{schema_around, fields_of_struct}
use Rattle.capnp_values_queries.specs.Handles.{entry_of_field, IsFieldRecord}
use Rattle.capnp_values_queries.specs.declared.structs.StructSchema.{StructSchema}
use Rattle.capnp_values_queries.specs.declared.fields.Field.{Field}
use Rattle.capnp_wire.specs.Views.{StructView}
use Rattle.capnp_values.specs.Shown.{discriminant_shown, is_active_field, is_null_slot, has_field}
use Rattle.capnp_values_print.specs.ShownReadings.{levels_left}
use Rattle.capnp_values_print.specs.Members.{AreActive, field_shown}
use Rattle.capnp_values_print.proofs.lemmas.Shows.{Read, shown_member, shown_first, shown_other}

pub entry_same : (o : Option Entry) (x y : Entry) → o ≡ Some x → o ≡ Some y → x ≡ y
entry_same o x y e f = cc

has_shown : (s : Schema) (v : StructView) (d : Option ℕ) (e : Entry) → (e.member ≡ None) ⊎ (e.member ≡ Some 0) → (is_active_field d (Some e.member) && not (is_null_slot v (Some e.body))) ≡ field_shown s v d e
has_shown s v d e (inl h) =
    let P : Option ℕ → Type 0 = λ m. (is_active_field d (Some m) && not (is_null_slot v (Some e.body))) ≡ is_shown m (only_if (is_active m d) (Read (levels_left v.levels) s v e.body)) in
    subst P (sym h) (sym (shown_other (levels_left v.levels) s v e.body))
has_shown s v d e (inr h) =
    let P : Option ℕ → Type 0 = λ m. (is_active_field d (Some m) && not (is_null_slot v (Some e.body))) ≡ is_shown m (only_if (is_active m d) (Read (levels_left v.levels) s v e.body)) in
    subst P (sym h) (sym (shown_first (levels_left v.levels) s v e.body (is_active (Some 0) d)))

member_shown : (s : Schema) (v : StructView) (d : Option ℕ) (e : Entry) (k : ℕ) → e.member ≡ Some (suc k) → is_active (Some (suc k)) d ≡ field_shown s v d e
member_shown s v d e k h =
    let P : Option ℕ → Type 0 = λ m. is_active (Some (suc k)) d ≡ is_shown m (only_if (is_active m d) (Read (levels_left v.levels) s v e.body)) in
    subst P (sym h) (sym (shown_member (levels_left v.levels) s v k e.body (is_active (Some (suc k)) d)))

pub active_shown : (s : Schema) (v : StructView) (d : Option ℕ) (e : Entry) → field_shown s v d e ≡ true → is_active e.member d ≡ true
active_shown s v d e h = by e.member (is_active e.member d) h
  where
    by : (m : Option ℕ) (a : Bool) → is_shown m (only_if a (Read (levels_left v.levels) s v e.body)) ≡ true → a ≡ true
    by m true g = refl
    by m false g = absurd cc

module _ (s : StructSchema) (v : StructView) (f : Field) (said : FieldNode) (parent : f.parent ≡ s) (is : IsFieldRecord f.parent f.index said) where
  pub entry_is : (e : Entry) → entry_of_field f ≡ Some e → e ≡ entry_in (schema_around f.parent) said
  entry_is e h = entry_same (entry_of_field f) e _ h is.entry

  member_is : (e : Entry) → entry_of_field f ≡ Some e → e.member ≡ said.member
  member_is e h = ap (λ (x : Entry). x.member) (entry_is e h)

  -- a field that is no member is active
  pub by_none : said.member ≡ None → (e : Entry) → entry_of_field f ≡ Some e → true ≡ is_active e.member (discriminant_shown s v)
  by_none none e h = sym (ap (λ m. is_active m (discriminant_shown s v)) (member_is e h ∙ none))

  -- a member by the active one
  pub by_member : (active : Option ℕ) → AreActive s (discriminant_shown s v) active → (e : Entry) → entry_of_field f ≡ Some e → is_active said.member active ≡ is_active e.member (discriminant_shown s v)
  by_member active are e h =
      let there : field_at (fields_of_struct s) f.index ≡ Some e = ap (λ (z : StructSchema). field_at (fields_of_struct z) f.index) (sym parent) ∙ h in
      ap (λ m. is_active m active) (sym (member_is e h)) ∙ are f.index e there

  -- a field that is no member, and the first member, by `has`
  pub by_has : (b : Bool) → b ≡ has_field v f → (said.member ≡ None) ⊎ (said.member ≡ Some 0) → (e : Entry) → entry_of_field f ≡ Some e → b ≡ field_shown (schema_around s) v (discriminant_shown s v) e
  by_has b has first e h =
      let told : (e.member ≡ None) ⊎ (e.member ≡ Some 0) = elim first [ inl g ↦ inl (member_is e h ∙ g) | inr g ↦ inr (member_is e h ∙ g) ] in
      has
      ∙ ap (λ (z : StructSchema). is_active_field (discriminant_shown z v) (option_map (λ (x : Entry). x.member) (entry_of_field f)) && not (is_null_slot v (option_map (λ (x : Entry). x.body) (entry_of_field f)))) parent
      ∙ ap (λ (o : Option Entry). is_active_field (discriminant_shown s v) (option_map (λ (x : Entry). x.member) o) && not (is_null_slot v (option_map (λ (x : Entry). x.body) o))) h
      ∙ has_shown (schema_around s) v (discriminant_shown s v) e told

  -- a field that is no member, by its pointer
  pub by_null : (b : Bool) → ((z : Schema) → b ≡ is_null_slot v (Some (field_body z.shape_of said.kind))) → said.member ≡ None → (e : Entry) → entry_of_field f ≡ Some e → not b ≡ field_shown (schema_around s) v (discriminant_shown s v) e
  by_null b told none e h =
      let body : e.body ≡ field_body (schema_around f.parent).shape_of said.kind = ap (λ (x : Entry). x.body) (entry_is e h) in
      let member : e.member ≡ None = member_is e h ∙ none in
      ap not (told (schema_around f.parent) ∙ ap (λ z. is_null_slot v (Some z)) (sym body))
      ∙ ap (λ m. is_active_field (discriminant_shown s v) (Some m) && not (is_null_slot v (Some e.body))) (sym member)
      ∙ has_shown (schema_around s) v (discriminant_shown s v) e (inl member)

  -- another member by the active one
  pub by_value : (active : Option ℕ) → AreActive s (discriminant_shown s v) active → (k : ℕ) → said.member ≡ Some (suc k) → (e : Entry) → entry_of_field f ≡ Some e → is_active (Some (suc k)) active ≡ field_shown (schema_around s) v (discriminant_shown s v) e
  by_value active are k m e h =
      let member : e.member ≡ Some (suc k) = member_is e h ∙ m in
      let there : field_at (fields_of_struct s) f.index ≡ Some e = ap (λ (z : StructSchema). field_at (fields_of_struct z) f.index) (sym parent) ∙ h in
      ap (λ m. is_active m active) (sym member) ∙ are f.index e there ∙ ap (λ m. is_active m (discriminant_shown s v)) member
      ∙ member_shown (schema_around s) v (discriminant_shown s v) e k member

-- ---- members by the number that the record says

abbrev pub Member : ℕ → Option ℕ
Member n = if n == 65535 then None else Some n

pub none_said : (n : ℕ) → n ≡ 65535 → Member n ≡ None
none_said n e = ap Member e

pub some_said : (n : ℕ) → (n ≡ 65535 → ⊥) → Member n ≡ Some n
some_said n h = by (n == 65535) refl
  where
    by : (b : Bool) → (n == 65535) ≡ b → Member n ≡ Some n
    by true e = absurd (h (grind (arith, nat_tests)))
    by false e = ap (λ b. if b then None else Some n) e

pub first_said : (n : ℕ) → n ≡ 0 → Member n ≡ Some 0
first_said n e = ap Member e

pub later_said : (n : ℕ) → (n ≡ 65535 → ⊥) → (n ≡ 0 → ⊥) → (k : ℕ) × (Member n ≡ Some (suc k)) × (n ≡ suc k)
later_said zero h g = absurd (g refl)
later_said (suc k) h g = by (suc k == 65535) refl
  where
    by : (b : Bool) → (suc k == 65535) ≡ b → (j : ℕ) × (Member (suc k) ≡ Some (suc j)) × (suc k ≡ suc j)
    by true e = absurd (h (grind (arith, nat_tests)))
    by false e = (k, ap (λ b. if b then None else Some (suc k)) e, refl)
