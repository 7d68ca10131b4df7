-- The fields of a struct, one by one.
use Rattle.std.proofs.Common.{◌≡◌, ℕ, zero, suc, ◌+◌, ◌*◌, ◌/◌, ◌%◌, ◌<◌, ◌≤◌, nat_le, ◌==◌, Bool, true, false, not, ◌&&◌, ◌||◌, if◌then◌else◌, List, Option, Some, None, option_map, Result, refl, ap, sym, ◌∙◌, subst, arith}
use Rattle.std.proofs.lemmas.Bool.Decides.{nat_tests}
use Rattle.std.specs.declared.alloc.AllocError.{AllocError}
use Rattle.capnp_model.specs.Sections.{bits_at, section_of}
use Rattle.capnp_model.specs.Segments.{Segments, Place, after, words_at}
use Rattle.capnp_model.specs.Trees.{Tree, null, Trees, none, ◌▸◌, tree_count, child}
use Rattle.capnp_model.specs.Traversal.{each}
use Rattle.capnp_model.specs.Schemas.{Ty, Shape, shape, Fields, no_fields, field, Body, Schema, Field as FieldNode}
use Rattle.capnp_model.specs.Printing.{fields_in}
use Rattle.capnp_model.specs.Readings.{field_bits, just_bits, whole_words, discriminant, is_active}
use Rattle.capnp_model.specs.InKind.{Kinds, in_kind, fields_in_kind, body_in_kind, shape_in_kind, child_in_kind}
use Rattle.capnp_model.proofs.lemmas.Counts.{each_count}
use Rattle.capnp_model.proofs.lemmas.KeptCells.{child_in_kind-is}
use Rattle.capnp_model.proofs.lemmas.ReadFits.{words_length}
use Rattle.capnp_model.proofs.lemmas.WordBits.{bits_at-behind}
use Rattle.capnp_model_writes.proofs.lemmas.Rows.{child_read}
use Rattle.capnp_wire_objects.specs.Inside.{section_in, section_at}
use Rattle.std.specs.Borrow.{Bor}
use Rattle.capnp_records.specs.declared.node.Value.{Value}
use Rattle.capnp_records.specs.NodeViews.{member_of}
use Rattle.capnp_values_queries.specs.Fields.{Entry, field_at, field_count, union_in}
use Rattle.capnp_values_queries.specs.Structs.{shape_of_struct, fields_of_struct}
use Rattle.capnp_values_queries.specs.Types.{ty_of}
use Rattle.capnp_values_queries.specs.declared.introspect.«Type».{«Type» as SchemaType}
use Rattle.capnp_values_queries.specs.declared.slots.PlainType.{PlainType as Plain}
use Rattle.capnp_values_queries.specs.declared.slots.FieldPlace.{FieldPlace}
use Rattle.capnp_values_queries.specs.declared.slots.FieldPlace.TheVariants as F
use Rattle.capnp_values_queries.specs.Handles.{entry_of_field, IsFieldRecord, body_of_place}
use Rattle.capnp_values_queries.specs.declared.fields.Field.{Field}
use Rattle.capnp_values_queries.specs.declared.fields.FieldList.{FieldList}
use Rattle.capnp_values_queries.specs.declared.structs.StructSchema.{StructSchema}
use Rattle.capnp_relay_kinds.specs.Kinds.{Tells}

-- ---- the active member

bits_behind : (s : Segments) (p : Place) (d o : ℕ) → 4 * d ≤ o → bits_at (16 * o) 16 (section_at s p d) ≡ 0
unfolding section_at
bits_behind s p d o far = by (words_at s p d) refl
  where
    by : (ws : Option (List ℕ)) → words_at s p d ≡ ws → bits_at (16 * o) 16 (section_in ws) ≡ 0
    by None e = grind arith
    by (Some ws) e =
        let few = words_length s p d ws e in
        let at : 16 * o ≡ 64 * (o / 4) + 16 * (o % 4) = omega arith in
        ap (λ a. bits_at a 16 (section_of ws)) at ∙ bits_at-behind ws (o / 4) (16 * (o % 4)) 16 (omega (arith, few, far))

-- bits of a section are the same with the zeros behind it
pub same_bits : (s : Segments) (p : Place) (d o : ℕ) → field_bits (just_bits (64 * d)) (section_at s p d) (16 * o) 16 ≡ field_bits whole_words (section_at s p d) (16 * o) 16
same_bits s p d o = by (nat_le (16 * o + 16) (64 * d)) refl
  where
    by : (b : Bool) → nat_le (16 * o + 16) (64 * d) ≡ b → (if b then bits_at (16 * o) 16 (section_at s p d) else 0) ≡ bits_at (16 * o) 16 (section_at s p d)
    by true e = refl
    by false e = let far : 4 * d ≤ o = grind (arith, nat_tests) in sym (bits_behind s p d o far)

pub no_union : (u : Option ℕ) (section : ℕ) → None ≡ u → None ≡ discriminant u whole_words section
no_union u section e = ap (λ x. discriminant x whole_words section) e

pub a_union : (u : Option ℕ) (s : Segments) (p : Place) (d o value : ℕ) → Some (16 * o) ≡ u → value ≡ field_bits (just_bits (64 * d)) (section_at s p d) (16 * o) 16 → Some value ≡ discriminant u whole_words (section_at s p d)
a_union u s p d o value e is = ap (λ (n : ℕ). Some n) (is ∙ same_bits s p d o) ∙ ap (λ x. discriminant x whole_words (section_at s p d)) e

-- ---- whether a field is active

entry_same : (o : Option Entry) (x y : Entry) → o ≡ Some x → o ≡ Some y → x ≡ y
entry_same o x y e f = cc

module _ (f : Field) (said : FieldNode) (is : IsFieldRecord f.parent f.index said) where
  member_is : (e : Entry) → entry_of_field f ≡ Some e → e.member ≡ said.member
  member_is e h = ap (λ (x : Entry). x.member) (entry_same (entry_of_field f) e _ h is.entry)

  pub no_member : (active : Option ℕ) → said.member ≡ None → (e : Entry) → entry_of_field f ≡ Some e → true ≡ is_active e.member active
  no_member active without e h = sym (ap (λ m. is_active m active) (member_is e h ∙ without))

  pub a_member : (active : Option ℕ) (n : ℕ) (b : Bool) → said.member ≡ Some n → b ≡ is_active (Some n) active → (e : Entry) → entry_of_field f ≡ Some e → b ≡ is_active e.member active
  a_member active n b some told e h = told ∙ sym (ap (λ m. is_active m active) (member_is e h ∙ some))

pub none_said : (n : ℕ) → n ≡ 65535 → member_of n ≡ None
none_said n e = ap member_of e

pub some_said : (n : ℕ) → (n ≡ 65535 → ⊥) → member_of n ≡ Some n
some_said n h = by (n == 65535) refl
  where
    by : (b : Bool) → (n == 65535) ≡ b → member_of n ≡ Some n
    by true e = absurd (h (grind (arith, nat_tests)))
    by false e = ap (λ b. if b then None else Some n) e

-- ---- the fields that are left

abbrev pub fields_after : ℕ → Fields → Fields
fields_after zero fs = fs
fields_after (suc i) no_fields = no_fields
fields_after (suc i) (field n m b fs) = fields_after i fs

next_field : (fs : Fields) (i : ℕ) (e : Entry) → field_at fs i ≡ Some e → fields_after i fs ≡ field e.name e.member e.body (fields_after (suc i) fs)
next_field no_fields i e h = absurd cc
next_field (field n m b fs) zero e h =
    let is : ◌≡◌ {A = Entry} (record { name = n; member = m; body = b }) e = cc in
    ap (λ (x : Entry). field x.name x.member x.body fs) is
next_field (field n m b fs) (suc i) e h = next_field fs i e h

no_more_fields : (fs : Fields) (i : ℕ) → field_count fs ≤ i → fields_after i fs ≡ no_fields
no_more_fields no_fields zero h = refl
no_more_fields no_fields (suc i) h = refl
no_more_fields (field n m b fs) zero h = absurd (omega (arith, h))
no_more_fields (field n m b fs) (suc i) h = no_more_fields fs i (omega (arith, h))

entry_there : (fs : Fields) (i : ℕ) → i < field_count fs → (e : Entry) × (field_at fs i ≡ Some e)
entry_there no_fields i h = absurd (omega (arith, h))
entry_there (field n m b fs) zero h = (record { name = n; member = m; body = b }, refl)
entry_there (field n m b fs) (suc i) h = entry_there fs i (omega (arith, h))

-- The field at an index of a struct.
pub record Met (root : StructSchema) (f : Field) (i : ℕ) : Type 0 where
  pub entry : Entry
  pub at : field_at (fields_of_struct root) i ≡ Some entry
  pub here : entry_of_field f ≡ Some entry

pub met : (f : Field) (root : StructSchema) (i : ℕ) → f.parent ≡ root → f.index ≡ i → i < field_count (fields_of_struct root) → Met root f i
met f root i parent index inside =
    let e = entry_there (fields_of_struct root) i inside in
    record { entry = e.0; at = e.1; here = ap (λ (q : StructSchema). field_at (fields_of_struct q) f.index) parent ∙ ap (field_at (fields_of_struct root)) index ∙ e.1 }

-- an index of a list of fields is one of the struct
pub in_list : (fields : FieldList) (root : StructSchema) (i n : ℕ) → fields.parent ≡ root → n ≡ field_count (fields_of_struct fields.parent) → i < n → i < field_count (fields_of_struct root)
in_list fields root i n parent count lt = subst (λ m. i < m) (count ∙ ap (λ (x : StructSchema). field_count (fields_of_struct x)) parent) lt

pub past_list : (fields : FieldList) (root : StructSchema) (i n : ℕ) → fields.parent ≡ root → n ≡ field_count (fields_of_struct fields.parent) → n ≤ i → field_count (fields_of_struct root) ≤ i
past_list fields root i n parent count le = subst (λ m. m ≤ i) (count ∙ ap (λ (x : StructSchema). field_count (fields_of_struct x)) parent) le

-- whether a field is active, by the value that was found
pub active_is : (e : Entry) (active d : Option ℕ) (told is : Bool) → told ≡ is_active e.member active → told ≡ is → active ≡ d → is_active e.member d ≡ is
active_is e active d told is h t a = ap (is_active e.member) (sym a) ∙ sym h ∙ t

pub body_is : (o : Option Entry) (e : Entry) (b : Body) → o ≡ Some e → option_map (λ x. x.body) o ≡ Some b → e.body ≡ b
body_is o e b at there = let both : ◌≡◌ {A = Option Body} (Some e.body) (Some b) = ap (option_map (λ (x : Entry). x.body)) (sym at) ∙ there in cc

-- a field by its place
module _ (x : FieldPlace) (section : ℕ) (kids : Kinds) where
  pub void_body : (o : ℕ) → x ≡ F.Void o → body_in_kind (body_of_place x) section kids ≡ true
  unfolding fields_in_kind
  void_body o is = ap (λ z. body_in_kind (body_of_place z) section kids) is

  pub plain_body : (ty : Plain) (o bits : ℕ) → x ≡ F.Plain ty o bits → body_in_kind (body_of_place x) section kids ≡ true
  unfolding fields_in_kind
  plain_body ty o bits is = ap (λ z. body_in_kind (body_of_place z) section kids) is

  pub group_body : (g : StructSchema) → x ≡ F.Group g → body_in_kind (body_of_place x) section kids ≡ shape_in_kind (shape_of_struct g) section kids
  unfolding fields_in_kind
  group_body g is = ap (λ z. body_in_kind (body_of_place z) section kids) is

  pub pointer_body : (i : ℕ) (ty : SchemaType) (default : Option (Bor Value)) → x ≡ F.Pointer i ty default → body_in_kind (body_of_place x) section kids ≡ kids i (ty_of ty)
  unfolding fields_in_kind
  pointer_body i ty default is = ap (λ z. body_in_kind (body_of_place z) section kids) is

-- What is left of the fields from an index on decides.
abbrev pub FieldsLeft : Schema → (Place → Option Tree) → Place → ℕ → Shape → ℕ → ℕ → Type 0
FieldsLeft k f p c g section i =
    (ts : Trees) → each f p c ≡ Some ts → shape_in_kind g section (child_in_kind k ts) ≡ fields_in_kind (fields_after i (fields_in g)) (discriminant (union_in g) whole_words section) section (child_in_kind k ts)

module _ (k : Schema) (f : Place → Option Tree) (p : Place) (c : ℕ) where
  pub fields_begin : (g : Shape) (section : ℕ) → FieldsLeft k f p c g section 0
  unfolding fields_in_kind
  fields_begin (shape nid w q u fs) section ts h = refl

  module _ (g : Shape) (section i : ℕ) (e : Entry) (at : field_at (fields_in g) i ≡ Some e) (left : FieldsLeft k f p c g section i) where
    abbrev pub d : Option ℕ
    d = discriminant (union_in g) whole_words section

    here : (ts : Trees) → each f p c ≡ Some ts
        → shape_in_kind g section (child_in_kind k ts) ≡ ((not (is_active e.member d) || body_in_kind e.body section (child_in_kind k ts)) && fields_in_kind (fields_after (suc i) (fields_in g)) d section (child_in_kind k ts))
    unfolding fields_in_kind
    here ts h = left ts h ∙ ap (λ fs. fields_in_kind fs d section (child_in_kind k ts)) (next_field (fields_in g) i e at)

    passes : is_active e.member d ≡ false → FieldsLeft k f p c g section (suc i)
    passes inactive ts h = here ts h ∙ ap (λ b. (not b || body_in_kind e.body section (child_in_kind k ts)) && fields_in_kind (fields_after (suc i) (fields_in g)) d section (child_in_kind k ts)) inactive

    goes_on : is_active e.member d ≡ true → ((ts : Trees) → each f p c ≡ Some ts → body_in_kind e.body section (child_in_kind k ts) ≡ true) → FieldsLeft k f p c g section (suc i)
    goes_on active good ts h =
        here ts h
        ∙ ap (λ b. (not b || body_in_kind e.body section (child_in_kind k ts)) && fields_in_kind (fields_after (suc i) (fields_in g)) d section (child_in_kind k ts)) active
        ∙ ap (λ b. b && fields_in_kind (fields_after (suc i) (fields_in g)) d section (child_in_kind k ts)) (good ts h)

    next : suc i ≡ i + 1
    next = omega arith

    -- a member that isn't active
    pub fields_pass : is_active e.member d ≡ false → FieldsLeft k f p c g section (i + 1)
    fields_pass inactive = subst (FieldsLeft k f p c g section) next (passes inactive)

    pub fields_go_on : is_active e.member d ≡ true → ((ts : Trees) → each f p c ≡ Some ts → body_in_kind e.body section (child_in_kind k ts) ≡ true) → FieldsLeft k f p c g section (i + 1)
    fields_go_on active good = subst (FieldsLeft k f p c g section) next (goes_on active good)

    pub fields_stop : is_active e.member d ≡ true → ((ts : Trees) → each f p c ≡ Some ts → body_in_kind e.body section (child_in_kind k ts) ≡ false) → (ts : Trees) → each f p c ≡ Some ts → shape_in_kind g section (child_in_kind k ts) ≡ false
    fields_stop active bad ts h =
        here ts h
        ∙ ap (λ b. (not b || body_in_kind e.body section (child_in_kind k ts)) && fields_in_kind (fields_after (suc i) (fields_in g)) d section (child_in_kind k ts)) active
        ∙ ap (λ b. b && fields_in_kind (fields_after (suc i) (fields_in g)) d section (child_in_kind k ts)) (bad ts h)

  pub fields_end : (g : Shape) (section i : ℕ) → field_count (fields_in g) ≤ i → FieldsLeft k f p c g section i → (ts : Trees) → each f p c ≡ Some ts → shape_in_kind g section (child_in_kind k ts) ≡ true
  unfolding fields_in_kind
  fields_end g section i past left ts h = left ts h ∙ ap (λ fs. fields_in_kind fs (discriminant (union_in g) whole_words section) section (child_in_kind k ts)) (no_more_fields (fields_in g) i past)

  -- ---- pointers

  past_child : (ts : Trees) (i : ℕ) → tree_count ts ≤ i → child ts i ≡ null
  past_child none i h = refl
  past_child (t ▸ ts) zero h = absurd (omega (arith, h))
  past_child (t ▸ ts) (suc i) h = past_child ts i (omega (arith, h))

  -- past the last pointer there is null
  pub past_pointer : (i : ℕ) (ty : Ty) (ts : Trees) → c ≤ i → each f p c ≡ Some ts → child_in_kind k ts i ty ≡ true
  unfolding in_kind
  past_pointer i ty ts past h =
      let few = each_count f p c ts h in
      child_in_kind-is k ts i ty ∙ ap (λ t. in_kind k t ty) (past_child ts i (omega (arith, few, past)))

  pub pointer_told : (i : ℕ) (q : Place) (ty : Ty) (r : Result Bool AllocError) → q ≡ after p i → i < c → ((t : Tree) → f q ≡ Some t → Tells (in_kind k t ty) r) → (ts : Trees) → each f p c ≡ Some ts → Tells (child_in_kind k ts i ty) r
  pointer_told i q ty r at lt told ts h = subst (λ b. Tells b r) (sym (child_in_kind-is k ts i ty)) (told (child ts i) (child_read f p q c i ts at lt h))
