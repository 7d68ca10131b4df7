-- What is shown as a whole is what the model reads.
use Rattle.std.proofs.Common.{◌≡◌, ℕ, zero, suc, ◌+◌, ◌<◌, ◌≤◌, ◌⊎◌, inl, inr, not, Bool, true, false, if◌then◌else◌, Option, List, Result, Ok, Err, refl, ap, sym, ◌∙◌, subst, arith}
use Rattle.std.specs.Prelude.{bit_xor}
use Rattle.capnp_model.specs.Kinds.{Kind}
use Rattle.capnp_model.specs.Chains.{◌and_then◌}
use Rattle.capnp_model.specs.Sections.{bits_at}
use Rattle.capnp_model.specs.Trees.{Tree, null, Trees, child}
use Rattle.capnp_model.specs.Schemas.{PlainType, width, Ty, void, plain, text, blob, untyped, interface, struct, list, BaseType, base_type, lists_of, Shape, shape, Fields, no_fields, field, Body, void_slot, plain_slot, pointer_slot, group_slot, Schema, Node}
use Rattle.capnp_model.specs.Readings.{Reading, inactive, null_pointer, fault, number, text_of, blob_of, list_of, record_as, opaque, Readings, no_readings, ◌▹◌, entry, Extent, just_bits, Children, field_bits, discriminant, is_active, only_if, shape_record, fields_of, body_of, element_as, read, read_child}
use Rattle.capnp_model.specs.ActiveMembers.{element_of as item_of}
use Rattle.capnp_model.specs.Accepted.{schema_of, IsAccepted}
use Rattle.capnp_model.proofs.lemmas.Chaining.{bind_ok, ok_is}
use Rattle.capnp_wire_objects.specs.declared.object.Object.{Object}
use Rattle.capnp_wire.specs.Views.{Ground, PointerView, StructView, ListView, pointer_field, element_as_struct, element_number}
use Rattle.capnp_wire.specs.Reads.{is_null_pointer, struct_of_null, read_struct, read_list, read_blob, read_text, object_behind}
use Rattle.capnp_values.specs.ListSizes.{size_of}
use Rattle.capnp_values.specs.Sources.{read_behind}
use Rattle.capnp_values.specs.Records.{is_there}
use Rattle.capnp_values.specs.Shown.{Shown, a_number, an_enum, a_text, a_blob, a_struct, a_list, a_pointer, a_capability, shown_behind}
use Rattle.capnp_values.specs.Standing.{LeadsToValue, HasSectionAndChildren, IsRecord, AreItems, null_as_empty, IsReading, Answers, IsPointerType, PointersAreRead}
use Rattle.capnp_values.proofs.lemmas.ElementReadings.{item_count, IsElement, AreElements, elements_stand}
use Rattle.capnp_values.proofs.lemmas.FieldReadings.{aligned_by, bits_shown, discriminants, null_behind}
use Rattle.capnp_values.proofs.lemmas.Nulls.{nulls}
use Rattle.capnp_values.proofs.lemmas.RecordReadings.{pointer_there}
use Rattle.capnp_model.proofs.lemmas.Paths.{read_child-is}
use Rattle.capnp_values_print.specs.Models.{unopened, unopened_each, unopened_fields, IsOfNodes, WholesAreRead}
use Rattle.capnp_values_print.specs.ShownReadings.{read_or_fault, pointer_reading, children_read, record_read, element_read, elements_read, reading_within, levels_left, levels_of}
use Rattle.capnp_values_print.proofs.lemmas.Children.{below, within, no_pointer, struct_levels, list_levels}
use Rattle.capnp_values_print.proofs.lemmas.SoundShapes.{IsNamed, SoundShape, SoundFields, SoundBody, shapes_sound}

-- ---- names

pub element_named : (ty : Ty) → IsNamed (list ty) → IsNamed ty
element_named ty (t, e) = by t.list_count t.base e
  where
    base : (b : BaseType) → list ty ≡ base_type b → IsNamed ty
    base BaseType.Void h = absurd cc
    base BaseType.Boolean h = absurd cc
    base BaseType.Int8 h = absurd cc
    base BaseType.Int16 h = absurd cc
    base BaseType.Int32 h = absurd cc
    base BaseType.Int64 h = absurd cc
    base BaseType.UInt8 h = absurd cc
    base BaseType.UInt16 h = absurd cc
    base BaseType.UInt32 h = absurd cc
    base BaseType.UInt64 h = absurd cc
    base BaseType.Float32 h = absurd cc
    base BaseType.Float64 h = absurd cc
    base BaseType.Text h = absurd cc
    base BaseType.Data h = absurd cc
    base (BaseType.Enum id) h = absurd cc
    base (BaseType.Struct id) h = absurd cc
    base BaseType.AnyPointer h = absurd cc
    base BaseType.Capability h = absurd cc

    by : (n : ℕ) (b : BaseType) → list ty ≡ lists_of n (base_type b) → IsNamed ty
    by zero b h = base b h
    by (suc n) b h = let inner : ty ≡ lists_of n (base_type b) = cc in (record { list_count = n; base = b }, inner)

-- ---- records

only_unopened : (a : Bool) (x y : Reading) → x ≡ unopened y → only_if a x ≡ unopened (only_if a y)
only_unopened true x y e = e
only_unopened false x y e = refl

-- What pointers of named types read as is what the children do.
abbrev SameChildren : Children → Children → Type 0
SameChildren from to = (i : ℕ) (ty : Ty) → IsPointerType ty → IsNamed ty → from i ty ≡ unopened (to i ty)

module _ (n : ℕ) (v : StructView) (e : Extent) (section : ℕ) (kids : Trees) (stands : HasSectionAndChildren n v e section kids) (from to : Children) (same : SameChildren from to) where
  mutual
    unfolding shape_record

    shape_same : (g : Shape) → SoundShape g → shape_record g (just_bits v.bits) v.section from ≡ unopened_fields (shape_record g e section to)
    shape_same (shape nid w p u fs) sound =
        let at : discriminant u (just_bits v.bits) v.section ≡ discriminant u e section
        = ap (λ o. discriminant o (just_bits v.bits) v.section) sound.0.1 ∙ discriminants n v e section kids sound.0.0 stands ∙ ap (λ o. discriminant o e section) (sym sound.0.1) in
        ap (λ d. fields_of fs d (just_bits v.bits) v.section from) at ∙ fields_same fs (discriminant u e section) sound.1

    fields_same : (fs : Fields) (d : Option ℕ) → SoundFields fs → fields_of fs d (just_bits v.bits) v.section from ≡ unopened_fields (fields_of fs d e section to)
    fields_same no_fields d sound = refl
    fields_same (field name m b fs) d sound =
        ap (λ r. entry name r (fields_of fs d (just_bits v.bits) v.section from)) (only_unopened (is_active m d) (body_of b (just_bits v.bits) v.section from) (body_of b e section to) (body_same b sound.0))
        ∙ ap (entry name (unopened (only_if (is_active m d) (body_of b e section to)))) (fields_same fs d sound.1)

    body_same : (b : Body) → SoundBody b → body_of b (just_bits v.bits) v.section from ≡ unopened (body_of b e section to)
    body_same (void_slot j) sound = refl
    body_same (plain_slot p at d) sound =
        let w = width p in
        let there = ap (λ a. field_bits (just_bits v.bits) v.section a w) sound.0.1 ∙ bits_shown v e section w sound.0.0 stands.extent stands.same (aligned_by w sound.1) ∙ ap (λ a. field_bits e section a w) (sym sound.0.1) in
        ap (λ x. number (bit_xor x d)) there
    body_same (pointer_slot i ty d) sound = same i ty sound.0 sound.1
    body_same (group_slot g) sound = ap record_as (shape_same g sound)

-- ---- what stands behind pointers

-- A struct or a list has levels left, or nothing that takes one.
abbrev pub Small : ℕ → Shown → Type 0
Small n (a_struct s g v) = (levels_left v.levels < n) ⊎ ((i : ℕ) → is_null_pointer (pointer_field v i) ≡ true)
Small n (a_list s ty l) = (levels_left l.levels < n) ⊎ (l.count ≡ 0)
Small n (a_number ty k) = Unit {0}
Small n (an_enum s id k) = Unit {0}
Small n (a_text bytes) = Unit {0}
Small n (a_blob bytes) = Unit {0}
Small n (a_pointer p) = Unit {0}
Small n a_capability = Unit {0}

-- A struct has a sound shape, a list elements of a named type.
abbrev pub Sound : Shown → Type 0
Sound (a_struct s g v) = SoundShape g
Sound (a_list s ty l) = IsNamed ty
Sound (a_number ty k) = Unit {0}
Sound (an_enum s id k) = Unit {0}
Sound (a_text bytes) = Unit {0}
Sound (a_blob bytes) = Unit {0}
Sound (a_pointer p) = Unit {0}
Sound a_capability = Unit {0}

pub behind : (p : PointerView) {Y : Type 0} (read : Object → Result Y Kind) (show : Y → Shown) (x : Shown) → (read_behind read p and_then λ y. Ok (show y)) ≡ Ok x → (y : Y) × (o : Object) × (read o ≡ Ok y) × (show y ≡ x)
behind p read show x e =
    let a = bind_ok (read_behind read p) _ x e in
    let b = bind_ok (object_behind p) _ a.0 a.1 in
    (a.0, b.0.object, b.2, ok_is _ _ a.2)

no_pointers : (g : Ground) (levels : Option ℕ) (i : ℕ) → is_null_pointer (pointer_field (struct_of_null g levels) i) ≡ true
no_pointers g levels i = simp no_pointer

small_struct : (n : ℕ) (g : Ground) (levels : Option ℕ) (v : StructView) → levels_left levels ≤ n → (struct_of_null g levels ≡ v) ⊎ (levels_left levels ≡ suc (levels_left v.levels)) → (levels_left v.levels < n) ⊎ ((i : ℕ) → is_null_pointer (pointer_field v i) ≡ true)
small_struct n g levels v h (inl is) = inr (subst (λ (w : StructView). (i : ℕ) → is_null_pointer (pointer_field w i) ≡ true) is (no_pointers g levels))
small_struct n g levels v h (inr is) = inl (omega arith)

small_list : (n : ℕ) (levels : Option ℕ) (l : ListView) → levels_left levels ≤ n → (l.count ≡ 0) ⊎ (levels_left levels ≡ suc (levels_left l.levels)) → (levels_left l.levels < n) ⊎ (l.count ≡ 0)
small_list n levels l h (inl is) = inr is
small_list n levels l h (inr is) = inl (omega arith)

pub there_is : (s : Schema) (ty : Ty) (r : Reading) → is_there r ≡ true → null_as_empty s ty r ≡ r
there_is s ty inactive h = absurd cc
there_is s ty null_pointer h = absurd cc
there_is s ty (fault kind) h = refl
there_is s ty (number n) h = refl
there_is s ty (text_of bytes) h = refl
there_is s ty (blob_of bytes) h = refl
there_is s ty (list_of rs) h = refl
there_is s ty (record_as r) h = refl
there_is s ty (opaque t) h = refl

null_is_read : (s : Schema) (ty : Ty) (t : Tree) → t ≡ null → unopened (read s t ty) ≡ null_pointer
unfolding read
null_is_read s ty t e = ap (λ u. unopened (read s u ty)) e

-- ---- values

module _ (pointers : PointersAreRead) (s : Schema) (sound : (id : ℕ) → SoundShape (s.shape_of id)) where
  -- What is shown is read n levels deep.
  abbrev ReadWithin : ℕ → Type 0
  ReadWithin n = (x : Shown) (r : Reading) → Sound x → Small n x → IsReading s x r → reading_within n x ≡ unopened r

  -- The same one level less.
  abbrev ReadBelow : ℕ → Type 0
  ReadBelow zero = Unit {0}
  ReadBelow (suc n) = ReadWithin n

  pub opened_small : (n : ℕ) (ty : Ty) (p : PointerView) (x : Shown) → levels_left p.levels ≤ n → IsPointerType ty → IsNamed ty → shown_behind s ty p ≡ Ok x → Sound x × Small n x
  opened_small n void p x h pointer named e = absurd pointer
  opened_small n (plain q) p x h pointer named e = absurd pointer
  opened_small n text p x h pointer named e = let a = behind p (read_text p.basis p.levels) a_text x e in subst (λ y. Sound y × Small n y) a.3 (tt, tt)
  opened_small n blob p x h pointer named e = let a = behind p (read_blob p.basis p.levels) a_blob x e in subst (λ y. Sound y × Small n y) a.3 (tt, tt)
  opened_small n untyped p x h pointer named e = subst (λ y. Sound y × Small n y) (ok_is _ _ e) (tt, tt)
  opened_small n interface p x h pointer named e = subst (λ y. Sound y × Small n y) (ok_is _ _ e) (tt, tt)
  opened_small n (struct id) p x h pointer named e =
      let a = behind p (read_struct p.basis p.levels) (a_struct s (s.shape_of id)) x e in
      subst (λ y. Sound y × Small n y) a.3 (sound id, small_struct n p.basis p.levels a.0 h (struct_levels p.basis p.levels a.1 a.0 a.2))
  opened_small n (list ty) p x h pointer named e =
      let a = behind p (read_list p.basis p.levels (size_of ty)) (a_list s ty) x e in
      subst (λ y. Sound y × Small n y) a.3 (element_named ty named, small_list n p.levels a.0 h (list_levels p.basis p.levels (size_of ty) a.1 a.0 a.2))

  module _ (n : ℕ) (deeper : ReadBelow n) where
    answered : (ty : Ty) (p : PointerView) (t : Tree) → IsPointerType ty → IsNamed ty → levels_left p.levels < n → is_there (read s t ty) ≡ true → (o : Result Shown Kind) → shown_behind s ty p ≡ o → Answers s o (null_as_empty s ty (read s t ty))
        → read_or_fault (below n) o ≡ unopened (read s t ty)
    answered ty p t pointer named left there (Err kind) e h = ap unopened (sym (sym (there_is s ty (read s t ty) there) ∙ h))
    answered ty p t pointer named left there (Ok x) e h = by n deeper left
      where
        by : (m : ℕ) → ReadBelow m → levels_left p.levels < m → below m x ≡ unopened (read s t ty)
        by zero d less = absurd (omega arith)
        by (suc m) d less =
            let a = opened_small m ty p x (omega arith) pointer named e in
            d x (read s t ty) a.0 a.1 (subst (IsReading s x) (there_is s ty (read s t ty) there) h)

    pointer_same : (k : ℕ) (p : PointerView) (t : Tree) (ty : Ty) → LeadsToValue k p t → IsPointerType ty → IsNamed ty → (levels_left p.levels < n) ⊎ (is_null_pointer p ≡ true) → pointer_reading (below n) s p ty ≡ unopened (read s t ty)
    pointer_same k p t ty leads pointer named small = by (is_null_pointer p) refl small
      where
        by : (b : Bool) → is_null_pointer p ≡ b → (levels_left p.levels < n) ⊎ (is_null_pointer p ≡ true) → (if b then null_pointer else read_or_fault (below n) (shown_behind s ty p)) ≡ unopened (read s t ty)
        by true e h = sym (null_is_read s ty t (null_behind k p t leads e))
        by false e (inr h) = absurd cc
        by false e (inl h) =
            let there : is_there (read s t ty) ≡ true = pointer_there s ty t ∙ ap not (sym (nulls k p t leads) ∙ e) in
            answered ty p t pointer named h there (shown_behind s ty p) refl (pointers k p t s ty pointer leads)

    children_same : (k : ℕ) (v : StructView) (e : Extent) (section : ℕ) (kids : Trees) → HasSectionAndChildren k v e section kids → (levels_left v.levels < n) ⊎ ((i : ℕ) → is_null_pointer (pointer_field v i) ≡ true) → SameChildren (children_read (below n) s v) (read_child s kids)
    children_same k v e section kids stands small i ty pointer named =
        pointer_same k (pointer_field v i) (child kids i) ty (stands.children i) pointer named (either small) ∙ ap unopened (sym (read_child-is s kids i ty))
      where
        either : (levels_left v.levels < n) ⊎ ((j : ℕ) → is_null_pointer (pointer_field v j) ≡ true) → (levels_left v.levels < n) ⊎ (is_null_pointer (pointer_field v i) ≡ true)
        either (inl h) = inl h
        either (inr h) = inr (h i)

    -- ---- structs

    record_same : (k : ℕ) (g : Shape) (v : StructView) (e : Extent) (section : ℕ) (kids : Trees) → SoundShape g → HasSectionAndChildren k v e section kids → (levels_left v.levels < n) ⊎ ((i : ℕ) → is_null_pointer (pointer_field v i) ≡ true)
        → record_read (below n) s g v ≡ unopened_fields (shape_record g e section (read_child s kids))
    record_same k g v e section kids shaped stands small = shape_same k v e section kids stands (children_read (below n) s v) (read_child s kids) (children_same k v e section kids stands small) g shaped

    -- ---- lists

    module _ (l : ListView) (left : levels_left l.levels < n) where
      element_same : (k : ℕ) (ty : Ty) (i : ℕ) (r : Reading) → IsNamed ty → IsElement k l s ty i r → element_read (below n) s ty l i ≡ unopened r
      element_same k ty i r named x = by ty named x.number ∙ ap unopened (sym x.is)
        where
          child_same : (ty : Ty) → IsPointerType ty → IsNamed ty → children_read (below n) s (element_as_struct l i) 0 ty ≡ unopened (read_child s x.kids 0 ty)
          child_same ty pointer named = children_same k (element_as_struct l i) x.extent x.section x.kids x.stands (inl left) 0 ty pointer named

          by : (u : Ty) → IsNamed u → ((p : PlainType) → u ≡ plain p → element_number l i (width p) ≡ bits_at 0 (width p) x.section) → element_read (below n) s u l i ≡ unopened (element_as s u x.extent x.section (read_child s x.kids))
          by void named same = refl
          by (plain p) named same = ap number (same p refl)
          by (struct id) named same = ap record_as (record_same k (s.shape_of id) (element_as_struct l i) x.extent x.section x.kids (sound id) x.stands (inl left))
          by text named same = child_same text tt named
          by blob named same = child_same blob tt named
          by untyped named same = child_same untyped tt named
          by interface named same = child_same interface tt named
          by (list ty) named same = child_same (list ty) tt named

      elements_same : (k : ℕ) (ty : Ty) → IsNamed ty → (rs : Readings) (i m : ℕ) → item_count rs ≡ m → ((j : ℕ) → j < m → IsElement k l s ty (i + j) (item_of j rs)) → elements_read (below n) s ty l i m ≡ unopened_each rs
      unfolding elements_read item_count
      elements_same k ty named no_readings i zero e h = refl
      elements_same k ty named no_readings i (suc m) e h = absurd cc
      elements_same k ty named (r ▹ rs) i zero e h = absurd cc
      elements_same k ty named (r ▹ rs) i (suc m) e h =
          let first : i + 0 ≡ i = omega arith in
          ap (λ x. x ▹ elements_read (below n) s ty l (suc i) m) (element_same k ty i r named (subst (λ (j : ℕ). IsElement k l s ty j r) first (h 0 (omega arith))))
          ∙ ap (λ xs. unopened r ▹ xs) (elements_same k ty named rs (suc i) m (let same : item_count rs ≡ m = omega (arith, e) in same) (λ j less. let next : i + suc j ≡ suc i + j = omega arith in subst (λ (z : ℕ). IsElement k l s ty z (item_of j rs)) next (h (suc j) (omega arith))))

    no_items : (rs : Readings) → item_count rs ≡ 0 → rs ≡ no_readings
    unfolding item_count
    no_items no_readings h = refl
    no_items (x ▹ rs) h = absurd cc

    items_same : (ty : Ty) (l : ListView) (r : Reading) → IsNamed ty → (levels_left l.levels < n) ⊎ (l.count ≡ 0) → AreItems s ty l r → list_of (elements_read (below n) s ty l 0 l.count) ≡ unopened r
    unfolding elements_read
    items_same ty l r (t, e) small are = by small ∙ ap unopened (sym are.is)
      where
        all : AreElements are.levels l s ty are.items
        all = subst (λ (u : Ty). (a : AreItems s u l r) → AreElements a.levels l s u a.items) (sym e) (elements_stand s t l r) are

        by : (levels_left l.levels < n) ⊎ (l.count ≡ 0) → list_of (elements_read (below n) s ty l 0 l.count) ≡ unopened (list_of are.items)
        by (inl left) = ap list_of (elements_same l left are.levels ty (t, e) are.items 0 l.count all.count (λ j h. let same : j ≡ 0 + j = omega arith in subst (λ (i : ℕ). IsElement are.levels l s ty i (item_of j are.items)) same (all.each j h)))
        by (inr none) = ap list_of (ap (elements_read (below n) s ty l 0) none) ∙ ap (λ rs. list_of (unopened_each rs)) (sym (no_items are.items (all.count ∙ none)))

    -- ---- all

    step : ReadWithin n
    step (a_number ty k) r shaped small is = within n (a_number ty k) ∙ ap unopened (sym is)
    step (an_enum t id k) r shaped small is = within n (an_enum t id k) ∙ ap unopened (sym is.1)
    step (a_text bytes) r shaped small is = within n (a_text bytes) ∙ ap unopened (sym is)
    step (a_blob bytes) r shaped small is = within n (a_blob bytes) ∙ ap unopened (sym is)
    step (a_pointer p) r shaped small is = within n (a_pointer p) ∙ ap unopened (sym is.is)
    step a_capability r shaped small is = within n a_capability ∙ ap unopened (sym is.1)
    step (a_struct t g v) r shaped small is =
        let rec : IsRecord s g v r = is.1 in
        subst (λ (u : Schema). reading_within n (a_struct u g v) ≡ unopened r) (sym is.0)
        (within n (a_struct s g v) ∙ ap record_as (record_same rec.levels g v rec.extent rec.section rec.kids shaped rec.stands small) ∙ ap unopened (sym rec.is))
    step (a_list t ty l) r shaped small is =
        subst (λ (u : Schema). reading_within n (a_list u ty l) ≡ unopened r) (sym is.0)
        (within n (a_list s ty l) ∙ items_same ty l r shaped small is.1)

  pub read_within : (n : ℕ) → ReadWithin n
  read_within zero = step zero tt
  read_within (suc n) = step (suc n) (read_within n)

  -- as a whole
  pub read_whole : (x : Shown) (r : Reading) → Sound x → IsReading s x r → reading_within (levels_of x) x ≡ unopened r
  read_whole x r shaped is = read_within (levels_of x) x r shaped (small x) is
    where
      small : (y : Shown) → Small (levels_of y) y
      small (a_number ty k) = tt
      small (an_enum t id k) = tt
      small (a_text bytes) = tt
      small (a_blob bytes) = tt
      small (a_pointer p) = tt
      small a_capability = tt
      small (a_struct t g v) = inl (omega arith)
      small (a_list t ty l) = inl (omega arith)

-- what is of the nodes is sound
pub of_nodes : (nodes : List Node) → IsAccepted nodes → (x : Shown) → IsOfNodes nodes x → Sound x
of_nodes nodes accepted (a_number ty k) h = tt
of_nodes nodes accepted (an_enum t id k) h = tt
of_nodes nodes accepted (a_text bytes) h = tt
of_nodes nodes accepted (a_blob bytes) h = tt
of_nodes nodes accepted (a_pointer p) h = tt
of_nodes nodes accepted a_capability h = tt
of_nodes nodes accepted (a_struct t g v) h = subst SoundShape (sym h.1) (shapes_sound nodes accepted h.0)
of_nodes nodes accepted (a_list t ty l) h = h

pub wholes : PointersAreRead → WholesAreRead
wholes pointers nodes x r accepted of is = read_whole pointers (schema_of nodes) (shapes_sound nodes accepted) x r (of_nodes nodes accepted x of) is
