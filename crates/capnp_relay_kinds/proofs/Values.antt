-- Whether a value is in kind, by the object that its pointer leads to.
use Rattle.std.proofs.Common.{◌≡◌, ℕ, zero, suc, ◌==◌, Bool, true, false, ◌&&◌, [], ◌∷◌, Option, Some, Result, Ok, Err, refl, ap, sym, ◌∙◌, subst, arith}
use Rattle.std.specs.declared.alloc.AllocError.{AllocError}
use Rattle.capnp_model.specs.Kinds.{Kind}
use Rattle.capnp_model.specs.Segments.{Segments, Place, after}
use Rattle.capnp_model.specs.Pointers as model
use Rattle.capnp_model.specs.Trees.{Tree, null, capability, structure, plain_list, pointer_list, struct_list, Trees, Elements}
use Rattle.capnp_model.specs.Traversal.{tree_at, leaf_of, cost_at, each, each_element}
use Rattle.capnp_model.specs.Visits.{visits, visits_cost}
use Rattle.capnp_model.specs.Schemas.{width, Ty, void, plain, text, blob, untyped, interface, struct, list, Schema}
use Rattle.capnp_model.specs.Readings.{expected_size}
use Rattle.capnp_model.specs.InKind.{struct_kinds, list_kinds, in_kind, shape_in_kind, child_in_kind, children_in_kind, elements_in_kind}
use Rattle.capnp_model.proofs.lemmas.Chaining.{bind_some, bind_found, some_is}
use Rattle.capnp_model.proofs.lemmas.ListElements.{no_size}
use Rattle.capnp_model.proofs.lemmas.Tests.{and_true}
use Rattle.capnp_units.specs.Sizes.{size_number}
use Rattle.capnp_units.specs.declared.sizes.ElementSize.{ElementSize}
use Rattle.capnp_wire_objects.specs.declared.place.Place as wire
use Rattle.capnp_wire_objects.specs.declared.object.Object.{Object}
use Rattle.capnp_wire_objects.specs.declared.object.Object.TheVariants as object
use Rattle.capnp_wire_objects.specs.declared.object.Found.{Found}
use Rattle.capnp_wire_objects.specs.Inside.{section_at, words_there, tree_in}
use Rattle.capnp_wire_objects.specs.Laws.{TreesByLevels, VisitsOfFaults}
use Rattle.capnp_wire_objects.specs.Objects.{object_at}
use Rattle.capnp_wire_objects.specs.Places.{place_view}
use Rattle.capnp_values_queries.specs.Types.{ty_of_variant}
use Rattle.capnp_values_queries.specs.declared.introspect.TypeVariant.{TypeVariant}
use Rattle.capnp_values_queries.specs.declared.introspect.TypeVariant.TheVariants as V
use Rattle.capnp_values_queries.specs.declared.introspect.«Type».{«Type» as SchemaType}
use Rattle.capnp_records.specs.declared.raw.RawBrandedStructSchema.{RawBrandedStructSchema}
use Rattle.capnp_relay_kinds.specs.Kinds.{Tells}

-- ---- what is told

-- What is told: that a value is in kind, that it isn't, or nothing for want of memory where it isn't.
pub tells_true : (kind : Bool) → kind ≡ true → Tells kind (Ok true)
tells_true kind e = sym e

pub tells_false : (kind : Bool) (r : Result Bool AllocError) → kind ≡ false → Tells false r → Tells kind r
tells_false kind r e h = subst (λ b. Tells b r) (sym e) h

-- a refusal that is passed on
pub tells_err : (kind : Bool) (e f : AllocError) (r : Result Bool AllocError) → r ≡ Err f → Tells kind (Err e) → Tells kind r
tells_err kind e f r is h = subst (λ x. Tells kind x) (sym is) h

-- ---- values without a level, and pointers without an object

leaf_true : (s : Schema) (o : model.Object) (t : Tree) (ty : Ty) → leaf_of o ≡ Some t → in_kind s t ty ≡ true
unfolding in_kind
leaf_true s model.nothing t ty h = ap (λ u. in_kind s u ty) (sym (some_is _ _ h))
leaf_true s (model.a_capability i) t ty h = ap (λ u. in_kind s u ty) (sym (some_is _ _ h))
leaf_true s (model.a_struct p d k) t ty h = absurd cc
leaf_true s (model.a_list p size n) t ty h = absurd cc

pub leaf_in_kind : (k : Schema) (n : ℕ) (s : Segments) (p : Place) (t : Tree) (ty : Ty) → n ≡ 0 → tree_at n s p ≡ Some t → in_kind k t ty ≡ true
unfolding tree_at
leaf_in_kind k zero s p t ty e h = let x = bind_found (model.found_at s p) _ t h in leaf_true k x.0.object t ty x.2
leaf_in_kind k (suc n) s p t ty e h = absurd (omega (arith, e))

-- What walks cost.
abbrev pub Costs : Type 0
Costs = (n : ℕ) (s : Segments) (p : Place) (t : Tree) → tree_at n s p ≡ Some t → visits_cost (visits n s p) ≡ Some (cost_at n s p)

pub no_object : VisitsOfFaults → Costs → (levels n : ℕ) (s : Segments) (p : Place) (k : Kind) (t : Tree) → levels ≡ suc n → object_at s p ≡ Err k → tree_at levels s p ≡ Some t → ⊥
no_object faults costs levels n s p k t e missing there =
    let at : tree_at (suc n) s p ≡ Some t = ap (λ m. tree_at m s p) (sym e) ∙ there in
    let cost = costs (suc n) s p t at in
    let none : visits_cost (Err k ∷ []) ≡ Some (cost_at (suc n) s p) = ap visits_cost (sym (faults n s p k missing)) ∙ cost in
    absurd cc

pub by_object : TreesByLevels → (levels n : ℕ) (s : Segments) (p : Place) (f : Found) (t : Tree) → levels ≡ suc n → object_at s p ≡ Ok f → tree_at levels s p ≡ Some t → tree_in s (tree_at n s) f.object ≡ Some t
by_object trees levels n s p f t e found there = sym (trees n s p f found) ∙ ap (λ m. tree_at m s p) (sym e) ∙ there

-- ---- under a struct

module _ (k : Schema) (s : Segments) (f : Place → Option Tree) where
  pub struct_there : (id : ℕ) (o : Object) (q : wire.Place) (d p : ℕ) (t : Tree) (r : Result Bool AllocError) → o ≡ object.Struct q d p
      → ((ts : Trees) → each f (after (place_view q) d) p ≡ Some ts → Tells (shape_in_kind (k.shape_of id) (section_at s (place_view q) d) (child_in_kind k ts)) r)
      → tree_in s f o ≡ Some t → Tells (in_kind k t (struct id)) r
  unfolding in_kind
  struct_there id o q d p t r is told there =
      let x = bind_some (each f (after (place_view q) d) p) _ t (ap (tree_in s f) (sym is) ∙ there) in
      subst (λ u. Tells (in_kind k u (struct id)) r) (some_is _ _ x.2) (told x.0 x.1)

  pub other_in_kind : (id : ℕ) (o : Object) (t : Tree) → ((q : wire.Place) (d p : ℕ) → o ≡ object.Struct q d p → ⊥) → tree_in s f o ≡ Some t → in_kind k t (struct id) ≡ true
  unfolding in_kind
  other_in_kind id object.Null t differs there = ap (λ u. in_kind k u (struct id)) (sym (some_is _ _ there))
  other_in_kind id (object.Capability i) t differs there = ap (λ u. in_kind k u (struct id)) (sym (some_is _ _ there))
  other_in_kind id (object.Struct q d p) t differs there = absurd (differs q d p refl)
  other_in_kind id (object.List q size n) t differs there = ap (λ u. in_kind k u (struct id)) (sym (some_is _ _ there))
  other_in_kind id (object.PointerList q n) t differs there = let x = bind_some (each f (place_view q) n) _ t there in ap (λ u. in_kind k u (struct id)) (sym (some_is _ _ x.2))
  other_in_kind id (object.StructList q words n d p) t differs there =
      let x = bind_some (each_element f (place_view q) (words_there s (place_view q) words) d p n) _ t there in ap (λ u. in_kind k u (struct id)) (sym (some_is _ _ x.2))

  -- ---- under a list

  pub plain_told : (ty : Ty) (o : Object) (q : wire.Place) (size : ElementSize) (n : ℕ) (t : Tree) (told : Bool) → o ≡ object.List q size n → told ≡ (expected_size ty == size_number size) → tree_in s f o ≡ Some t → told ≡ in_kind k t (list ty)
  unfolding in_kind
  plain_told ty o q size n t told is e there =
      let at = some_is _ _ (ap (tree_in s f) (sym is) ∙ there) in
      e ∙ sym (and_true (expected_size ty == size_number size)) ∙ ap (λ u. in_kind k u (list ty)) at

  pub pointers_wrong : (ty : Ty) (o : Object) (q : wire.Place) (n : ℕ) (t : Tree) → o ≡ object.PointerList q n → (expected_size ty == 6) ≡ false → tree_in s f o ≡ Some t → in_kind k t (list ty) ≡ false
  unfolding in_kind
  pointers_wrong ty o q n t is wrong there =
      let x = bind_some (each f (place_view q) n) _ t (ap (tree_in s f) (sym is) ∙ there) in
      ap (λ u. in_kind k u (list ty)) (sym (some_is _ _ x.2)) ∙ ap (λ b. b && children_in_kind k x.0 ty) wrong

  pub pointers_told : (ty : Ty) (o : Object) (q : wire.Place) (n : ℕ) (t : Tree) (r : Result Bool AllocError) → o ≡ object.PointerList q n → (expected_size ty == 6) ≡ true
      → ((ts : Trees) → each f (place_view q) n ≡ Some ts → Tells (children_in_kind k ts ty) r) → tree_in s f o ≡ Some t → Tells (in_kind k t (list ty)) r
  unfolding in_kind
  pointers_told ty o q n t r is right told there =
      let x = bind_some (each f (place_view q) n) _ t (ap (tree_in s f) (sym is) ∙ there) in
      let all : children_in_kind k x.0 ty ≡ in_kind k (pointer_list x.0) (list ty) = ap (λ b. b && children_in_kind k x.0 ty) (sym right) in
      subst (λ u. Tells (in_kind k u (list ty)) r) (some_is _ _ x.2) (subst (λ b. Tells b r) all (told x.0 x.1))

  pub structs_wrong : (ty : Ty) (o : Object) (q : wire.Place) (words n d p : ℕ) (t : Tree) → o ≡ object.StructList q words n d p → (expected_size ty == 7) ≡ false → tree_in s f o ≡ Some t → in_kind k t (list ty) ≡ false
  unfolding in_kind
  structs_wrong ty o q words n d p t is wrong there =
      let x = bind_some (each_element f (place_view q) (words_there s (place_view q) words) d p n) _ t (ap (tree_in s f) (sym is) ∙ there) in
      ap (λ u. in_kind k u (list ty)) (sym (some_is _ _ x.2)) ∙ ap (λ b. b && elements_in_kind k x.0 ty) wrong

  pub structs_told : (ty : Ty) (id : ℕ) (o : Object) (q : wire.Place) (words n d p : ℕ) (t : Tree) (r : Result Bool AllocError) → o ≡ object.StructList q words n d p → struct id ≡ ty
      → ((es : Elements) → each_element f (place_view q) (words_there s (place_view q) words) d p n ≡ Some es → Tells (elements_in_kind k es (struct id)) r) → tree_in s f o ≡ Some t → Tells (in_kind k t (list ty)) r
  unfolding in_kind
  structs_told ty id o q words n d p t r is of told there =
      let x = bind_some (each_element f (place_view q) (words_there s (place_view q) words) d p n) _ t (ap (tree_in s f) (sym is) ∙ there) in
      subst (λ z. Tells (in_kind k t (list z)) r) of (subst (λ u. Tells (in_kind k u (list (struct id))) r) (some_is _ _ x.2) (told x.0 x.1))

  -- what is no list is in kind under a list
  pub no_list_told : (ty : Ty) (o : Object) (t : Tree) → ((q : wire.Place) (size : ElementSize) (n : ℕ) → o ≡ object.List q size n → ⊥) → ((q : wire.Place) (n : ℕ) → o ≡ object.PointerList q n → ⊥) → ((q : wire.Place) (words n d p : ℕ) → o ≡ object.StructList q words n d p → ⊥)
      → tree_in s f o ≡ Some t → in_kind k t (list ty) ≡ true
  unfolding in_kind
  no_list_told ty object.Null t a b c there = ap (λ u. in_kind k u (list ty)) (sym (some_is _ _ there))
  no_list_told ty (object.Capability i) t a b c there = ap (λ u. in_kind k u (list ty)) (sym (some_is _ _ there))
  no_list_told ty (object.Struct q d p) t a b c there = let x = bind_some (each f (after (place_view q) d) p) _ t there in ap (λ u. in_kind k u (list ty)) (sym (some_is _ _ x.2))
  no_list_told ty (object.List q size n) t a b c there = absurd (a q size n refl)
  no_list_told ty (object.PointerList q n) t a b c there = absurd (b q n refl)
  no_list_told ty (object.StructList q words n d p) t a b c there = absurd (c q words n d p refl)

-- ---- under another type

module _ (k : Schema) where
  other_struct : (ty : Ty) (section : ℕ) (kids : ℕ → Ty → Bool) → ((id : ℕ) → ty ≡ struct id → ⊥) → struct_kinds k ty section kids ≡ true
  other_struct void section kids differs = refl
  other_struct (plain p) section kids differs = refl
  other_struct text section kids differs = refl
  other_struct blob section kids differs = refl
  other_struct untyped section kids differs = refl
  other_struct interface section kids differs = refl
  other_struct (struct id) section kids differs = absurd (differs id refl)
  other_struct (list e) section kids differs = refl

  other_list : (ty : Ty) (size : ℕ) (elements : Ty → Bool) → ((e : Ty) → ty ≡ list e → ⊥) → list_kinds size elements ty ≡ true
  other_list void size elements differs = refl
  other_list (plain p) size elements differs = refl
  other_list text size elements differs = refl
  other_list blob size elements differs = refl
  other_list untyped size elements differs = refl
  other_list interface size elements differs = refl
  other_list (struct id) size elements differs = refl
  other_list (list e) size elements differs = absurd (differs e refl)

  all_in_kind : (ty : Ty) (t : Tree) → ((id : ℕ) → ty ≡ struct id → ⊥) → ((e : Ty) → ty ≡ list e → ⊥) → in_kind k t ty ≡ true
  unfolding in_kind
  all_in_kind ty null no_struct no_list = refl
  all_in_kind ty (capability i) no_struct no_list = refl
  all_in_kind ty (structure words section kids) no_struct no_list = other_struct ty section (child_in_kind k kids) no_struct
  all_in_kind ty (plain_list size n section) no_struct no_list = other_list ty size (λ e. true) no_list
  all_in_kind ty (pointer_list ts) no_struct no_list = other_list ty 6 (children_in_kind k ts) no_list
  all_in_kind ty (struct_list words pointers es) no_struct no_list = other_list ty 7 (elements_in_kind k es) no_list

no_struct_variant : (v : TypeVariant) → ((raw : RawBrandedStructSchema) → v ≡ V.Struct raw → ⊥) → (id : ℕ) → ty_of_variant v ≡ struct id → ⊥
no_struct_variant V.Void differs id e = absurd cc
no_struct_variant V.Bool differs id e = absurd cc
no_struct_variant V.Int8 differs id e = absurd cc
no_struct_variant V.Int16 differs id e = absurd cc
no_struct_variant V.Int32 differs id e = absurd cc
no_struct_variant V.Int64 differs id e = absurd cc
no_struct_variant V.UInt8 differs id e = absurd cc
no_struct_variant V.UInt16 differs id e = absurd cc
no_struct_variant V.UInt32 differs id e = absurd cc
no_struct_variant V.UInt64 differs id e = absurd cc
no_struct_variant V.Text differs id e = absurd cc
no_struct_variant V.Data differs id e = absurd cc
no_struct_variant (V.Struct raw) differs id e = differs raw refl
no_struct_variant V.AnyPointer differs id e = absurd cc
no_struct_variant V.Capability differs id e = absurd cc
no_struct_variant (V.Enum raw) differs id e = absurd cc
no_struct_variant (V.List t) differs id e = absurd cc

no_list_variant : (v : TypeVariant) → ((t : SchemaType) → v ≡ V.List t → ⊥) → (ty : Ty) → ty_of_variant v ≡ list ty → ⊥
no_list_variant V.Void differs ty e = absurd cc
no_list_variant V.Bool differs ty e = absurd cc
no_list_variant V.Int8 differs ty e = absurd cc
no_list_variant V.Int16 differs ty e = absurd cc
no_list_variant V.Int32 differs ty e = absurd cc
no_list_variant V.Int64 differs ty e = absurd cc
no_list_variant V.UInt8 differs ty e = absurd cc
no_list_variant V.UInt16 differs ty e = absurd cc
no_list_variant V.UInt32 differs ty e = absurd cc
no_list_variant V.UInt64 differs ty e = absurd cc
no_list_variant V.Text differs ty e = absurd cc
no_list_variant V.Data differs ty e = absurd cc
no_list_variant (V.Struct raw) differs ty e = absurd cc
no_list_variant V.AnyPointer differs ty e = absurd cc
no_list_variant V.Capability differs ty e = absurd cc
no_list_variant (V.Enum raw) differs ty e = absurd cc
no_list_variant (V.List t) differs ty e = differs t refl

pub rest_in_kind : (k : Schema) (v : TypeVariant) (ty : Ty) (t : Tree) → ((raw : RawBrandedStructSchema) → v ≡ V.Struct raw → ⊥) → ((e : SchemaType) → v ≡ V.List e → ⊥) → ty_of_variant v ≡ ty → in_kind k t ty ≡ true
rest_in_kind k v ty t no_struct no_list e = ap (in_kind k t) (sym e) ∙ all_in_kind k (ty_of_variant v) t (no_struct_variant v no_struct) (no_list_variant v no_list)

no_struct_size : (ty : Ty) → ((id : ℕ) → ty ≡ struct id → ⊥) → (expected_size ty == 7) ≡ false
no_struct_size void differs = refl
no_struct_size (plain p) differs = no_size (width p) 7 (omega arith)
no_struct_size text differs = refl
no_struct_size blob differs = refl
no_struct_size untyped differs = refl
no_struct_size interface differs = refl
no_struct_size (struct id) differs = absurd (differs id refl)
no_struct_size (list e) differs = refl

pub no_struct_elements : (v : TypeVariant) (ty : Ty) → ((raw : RawBrandedStructSchema) → v ≡ V.Struct raw → ⊥) → ty_of_variant v ≡ ty → (expected_size ty == 7) ≡ false
no_struct_elements v ty differs e = no_struct_size ty (λ id h. no_struct_variant v differs id (e ∙ h))
