-- An accepted schema has each path in common with itself.
use Rattle.std.proofs.Common.{◌≡◌, ℕ, ◌*◌, Bool, true, false, ◌&&◌, List, [], ◌∷◌, Option, Some, None, refl, sym, ◌∙◌, ap, subst, arith}
use Rattle.std.specs.Str.{bytes_eq}
use Rattle.capnp_model.specs.Trees.{Tree}
use Rattle.capnp_model.specs.Schemas.{PlainType, bool, int, uint, «enum», Ty, void, plain, text, blob, untyped, interface, struct, list, Shape, shape, Fields, no_fields, field, Body, void_slot, plain_slot, pointer_slot, group_slot, Schema, default_or_null, words_of_shape}
use Rattle.capnp_model.specs.Printing.{fields_in}
use Rattle.capnp_model.specs.Calls.{Step, name, index, Verb}
use Rattle.capnp_model.specs.Steps.{target, target_if, target_of}
use Rattle.capnp_model.specs.Admitted.{is_set}
use Rattle.capnp_model.specs.InKindCalls.{PathEnd, at_slot, at_value, end_at, end_of}
use Rattle.capnp_model.proofs.lemmas.OlderReading.{SamePlain, same_bool, same_int, same_uint, same_enum, Related, related_void, related_plain', related_text, related_blob, related_untyped, related_interface, related_struct, related_list}
use Rattle.capnp_model.proofs.lemmas.FineShapes.{IsGoodMember, IsGood, AreGood, IsGoodBody}
use Rattle.capnp_model_versions.specs.Whole.{IsWhole}
use Rattle.capnp_model_versions.specs.StructElements.{is_struct_value}
use Rattle.capnp_model_versions.proofs.lemmas.WholeValues.{fits-whole}
use Rattle.capnp_model_versions.proofs.SameShapes.{UnionWithin, MarkWithin, AnyPair, SameShape, same_shape, SameFields, same_none, same_field, SameBody, same_void, same_plain', same_pointer, same_group}
use Rattle.capnp_model_versions.proofs.Follows.{SameMark, IsNarrow, HasWords, NameFollows, ValueFollows, FieldFollows, ElementFollows}
use Rattle.capnp_model_versions.proofs.Within.{FitsDefault, AllNarrow, IsWithin, AreWithin, BodyWithin}

-- ---- parts

pub plain-self : (p : PlainType) → SamePlain p p
plain-self bool = same_bool
plain-self (int w) = same_int w
plain-self (uint w) = same_uint w
plain-self («enum» i) = same_enum i i

pub default-whole : (d : Option Tree) → FitsDefault d → IsWhole (default_or_null d)
default-whole None h = tt
default-whole (Some t) h = fits-whole t h.0

pub narrow : (ty : Ty) → AllNarrow ty → IsNarrow ty
narrow (plain p) h = h
narrow ty h = tt

pub mark-within : (bits : ℕ) (u m : Option ℕ) → UnionWithin bits u → IsGoodMember u m → MarkWithin bits u m
mark-within bits u None h k = tt
mark-within bits (Some at) (Some j) h k = (h, k.1)
mark-within bits None (Some j) h k = k.0

mark_self : (bits : ℕ) (u m : Option ℕ) → MarkWithin bits u m → SameMark bits u m u m
mark_self bits (Some at) None h = tt
mark_self bits None None h = tt
mark_self bits (Some at) (Some j) h = (refl, refl, h.0, h.1)
mark_self bits None (Some j) h = absurd h

-- ---- the field of a name

abbrev pub AllFields : (Option ℕ → Body → Type 0) → Fields → Type 0
AllFields P no_fields = Unit {0}
AllFields P (field l m b fs) = P m b × AllFields P fs

pub all-found : (P : Option ℕ → Body → Type 0) (l : List ℕ) (fs : Fields) (m : Option ℕ) (b : Body) → AllFields P fs → target_of l fs ≡ target m b → P m b
all-found P l no_fields m b h e = absurd (cc e)
all-found P l (field k j c fs) m b h e = by (bytes_eq k l) (all-found P l fs m b h.1) e
  where
    by : (x : Bool) → (target_of l fs ≡ target m b → P m b) → target_if x (target j c) (target_of l fs) ≡ target m b → P m b
    by true more k = let members : j ≡ m = cc in let is : c ≡ b = cc in subst (λ z. P z b) members (subst (λ z. P j z) is h.0)
    by false more k = more k

module _ (s : Schema) where
  type-self : (ty : Ty) → Related s s AnyPair ty ty
  type-self void = related_void
  type-self (plain p) = related_plain' (plain-self p)
  type-self text = related_text
  type-self blob = related_blob
  type-self untyped = related_untyped
  type-self interface = related_interface
  type-self (struct i) = related_struct tt
  type-self (list ty) = related_list (type-self ty)

  mutual
    shape_self : (bits : ℕ) (g : Shape) → IsWithin bits g → IsGood s g → SameShape s s bits g g
    shape_self bits (shape nid w p u fs) h k = same_shape h.0 (fields_self bits u fs h.0 h.2 k)

    fields_self : (bits : ℕ) (u : Option ℕ) (fs : Fields) → UnionWithin bits u → AreWithin bits fs → AreGood s u fs → SameFields s s bits u fs fs
    fields_self bits u no_fields v h k = same_none
    fields_self bits u (field l m b fs) v h k = same_field (mark-within bits u m v k.0) (body_self bits b h.0 k.3) (fields_self bits u fs v h.1 k.4)

    body_self : (bits : ℕ) (b : Body) → BodyWithin bits b → IsGoodBody s b → SameBody s s bits b b
    body_self bits (void_slot j) h k = same_void
    body_self bits (plain_slot p at d) h k = same_plain' (plain-self p) h k
    body_self bits (pointer_slot i ty d) h k = same_pointer (type-self ty) refl (default-whole d h.1)
    body_self bits (group_slot g) h k = same_group (shape_self bits g h k)

  -- what each field of a struct keeps
  abbrev IsSound : ℕ → Option ℕ → Option ℕ → Body → Type 0
  IsSound bits u m b = MarkWithin bits u m × BodyWithin bits b × IsGoodBody s b

  all_sound : (bits : ℕ) (u : Option ℕ) (fs : Fields) → UnionWithin bits u → AreWithin bits fs → AreGood s u fs → AllFields (IsSound bits u) fs
  all_sound bits u no_fields v h k = tt
  all_sound bits u (field l m b fs) v h k = ((mark-within bits u m v k.0, h.0, k.3), all_sound bits u fs v h.1 k.4)

  module _ (within : (id : ℕ) → IsWithin (64 * words_of_shape (s.shape_of id)) (s.shape_of id)) (good : (id : ℕ) → IsGood s (s.shape_of id)) (verb : Verb) where
    -- no whole struct element is set there
    abbrev pub SetsNone : List Step → PathEnd → Type 0
    SetsNone path at = (is_set verb && is_struct_value (end_of s path at)) ≡ false

    abbrev FieldSelf : List Step → Type 0
    FieldSelf path = (bits : ℕ) (b : Body) → BodyWithin bits b → IsGoodBody s b → SetsNone path (at_slot b) → FieldFollows s s verb path bits b b

    abbrev ElementSelf : List Step → Type 0
    ElementSelf path = (ty : Ty) → AllNarrow ty → SetsNone path (at_value ty) → ElementFollows s s verb path ty ty

    module _ (path : List Step) (fields : FieldSelf path) where
      name_self : (l : List ℕ) (bits : ℕ) (g : Shape) → IsWithin bits g → IsGood s g → ((m : Option ℕ) (b : Body) → target_of l (fields_in g) ≡ target m b → SetsNone path (at_slot b)) → NameFollows s s verb (FieldFollows s s verb path) l bits g g
      name_self l bits (shape nid w p u fs) h k none = λ m b m' b' e e'.
          let members : m ≡ m' = cc in
          let is : b ≡ b' = cc in
          let sound = all-found (IsSound bits u) l fs m b (all_sound bits u fs h.0 h.2 k) e in
          subst (λ z. SameMark bits u m u z × FieldFollows s s verb path bits b b') members
          (subst (λ z. SameMark bits u m u m × FieldFollows s s verb path bits b z) is (mark_self bits u m sound.0, fields bits b sound.1 sound.2 (none m b e)))

    module _ (path : List Step) (fields : FieldSelf path) (elements : ElementSelf path) where
      struct_self : (l : List ℕ) (id : ℕ) → SetsNone (name l ∷ path) (at_value (struct id)) → NameFollows s s verb (FieldFollows s s verb path) l (64 * words_of_shape (s.shape_of id)) (s.shape_of id) (s.shape_of id)
      unfolding end_of
      struct_self l id none = name_self path fields l (64 * words_of_shape (s.shape_of id)) (s.shape_of id) (within id) (good id) (λ m b e. ap (λ z. is_set verb && is_struct_value (end_of s path (end_at z))) (sym e) ∙ none)

      value_self : (st : Step) (ty : Ty) → AllNarrow ty → SetsNone (st ∷ path) (at_value ty) → ValueFollows s s verb st (FieldFollows s s verb path) (ElementFollows s s verb path) ty ty
      unfolding end_of
      value_self (name l) (struct id) h none = (struct_self l id none, omega arith)
      value_self (index k) (list ty) h none = (elements ty h none, has_words ty, narrow ty h)
        where
          has_words : (ty : Ty) → HasWords s s verb ty ty
          has_words (struct id) = omega arith
          has_words ty = tt
      value_self (name l) ty h none = tt
      value_self (index k) ty h none = tt

      field_step : (st : Step) → FieldSelf (st ∷ path)
      unfolding end_of
      field_step (name l) bits (group_slot g) h k none = name_self path fields l bits g h k (λ m b e. ap (λ z. is_set verb && is_struct_value (end_of s path (end_at z))) (sym e) ∙ none)
      field_step (index i) bits (group_slot g) h k none = tt
      field_step (name l) bits (void_slot j) h k none = tt
      field_step (index i) bits (void_slot j) h k none = tt
      field_step (name l) bits (plain_slot p at d) h k none = tt
      field_step (index i) bits (plain_slot p at d) h k none = tt
      field_step (name l) bits (pointer_slot i ty d) h k none = (refl, type-self ty, refl, default-whole d h.1, value_self (name l) ty h.0 none)
      field_step (index j) bits (pointer_slot i ty d) h k none = (refl, type-self ty, refl, default-whole d h.1, value_self (index j) ty h.0 none)

    end_self : FieldSelf []
    end_self bits (void_slot j) h k none = body_self bits (void_slot j) h k
    end_self bits (plain_slot p at d) h k none = body_self bits (plain_slot p at d) h k
    end_self bits (pointer_slot i ty d) h k none = body_self bits (pointer_slot i ty d) h k
    end_self bits (group_slot g) h k none = λ w. body_self bits (group_slot g) h k

    mutual
      unfolding end_of

      pub field-follows : (path : List Step) → FieldSelf path
      field-follows [] = end_self
      field-follows (st ∷ path) = field_step path (field-follows path) (element-follows path) st

      pub element-follows : (path : List Step) → ElementSelf path
      element-follows [] = λ ty h none. none
      element-follows (st ∷ path) = λ ty h none. value_self path (field-follows path) (element-follows path) st ty h none

    -- THE LAW
    pub root-follows : (path : List Step) (l : List ℕ) (id : ℕ) → SetsNone (name l ∷ path) (at_value (struct id)) → NameFollows s s verb (FieldFollows s s verb path) l (64 * words_of_shape (s.shape_of id)) (s.shape_of id) (s.shape_of id)
    root-follows path l id none = struct_self path (field-follows path) (element-follows path) l id none
