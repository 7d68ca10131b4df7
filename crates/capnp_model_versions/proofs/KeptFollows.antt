-- Compatible schemas have the paths of admitted calls in common.
use Rattle.std.proofs.Common.{◌≡◌, ℕ, ◌*◌, ◌≤◌, ◌⊎◌, inl, inr, Bool, true, false, not, ◌&&◌, ◌==◌, nat_le, List, [], ◌∷◌, Option, Some, None, refl, sym, ◌∙◌, ap, subst}
use Rattle.std.specs.Str.{bytes_eq}
use Rattle.std.proofs.lemmas.Slice.Eq.{bytes_eq-Decides}
use Rattle.capnp_model.specs.Trees.{Tree}
use Rattle.capnp_model.specs.Encoding.{canonical_words}
use Rattle.capnp_model.specs.Schemas.{Ty, struct, list, Shape, shape, Fields, no_fields, field, Body, void_slot, plain_slot, pointer_slot, group_slot, Schema, default_or_null, words_of_shape}
use Rattle.capnp_model.specs.Printing.{fields_in}
use Rattle.capnp_model.specs.Calls.{Step, name, index, Verb}
use Rattle.capnp_model.specs.Steps.{Target, no_target, target, target_if, target_of}
use Rattle.capnp_model.specs.Compatible.{Pairs, has_pair, related_plain, related, same_option, is_new, member_count, keeps_union, same_default, keeps, keeps_fields, keeps_body}
use Rattle.capnp_model.specs.Admitted.{is_extended, extends_fields, extends_field, is_group_write, is_set, is_struct_type, At, at_body, at_element, nowhere, into_fields, into_type, is_admitted_from}
use Rattle.capnp_model.proofs.lemmas.KeptRules.{and_three, and_four}
use Rattle.capnp_model.proofs.lemmas.KeptShapes.{option_is}
use Rattle.capnp_model.proofs.lemmas.OlderReading.{Related}
use Rattle.capnp_model.proofs.lemmas.FineShapes.{HasUnion, IsGoodMember, IsNewName, IsGood, AreGood, IsGoodBody}
use Rattle.capnp_model.proofs.lemmas.RoundTrip.{enc_is}
use Rattle.capnp_model.proofs.lemmas.Tests.{same_number, le_is, and_right, neither}
use Rattle.capnp_model_versions.proofs.SameShapes.{UnionWithin, AnyPair, SameShape, same_shape, SameFields, same_none, same_field, SameBody, same_void, same_plain', same_pointer, same_group}
use Rattle.capnp_model_versions.proofs.RelatedTypes.{plain_is, related-by}
use Rattle.capnp_model_versions.proofs.Follows.{SameMark, HasWords, NameFollows, ValueFollows, PointerFollows, FieldFollows, ElementFollows}
use Rattle.capnp_model_versions.proofs.Within.{FitsDefault, AllNarrow, HasMember, IsWithin, AreWithin, BodyWithin}
use Rattle.capnp_model_versions.proofs.SelfFollows.{default-whole, narrow, mark-within, AllFields, all-found}
use Rattle.capnp_model_versions.proofs.Partners.{not_found, absent, partner}

-- ---- parts

pub default-same : (d d' : Option Tree) → same_default d d' ≡ true → FitsDefault d → FitsDefault d' → d ≡ d'
default-same None None h f g = refl
default-same None (Some u) h f g = absurd (cc h)
default-same (Some t) None h f g = absurd (cc h)
default-same (Some t) (Some u) h f g = ap Some (enc_is t u f.0 g.0 f.1 ((bytes_eq-Decides (canonical_words t) (canonical_words u)).0 h))

-- a name is that of a field
abbrev InNames : List ℕ → Fields → Type 0
InNames x no_fields = ⊥
InNames x (field k m b fs) = (k ≡ x) ⊎ InNames x fs

not_named : (l x : List ℕ) (fs : Fields) → IsNewName l fs → InNames x fs → bytes_eq l x ≡ false
not_named l x no_fields h i = absurd i
not_named l x (field k m b fs) h (inl e) = by (bytes_eq l x) refl
  where
    by : (c : Bool) → bytes_eq l x ≡ c → bytes_eq l x ≡ false
    by false f = f
    by true f = absurd (cc (sym h.0 ∙ (bytes_eq-Decides k l).1 (e ∙ sym ((bytes_eq-Decides l x).0 f))))
not_named l x (field k m b fs) h (inr i) = not_named l x fs h.1 i

module _ (o n : Schema) (pairs : Pairs) where
  types_related : (a b : Ty) → related o n pairs a b ≡ true → Related o n AnyPair a b
  types_related a b h = related-by o n pairs AnyPair (λ i j x. tt) a b h

  -- a member's union is the same in both
  union_is : (u u' : Option ℕ) (k : ℕ) → keeps_union u u' ≡ true → HasUnion u → u ≡ u'
  union_is (Some a) u' k h g = option_is (Some a) u' h
  union_is None u' k h g = absurd g

  marks_same : (bits : ℕ) (u u' m : Option ℕ) → keeps_union u u' ≡ true → UnionWithin bits u → IsGoodMember u m → SameMark bits u m u' m
  marks_same bits u u' (Some k) h w g = subst (λ z. SameMark bits u (Some k) z (Some k)) (union_is u u' k h g.0) (by u w g.0)
    where
      by : (u : Option ℕ) → UnionWithin bits u → HasUnion u → SameMark bits u (Some k) u (Some k)
      by (Some a) x y = (refl, refl, x, g.1)
      by None x y = absurd y
  marks_same bits (Some a) (Some b) None h w g = tt
  marks_same bits (Some a) None None h w g = tt
  marks_same bits None (Some b) None h w g = tt
  marks_same bits None None None h w g = tt

  -- ---- groups that the newer does not extend

  module _ (bits bits' : ℕ) where
    -- members need a union
    no_union : (a : ℕ) (fs fs' : Fields) → SameFields o n bits None fs fs' → HasMember (Some a) fs' → ⊥
    no_union a fs fs' same_none h = h
    no_union a fs fs' (same_field {m = None} {fs = gs} {fs' = gs'} w s rest) h = no_union a gs gs' rest h
    no_union a fs fs' (same_field {m = Some k} w s rest) h = w

    unions_same : (u u' : Option ℕ) (fs fs' : Fields) → keeps_union u u' ≡ true → SameFields o n bits u fs fs' → HasMember u' fs' → u ≡ u'
    unions_same (Some a) u' fs fs' h s g = option_is (Some a) u' h
    unions_same None None fs fs' h s g = refl
    unions_same None (Some a) fs fs' h s g = absurd (no_union a fs fs' s g)

    -- a field that the older has is no extension
    is_found : (t : Target) (b' : Body) → extends_field t b' ≡ false → t ≡ no_target → ⊥
    unfolding is_extended
    is_found t b' h e = by b' (ap (λ z. extends_field z b') (sym e) ∙ h)
      where
        by : (b' : Body) → extends_field no_target b' ≡ false → ⊥
        by (void_slot j) k = cc k
        by (plain_slot p at d) k = cc k
        by (pointer_slot i ty d) k = cc k
        by (group_slot g) k = cc k

    group_found : (t : Target) (m : Option ℕ) (g g' : Shape) → extends_field t (group_slot g') ≡ false → t ≡ target m (group_slot g) → is_extended g g' ≡ false
    unfolding is_extended
    group_found t m g g' h e = ap (λ z. extends_field z (group_slot g')) (sym e) ∙ h

    mutual
      unfolding keeps is_extended

      shape_same : (g g' : Shape) → keeps o n pairs g g' ≡ true → is_extended g g' ≡ false → IsWithin bits g → IsWithin bits' g' → IsGood o g → IsGood n g' → SameShape o n bits g g'
      shape_same (shape nid w p u fs) (shape nid' w' p' u' fs') h e x y good good' =
          let four = and_four (nat_le w w') (nat_le p p') (keeps_union u u') (keeps_fields o n pairs (member_count fs) fs fs') h in
          let fields = fields_same u u' fs (member_count fs) fs fs' (λ l i. refl) four.3 e x.0 x.2 y.2 good good' in
          subst (λ z. SameShape o n bits (shape nid w p u fs) (shape nid' w' p' z fs')) (unions_same u u' fs fs' four.2 fields y.1) (same_shape x.0 fields)

      fields_same : (u u' : Option ℕ) (full : Fields) (count : ℕ) (fs fs' : Fields) → ((l : List ℕ) → InNames l fs' → target_of l full ≡ target_of l fs) → keeps_fields o n pairs count fs fs' ≡ true → extends_fields full fs' ≡ false
          → UnionWithin bits u → AreWithin bits fs → AreWithin bits' fs' → AreGood o u fs → AreGood n u' fs' → SameFields o n bits u fs fs'
      fields_same u u' full count no_fields no_fields from h e v x y good good' = same_none
      fields_same u u' full count (field l m b fs) no_fields from h e v x y good good' = absurd (cc h)
      fields_same u u' full count no_fields (field l' m' b' fs') from h e v x y good good' =
          absurd (is_found (target_of l' full) b' (neither (extends_field (target_of l' full) b') (extends_fields full fs') e).0 (from l' (inl refl)))
      fields_same u u' full count (field l m b fs) (field l' m' b' fs') from h e v x y good good' =
          by (bytes_eq l l') refl (λ k. fields_same u u' full count fs fs' (λ z i. from z (inr i) ∙ skip z i k.0) k.1 (neither (extends_field (target_of l' full) b') (extends_fields full fs') e).1 v x.1 y.1 good.4 good'.4)
          (λ k q. body_same b b' k q x.0 y.0 good.3 good'.3) h
        where
          skip : (z : List ℕ) → InNames z fs' → bytes_eq l l' ≡ true → target_of z (field l m b fs) ≡ target_of z fs
          skip z i same = ap (λ c. target_if c (target m b) (target_of z fs)) (ap (λ k. bytes_eq k z) ((bytes_eq-Decides l l').0 same) ∙ not_named l' z fs' good'.1 i)

          -- the newer's group is the partner of this one
          not_extended : bytes_eq l l' ≡ true → (g g' : Shape) → b ≡ group_slot g → b' ≡ group_slot g' → is_extended g g' ≡ false
          not_extended same g g' eb eb' =
              let first : target_of l' (field l m b fs) ≡ target m (group_slot g) = ap (λ c. target_if c (target m b) (target_of l' fs)) same ∙ ap (target m) eb in
              group_found (target_of l' full) m g g' (ap (extends_field (target_of l' full)) (sym eb') ∙ (neither (extends_field (target_of l' full) b') (extends_fields full fs') e).0) (from l' (inl refl) ∙ first)

          by : (c : Bool) → bytes_eq l l' ≡ c → ((bytes_eq l l' ≡ true) × (keeps_fields o n pairs count fs fs' ≡ true) → SameFields o n bits u fs fs')
              → (keeps_body o n pairs b b' ≡ true → ((g g' : Shape) → b ≡ group_slot g → b' ≡ group_slot g' → is_extended g g' ≡ false) → SameBody o n bits b b')
              → (elim c as (λ (x : Bool). Bool) [ true ↦ same_option m m' && keeps_body o n pairs b b' && keeps_fields o n pairs count fs fs' | false ↦ is_new count m' && keeps_fields o n pairs count (field l m b fs) fs' ]) ≡ true
              → SameFields o n bits u (field l m b fs) (field l' m' b' fs')
          by true same rest body k =
              let three = and_three (same_option m m') (keeps_body o n pairs b b') (keeps_fields o n pairs count fs fs') k in
              subst (λ z. SameFields o n bits u (field l m b fs) (field l' z b' fs')) (option_is m m' three.0)
              (same_field (mark-within bits u m v good.0) (body three.1 (not_extended same)) (rest (same, three.2)))
          by false other rest body k =
              let lacking : IsNewName l' (field l m b fs) = absent o n pairs l' count (field l m b fs) fs' (and_right (is_new count m') _ k) good'.1 in
              absurd (is_found (target_of l' full) b' (neither (extends_field (target_of l' full) b') (extends_fields full fs') e).0 (from l' (inl refl) ∙ not_found l' (field l m b fs) lacking))

      body_same : (b b' : Body) → keeps_body o n pairs b b' ≡ true → ((g g' : Shape) → b ≡ group_slot g → b' ≡ group_slot g' → is_extended g g' ≡ false) → BodyWithin bits b → BodyWithin bits' b' → IsGoodBody o b → IsGoodBody n b' → SameBody o n bits b b'
      body_same (void_slot i) (void_slot j) h e x y good good' = same_void
      body_same (plain_slot p at d) (plain_slot q at' d') h e x y good good' =
          let three = and_three (related_plain o n p q) (at == at') (d == d') h in
          subst (λ z. SameBody o n bits (plain_slot p at d) (plain_slot q z d')) (same_number at at' three.1)
          (subst (λ z. SameBody o n bits (plain_slot p at d) (plain_slot q at z)) (same_number d d' three.2) (same_plain' (plain_is o n p q three.0) x good))
      body_same (pointer_slot i ty d) (pointer_slot j ty' d') h e x y good good' =
          let three = and_three (i == j) (related o n pairs ty ty') (same_default d d') h in
          subst (λ z. SameBody o n bits (pointer_slot i ty d) (pointer_slot z ty' d')) (same_number i j three.0)
          (same_pointer (types_related ty ty' three.1) (ap default_or_null (default-same d d' three.2 x.1 y.1)) (default-whole d x.1))
      body_same (group_slot g) (group_slot g') h e x y good good' = same_group (shape_same g g' h (e g g' refl refl) x y good good')
      body_same (plain_slot p at d) (void_slot j) h e x y good good' = absurd (cc h)
      body_same (pointer_slot i ty d) (void_slot j) h e x y good good' = absurd (cc h)
      body_same (group_slot g) (void_slot j) h e x y good good' = absurd (cc h)
      body_same (void_slot j) (plain_slot q at' d') h e x y good good' = absurd (cc h)
      body_same (pointer_slot i ty d) (plain_slot q at' d') h e x y good good' = absurd (cc h)
      body_same (group_slot g) (plain_slot q at' d') h e x y good good' = absurd (cc h)
      body_same (void_slot i) (pointer_slot j ty' d') h e x y good good' = absurd (cc h)
      body_same (plain_slot p at d) (pointer_slot j ty' d') h e x y good good' = absurd (cc h)
      body_same (group_slot g) (pointer_slot j ty' d') h e x y good good' = absurd (cc h)
      body_same (void_slot j) (group_slot g') h e x y good good' = absurd (cc h)
      body_same (plain_slot p at d) (group_slot g') h e x y good good' = absurd (cc h)
      body_same (pointer_slot i ty d) (group_slot g') h e x y good good' = absurd (cc h)

  -- ---- admitted calls

  if_true : (a b : Bool) → not (a && b) ≡ true → a ≡ true → b ≡ false
  if_true true false h e = refl
  if_true true true h e = absurd (cc h)
  if_true false b h e = absurd (cc e)

  not_set : (a b : Bool) → not (a && b) ≡ true → (a && b) ≡ false
  not_set false b h = refl
  not_set true false h = refl
  not_set true true h = absurd (cc h)

  pub words_kept : (g g' : Shape) → keeps o n pairs g g' ≡ true → words_of_shape g ≤ words_of_shape g'
  unfolding keeps
  words_kept (shape nid w p u fs) (shape nid' w' p' u' fs') h = le_is w w' (and_four (nat_le w w') (nat_le p p') (keeps_union u u') (keeps_fields o n pairs (member_count fs) fs fs') h).0

  -- what each field of a struct keeps
  abbrev pub IsOlder : ℕ → Option ℕ → Option ℕ → Body → Type 0
  IsOlder bits u m b = IsGoodMember u m × BodyWithin bits b × IsGoodBody o b

  pub all_older : (bits : ℕ) (u : Option ℕ) (fs : Fields) → AreWithin bits fs → AreGood o u fs → AllFields (IsOlder bits u) fs
  all_older bits u no_fields h k = tt
  all_older bits u (field l m b fs) h k = ((k.0, h.0, k.3), all_older bits u fs h.1 k.4)

  abbrev pub IsNewer : ℕ → Option ℕ → Body → Type 0
  IsNewer bits m b = BodyWithin bits b × IsGoodBody n b

  pub all_newer : (bits : ℕ) (u : Option ℕ) (fs : Fields) → AreWithin bits fs → AreGood n u fs → AllFields (IsNewer bits) fs
  all_newer bits u no_fields h k = tt
  all_newer bits u (field l m b fs) h k = ((h.0, k.3), all_newer bits u fs h.1 k.4)

  module _ (verb : Verb) (closed : (i j : ℕ) → has_pair pairs i j ≡ true → keeps o n pairs (o.shape_of i) (n.shape_of j) ≡ true)
      (within : (id : ℕ) → IsWithin (64 * words_of_shape (o.shape_of id)) (o.shape_of id)) (within' : (id : ℕ) → IsWithin (64 * words_of_shape (n.shape_of id)) (n.shape_of id))
      (good : (i j : ℕ) → has_pair pairs i j ≡ true → IsGood o (o.shape_of i)) (good' : (id : ℕ) → IsGood n (n.shape_of id)) where
    abbrev FieldKept : List Step → Type 0
    FieldKept path =
        (bits bits' : ℕ) (b b' : Body) → keeps_body o n pairs b b' ≡ true → is_admitted_from [] o n path verb (at_body b b') ≡ true → BodyWithin bits b → BodyWithin bits' b' → IsGoodBody o b → IsGoodBody n b' → FieldFollows o n verb path bits b b'

    abbrev ElementKept : List Step → Type 0
    ElementKept path = (ty ty' : Ty) → related o n pairs ty ty' ≡ true → is_admitted_from [] o n path verb (at_element ty ty') ≡ true → AllNarrow ty → ElementFollows o n verb path ty ty'

    module _ (path : List Step) (fields : FieldKept path) (elements : ElementKept path) where
      abbrev go : At → Bool
      go at = is_admitted_from [] o n path verb at

      name_kept : (l : List ℕ) (bits bits' : ℕ) (g g' : Shape) → keeps o n pairs g g' ≡ true → into_fields [] 0 l (fields_in g) (fields_in g') go ≡ true → IsWithin bits g → IsWithin bits' g' → IsGood o g → IsGood n g'
          → NameFollows o n verb (FieldFollows o n verb path) l bits g g'
      unfolding keeps
      name_kept l bits bits' (shape nid w p u fs) (shape nid' w' p' u' fs') h k x y good good' = λ m b m' b' e e'.
          let four = and_four (nat_le w w') (nat_le p p') (keeps_union u u') (keeps_fields o n pairs (member_count fs) fs fs') h in
          let both = partner o n pairs u' l (member_count fs) fs fs' m m' b b' four.3 good' e e' in
          let older = all-found (IsOlder bits u) l fs m b (all_older bits u fs x.2 good) e in
          let newer = all-found (IsNewer bits') l fs' m' b' (all_newer bits' u' fs' y.2 good') e' in
          let admitted : go (at_body b b') ≡ true =
          sym (ap (λ (t : Target). elim t as (λ (z : Target). Bool) [ no_target ↦ false | target i c ↦ elim (target_of l fs') as (λ (z : Target). Bool) [ no_target ↦ go nowhere | target i' c' ↦ go (at_body c c') ] ]) e
          ∙ ap (λ (t : Target). elim t as (λ (z : Target). Bool) [ no_target ↦ go nowhere | target i' c' ↦ go (at_body b c') ]) e') ∙ k in
          (subst (λ z. SameMark bits u m u' z) both.0 (marks_same bits u u' m four.2 x.0 older.0), fields bits bits' b b' both.1 admitted older.1 newer.0 older.2 newer.1)

      struct_kept : (l : List ℕ) (i j : ℕ) → has_pair pairs i j ≡ true → into_fields [] 0 l (fields_in (o.shape_of i)) (fields_in (n.shape_of j)) go ≡ true
          → NameFollows o n verb (FieldFollows o n verb path) l (64 * words_of_shape (o.shape_of i)) (o.shape_of i) (n.shape_of j) × HasWords o n verb (struct i) (struct j)
      struct_kept l i j h k =
          (name_kept l (64 * words_of_shape (o.shape_of i)) (64 * words_of_shape (n.shape_of j)) (o.shape_of i) (n.shape_of j) (closed i j h) k (within i) (within' j) (good i j h) (good' j), words_kept (o.shape_of i) (n.shape_of j) (closed i j h))

      value_kept : (st : Step) (ty ty' : Ty) → related o n pairs ty ty' ≡ true → into_type [] o n st ty ty' go ≡ true → AllNarrow ty → ValueFollows o n verb st (FieldFollows o n verb path) (ElementFollows o n verb path) ty ty'
      value_kept (name l) (struct i) (struct j) h k x = struct_kept l i j h k
      value_kept (index i) (list ty) (list ty') h k x = (elements ty ty' h k x, has_words ty ty' h, narrow ty x)
        where
          has_words : (ty ty' : Ty) → related o n pairs ty ty' ≡ true → HasWords o n verb ty ty'
          has_words (struct i) (struct j) h = words_kept (o.shape_of i) (n.shape_of j) (closed i j h)
          has_words ty ty' h = tt
      value_kept (name l) ty ty' h k x = tt
      value_kept (index i) ty ty' h k x = tt

      pointer_kept : (st : Step) (i j : ℕ) (ty ty' : Ty) (d d' : Option Tree) (bits : ℕ) → keeps_body o n pairs (pointer_slot i ty d) (pointer_slot j ty' d') ≡ true → into_type [] o n st ty ty' go ≡ true → AllNarrow ty × FitsDefault d → AllNarrow ty' × FitsDefault d'
          → PointerFollows o n verb st (FieldFollows o n verb path) (ElementFollows o n verb path) bits i j ty ty' d d'
      unfolding keeps
      pointer_kept st i j ty ty' d d' bits h k x y =
          let three = and_three (i == j) (related o n pairs ty ty') (same_default d d') h in
          (same_number i j three.0, types_related ty ty' three.1, ap default_or_null (default-same d d' three.2 x.1 y.1), default-whole d x.1, value_kept st ty ty' three.1 k x.0)

      field_kept : (st : Step) → FieldKept (st ∷ path)
      unfolding keeps is_admitted_from
      field_kept (name l) bits bits' (group_slot g) (group_slot g') h k x y good good' = name_kept l bits bits' g g' h k x y good good'
      field_kept (index i) bits bits' (group_slot g) (group_slot g') h k x y good good' = tt
      field_kept (name l) bits bits' (void_slot i) (void_slot j) h k x y good good' = tt
      field_kept (index z) bits bits' (void_slot i) (void_slot j) h k x y good good' = tt
      field_kept (name l) bits bits' (plain_slot p at d) (plain_slot q at' d') h k x y good good' = tt
      field_kept (index z) bits bits' (plain_slot p at d) (plain_slot q at' d') h k x y good good' = tt
      field_kept (name l) bits bits' (pointer_slot i ty d) (pointer_slot j ty' d') h k x y good good' = pointer_kept (name l) i j ty ty' d d' bits h k x y
      field_kept (index z) bits bits' (pointer_slot i ty d) (pointer_slot j ty' d') h k x y good good' = pointer_kept (index z) i j ty ty' d d' bits h k x y
      field_kept st bits bits' b b' h k x y good good' = absurd (cc h)

    end_kept : FieldKept []
    unfolding keeps is_admitted_from
    end_kept bits bits' (group_slot g) (group_slot g') h k x y good good' = λ w.
        body_same bits bits' (group_slot g) (group_slot g') h (λ z z' e e'. shapes z z' e e' (if_true (is_group_write verb) (is_extended g g') k w)) x y good good'
      where
        shapes : (z z' : Shape) → group_slot g ≡ group_slot z → group_slot g' ≡ group_slot z' → is_extended g g' ≡ false → is_extended z z' ≡ false
        shapes z z' e e' f = let same : g ≡ z = cc in let same' : g' ≡ z' = cc in ap (λ v. is_extended v z') (sym same) ∙ ap (is_extended g) (sym same') ∙ f
    end_kept bits bits' (void_slot i) b' h k x y good good' = body_same bits bits' (void_slot i) b' h (λ g g' e e'. absurd (cc e)) x y good good'
    end_kept bits bits' (plain_slot p at d) b' h k x y good good' = body_same bits bits' (plain_slot p at d) b' h (λ g g' e e'. absurd (cc e)) x y good good'
    end_kept bits bits' (pointer_slot i ty d) b' h k x y good good' = body_same bits bits' (pointer_slot i ty d) b' h (λ g g' e e'. absurd (cc e)) x y good good'
    end_kept bits bits' (group_slot g) b' h k x y good good' = absurd (cc h)

    element_end : ElementKept []
    unfolding is_admitted_from
    element_end ty ty' h k x = not_set (is_set verb) (is_struct_type ty) k

    mutual
      unfolding is_admitted_from

      pub field-kept : (path : List Step) → FieldKept path
      field-kept [] = end_kept
      field-kept (st ∷ path) = field_kept path (field-kept path) (element-kept path) st

      pub element-kept : (path : List Step) → ElementKept path
      element-kept [] = element_end
      element-kept (name l ∷ path) = λ ty ty' h k x. value_kept path (field-kept path) (element-kept path) (name l) ty ty' h k x
      element-kept (index i ∷ path) = λ ty ty' h k x. value_kept path (field-kept path) (element-kept path) (index i) ty ty' h k x

    -- THE LAW
    pub root-kept : (path : List Step) (l : List ℕ) (i j : ℕ) → has_pair pairs i j ≡ true → is_admitted_from [] o n (name l ∷ path) verb (at_element (struct i) (struct j)) ≡ true
        → NameFollows o n verb (FieldFollows o n verb path) l (64 * words_of_shape (o.shape_of i)) (o.shape_of i) (n.shape_of j) × HasWords o n verb (struct i) (struct j)
    unfolding is_admitted_from
    root-kept path l i j h k = struct_kept path (field-kept path) (element-kept path) l i j h k
