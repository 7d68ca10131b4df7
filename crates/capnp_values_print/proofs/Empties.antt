-- The empty struct asks for no null pointer, however it is read.
use Rattle.std.proofs.Common.{◌≡◌, ℕ, zero, suc, ◌==◌, Bool, true, false, Option, Some, None, List, ◌++◌, Ok, refl, ap, ◌∙◌, arith}
use Rattle.std.specs.Prelude.{bit_xor}
use Rattle.std.proofs.lemmas.Bool.Decides.{nat_tests}
use Rattle.capnp_model.specs.Chains.{◌and_then◌}
use Rattle.capnp_model.specs.Schemas.{width, Ty, Shape, shape, Fields, no_fields, field, Body, void_slot, plain_slot, pointer_slot, group_slot, Schema}
use Rattle.capnp_model.specs.Readings.{Reading, number, record_as, entry, Extent, whole_words, just_bits, Children, no_children, discriminant, field_bits, is_active, only_if, shape_record, fields_of, body_of}
use Rattle.capnp_model.specs.Printing.{Style, inner, as_body, is_shown, fields_in}
use Rattle.capnp_values_print.specs.Printed.{Text, NullTexts, field_and_rest, struct_between, printed, fields_printed}

-- bits of nothing are zero
pub no_bits : (at n : ℕ) → field_bits whole_words 0 at n ≡ 0
no_bits at n = grind arith

-- no bits are zero
pub just_none : (at n : ℕ) → field_bits (just_bits 0) 0 at n ≡ 0
just_none at n = grind arith

-- ---- the same record

module _ (e f : Extent) (x y : ℕ) (kids more : Children) (bits : (at n : ℕ) → field_bits e x at n ≡ field_bits f y at n) (same : (i : ℕ) (ty : Ty) → kids i ty ≡ more i ty) where
  same_discriminant : (u : Option ℕ) → discriminant u e x ≡ discriminant u f y
  same_discriminant None = refl
  same_discriminant (Some at) = ap (λ (n : ℕ). Some n) (bits at 16)

  mutual
    unfolding shape_record

    pub same_fields : (fs : Fields) (d : Option ℕ) → fields_of fs d e x kids ≡ fields_of fs d f y more
    same_fields no_fields d = refl
    same_fields (field name m b fs) d =
        ap (λ r. entry name (only_if (is_active m d) r) (fields_of fs d e x kids)) (same_body b) ∙ ap (λ r. entry name (only_if (is_active m d) (body_of b f y more)) r) (same_fields fs d)

    same_body : (b : Body) → body_of b e x kids ≡ body_of b f y more
    same_body (void_slot j) = refl
    same_body (plain_slot p at default) = ap (λ n. number (bit_xor n default)) (bits at (width p))
    same_body (pointer_slot i ty default) = same i ty
    same_body (group_slot (shape nid w p u fs)) = ap (λ d. record_as (fields_of fs d e x kids)) (same_discriminant u) ∙ ap record_as (same_fields fs (discriminant u f y))

  pub same_record : (g : Shape) → shape_record g e x kids ≡ shape_record g f y more
  unfolding shape_record
  same_record (shape nid w p u fs) = ap (λ d. fields_of fs d e x kids) (same_discriminant u) ∙ same_fields fs (discriminant u f y)

-- ---- no null pointer is asked for

first_only : (u : Option ℕ) (m : ℕ) → is_active (Some (suc m)) (discriminant u whole_words 0) ≡ false
first_only None m = refl
first_only (Some at) m = let none : (suc m == 0) ≡ false = grind (arith, nat_tests) in ap (λ n. suc m == n) (no_bits at 16) ∙ none

step : (shown : Bool) (front : List ℕ) (v w : Text) (r t : Bool → Text) (first : Bool) → (shown ≡ true → v ≡ w) → ((b : Bool) → r b ≡ t b) → field_and_rest shown front v r first ≡ field_and_rest shown front w t first
step false front v w r t first same more = more first
step true front v w r t first same more =
    ap (λ x. x and_then λ y. r false and_then λ u. Ok (front ++ y ++ u)) (same refl) ∙ ap (λ x. w and_then λ y. x and_then λ u. Ok (front ++ y ++ u)) (more false)

-- the field doesn't lie behind a pointer
abbrev IsInPlace : Body → Type 0
IsInPlace (void_slot j) = Unit {0}
IsInPlace (plain_slot p at d) = Unit {0}
IsInPlace (pointer_slot i ty d) = ⊥
IsInPlace (group_slot g) = Unit {0}

module _ (s : Schema) (quoted : List ℕ → List ℕ) (nulls others : NullTexts) where
  -- both print a field the same
  abbrev Same : Style → Body → Reading → Type 0
  Same style b r = printed s quoted nulls (inner style) (as_body b) r ≡ printed s quoted others (inner style) (as_body b) r

  in_place : (b : Body) (m : Option ℕ) → is_shown None (body_of b whole_words 0 no_children) ≡ true → IsInPlace b
  unfolding shape_record
  in_place (void_slot j) m h = tt
  in_place (plain_slot p at d) m h = tt
  in_place (pointer_slot i ty d) m h = absurd cc
  in_place (group_slot g) m h = tt

  first_in_place : (b : Body) → is_shown (Some zero) (body_of b whole_words 0 no_children) ≡ true → IsInPlace b
  unfolding shape_record
  first_in_place (void_slot j) h = tt
  first_in_place (plain_slot p at d) h = tt
  first_in_place (pointer_slot i ty d) h = absurd cc
  first_in_place (group_slot g) h = tt

  -- a field of the empty struct that is shown doesn't lie behind a pointer
  value_same : (style : Style) (m : Option ℕ) (b : Body) (d : Option ℕ) → ((m : ℕ) → is_active (Some (suc m)) d ≡ false) → (IsInPlace b → Same style b (body_of b whole_words 0 no_children))
      → is_shown m (only_if (is_active m d) (body_of b whole_words 0 no_children)) ≡ true → Same style b (only_if (is_active m d) (body_of b whole_words 0 no_children))
  value_same style None b d h same shown = same (in_place b None shown)
  value_same style (Some zero) b d h same shown = by (is_active (Some zero) d) shown
    where
      by : (active : Bool) → is_shown (Some zero) (only_if active (body_of b whole_words 0 no_children)) ≡ true → Same style b (only_if active (body_of b whole_words 0 no_children))
      by true e = same (first_in_place b e)
      by false e = absurd cc
  value_same style (Some (suc m)) b d h same shown = by (is_active (Some (suc m)) d) (h m) shown
    where
      by : (active : Bool) → active ≡ false → is_shown (Some (suc m)) (only_if active (body_of b whole_words 0 no_children)) ≡ true → Same style b (only_if active (body_of b whole_words 0 no_children))
      by true f e = absurd cc
      by false f e = absurd cc

  mutual
    unfolding printed shape_record

    pub fields_same : (style : Style) (first : Bool) (fs : Fields) (d : Option ℕ) → ((m : ℕ) → is_active (Some (suc m)) d ≡ false)
        → fields_printed s quoted nulls style first fs (fields_of fs d whole_words 0 no_children) ≡ fields_printed s quoted others style first fs (fields_of fs d whole_words 0 no_children)
    fields_same style first no_fields d h = refl
    fields_same style first (field name m b fs) d h =
        step (is_shown m (only_if (is_active m d) (body_of b whole_words 0 no_children))) _ _ _ _ _ first (value_same style m b d h (λ p. body_same style b p)) (λ c. fields_same style c fs d h)

    body_same : (style : Style) (b : Body) → IsInPlace b → Same style b (body_of b whole_words 0 no_children)
    body_same style (void_slot j) p = refl
    body_same style (plain_slot q at default) p = refl
    body_same style (pointer_slot i ty default) p = absurd p
    body_same style (group_slot (shape nid w k u fs)) p = ap (struct_between (inner style) fs) (fields_same (inner style) true fs (discriminant u whole_words 0) (first_only u))

  -- the empty struct prints the same whatever nulls print as
  pub empty_same : (style : Style) (first : Bool) (g : Shape) → fields_printed s quoted nulls style first (fields_in g) (shape_record g whole_words 0 no_children) ≡ fields_printed s quoted others style first (fields_in g) (shape_record g whole_words 0 no_children)
  unfolding shape_record
  empty_same style first (shape nid w p u fs) = fields_same style first fs (discriminant u whole_words 0) (first_only u)
