-- Older fields in the order of a newer node's.
use Rattle.std.proofs.Common.{◌≡◌, ℕ, Bool, true, false, ◌||◌, Option, List, [], ◌∷◌, ◌++◌, map, length, refl, ◌∙◌, ap}
use Rattle.std.specs.List.{list_any}
use Rattle.std.specs.Str.{bytes_eq}
use Rattle.capnp_model.specs.Schemas.{Shape, Field, Fields, field, Body}
use Rattle.capnp_model.specs.Accepted.{field_body, fields_from}
use Rattle.capnp_calls_versions.specs.DueFields.{first_fields, fields_behind, due_behind, due, has_partner}

module _ {A : Type 0} (groups : ℕ → Shape) (h : A → Field) where
  pub firsts_are : (xs ys : List A) → first_fields (length xs) (fields_from groups (map h (xs ++ ys))) ≡ fields_from groups (map h xs)
  firsts_are [] ys = refl
  firsts_are (x ∷ xs) ys = ap (field (h x).name (h x).member (field_body groups (h x).kind)) (firsts_are xs ys)

  pub behind_are : (xs ys : List A) → fields_behind (length xs) (fields_from groups (map h (xs ++ ys))) ≡ fields_from groups (map h ys)
  behind_are [] ys = refl
  behind_are (x ∷ xs) ys = behind_are xs ys

  pub due_in_turn : (older : Fields) (xs ys : List A) → due older (fields_from groups (map h (xs ++ ys))) ≡ due (due older (fields_from groups (map h xs))) (fields_from groups (map h ys))
  due_in_turn older [] ys = refl
  due_in_turn older (x ∷ xs) ys = due_in_turn (due_behind older (h x).name) xs ys

  pub partners_are : (l : List ℕ) (ys : List A) → has_partner l (fields_from groups (map h ys)) ≡ list_any (λ g. bytes_eq l (h g).name) ys
  partners_are l [] = refl
  partners_are l (y ∷ ys) = ap (λ b. bytes_eq l (h y).name || b) (partners_are l ys)

  -- a field without a partner stays due
  pub due_for_all : (l : List ℕ) (m : Option ℕ) (b : Body) (older : Fields) (ys : List A) → list_any (λ g. bytes_eq l (h g).name) ys ≡ false → due (field l m b older) (fields_from groups (map h ys)) ≡ field l m b older
  due_for_all l m b older [] e = refl
  due_for_all l m b older (y ∷ ys) e =
      ap (λ (fs : Fields). due fs (fields_from groups (map h ys))) (stays (bytes_eq l (h y).name) (left_false (bytes_eq l (h y).name) (list_any (λ g. bytes_eq l (h g).name) ys) e))
      ∙ due_for_all l m b older ys (right_false (bytes_eq l (h y).name) (list_any (λ g. bytes_eq l (h g).name) ys) e)
    where
      left_false : (x y : Bool) → (x || y) ≡ false → x ≡ false
      left_false true y e = absurd (cc e)
      left_false false y e = refl

      right_false : (x y : Bool) → (x || y) ≡ false → y ≡ false
      right_false true y e = absurd (cc e)
      right_false false y e = e

      stays : (x : Bool) → x ≡ false → elim x as (λ (z : Bool). Fields) [ true ↦ older | false ↦ field l m b older ] ≡ field l m b older
      stays true e = absurd (cc e)
      stays false e = refl
