-- Breaks at worked structs, what is none, and what is reached.
use Rattle.std.proofs.Common.{◌≡◌, ℕ, Bool, true, false, ◌&&◌, inl, inr, Some, None, List, [], ◌∷◌, codes, refl}
use Rattle.capnp_model.specs.Schemas.{uint, plain, text, struct, Shape, shape, Fields, no_fields, field, plain_slot, pointer_slot, group_slot, Schema}
use Rattle.capnp_model.specs.Compatible.{Pairs, has_pair, keeps}
use Rattle.capnp_calls_versions.specs.declared.breaks.FieldRule.TheVariants as of_field
use Rattle.capnp_calls_versions.specs.declared.breaks.Rule.TheVariants as rule
use Rattle.capnp_calls_versions.specs.Breaks.{BreaksField, BreaksRule, IsBreak, breaks_here, breaks_inside, IsReached}

-- a number of 16 bits and a text behind it
abbrev number : Fields → Fields
number fs = field (codes "a") None (plain_slot (uint 16) 0 0) fs

abbrev words : Fields → Fields
words fs = field (codes "t") None (pointer_slot 0 text None) fs

abbrev struct_of : Fields → Shape
struct_of fs = shape 1 1 1 None fs

-- union members of 16 bits
abbrev member : List ℕ → ℕ → Fields → Fields
member l m fs = field l (Some m) (plain_slot (uint 16) 16 0) fs

abbrev union_of : Fields → Shape
union_of fs = shape 3 1 0 (Some 0) fs

abbrev wide : Fields → Fields
wide fs = field (codes "a") None (plain_slot (uint 32) 0 0) fs

abbrev moved : Fields → Fields
moved fs = field (codes "a") None (plain_slot (uint 16) 16 0) fs

module _ (o n : Schema) where
  another_type : BreaksRule o n (rule.Field 0 0 of_field.Type) (struct_of (number no_fields)) (struct_of (wide no_fields))
  another_type = (refl, (refl, inr (record { older_type = plain (uint 16); newer_type = plain (uint 32); is_older = refl; is_newer = refl; holds = λ pairs. refl })))

  another_place : BreaksRule o n (rule.Field 1 1 of_field.Place) (struct_of (words (number no_fields))) (struct_of (words (moved no_fields)))
  another_place = (refl, (refl, inr (record { older_type = plain (uint 16); newer_type = plain (uint 16); is_older = refl; is_newer = refl; holds = ([], refl) }, refl)))

  -- where the type is another, no place is told
  no_place : BreaksRule o n (rule.Field 0 0 of_field.Place) (struct_of (number no_fields)) (struct_of (wide no_fields)) → ⊥
  no_place h = by h.1.1
    where
      by : BreaksField o n of_field.Place None (plain_slot (uint 16) 0 0) None (plain_slot (uint 32) 0 0) → ⊥
      by (inl v) = absurd (cc v.1)
      by (inr b) = absurd (cc b.1)

  a_field_is_gone : BreaksRule o n (rule.Missing 1) (struct_of (number (words no_fields))) (struct_of (number no_fields))
  a_field_is_gone = (refl, refl)

  another_order : BreaksRule o n (rule.Missing 1) (struct_of (number (words no_fields))) (struct_of (words (number no_fields)))
  another_order = (refl, refl)

  -- the first is there
  not_the_first : BreaksRule o n (rule.Missing 0) (struct_of (number (words no_fields))) (struct_of (number no_fields)) → ⊥
  not_the_first h = absurd (cc h.0)

  -- a new member in front of the one that is due has its value
  a_value_is_taken : BreaksRule o n (rule.Taken 0 0) (union_of (member (codes "x") 0 (member (codes "y") 1 no_fields))) (union_of (member (codes "z") 0 (member (codes "x") 1 (member (codes "y") 2 no_fields))))
  a_value_is_taken = (refl, (refl, refl, refl))

  -- where the one that is due has no partner, it is missing
  none_is_taken : BreaksRule o n (rule.Taken 0 0) (union_of (member (codes "x") 0 (member (codes "y") 1 no_fields))) (union_of (member (codes "z") 0 (member (codes "y") 1 no_fields))) → ⊥
  none_is_taken h = absurd (cc h.1.1)

  -- in a group
  in_a_group : IsBreak o n (record { older = 1; newer = 1; rule = rule.Missing 1 })
      (shape 7 1 1 None (words (field (codes "g") None (group_slot (struct_of (number (words no_fields)))) no_fields)))
      (shape 7 1 1 None (words (field (codes "g") None (group_slot (struct_of (number no_fields))) no_fields)))
  in_a_group = breaks_inside _ _ (struct_of (number (words no_fields))) (struct_of (number no_fields)) 1 1 refl (refl, refl, refl) (breaks_here _ _ refl refl a_field_is_gone)

-- a struct that names another in its second pointer
abbrev some_schema : Schema
some_schema = record {
  is_group = λ id. false;
  shape_of = λ id. struct_of (words (field (codes "s") None (pointer_slot 1 (struct 2) None) no_fields));
  names_of = λ id. [];
}

abbrev names_it : Shape
names_it = struct_of (words (field (codes "s") None (pointer_slot 1 (struct 2) None) no_fields))

kept_pair : (b : Bool) → ((b && true) && true) ≡ true → b ≡ true
kept_pair true h = refl
kept_pair false h = absurd (cc h)

kept_names : (pairs : Pairs) → keeps some_schema some_schema pairs names_it names_it ≡ true → has_pair pairs 2 2 ≡ true
unfolding keeps
kept_names pairs h = kept_pair (has_pair pairs 2 2) h

kept_there : (pairs : Pairs) → keeps some_schema some_schema ((2, 2) ∷ pairs) names_it names_it ≡ true
unfolding keeps
kept_there pairs = refl

it_is_reached : IsReached some_schema some_schema 1 1 2 2
it_is_reached = λ pairs roots closed. kept_names pairs (closed 1 1 roots ((2, 2) ∷ []) (kept_there []))

no_other_is_reached : IsReached some_schema some_schema 1 1 3 3 → ⊥
no_other_is_reached h = let clash : false ≡ true = h ((2, 2) ∷ (1, 1) ∷ []) refl (λ i j e more k. kept_there ((1, 1) ∷ [])) in absurd (cc clash)
