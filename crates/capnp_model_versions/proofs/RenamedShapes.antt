-- In a newer schema's words shapes lie within their structs as before, and those that the newer keeps are good.
use Rattle.std.proofs.Common.{◌≡◌, ℕ, Bool, true, false, ◌&&◌, nat_le, List, Option, Some, None, refl, sym, subst}
use Rattle.std.specs.Str.{bytes_eq}
use Rattle.std.proofs.lemmas.Slice.Eq.{bytes_eq-Decides}
use Rattle.capnp_model.specs.Schemas.{Shape, shape, Fields, no_fields, field, Body, void_slot, plain_slot, pointer_slot, group_slot, Schema, words_of_shape}
use Rattle.capnp_model.specs.Partners.{Renaming, partner_name, renamed_shape, renamed_fields, renamed_body, renamed}
use Rattle.capnp_model.specs.Compatible.{Pairs, same_option, is_new, member_count, keeps_union, keeps, keeps_fields, keeps_body}
use Rattle.capnp_model.proofs.lemmas.KeptRules.{and_three, and_four}
use Rattle.capnp_model.proofs.lemmas.FineShapes.{IsNewName, IsNewMember, IsGood, AreGood, IsGoodBody}
use Rattle.capnp_model.proofs.lemmas.Tests.{and_right}
use Rattle.capnp_model_versions.proofs.Partners.{absent}
use Rattle.capnp_model_versions.proofs.Within.{HasMember, IsWithin, AreWithin, BodyWithin}

module _ (rs : List Renaming) where
  pub words-renamed : (g : Shape) → words_of_shape (renamed_shape rs g) ≡ words_of_shape g
  words-renamed (shape nid w p u fs) = refl

  has_member : (u : Option ℕ) (nid : ℕ) (fs : Fields) → HasMember u fs → HasMember u (renamed_fields rs nid fs)
  has_member None nid fs h = tt
  has_member (Some at) nid no_fields h = h
  has_member (Some at) nid (field l None b fs) h = has_member (Some at) nid fs h
  has_member (Some at) nid (field l (Some k) b fs) h = tt

  mutual
    pub within-renamed : (room : ℕ) (g : Shape) → IsWithin room g → IsWithin room (renamed_shape rs g)
    within-renamed room (shape nid w p u fs) h = (h.0, has_member u nid fs h.1, fields_within room nid fs h.2)

    fields_within : (room nid : ℕ) (fs : Fields) → AreWithin room fs → AreWithin room (renamed_fields rs nid fs)
    fields_within room nid no_fields h = tt
    fields_within room nid (field l m b fs) h = (body_within room b h.0, fields_within room nid fs h.1)

    body_within : (room : ℕ) (b : Body) → BodyWithin room b → BodyWithin room (renamed_body rs b)
    body_within room (void_slot j) h = h
    body_within room (plain_slot p at d) h = h
    body_within room (pointer_slot i ty d) h = h
    body_within room (group_slot g) h = within-renamed room g h

  new_member : (m : Option ℕ) (nid : ℕ) (fs : Fields) → IsNewMember m fs → IsNewMember m (renamed_fields rs nid fs)
  new_member None nid fs h = tt
  new_member (Some k) nid no_fields h = h
  new_member (Some k) nid (field l None b fs) h = new_member (Some k) nid fs h
  new_member (Some k) nid (field l (Some m) b fs) h = (h.0, h.1, new_member (Some k) nid fs h.2)

  module _ (o n : Schema) (pairs : Pairs) where
    abbrev o' : Schema
    o' = renamed rs o

    mutual
      unfolding keeps

      pub good-renamed : (g g' : Shape) → keeps o' n pairs (renamed_shape rs g) g' ≡ true → IsGood o g → IsGood n g' → IsGood o' (renamed_shape rs g)
      good-renamed (shape nid w p u fs) (shape nid' w' p' u' fs') h good good' =
          let all : Fields = renamed_fields rs nid fs in
          fields_good u u' nid (member_count all) fs fs' (and_four (nat_le w w') (nat_le p p') (keeps_union u u') (keeps_fields o' n pairs (member_count all) all fs') h).3 good good'

      fields_good : (u u' : Option ℕ) (nid count : ℕ) (fs fs' : Fields) → keeps_fields o' n pairs count (renamed_fields rs nid fs) fs' ≡ true → AreGood o u fs → AreGood n u' fs' → AreGood o' u (renamed_fields rs nid fs)
      fields_good u u' nid count no_fields fs' h good good' = tt
      fields_good u u' nid count (field l m b fs) no_fields h good good' = absurd (cc h)
      fields_good u u' nid count (field l m b fs) (field l' m' b' fs') h good good' =
          by (bytes_eq (partner_name rs nid l) l') refl (λ x. fields_good u u' nid count fs fs' x good.4 good'.4) (λ x. fields_good u u' nid count (field l m b fs) fs' x good good'.4) (λ x. body_good b b' x good.3 good'.3) h
        where
          name : List ℕ
          name = partner_name rs nid l

          rest : Fields
          rest = renamed_fields rs nid fs

          by : (c : Bool) → bytes_eq name l' ≡ c → (keeps_fields o' n pairs count rest fs' ≡ true → AreGood o' u rest) → (keeps_fields o' n pairs count (field name m (renamed_body rs b) rest) fs' ≡ true → AreGood o' u (field name m (renamed_body rs b) rest))
              → (keeps_body o' n pairs (renamed_body rs b) b' ≡ true → IsGoodBody o' (renamed_body rs b))
              → (elim c as (λ (x : Bool). Bool) [ true ↦ same_option m m' && keeps_body o' n pairs (renamed_body rs b) b' && keeps_fields o' n pairs count rest fs' | false ↦ is_new count m' && keeps_fields o' n pairs count (field name m (renamed_body rs b) rest) fs' ]) ≡ true
              → AreGood o' u (field name m (renamed_body rs b) rest)
          by true e others added body x =
              let three = and_three (same_option m m') (keeps_body o' n pairs (renamed_body rs b) b') (keeps_fields o' n pairs count rest fs') x in
              let new : IsNewName name fs' = subst (λ (z : List ℕ). IsNewName z fs') (sym ((bytes_eq-Decides name l').0 e)) good'.1 in
              (good.0, absent o' n pairs name count rest fs' three.2 new, new_member m nid fs good.2, body three.1, others three.2)
          by false e others added body x = added (and_right (is_new count m') _ x)

      body_good : (b b' : Body) → keeps_body o' n pairs (renamed_body rs b) b' ≡ true → IsGoodBody o b → IsGoodBody n b' → IsGoodBody o' (renamed_body rs b)
      body_good (void_slot j) b' h good good' = tt
      body_good (plain_slot p at d) b' h good good' = good
      body_good (pointer_slot i ty d) b' h good good' = good
      body_good (group_slot g) (group_slot g') h good good' = good-renamed g g' h good good'
      body_good (group_slot g) (void_slot j) h good good' = absurd (cc h)
      body_good (group_slot g) (plain_slot q at' d') h good good' = absurd (cc h)
      body_good (group_slot g) (pointer_slot j ty' d') h good good' = absurd (cc h)
