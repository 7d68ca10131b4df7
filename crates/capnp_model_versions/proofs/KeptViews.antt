-- What compatible schemas keep, as data, from what good shapes are.
use Rattle.std.proofs.Common.{◌≡◌, ℕ, ◌==◌, true, Option, Some, None, refl, subst}
use Rattle.capnp_model.specs.Schemas.{Ty, Shape, shape, Fields, no_fields, field, Body, void_slot, plain_slot, pointer_slot, group_slot, Schema}
use Rattle.capnp_model.specs.Compatible.{Pairs, related_plain, related, same_default, keeps, keeps_body}
use Rattle.capnp_model.proofs.lemmas.KeptRules.{and_three, MembersIn, OwnsMembers, AllOwn, OwnBody}
use Rattle.capnp_model.proofs.lemmas.KeptShapes.{HasPair, shape_is_kept}
use Rattle.capnp_model.proofs.lemmas.FineShapes.{IsGood, AreGood, IsGoodBody}
use Rattle.capnp_model.proofs.lemmas.OlderReading.{Related, KeptShape, KeptBody, kept_void, kept_plain, kept_pointer, kept_group}
use Rattle.capnp_model.proofs.lemmas.Tests.{same_number}
use Rattle.capnp_model_versions.proofs.RelatedTypes.{plain_is, related-by}

members_in : (s : Schema) (u : Option ℕ) (fs : Fields) → AreGood s u fs → MembersIn u fs
members_in s (Some at) fs h = tt
members_in s None no_fields h = tt
members_in s None (field l None b fs) h = (refl, members_in s None fs h.4)
members_in s None (field l (Some k) b fs) h = absurd h.0.0

mutual
  pub good-owns : (s : Schema) (g : Shape) → IsGood s g → OwnsMembers g
  good-owns s (shape nid w p u fs) h = (members_in s u fs h, all_own s u fs h)

  all_own : (s : Schema) (u : Option ℕ) (fs : Fields) → AreGood s u fs → AllOwn fs
  all_own s u no_fields h = tt
  all_own s u (field l m b fs) h = (own_body s b h.3, all_own s u fs h.4)

  own_body : (s : Schema) (b : Body) → IsGoodBody s b → OwnBody b
  own_body s (void_slot j) h = tt
  own_body s (plain_slot p at d) h = tt
  own_body s (pointer_slot i ty d) h = tt
  own_body s (group_slot g) h = good-owns s g h

module _ (o n : Schema) (pairs : Pairs) where
  pub related-pairs : (a b : Ty) → related o n pairs a b ≡ true → Related o n (HasPair o n pairs) a b
  related-pairs a b h = related-by o n pairs (HasPair o n pairs) (λ i j x. x) a b h

  pub shape-kept : (g g' : Shape) → keeps o n pairs g g' ≡ true → IsGood o g → KeptShape o n (HasPair o n pairs) g g'
  shape-kept g g' h good = shape_is_kept o n pairs g g' h (good-owns o g good)

  pub body-kept : (b b' : Body) → keeps_body o n pairs b b' ≡ true → IsGoodBody o b → KeptBody o n (HasPair o n pairs) b b'
  unfolding keeps
  body-kept (void_slot i) (void_slot j) h good = subst (λ z. KeptBody o n (HasPair o n pairs) (void_slot i) (void_slot z)) (same_number i j h) kept_void
  body-kept (plain_slot p at d) (plain_slot q at' d') h good =
      let three = and_three (related_plain o n p q) (at == at') (d == d') h in
      subst (λ z. KeptBody o n (HasPair o n pairs) (plain_slot p at d) (plain_slot q z d')) (same_number at at' three.1)
      (subst (λ z. KeptBody o n (HasPair o n pairs) (plain_slot p at d) (plain_slot q at z)) (same_number d d' three.2) (kept_plain (plain_is o n p q three.0)))
  body-kept (pointer_slot i ty d) (pointer_slot j ty' d') h good =
      let three = and_three (i == j) (related o n pairs ty ty') (same_default d d') h in
      subst (λ z. KeptBody o n (HasPair o n pairs) (pointer_slot i ty d) (pointer_slot z ty' d')) (same_number i j three.0) (kept_pointer (related-pairs ty ty' three.1))
  body-kept (group_slot g) (group_slot g') h good = kept_group (shape-kept g g' h good)
  body-kept (void_slot i) (plain_slot q at' d') h good = absurd (cc h)
  body-kept (void_slot i) (pointer_slot j ty' d') h good = absurd (cc h)
  body-kept (void_slot i) (group_slot g') h good = absurd (cc h)
  body-kept (plain_slot p at d) (void_slot j) h good = absurd (cc h)
  body-kept (plain_slot p at d) (pointer_slot j ty' d') h good = absurd (cc h)
  body-kept (plain_slot p at d) (group_slot g') h good = absurd (cc h)
  body-kept (pointer_slot i ty d) (void_slot j) h good = absurd (cc h)
  body-kept (pointer_slot i ty d) (plain_slot q at' d') h good = absurd (cc h)
  body-kept (pointer_slot i ty d) (group_slot g') h good = absurd (cc h)
  body-kept (group_slot g) (void_slot j) h good = absurd (cc h)
  body-kept (group_slot g) (plain_slot q at' d') h good = absurd (cc h)
  body-kept (group_slot g) (pointer_slot j ty' d') h good = absurd (cc h)
