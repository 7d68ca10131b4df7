-- The partner in a newer schema of an older field.
use Rattle.std.proofs.Common.{◌≡◌, ℕ, Bool, true, false, ◌&&◌, List, Option, refl, sym, ◌∙◌, ap, subst}
use Rattle.std.specs.Str.{bytes_eq}
use Rattle.std.proofs.lemmas.Slice.Eq.{bytes_eq-Decides}
use Rattle.capnp_model.specs.Schemas.{Fields, no_fields, field, Body, Schema}
use Rattle.capnp_model.specs.Steps.{no_target, target, target_if, target_of}
use Rattle.capnp_model.specs.Compatible.{Pairs, same_option, is_new, keeps, keeps_fields, keeps_body}
use Rattle.capnp_model.proofs.lemmas.KeptRules.{and_three}
use Rattle.capnp_model.proofs.lemmas.KeptShapes.{option_is}
use Rattle.capnp_model.proofs.lemmas.FineShapes.{IsNewName, AreGood}
use Rattle.capnp_model.proofs.lemmas.Tests.{and_right}

-- a new name finds nothing
pub not_found : (l : List ℕ) (fs : Fields) → IsNewName l fs → target_of l fs ≡ no_target
not_found l no_fields h = refl
not_found l (field k m b fs) h = ap (λ c. target_if c (target m b) (target_of l fs)) h.0 ∙ not_found l fs h.1

module _ (o n : Schema) (pairs : Pairs) where
  -- the older has no name that the newer lacks
  pub absent : (l : List ℕ) (count : ℕ) (fs fs' : Fields) → keeps_fields o n pairs count fs fs' ≡ true → IsNewName l fs' → IsNewName l fs
  unfolding keeps
  absent l count no_fields fs' h new = tt
  absent l count (field k m b fs) no_fields h new = absurd (cc h)
  absent l count (field k m b fs) (field k' m' b' fs') h new =
      by (bytes_eq k k') refl (λ x. absent l count fs fs' x new.1) (λ x. absent l count (field k m b fs) fs' x new.1) h
    where
      by : (c : Bool) → bytes_eq k k' ≡ c → (keeps_fields o n pairs count fs fs' ≡ true → IsNewName l fs) → (keeps_fields o n pairs count (field k m b fs) fs' ≡ true → IsNewName l (field k m b fs))
          → (elim c as (λ (x : Bool). Bool) [ true ↦ same_option m m' && keeps_body o n pairs b b' && keeps_fields o n pairs count fs fs' | false ↦ is_new count m' && keeps_fields o n pairs count (field k m b fs) fs' ]) ≡ true
          → IsNewName l (field k m b fs)
      by true e rest added x =
          (ap (λ z. bytes_eq z l) ((bytes_eq-Decides k k').0 e) ∙ new.0, rest (and_right (same_option m m' && keeps_body o n pairs b b') _ x))
      by false e rest added x = added (and_right (is_new count m') _ x)

  -- The newer field of an older field's name keeps it.
  pub partner : (u : Option ℕ) (l : List ℕ) (count : ℕ) (fs fs' : Fields) (m m' : Option ℕ) (b b' : Body) → keeps_fields o n pairs count fs fs' ≡ true → AreGood n u fs' → target_of l fs ≡ target m b → target_of l fs' ≡ target m' b'
      → (m ≡ m') × (keeps_body o n pairs b b' ≡ true)
  unfolding keeps
  partner u l count no_fields fs' m m' b b' h good e e' = absurd (cc e)
  partner u l count (field k j c fs) no_fields m m' b b' h good e e' = absurd (cc e')
  partner u l count (field k j c fs) (field k' j' c' fs') m m' b b' h good e e' =
      by (bytes_eq k k') (bytes_eq k l) (bytes_eq k' l) refl refl refl (λ x y z. partner u l count fs fs' m m' b b' x good.4 y z) (λ x y. partner u l count (field k j c fs) fs' m m' b b' x good.4 e y) h e e'
    where
      by : (x y z : Bool) → bytes_eq k k' ≡ x → bytes_eq k l ≡ y → bytes_eq k' l ≡ z
          → (keeps_fields o n pairs count fs fs' ≡ true → target_of l fs ≡ target m b → target_of l fs' ≡ target m' b' → (m ≡ m') × (keeps_body o n pairs b b' ≡ true))
          → (keeps_fields o n pairs count (field k j c fs) fs' ≡ true → target_of l fs' ≡ target m' b' → (m ≡ m') × (keeps_body o n pairs b b' ≡ true))
          → (elim x as (λ (v : Bool). Bool) [ true ↦ same_option j j' && keeps_body o n pairs c c' && keeps_fields o n pairs count fs fs' | false ↦ is_new count j' && keeps_fields o n pairs count (field k j c fs) fs' ]) ≡ true
          → target_if y (target j c) (target_of l fs) ≡ target m b → target_if z (target j' c') (target_of l fs') ≡ target m' b' → (m ≡ m') × (keeps_body o n pairs b b' ≡ true)
      by true true true ex ey ez rest added g f f' =
          let three = and_three (same_option j j') (keeps_body o n pairs c c') (keeps_fields o n pairs count fs fs') g in
          let members : j ≡ m = cc in
          let is : c ≡ b = cc in
          let members' : j' ≡ m' = cc in
          let is' : c' ≡ b' = cc in
          (sym members ∙ option_is j j' three.0 ∙ members', ap (λ z. keeps_body o n pairs z b') (sym is) ∙ ap (keeps_body o n pairs c) (sym is') ∙ three.1)
      by true true false ex ey ez rest added g f f' = absurd (cc (sym ez ∙ ap (λ z. bytes_eq z l) (sym ((bytes_eq-Decides k k').0 ex)) ∙ ey))
      by true false true ex ey ez rest added g f f' = absurd (cc (sym ey ∙ ap (λ z. bytes_eq z l) ((bytes_eq-Decides k k').0 ex) ∙ ez))
      by true false false ex ey ez rest added g f f' = rest (and_right (same_option j j' && keeps_body o n pairs c c') _ g) f f'
      by false y true ex ey ez rest added g f f' =
          let more = and_right (is_new count j') (keeps_fields o n pairs count (field k j c fs) fs') g in
          let new : IsNewName l fs' = subst (λ z. IsNewName z fs') ((bytes_eq-Decides k' l).0 ez) good.1 in
          absurd (cc (sym (not_found l (field k j c fs) (absent l count (field k j c fs) fs' more new)) ∙ e))
      by false y false ex ey ez rest added g f f' = added (and_right (is_new count j') _ g) f'
