-- What a compatible newer schema keeps of an older one in its words: names stay apart, and the paths of admitted calls find the same fields.
use Rattle.std.proofs.Common.{◌≡◌, ℕ, Bool, true, false, ◌&&◌, List, Option, refl, sym, ◌∙◌, ap, subst}
use Rattle.std.specs.Str.{bytes_eq}
use Rattle.std.proofs.lemmas.Slice.Eq.{bytes_eq-Decides}
use Rattle.capnp_model.specs.Schemas.{Fields, no_fields, field, Body, Schema}
use Rattle.capnp_model.specs.Partners.{Renaming, partner_name, renamed_fields, renamed_body}
use Rattle.capnp_model.specs.Steps.{target, target_if, target_of}
use Rattle.capnp_model.specs.Compatible.{Pairs, same_option, is_new, keeps, keeps_fields, keeps_body}
use Rattle.capnp_model.proofs.lemmas.KeptRules.{and_three}
use Rattle.capnp_model.proofs.lemmas.FineShapes.{IsNewName, AreGood}
use Rattle.capnp_model.proofs.lemmas.Tests.{and_right}
use Rattle.capnp_model_versions.proofs.Partners.{not_found, absent}

-- ---- names that stay apart

-- the names of fields are apart
abbrev pub AreApart : Fields → Type 0
AreApart no_fields = Unit {0}
AreApart (field l m b fs) = IsNewName l fs × AreApart fs

-- a field that is found is found by its partner's name, where the partners' names are apart
pub found-renamed : (rs : List Renaming) (id : ℕ) (l : List ℕ) (fs : Fields) (m : Option ℕ) (b : Body) → AreApart (renamed_fields rs id fs) → target_of l fs ≡ target m b → target_of (partner_name rs id l) (renamed_fields rs id fs) ≡ target m (renamed_body rs b)
found-renamed rs id l no_fields m b h e = absurd (cc e)
found-renamed rs id l (field k j c fs) m b h e = by (bytes_eq k l) refl e (found-renamed rs id l fs m b h.1)
  where
    -- the name of a field that is found further on is another
    other : target_of (partner_name rs id l) (renamed_fields rs id fs) ≡ target m (renamed_body rs b) → bytes_eq (partner_name rs id k) (partner_name rs id l) ≡ false
    other f = at (bytes_eq (partner_name rs id k) (partner_name rs id l)) refl
      where
        at : (x : Bool) → bytes_eq (partner_name rs id k) (partner_name rs id l) ≡ x → bytes_eq (partner_name rs id k) (partner_name rs id l) ≡ false
        at false p = p
        at true p =
            let new : IsNewName (partner_name rs id l) (renamed_fields rs id fs) = subst (λ (z : List ℕ). IsNewName z (renamed_fields rs id fs)) ((bytes_eq-Decides (partner_name rs id k) (partner_name rs id l)).0 p) h.0 in
            absurd (cc (sym (not_found (partner_name rs id l) (renamed_fields rs id fs) new) ∙ f))

    by : (x : Bool) → bytes_eq k l ≡ x → target_if x (target j c) (target_of l fs) ≡ target m b
        → (target_of l fs ≡ target m b → target_of (partner_name rs id l) (renamed_fields rs id fs) ≡ target m (renamed_body rs b))
        → target_if (bytes_eq (partner_name rs id k) (partner_name rs id l)) (target j (renamed_body rs c)) (target_of (partner_name rs id l) (renamed_fields rs id fs)) ≡ target m (renamed_body rs b)
    by true p g rest =
        let same : k ≡ l = (bytes_eq-Decides k l).0 p in
        let one : bytes_eq (partner_name rs id k) (partner_name rs id l) ≡ true = (bytes_eq-Decides (partner_name rs id k) (partner_name rs id l)).1 (ap (partner_name rs id) same) in
        let members : j ≡ m = cc in
        let bodies : c ≡ b = cc in
        ap (λ z. target_if z (target j (renamed_body rs c)) (target_of (partner_name rs id l) (renamed_fields rs id fs))) one
        ∙ ap (λ z. target z (renamed_body rs c)) members ∙ ap (λ z. target m (renamed_body rs z)) bodies
    by false p g rest = ap (λ z. target_if z (target j (renamed_body rs c)) (target_of (partner_name rs id l) (renamed_fields rs id fs))) (other (rest g)) ∙ rest g

module _ (o n : Schema) (pairs : Pairs) where
  -- names that each find another field of the newer are apart
  pub kept-apart : (u : Option ℕ) (count : ℕ) (fs fs' : Fields) → keeps_fields o n pairs count fs fs' ≡ true → AreGood n u fs' → AreApart fs
  unfolding keeps
  kept-apart u count no_fields fs' h good = tt
  kept-apart u count (field l m b fs) no_fields h good = absurd (cc h)
  kept-apart u count (field l m b fs) (field l' m' b' fs') h good =
      by (bytes_eq l l') refl (λ x. kept-apart u count fs fs' x good.4) (λ x. kept-apart u count (field l m b fs) fs' x good.4) h
    where
      by : (c : Bool) → bytes_eq l l' ≡ c → (keeps_fields o n pairs count fs fs' ≡ true → AreApart fs) → (keeps_fields o n pairs count (field l m b fs) fs' ≡ true → AreApart (field l m b fs))
          → (elim c as (λ (x : Bool). Bool) [ true ↦ same_option m m' && keeps_body o n pairs b b' && keeps_fields o n pairs count fs fs' | false ↦ is_new count m' && keeps_fields o n pairs count (field l m b fs) fs' ]) ≡ true
          → AreApart (field l m b fs)
      by true e rest added x =
          let three = and_three (same_option m m') (keeps_body o n pairs b b') (keeps_fields o n pairs count fs fs') x in
          let new : IsNewName l fs' = subst (λ (z : List ℕ). IsNewName z fs') (sym ((bytes_eq-Decides l l').0 e)) good.1 in
          (absent o n pairs l count fs fs' three.2 new, rest three.2)
      by false e rest added x = added (and_right (is_new count m') _ x)
