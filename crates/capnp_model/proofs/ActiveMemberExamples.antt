-- Paths that a call spares, and one that it doesn't: a union of two numbers with a number beside it.
use Rattle.std.proofs.Common.{◌≡◌, ℕ, Option, Some, None, [], ◌∷◌, codes, refl, sym, subst, ap}
use Rattle.capnp_model.specs.Schemas.{Fields, no_fields, field, plain_slot, uint, Schema}
use Rattle.capnp_model.specs.Calls.{name}
use Rattle.capnp_model.specs.Steps.{Target, target}
use Rattle.capnp_model.specs.ActiveMembers.{AreMembers, Spares}

abbrev beside : Fields
beside = field (codes "u") (Some 0) (plain_slot (uint 16) 0 0) (field (codes "v") (Some 1) (plain_slot (uint 16) 0 0) (field (codes "z") None (plain_slot (uint 16) 32 0) no_fields))

member_in : Target → Option ℕ
member_in (target member body) = member
member_in _ = None

-- a call that ends at the number beside them spares the union
spares_the_union : (s : Schema) → Spares s (name (codes "z") ∷ []) (name (codes "u") ∷ []) beside
unfolding member_in
spares_the_union s member other body last e g =
    (λ same. absurd (cc same), λ apart here both. let none : None ≡ member = ap member_in e in let h : AreMembers None other = subst (λ m. AreMembers m other) (sym none) both in by other h)
  where
    by : (o : Option ℕ) → AreMembers None o → ⊥
    by None h = h
    by (Some k) h = h

-- one that ends at the other member doesn't
writes_the_union : (s : Schema) → Spares s (name (codes "v") ∷ []) (name (codes "u") ∷ []) beside → ⊥
writes_the_union s h = (h (Some 1) (Some 0) (plain_slot (uint 16) 0 0) (plain_slot (uint 16) 0 0) refl refl).1 refl refl tt

-- nor does one that ends at the member itself
writes_the_member : (s : Schema) → Spares s (name (codes "u") ∷ []) (name (codes "u") ∷ []) beside → ⊥
writes_the_member s h = (h (Some 0) (Some 0) (plain_slot (uint 16) 0 0) (plain_slot (uint 16) 0 0) refl refl).0 refl
