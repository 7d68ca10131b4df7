use Rattle.std.proofs.Common.{◌≡◌, ◌==◌, ℕ, Bool, true, false, Option, Some, None, if◌then◌else◌, refl, sym, ap}
use Rattle.capnp_model.proofs.lemmas.Tests.{same_number}
use Rattle.capnp_records.specs.NodeViews.{member_of}
use Rattle.capnp_records.proofs.unions.member_of.Goals as goal

-- a value that is none stands for none, another for itself
none : (d : ℕ) → d ≡ 65535 → ◌≡◌ {A = Option ℕ} None (member_of d)
none d is = sym (ap member_of is)

some : (d : ℕ) → (d ≡ 65535 → ⊥) → ◌≡◌ {A = Option ℕ} (Some d) (member_of d)
some d other = by (d == 65535) refl
  where
    by : (b : Bool) → (d == 65535) ≡ b → ◌≡◌ {A = Option ℕ} (Some d) (if b then None else Some d)
    by true e = absurd (other (same_number d 65535 e))
    by false e = refl

pub returns-then-field : goal.returns-then-field
returns-then-field c = none c.args.field.now.discriminant_value c.if-field.true

pub returns-else-field : goal.returns-else-field
returns-else-field c = some c.args.field.now.discriminant_value c.if-field.false
