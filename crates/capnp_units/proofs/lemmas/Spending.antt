-- What two calls take of a budget together, for the layers that read by several.
use Rattle.std.proofs.Common.{◌≡◌, ℕ, ◌+◌, ◌≤◌, refl, ap, ◌∙◌, subst, arith}
use Rattle.std.specs.declared.option.Option.{Option}
use Rattle.std.specs.declared.option.Option.TheVariants.{Some, None}
use Rattle.capnp_units.specs.declared.limiter.ReadLimiter.{ReadLimiter}
use Rattle.capnp_units.specs.Limits.{less, left_of, Allows, IsPassed, Spends, Follows}

less_nothing : (left : Option ℕ) → left ≡ less left 0
less_nothing None = refl
less_nothing (Some left) = ap Some (omega arith)

less_both : (left : Option ℕ) (a b : ℕ) → less (less left a) b ≡ less left (a + b)
less_both None a b = refl
less_both (Some left) a b = ap Some (omega arith)

allows_nothing : (left : Option ℕ) → Allows left 0
allows_nothing None = tt
allows_nothing (Some left) = omega arith

allows_both : (left : Option ℕ) (a b : ℕ) → Allows left a → Allows (less left a) b → Allows left (a + b)
allows_both None a b first second = tt
allows_both (Some left) a b first second = omega arith

-- No words at all.
pub spends_nothing : (l : ReadLimiter) → Spends l l 0
spends_nothing l = record { allowed = allows_nothing (left_of l); limit = refl; left = less_nothing (left_of l); granted = omega arith }

-- One call after another.
pub spends_both : (a b c : ReadLimiter) (n m : ℕ) → Spends a b n → Spends b c m → Spends a c (n + m)
spends_both a b c n m first second = record {
  allowed = allows_both (left_of a) n m first.allowed (subst (λ left. Allows left m) first.left second.allowed);
  limit = second.limit ∙ first.limit;
  left = second.left ∙ ap (λ left. less left m) first.left ∙ less_both (left_of a) n m;
  granted = omega (arith, first.granted, second.granted);
}

-- More words pass it too.
pub passed_by_more : (left : Option ℕ) (n m : ℕ) → IsPassed left n → n ≤ m → IsPassed left m
passed_by_more None n m h le = h
passed_by_more (Some left) n m h le = omega arith

passed_behind : (left : Option ℕ) (n m : ℕ) → Allows left n → IsPassed (less left n) m → IsPassed left (n + m)
passed_behind None n m fits h = h
passed_behind (Some left) n m fits h = omega arith

-- Words that pass what a first call left pass what was left before it, with its own.
pub passed_after : (a b : ReadLimiter) (n m : ℕ) → Spends a b n → IsPassed (left_of b) m → IsPassed (left_of a) (n + m)
passed_after a b n m first h = passed_behind (left_of a) n m first.allowed (subst (λ left. IsPassed left m) first.left h)

-- What is allowed isn't passed.
pub allowed_or_passed : (left : Option ℕ) (n : ℕ) → Allows left n → IsPassed left n → ⊥
allowed_or_passed None n fits h = h
allowed_or_passed (Some left) n fits h = omega arith

-- No pointer at all.
pub follows_none : (l : ReadLimiter) → Follows l l 0
follows_none l = omega arith

-- One call after another.
pub follows_both : (a b c : ReadLimiter) (n m : ℕ) → Follows a b n → Follows b c m → Follows a c (n + m)
follows_both a b c n m first second = omega (arith, first, second)
