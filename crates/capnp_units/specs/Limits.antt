-- A budget of words, and the part of it that a call takes.
use Rattle.std.specs.Prelude.{◌≡◌, ℕ, ◌+◌, ◌-◌, ◌^◌, ◌<◌, ◌≤◌, min, Option, Some, None, ⊤}
use Rattle.capnp_units.specs.declared.limiter.ReadLimiter.{ReadLimiter}

-- The words that are left of n words after some are taken, if there is a limit.
abbrev pub less : Option ℕ → ℕ → Option ℕ
less None words = None
less (Some left) words = Some (left - words)

-- The words that may be granted in total, if there is a limit.
abbrev pub limit_of : ReadLimiter → Option ℕ
limit_of l = l.limit

-- The words that were granted.
abbrev pub granted_of : ReadLimiter → ℕ
granted_of l = l.granted

-- The words that may still be granted, if there is a limit.
abbrev pub left_of : ReadLimiter → Option ℕ
left_of l = less l.limit l.granted

-- The source pointers that were followed.
abbrev pub followed_of : ReadLimiter → ℕ
followed_of l = l.followed

-- A count of words that starts at zero, without a limit.
pub record IsFree (start : ReadLimiter) : Type 0 where
  pub endless : limit_of start ≡ None
  pub unused : granted_of start ≡ 0

-- n words may be granted if this many words are left.
abbrev pub Allows : Option ℕ → ℕ → Type 0
Allows None words = ⊤
Allows (Some left) words = words ≤ left

-- n words exceed the words that are left.
abbrev pub IsPassed : Option ℕ → ℕ → Type 0
IsPassed None words = ⊥
IsPassed (Some left) words = left < words

-- n words were granted. Their count stops at the greatest number of its type, which it never exceeds under a limit.
pub record Spends (old new : ReadLimiter) (words : ℕ) : Type 0 where
  pub allowed : Allows (left_of old) words
  pub limit : limit_of new ≡ limit_of old
  pub left : left_of new ≡ less (left_of old) words
  pub granted : min (granted_of new) (2 ^ 64 - 1) ≡ min (granted_of old + words) (2 ^ 64 - 1)

-- n source pointers were followed. Their count stops at the greatest number of its type.
abbrev pub Follows : ReadLimiter → ReadLimiter → ℕ → Type 0
Follows old new pointers = min (followed_of new) (2 ^ 64 - 1) ≡ min (followed_of old + pointers) (2 ^ 64 - 1)
