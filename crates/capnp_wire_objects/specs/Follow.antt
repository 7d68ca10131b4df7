-- Following of a pointer within a budget.
use Rattle.std.specs.Prelude.{◌≡◌, ℕ, ◌+◌, ◌*◌, ◌==◌, nat_lt, if◌then◌else◌, ◌⊎◌, Bool, true, Result, Ok, Err}
use Rattle.capnp_model.specs.Kinds.{Kind, NestingLimitExceeded}
use Rattle.capnp_model.specs.Chains.{◌and_then◌, guard}
use Rattle.capnp_model.specs.Sections.{words_for}
use Rattle.capnp_model.specs.Segments.{Segments, Place}
use Rattle.capnp_model.specs.Pointers as model
use Rattle.capnp_units.specs.declared.errors.Error.{Error}
use Rattle.capnp_units.specs.declared.kinds.ErrorKind.TheVariants.{ReadLimitExceeded}
use Rattle.capnp_units.specs.declared.limiter.ReadLimiter.{ReadLimiter}
use Rattle.capnp_units.specs.Errors.{kind_of}
use Rattle.capnp_units.specs.Limits.{limit_of, granted_of, left_of, Spends, IsPassed, Follows}
use Rattle.capnp_units.specs.Sizes.{size_number, data_bits}
use Rattle.capnp_wire_objects.specs.declared.object.Object.{Object}
use Rattle.capnp_wire_objects.specs.declared.object.Object.TheVariants as object
use Rattle.capnp_wire_objects.specs.declared.object.Found.{Found}
use Rattle.capnp_wire_objects.specs.Objects.{whole, object_at, IsInside}

-- The cost of following an object by itself: its words. A list of voids costs its count. A list of structs also costs
-- its tag, and its count if an element has no word.
abbrev pub own_cost : Object → ℕ
own_cost object.Null = 0
own_cost (object.Struct p d k) = d + k
own_cost (object.List p size n) = if size_number size == 0 then n else words_for (data_bits (size_number size) * n)
own_cost (object.PointerList p n) = n
own_cost (object.StructList p words n d k) = words + 1 + (if d + k == 0 then n else 0)
own_cost (object.Capability i) = 0

-- The cost of following the pointer to an object, with the pads on the way.
abbrev pub follow_cost : Found → ℕ
follow_cost f = f.pads + own_cost f.object

-- No word was granted.
abbrev pub KeepsBudget : ReadLimiter → ReadLimiter → Type 0
KeepsBudget old new = (limit_of new ≡ limit_of old) × (granted_of new ≡ granted_of old)

-- A pointer was followed to this object, which was paid for.
pub record Pays (s : Segments) (p : Place) (old : ReadLimiter) (o : Object) (new : ReadLimiter) : Type 0 where
  pub pads : ℕ
  pub is : object_at s p ≡ Ok (record { pads = pads; object = o })
  pub inside : IsInside s o
  pub spends : Spends old new (pads + own_cost o)
  pub follows : Follows old new 1

-- The object can't be followed: there is a fault of the error's kind, or its cost exceeds the words that are left.
abbrev pub IsFollowRefusal : Result Found Kind → ReadLimiter → Error → Type 0
IsFollowRefusal there old e = (there ≡ Err (kind_of e.kind)) ⊎ ((e.kind ≡ ReadLimitExceeded) × (f : Found) × (there ≡ Ok f) × IsPassed (left_of old) (follow_cost f))

-- Refused with the kind of the fault there, or exactly when the cost exceeds the words that are left. Then no word was
-- granted.
abbrev pub FollowGives : Segments → Place → ReadLimiter → Result Object Error → ReadLimiter → Type 0
FollowGives s p old (Ok o) new = Pays s p old o new
FollowGives s p old (Err e) new = KeepsBudget old new × Follows old new 1 × IsFollowRefusal (object_at s p) old e

-- n levels suffice for an object that a pointer names: null and a capability take none.
abbrev pub suffice_for : ℕ → model.Object → Bool
suffice_for n model.nothing = true
suffice_for n (model.a_capability i) = true
suffice_for n _ = nat_lt 0 n

-- n levels suffice for an object whose words are there.
abbrev pub levels_suffice : ℕ → Object → Bool
levels_suffice n object.Null = true
levels_suffice n (object.Capability i) = true
levels_suffice n _ = nat_lt 0 n

-- The object that the pointer at a place names if n levels are left, otherwise the kind of its fault. The levels are
-- tested before the object's words.
unfoldable pub object_within : ℕ → Segments → Place → Result Found Kind
object_within n s p = model.found_at s p and_then λ f. guard (suffice_for n f.object) NestingLimitExceeded and_then λ _. whole s f.object and_then λ o. Ok (record { pads = f.pads; object = o })

-- A pointer was followed to an object for which n levels suffice, and the object was paid for. Or it is refused with
-- the kind of the one fault there, or exactly when its own cost exceeds the words that are left.
abbrev pub FollowsWithin : ℕ → Segments → Place → ReadLimiter → Result Object Error → ReadLimiter → Type 0
FollowsWithin n s p old (Ok o) new = Pays s p old o new × (levels_suffice n o ≡ true)
FollowsWithin n s p old (Err e) new = KeepsBudget old new × Follows old new 1 × IsFollowRefusal (object_within n s p) old e
