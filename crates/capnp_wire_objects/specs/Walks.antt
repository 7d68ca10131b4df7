-- Walks over whole values within a budget.
use Rattle.std.specs.Prelude.{◌≡◌, ℕ, ◌+◌, ◌-◌, ◌^◌, min, List, ◌∷◌, ◌++◌, length, Option, Some, Result, Ok, Err}
use Rattle.capnp_model.specs.Visits.{Visit, visits_cost}
use Rattle.capnp_units.specs.declared.errors.Error.{Error}
use Rattle.capnp_units.specs.declared.kinds.ErrorKind.{ErrorKind}
use Rattle.capnp_units.specs.declared.kinds.ErrorKind.TheVariants.{ReadLimitExceeded}
use Rattle.capnp_units.specs.declared.limiter.ReadLimiter.{ReadLimiter}
use Rattle.capnp_units.specs.declared.sizes.MessageSize.{MessageSize}
use Rattle.capnp_units.specs.Errors.{kind_of}
use Rattle.capnp_units.specs.Limits.{left_of, Spends, IsPassed, Follows}
use Rattle.capnp_wire_objects.specs.declared.object.Object.{Object}
use Rattle.capnp_wire_objects.specs.declared.object.Object.TheVariants as object

-- Each of the visits was made: the pointers were followed, and their cost was paid.
pub record Walked (path : List Visit) (old new : ReadLimiter) : Type 0 where
  pub cost : ℕ
  pub cost_is : visits_cost path ≡ Some cost
  pub spends : Spends old new cost
  pub follows : Follows old new (length path)

-- After n words were paid a walk can't pass this visit: there is a fault, or the visit exceeds the words that were left
-- at the start.
abbrev pub CannotPass : Option ℕ → ℕ → Visit → ErrorKind → Type 0
CannotPass left paid (Err kind) why = kind_of why ≡ kind
CannotPass left paid (Ok words) why = (why ≡ ReadLimitExceeded) × IsPassed left (paid + words)

-- A walk was refused at one of the visits. The visits before it were made and paid for, it was followed at no cost, and
-- no later visit was followed.
pub record Stopped (path : List Visit) (old : ReadLimiter) (e : Error) (new : ReadLimiter) : Type 0 where
  pub before : List Visit
  pub last : Visit
  pub behind : List Visit
  pub path_is : path ≡ before ++ last ∷ behind
  pub paid : ℕ
  pub cost_is : visits_cost before ≡ Some paid
  pub spends : Spends old new paid
  pub follows : Follows old new (length before + 1)
  pub why : CannotPass (left_of old) paid last e.kind

-- Words and capabilities are counted; each count stops at the greatest number of its type.
pub record SizeCounts (words capabilities : ℕ) (size : MessageSize) : Type 0 where
  pub words_is : size.word_count ≡ min words (2 ^ 64 - 1)
  pub capabilities_is : size.cap_count ≡ min capabilities (2 ^ 32 - 1)

-- The capabilities of an object that takes no level.
abbrev pub leaf_capabilities : Object → ℕ
leaf_capabilities (object.Capability i) = 1
leaf_capabilities _ = 0

-- The size of a value, if the value can be read: its words and capabilities are counted. The visits on the way were
-- made, or as many of them as possible.
abbrev pub SizeGives : {X : Type 0} → (X → ℕ) → (X → ℕ) → Option X → List Visit → ReadLimiter → Result MessageSize Error → ReadLimiter → Type 0
SizeGives {X = X} words capabilities there path old (Ok size) new = (x : X) × (there ≡ Some x) × SizeCounts (words x) (capabilities x) size × Walked path old new
SizeGives words capabilities there path old (Err e) new = Stopped path old e new
