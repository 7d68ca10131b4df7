-- A canonical copy against a budget.
use Rattle.std.specs.Prelude.{◌≡◌, ℕ, zero, suc, ◌+◌, ◌-◌, ◌^◌, ◌<◌, ◌≤◌, min, Bool, true, false, List, [], ◌∷◌, ◌++◌, length, drop, Option, Some, None, ◌⊎◌, Result, Ok, Err}
use Rattle.capnp_model.specs.Kinds.{Kind, NestingLimitExceeded, CapabilityInCanonical}
use Rattle.capnp_model.specs.Segments.{Segments, Place, word_at}
use Rattle.capnp_model.specs.Pointers.{to_pad, pointer_of, Object, nothing, a_struct, a_list, a_capability, found_at}
use Rattle.capnp_model.specs.Visits.{Visit, visits_of, object_visits, leaf_visits, visits_cost}
use Rattle.capnp_units.specs.declared.errors.Error.{Error}
use Rattle.capnp_units.specs.declared.kinds.ErrorKind.TheVariants.{BufferNotLargeEnough}
use Rattle.capnp_units.specs.declared.limiter.ReadLimiter.{ReadLimiter}
use Rattle.capnp_units.specs.Limits.{Spends}
use Rattle.capnp_wire_objects.specs.declared.object.Object.{Object as Seen}
use Rattle.capnp_wire_objects.specs.declared.object.Object.TheVariants as seen
use Rattle.capnp_wire_objects.specs.Follow.{Pays, levels_suffice}
use Rattle.capnp_wire_objects.specs.Walks.{Walked, Stopped}
use Rattle.capnp_wire_canonical.specs.Writes.{filled}

-- What is visited at an object, where a capability is a fault.
abbrev pub unless_capability : Object → List Visit → List Visit
unless_capability nothing path = path
unless_capability (a_struct p d k) path = path
unless_capability (a_list p size n) path = path
unless_capability (a_capability i) path = Err CapabilityInCanonical ∷ []

-- The pointers that a canonical copy follows, n levels deep: those that a walk does, but a capability is a fault.
unfoldable pub copy_visits : ℕ → Segments → Place → List Visit
copy_visits zero s p = visits_of (λ f. unless_capability f.object (leaf_visits f.pads f.object)) (found_at s p)
copy_visits (suc n) s p = visits_of (λ f. unless_capability f.object (object_visits s (copy_visits n s) f.pads f.object)) (found_at s p)

-- The fault of an object that n levels are left for.
abbrev pub object_fault : ℕ → Object → Option Kind
object_fault n nothing = None
object_fault n (a_capability i) = Some CapabilityInCanonical
object_fault zero _ = Some NestingLimitExceeded
object_fault (suc n) _ = None

-- An object that isn't a capability.
abbrev pub IsNoCapability : Seen → Type 0
IsNoCapability (seen.Capability i) = ⊥
IsNoCapability _ = Unit {0}

-- A pointer was followed to an object that n levels suffice for and that is no capability, and it
-- was paid for; or the walk stops there.
abbrev pub FollowsData : ℕ → Segments → Place → ReadLimiter → Result Seen Error → ReadLimiter → Type 0
FollowsData n s p old (Ok o) new = Pays s p old o new × (levels_suffice n o ≡ true) × IsNoCapability o
FollowsData n s p old (Err e) new = Stopped (copy_visits n s p) old e new

-- A near object that is told was followed in this way; where none is told nothing was followed.
abbrev pub FollowsNear : {X : Type 0} → (X → Seen) → (ReadLimiter → Result Seen Error → ReadLimiter → Type 0) → ReadLimiter → Result (Option X) Error → ReadLimiter → Type 0
FollowsNear object follows old (Ok (Some x)) new = follows old (Ok (object x)) new
FollowsNear object follows old (Ok None) new = new ≡ old
FollowsNear object follows old (Err e) new = follows old (Err e) new

-- The pointer at a place leads to a landing pad of one word.
abbrev pub LeadsToPad : Segments → Place → Place → Type 0
LeadsToPad s p pad = (w : ℕ) × (word_at s p ≡ Some w) × (pointer_of w ≡ to_pad 1 pad)

-- The words that a copy writes over, and what is left to read.
pub record CopyState : Type 0 where
  pub words : List (List ℕ)
  pub limiter : ReadLimiter

-- Words, and what is left to read.
abbrev pub copy_state : List (List ℕ) → ReadLimiter → CopyState
copy_state ws l = record { words = ws; limiter = l }

-- What is copied: what is there, if it can be read, whether it has a capability, what it makes of
-- the words in use, and which visits it takes. So many words are in use, and so many may be written
-- besides those that are paid.
pub record Copying (X : Type 0) : Type 0 where
  pub there : Option X
  pub bad : X → Bool
  pub put : X → List ℕ → List ℕ
  pub path : List Visit
  pub used : ℕ
  pub most : ℕ

-- The slice is as it was from a place on.
abbrev pub Behind : ℕ → List (List ℕ) → List (List ℕ) → Type 0
Behind n old new = (length new ≡ length old) × (drop n new ≡ drop n old)

-- The words that there is room for: a message has no more than 2^29 - 1.
abbrev pub room_of : List (List ℕ) → ℕ
room_of into = min (length into) (2 ^ 29 - 1)

-- A copy found no room: it made its first visits, and the words that they cost are more than the room behind those before them.
pub record Filled (path : List Visit) (room most : ℕ) (old : ReadLimiter) (e : Error) (new : ReadLimiter) : Type 0 where
  pub before : List Visit
  pub rest : List Visit
  pub path_is : path ≡ before ++ rest
  pub cost : ℕ
  pub cost_is : visits_cost before ≡ Some cost
  pub walked : Walked before old new
  pub why : e.kind ≡ BufferNotLargeEnough
  pub full : room < most + cost

-- A copy was refused: its walk was stopped, or it found no room. It wrote at most n words and those
-- that were paid.
pub record Halted (path : List Visit) (most : ℕ) (old : CopyState) (e : Error) (new : CopyState) : Type 0 where
  pub paid : ℕ
  pub spends : Spends old.limiter new.limiter paid
  pub behind : Behind (most + paid) old.words new.words
  pub why : Stopped path old.limiter e new.limiter ⊎ Filled path (room_of old.words) most old.limiter e new.limiter

-- What is there, put over the words in use, makes more words than there is room for.
abbrev pub HasNoRoomFor : {X : Type 0} → Option X → (X → List ℕ → List ℕ) → ℕ → List (List ℕ) → Type 0
HasNoRoomFor {X = X} there put used old = (what : X) → there ≡ Some what → room_of old < length (put what (filled used old))

-- What is there wasn't written: the copy was refused, and for want of room only where there is no room for all of it.
pub record Unwritten {X : Type 0} (copy : Copying X) (old : CopyState) (e : Error) (new : CopyState) : Type 0 where
  pub halted : Halted copy.path copy.most old e new
  pub full : e.kind ≡ BufferNotLargeEnough → HasNoRoomFor copy.there copy.put copy.used old.words

-- What is there was written behind the words in use, to this end. It has no capability, its visits
-- were made, and it takes no more words than n and those that were paid.
pub record Written {X : Type 0} (copy : Copying X) (old : CopyState) (end : ℕ) (new : CopyState) : Type 0 where
  pub what : X
  pub there_is : copy.there ≡ Some what
  pub clean : copy.bad what ≡ false
  pub words : filled end new.words ≡ copy.put what (filled copy.used old.words)
  pub behind : Behind end old.words new.words
  pub bound : end ≤ length new.words
  pub near : end < 2 ^ 29
  pub more : copy.used ≤ end
  pub cost : ℕ
  pub cost_is : visits_cost copy.path ≡ Some cost
  pub walked : Walked copy.path old.limiter new.limiter
  pub few : end ≤ copy.most + cost

-- What a copy gives of what is there: it is written, or refused.
abbrev pub WritesCopy : {X : Type 0} → Copying X → CopyState → Result ℕ Error → CopyState → Type 0
WritesCopy copy old (Ok end) new = Written copy old end new
WritesCopy copy old (Err e) new = Unwritten copy old e new
