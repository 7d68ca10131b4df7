-- Canonical messages. (Encoding, "Canonicalization")
use Rattle.std.specs.Prelude.{◌≡◌, ◌≢◌, ⊤, ℕ, ◌+◌, ◌-◌, ◌^◌, ◌<◌, ◌≤◌, min, ◌⊎◌, Bool, false, List, [], ◌∷◌, ◌++◌, length, Option, Some, None, Result, Ok, Err, Vec}
use Rattle.std.specs.declared.alloc.Global.{Global}
use Rattle.std.specs.Bool.{OnTrue, OnFalse}
use Rattle.std.specs.Option.{is_some}
use Rattle.capnp_model.specs.Segments.{Segments, root, words_at}
use Rattle.capnp_model.specs.Encoding.{canonical_words}
use Rattle.capnp_model.specs.Trees.{Tree, has_capability}
use Rattle.capnp_model.specs.Traversal.{tree_at}
use Rattle.capnp_model.specs.Trimming.{trim}
use Rattle.capnp_model.specs.Coverage.{Grows}
use Rattle.capnp_model.specs.Visits.{Visit, visits, visits_cost}
use Rattle.capnp_units.specs.declared.errors.Error.{Error}
use Rattle.capnp_units.specs.declared.kinds.ErrorKind.TheVariants.{NestingLimitExceeded, OutOfBounds, OutOfMemory, BufferNotLargeEnough, SizeOverflow}
use Rattle.capnp_units.specs.declared.limiter.ReadLimiter.{ReadLimiter}
use Rattle.capnp_wire_objects.specs.Walks.{Walked, Stopped}
use Rattle.capnp_wire_canonical.specs.Checks.{TellsMessage}
use Rattle.capnp_wire_canonical.specs.Copies.{copy_visits}
use Rattle.capnp_wire_canonical.specs.Writes.{words_view}
use Rattle.capnp_model_writes.specs.Footprints.{Owns}
use Rattle.capnp_model_writes.specs.Changes.{Replaces}
use Rattle.capnp_copy_values.specs.Copies.{copy_source, limited_words, BecomesCopy, CopiesValue, GrowsByZeros, TakesFew, Unplaced}
use Rattle.capnp_units.specs.Limits.{IsFree}

-- Nothing has levels, so that every value is refused, at no cost.
abbrev pub IsWithoutLevels : {X : Type 0} → ReadLimiter → Result X Error → ReadLimiter → Type 0
IsWithoutLevels old result new = (result ≡ Err (record { kind = NestingLimitExceeded })) × (new ≡ old)

-- What is told of a message: whether it is one segment of the canonical words of its value.
abbrev pub TellsCanonical : Option ℕ → Segments → ReadLimiter → Result Bool Error → ReadLimiter → Type 0
TellsCanonical None s old result new = IsWithoutLevels old result new
TellsCanonical (Some n) s old result new = TellsMessage n s old result new

-- The most words that following a message may cost so that its canonical words are written: those of the options, but no more than a message has behind its root.
abbrev pub most_cost : Option ℕ → ℕ
most_cost None = 2 ^ 29 - 2
most_cost (Some words) = min words (2 ^ 29 - 2)

-- The value has no capability, its visits were made, and these are its canonical words.
pub record Canonicalized (n : ℕ) (s : Segments) (old : ReadLimiter) (words : List ℕ) (new : ReadLimiter) : Type 0 where
  pub value : Tree
  pub there : tree_at n s root ≡ Some value
  pub clean : has_capability value ≡ false
  pub words_are : words ≡ canonical_words (trim value)
  pub few : length words < 2 ^ 29
  pub walked : Walked (copy_visits n s root) old new

-- The first visits were made, and they cost more than n words.
pub record ExceedsBuffer (path : List Visit) (most : ℕ) (old : ReadLimiter) (e : Error) (new : ReadLimiter) : Type 0 where
  pub before : List Visit
  pub rest : List Visit
  pub path_is : path ≡ before ++ rest
  pub cost : ℕ
  pub cost_is : visits_cost before ≡ Some cost
  pub walked : Walked before old new
  pub why : e.kind ≡ BufferNotLargeEnough
  pub long : most < cost

-- Where the first visits cost more than so much room has behind the root, they cost more than n
-- words.
abbrev pub Suffices : List Visit → ℕ → ℕ → Type 0
Suffices path most room = (before rest : List Visit) (cost : ℕ) → path ≡ before ++ rest → visits_cost before ≡ Some cost → room < 1 + cost → most < cost

-- Room is for no more than the first visits cost, and a word.
abbrev pub IsAsked : List Visit → ℕ → Type 0
IsAsked path room = (before rest : List Visit) × (cost : ℕ) × (path ≡ before ++ rest) × (visits_cost before ≡ Some cost) × (room ≤ cost + 1)

-- It is told whether all visits, where none is a fault, cost no more than n words.
abbrev pub TellsWhole : List Visit → ℕ → Bool → Type 0
TellsWhole path most told = (cost : ℕ) → visits_cost path ≡ Some cost → OnTrue told (cost ≤ most) × OnFalse told (most < cost)

-- Following a message within n levels costs no more than the options and a message allow.
abbrev pub CostsWithin : Option ℕ → Option ℕ → Segments → Type 0
CostsWithin levels limit s = (n cost : ℕ) × (levels ≡ Some n) × (visits_cost (copy_visits n s root) ≡ Some cost) × (cost ≤ most_cost limit)

-- No memory was had, and nothing was followed.
abbrev pub IsWithoutMemory : ReadLimiter → Error → ReadLimiter → Type 0
IsWithoutMemory old e new = (e.kind ≡ OutOfMemory) × (new ≡ old)

-- The canonical words of a message's value, within n levels, or why there are none: its visits were
-- stopped, it is too long, or there is no memory.
abbrev pub GivesCanonical : Option ℕ → Option ℕ → Segments → ReadLimiter → Result (Vec (List ℕ) Global) Error → ReadLimiter → Type 0
GivesCanonical None limit s old result new = IsWithoutLevels old result new
GivesCanonical (Some n) limit s old (Ok words) new = Canonicalized n s old (words_view words.items) new
GivesCanonical (Some n) limit s old (Err e) new = Stopped (copy_visits n s root) old e new ⊎ ExceedsBuffer (copy_visits n s root) (most_cost limit) old e new ⊎ IsWithoutMemory old e new

-- There is no word for the root pointer, and nothing was allocated.
abbrev pub HasNoRoot : Segments → Segments → Error → Type 0
HasNoRoot t u e = (is_some (words_at t root 1) ≡ false) × (e.kind ≡ OutOfBounds) × (u ≡ t)

-- The value of words that begin with its root pointer is copied in place of the root's.
pub record CopiesWordsToRoot (n : ℕ) (words : List ℕ) (t u : Segments) (result : Result ⊤ Error) : Type 0 where
  pub start : ReadLimiter
  pub end : ReadLimiter
  pub free : IsFree start
  pub copies : CopiesValue (copy_source n (words ∷ []) root) root (limited_words t start) result (limited_words u end)

-- The value of words is copied in place of the root's, or there is no word for the root.
abbrev pub ReplacesRoot : ℕ → List ℕ → Segments → Segments → Result ⊤ Error → Type 0
ReplacesRoot n words t u (Ok done) = CopiesWordsToRoot n words t u (Ok done)
ReplacesRoot n words t u (Err e) = HasNoRoot t u e ⊎ CopiesWordsToRoot n words t u (Err e)

-- All words stand, new ones are zero, and the root has the value that it had.
pub record RootStands (t u : Segments) : Type 0 where
  pub words : GrowsByZeros t u
  pub value : (n : ℕ) (v : Tree) → Owns n t root v → Replaces n t u root v

-- The root has the value of canonical words, in new words: no more than twice those that following it costs.
pub record IsReplaced (n : ℕ) (v : Tree) (words : List ℕ) (t u : Segments) : Type 0 where
  pub start : ReadLimiter
  pub end : ReadLimiter
  pub free : IsFree start
  pub walked : Walked (visits n (words ∷ []) root) start end
  pub takes : TakesFew t u start end
  pub grows : Grows t u
  pub becomes : BecomesCopy n t u root v

-- There was no room for an object of canonical words, or the message would be too large with it, as the kind says. No more words were allocated than twice those that following them costs up to that object.
pub record HasNoRoomForWords (n : ℕ) (words : List ℕ) (t u : Segments) (e : Error) : Type 0 where
  pub start : ReadLimiter
  pub end : ReadLimiter
  pub free : IsFree start
  pub unplaced : Unplaced (words ∷ []) (visits n (words ∷ []) root) u start e end
  pub takes : TakesFew t u start end
  pub stands : RootStands t u

-- The canonical words were given, and what follows holds of the value and of them.
abbrev pub AfterCanonical : Option ℕ → Segments → ReadLimiter → ReadLimiter → (ℕ → Tree → List ℕ → Type 0) → Type 0
AfterCanonical levels s old new P = (n : ℕ) × (words : List ℕ) × (levels ≡ Some n) × ((c : Canonicalized n s old words new) × P n c.value words)

-- A message without segments is set to the canonical words of a value: they are its one segment. Of
-- any other the value of the root becomes the trimmed one. Where the words weren't given, all
-- stands. Where there was no room for them, a message without segments has none still, and any
-- other has its root's value and all its words.
abbrev pub SetsCanonical : Option ℕ → Option ℕ → Segments → Segments → Segments → ReadLimiter → Result ⊤ Error → ReadLimiter → Type 0
SetsCanonical levels limit s [] u old (Ok done) new = AfterCanonical levels s old new (λ n v words. u ≡ words ∷ [])
SetsCanonical levels limit s [] u old (Err e) new =
    (u ≡ []) × (GivesCanonical levels limit s old (Err e) new ⊎ AfterCanonical levels s old new (λ n v words. e.kind ≢ SizeOverflow))
SetsCanonical levels limit s (first ∷ rest) u old (Ok done) new = AfterCanonical levels s old new (λ n v words. IsReplaced n (trim v) words (first ∷ rest) u)
SetsCanonical levels limit s (first ∷ rest) u old (Err e) new =
    (GivesCanonical levels limit s old (Err e) new × (u ≡ first ∷ rest)) ⊎ AfterCanonical levels s old new (λ n v words. HasNoRoot (first ∷ rest) u e ⊎ HasNoRoomForWords n words (first ∷ rest) u e)
