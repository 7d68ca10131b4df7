-- Canonical copies into an arena, by way of lent words. (Encoding, "Canonicalization")
use Rattle.std.specs.Prelude.{◌≡◌, ◌⊎◌, ⊤, ℕ, ◌+◌, ◌≤◌, false, List, [], ◌∷◌, Option, Some, Result, Ok, Err}
use Rattle.capnp_model.specs.Segments.{Segments, Place, root}
use Rattle.capnp_model.specs.Trees.{Tree, has_capability}
use Rattle.capnp_model.specs.Trimming.{trim}
use Rattle.capnp_model.specs.Traversal.{tree_at}
use Rattle.capnp_model.specs.Coverage.{Grows}
use Rattle.capnp_model.specs.Visits.{Visit, visits}
use Rattle.capnp_model.specs.Encoding.{canonical_words}
use Rattle.capnp_units.specs.declared.errors.Error.{Error}
use Rattle.capnp_units.specs.declared.limiter.ReadLimiter.{ReadLimiter}
use Rattle.capnp_units.specs.Limits.{Spends, IsFree}
use Rattle.capnp_wire_objects.specs.Walks.{Walked, Stopped}
use Rattle.capnp_wire_canonical.specs.Copies.{copy_visits, Behind, Filled, HasNoRoomFor, room_of}
use Rattle.capnp_model.specs.Sizes.{object_words}
use Rattle.capnp_units.specs.declared.kinds.ErrorKind.TheVariants.{SizeOverflow}
use Rattle.capnp_copy_values.specs.Copies.{CopySource, LimitedWords, BecomesCopy, GrowsByZeros, TakesFew, Unplaced}
use Rattle.capnp_copy_values.specs.Fits.{LimitedArena, HasRoomIn, TakesIn, HasLongList}

-- A value without a capability is there, and the visits of a canonical copy were made.
pub record IsReadForCopy (x : CopySource Place) (t : Tree) (old new : ReadLimiter) : Type 0 where
  pub there_is : tree_at x.levels x.segments x.what ≡ Some t
  pub clean : has_capability t ≡ false
  pub walked : Walked (copy_visits x.levels x.segments x.what) old new

-- The message of a value's canonical words.
abbrev pub canonical_message : Tree → Segments
canonical_message t = canonical_words (trim t) ∷ []

-- No more words were allocated than twice those that a walk over the canonical message costs.
pub record TakesCopy (n : ℕ) (t : Tree) (s u : Segments) : Type 0 where
  pub start : ReadLimiter
  pub end : ReadLimiter
  pub free : IsFree start
  pub walked : Walked (visits n (canonical_message t) root) start end
  pub takes : TakesFew s u start end

-- The trimmed value is put in place of that of the pointer at p.
pub record Canonical (x : CopySource Place) (p : Place) (old new : LimitedWords) : Type 0 where
  pub value : Tree
  pub read : IsReadForCopy x value old.limiter new.limiter
  pub grows : Grows old.segments new.segments
  pub takes : TakesCopy x.levels value old.segments new.segments
  pub becomes : BecomesCopy x.levels old.segments new.segments p (trim value)

-- The arena had no room for an object of the canonical message, or the message would be too large with it.
pub record HasNoRoomForCanonical (x : CopySource Place) (old : LimitedWords) (e : Error) (new : LimitedWords) : Type 0 where
  pub value : Tree
  pub read : IsReadForCopy x value old.limiter new.limiter
  pub start : ReadLimiter
  pub end : ReadLimiter
  pub free : IsFree start
  pub unplaced : Unplaced (canonical_message value) (visits x.levels (canonical_message value) root) new.segments start e end
  pub takes : TakesFew old.segments new.segments start end

-- What is copied by way of lent words: the value of a pointer.
pub record LentCopy : Type 0 where
  pub source : CopySource Place
  pub lent : List (List ℕ)

abbrev pub lent_copy : CopySource Place → List (List ℕ) → LentCopy
lent_copy source lent = record { source = source; lent = lent }

-- The visits that are made to read it, and the value, where it is there.
abbrev pub lent_visits : LentCopy → List Visit
lent_visits x = copy_visits x.source.levels x.source.segments x.source.what

abbrev pub lent_tree : LentCopy → Option Tree
lent_tree x = tree_at x.source.levels x.source.segments x.source.what

-- The words that were lent are fewer than the value's canonical words, and than those that were granted, and one.
abbrev pub IsTooShort : LentCopy → ReadLimiter → Error → ReadLimiter → Type 0
IsTooShort x old e new = Filled (lent_visits x) (room_of x.lent) 1 old e new × HasNoRoomFor (lent_tree x) (λ t words. canonical_words (trim t)) 1 x.lent

-- All words stand: the walk was stopped, too few words were lent, or the arena had no room.
pub record CanonicalRefused (x : LentCopy) (old : LimitedWords) (e : Error) (new : LimitedWords) : Type 0 where
  pub left : GrowsByZeros old.segments new.segments
  pub why : ((new.segments ≡ old.segments) × (Stopped (lent_visits x) old.limiter e new.limiter ⊎ IsTooShort x old.limiter e new.limiter)) ⊎ HasNoRoomForCanonical x.source old e new

-- That value is put in place of that of the pointer at p, trimmed; or it is refused, and all words stand.
abbrev pub CopiesCanonical : LentCopy → Place → LimitedWords → Result ⊤ Error → LimitedWords → Type 0
CopiesCanonical x p old (Ok _) new = Canonical x.source p old new
CopiesCanonical x p old (Err e) new = CanonicalRefused x old e new

-- No more of the lent words were written than were granted, and one.
pub record WritesFew (old new : ReadLimiter) (lent after : List (List ℕ)) : Type 0 where
  pub granted : ℕ
  pub spends : Spends old new granted
  pub written : ℕ
  pub few : written ≤ granted + 1
  pub behind : Behind written lent after

-- Where the ith segment has room for the words of the trimmed value, exactly these are taken, in
-- it. The copy is refused as the value is that is written over lent words; or `told` says why, and
-- there was no such room, or a list is too long.
abbrev pub CanonicalTold : LentCopy → ℕ → (Error → Type 0) → LimitedArena → Result ⊤ Error → LimitedArena → Type 0
CanonicalTold x i told old (Ok _) new = (t : Tree) → lent_tree x ≡ Some t → HasRoomIn old.arena i (object_words (trim t)) → TakesIn old.arena new.arena i (object_words (trim t))
CanonicalTold x i told old (Err e) new =
    (Stopped (lent_visits x) old.limiter e new.limiter ⊎ IsTooShort x old.limiter e new.limiter)
    ⊎ (told e × ((t : Tree) → lent_tree x ≡ Some t → HasRoomIn old.arena i (object_words (trim t)) → (e.kind ≡ SizeOverflow) × HasLongList (canonical_message t)))
