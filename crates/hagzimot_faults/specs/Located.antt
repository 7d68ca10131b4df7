-- Where a message can't be read.
use Rattle.std.specs.Prelude.{◌≡◌, ℕ, ◌+◌, ◌*◌, ◌<◌, nat_lt, ◌&&◌, ◌⊎◌, pos, true, List, [], ◌∷◌, ◌++◌, Option, Some, None, Ok, IfSome}
use Rattle.std.specs.Result.{result_ok}
use Rattle.capnp_model.specs.Chains.{◌>>=◌, ◌provided◌}
use Rattle.capnp_model.specs.Segments.{Segments, Place, root, after}
use Rattle.capnp_model.specs.Trees.{Tree, has_capability}
use Rattle.capnp_model.specs.Traversal.{tree_at}
use Rattle.capnp_model.specs.Visits.{visits}
use Rattle.capnp_model.specs.Answers.{Limits, value_within}
use Rattle.capnp_units.specs.Limits.{limit_of, granted_of}
use Rattle.capnp_units.specs.declared.errors.Error.{Error}
use Rattle.capnp_units.specs.declared.kinds.ErrorKind.{ErrorKind}
use Rattle.capnp_units.specs.declared.kinds.ErrorKind.TheVariants.{CapabilityInCanonical}
use Rattle.capnp_units.specs.declared.limiter.ReadLimiter.{ReadLimiter}
use Rattle.capnp_wire_objects.specs.declared.object.Object.{Object}
use Rattle.capnp_wire_objects.specs.declared.object.Object.TheVariants as object
use Rattle.capnp_wire_objects.specs.Places.{place_view}
use Rattle.capnp_wire_objects.specs.Objects.{object_at}
use Rattle.capnp_wire_objects.specs.Follow.{object_within, IsFollowRefusal}
use Rattle.capnp_wire_objects.specs.Walks.{Stopped}
use Rattle.hagzimot_faults.specs.declared.steps.Step.{Step}
use Rattle.hagzimot_faults.specs.declared.steps.Step.TheVariants as step
use Rattle.hagzimot_faults.specs.declared.locate.WalkLimits.{WalkLimits}
use Rattle.hagzimot_faults.specs.declared.locate.Refused.{Refused}
use Rattle.hagzimot_faults.specs.declared.locate.FaultPlace.{FaultPlace}
use Rattle.hagzimot_faults.specs.declared.locate.WireFault.{WireFault}
use Rattle.hagzimot_faults.specs.declared.locate.Row.{Row}
use Rattle.hagzimot_faults.specs.declared.locate.Row.TheVariants as row
use Rattle.hagzimot_faults.specs.declared.locate.Elements.{Elements}

-- ---- steps

-- The step to a pointer of a row.
abbrev pub row_view : Row → ℕ → Step
row_view row.Struct i = step.Pointer i
row_view row.Items i = step.Item i
row_view (row.Element e) i = step.Element e i

-- The pointer that a step leads to in an object.
abbrev pub pointer_in : Object → Step → Option Place
pointer_in (object.Struct p d k) (step.Pointer i) = after (place_view p) (d + i) provided nat_lt i k
pointer_in (object.PointerList p n) (step.Item i) = after (place_view p) i provided nat_lt i n
pointer_in (object.StructList p words n d k) (step.Element i j) = after (place_view p) (i * (d + k) + d + j) provided (nat_lt i n && nat_lt j k)
pointer_in _ _ = None

-- The pointer that steps lead to from the pointer at a place.
unfoldable pub pointer_after : Segments → Place → List Step → Option Place
pointer_after s p [] = Some p
pointer_after s p (x ∷ xs) = result_ok (object_at s p) >>= λ f. pointer_in f.object x >>= λ q. pointer_after s q xs

-- ---- faults

-- A capability is what the pointer at a place names.
pub record IsCapabilityAt (s : Segments) (p : Place) (kind : ErrorKind) : Type 0 where
  pub kind_is : kind ≡ CapabilityInCanonical
  pub pads : ℕ
  pub index : ℕ
  pub is : object_at s p ≡ Ok (record { pads = pads; object = object.Capability index })

-- Following the pointer at a place is refused by this kind, with some levels and words left.
pub record IsRefusedPointer (s : Segments) (p : Place) (kind : ErrorKind) : Type 0 where
  pub levels : ℕ
  pub left : ReadLimiter
  pub error : Error
  pub kind_is : error.kind ≡ kind
  pub why : IsFollowRefusal (object_within levels s p) left error

-- The pointer at a place can't be followed, or names a capability.
abbrev pub IsRefusedAt : Segments → Place → ErrorKind → Type 0
IsRefusedAt s p kind = IsRefusedPointer s p kind ⊎ IsCapabilityAt s p kind

-- ---- what is found

-- Steps behind others lead from a pointer to the one that is refused.
pub record LocatedFrom (s : Segments) (p : Place) (old : List Step) (r : Refused) (new : List Step) : Type 0 where
  pub more : List Step
  pub appends : new ≡ old ++ more
  pub leads : pointer_after s p more ≡ Some (place_view r.place)
  pub refused : IsRefusedAt s (place_view r.place) r.kind

-- A step to a pointer, and further steps from it to the one that is refused.
pub record LocatedBy (s : Segments) (x : Step) (q : Place) (old : List Step) (r : Refused) (new : List Step) : Type 0 where
  pub more : List Step
  pub appends : new ≡ old ++ x ∷ more
  pub leads : pointer_after s q more ≡ Some (place_view r.place)
  pub refused : IsRefusedAt s (place_view r.place) r.kind

-- What is found from a pointer on; the steps stay as they are if nothing is.
abbrev pub LocatesAt : Segments → Place → List Step → Option Refused → List Step → Type 0
LocatesAt s p old None new = new ≡ old
LocatesAt s p old (Some r) new = LocatedFrom s p old r new

-- What is found from the pointers of an object on.
abbrev pub LocatesInside : Segments → Object → List Step → Option Refused → List Step → Type 0
LocatesInside s o old None new = new ≡ old
LocatesInside s o old (Some r) new = (x : Step) × (q : Place) × (pointer_in o x ≡ Some q) × LocatedBy s x q old r new

-- What is found from n pointers in a row on.
abbrev pub LocatesInRow : Segments → Place → ℕ → Row → List Step → Option Refused → List Step → Type 0
LocatesInRow s first n in_row old None new = new ≡ old
LocatesInRow s first n in_row old (Some r) new = (i : ℕ) × (i < n) × LocatedBy s (row_view in_row i) (after first i) old r new

-- What is found from the pointers of a list's elements on.
abbrev pub LocatesInElements : Segments → Elements → List Step → Option Refused → List Step → Type 0
LocatesInElements s e old None new = new ≡ old
LocatesInElements s e old (Some r) new =
    (i : ℕ) × (j : ℕ) × (i < e.count) × (j < e.pointers) × LocatedBy s (step.Element i j) (after (place_view e.start) (i * (e.data_words + e.pointers) + e.data_words + j)) old r new

-- Steps from the root lead to a pointer that is refused by this kind.
pub record IsFaultPlace (s : Segments) (kind : ErrorKind) (at : FaultPlace) : Type 0 where
  pub leads : pointer_after s root at.steps.items ≡ Some (place_view at.place)
  pub refused : IsRefusedAt s (place_view at.place) kind

-- The limits of a walk.
abbrev pub fault_limits : WalkLimits → Limits
fault_limits l = record { words = Some l.words; nesting = pos l.nesting }

-- A walk over the root's value, n levels deep and with so many words, is refused by this kind: that of the first fault in the order of reading, or of the first object that costs more words than are left.
pub record IsFirstRefusal (n words : ℕ) (s : Segments) (kind : ErrorKind) : Type 0 where
  pub start : ReadLimiter
  pub all : limit_of start ≡ Some words
  pub unused : granted_of start ≡ 0
  pub end : ReadLimiter
  pub error : Error
  pub kind_is : error.kind ≡ kind
  pub stopped : Stopped (visits n s root) start error end

-- The root's value can be read, and there is a capability in it.
pub record HasCapability (n : ℕ) (s : Segments) (kind : ErrorKind) : Type 0 where
  pub kind_is : kind ≡ CapabilityInCanonical
  pub value : Tree
  pub there : tree_at n s root ≡ Some value
  pub has : has_capability value ≡ true

-- The kind by which a message is refused.
abbrev pub IsFirstKind : WalkLimits → Segments → ErrorKind → Type 0
IsFirstKind l s kind = IsFirstRefusal l.nesting l.words s kind ⊎ HasCapability l.nesting s kind

-- Why a message has no value within the limits; None exactly if it has one.
abbrev pub IsWireFault : WalkLimits → Segments → Option WireFault → Type 0
IsWireFault l s None = (t : Tree) × (value_within (fault_limits l) s ≡ Some t)
IsWireFault l s (Some f) = (value_within (fault_limits l) s ≡ None) × IfSome f.at (IsFaultPlace s f.kind) × IsFirstKind l s f.kind
