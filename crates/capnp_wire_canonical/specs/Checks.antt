-- What a walk tells that looks whether values stand as canonical words.
use Rattle.std.specs.Prelude.{◌≡◌, ℕ, ◌+◌, ◌*◌, ◌^◌, ◌<◌, ◌≤◌, Bool, true, false, List, ◌++◌, Option, Some, None, Result, Ok, Err}
use Rattle.std.specs.Option.{is_some}
use Rattle.capnp_model.specs.Segments.{Segments, Place, place, root, after, words_at}
use Rattle.capnp_model.specs.Canonical.{is_canonical_message}
use Rattle.capnp_model.specs.Trees.{Tree, Trees, Elements, structure, has_capability, have_capability, elements_have_capability}
use Rattle.capnp_model.specs.Traversal.{tree_at, each, each_element}
use Rattle.capnp_model.specs.Trimming.{trim, trim_each, trim_elements}
use Rattle.capnp_model.specs.Coverage.{from_each, from_elements}
use Rattle.capnp_model.specs.Visits.{Visit, visits}
use Rattle.capnp_units.specs.declared.errors.Error.{Error}
use Rattle.capnp_units.specs.declared.limiter.ReadLimiter.{ReadLimiter}
use Rattle.capnp_units.specs.declared.sizes.StructSize.{StructSize}
use Rattle.capnp_wire_objects.specs.declared.object.Object.{Object}
use Rattle.capnp_wire_objects.specs.Inside.{tree_in, met_in, section_at, words_there}
use Rattle.capnp_wire_objects.specs.Walks.{Walked, Stopped}
use Rattle.capnp_wire_canonical.specs.Reaches.{Reach}
use Rattle.capnp_wire_canonical.specs.Standing.{Stands, StandEach, StandElements, IsSmall}

-- A walk made the first of these visits, and stopped where none was refused.
pub record Began (path : List Visit) (old new : ReadLimiter) : Type 0 where
  pub before : List Visit
  pub rest : List Visit
  pub path_is : path ≡ before ++ rest
  pub walked : Walked before old new

-- What is looked at: what is there, and what with n levels more, if it can be read, whether it has a
-- capability, to which ends it stands, and which visits it takes. That it stands to none is only
-- told under a premise.
pub record Testing (X : Type 0) : Type 1 where
  pub there : Option X
  pub deeper : ℕ → Option X
  pub bad : X → Bool
  pub stands : X → ℕ → Type 0
  pub premise : Type 0
  pub path : List Visit

-- What is there has no capability and stands to an end, and each visit was made.
pub record Agrees {X : Type 0} (test : Testing X) (old : ReadLimiter) (end : ℕ) (new : ReadLimiter) : Type 0 where
  pub what : X
  pub there_is : test.there ≡ Some what
  pub clean : test.bad what ≡ false
  pub stand : test.stands what end
  pub near : end < 2 ^ 61
  pub walked : Walked test.path old new

-- Where the premise holds, nothing without a capability that is there with these levels, or more, stands to any end; the first visits were made.
pub record Differs {X : Type 0} (test : Testing X) (old new : ReadLimiter) : Type 0 where
  pub began : Began test.path old new
  pub apart : test.premise → (more : ℕ) (x : X) (end : ℕ) → test.deeper more ≡ Some x → test.bad x ≡ false → test.stands x end → ⊥

-- What a walk tells of what is there. It is the end to which it stands, or that it stands to none,
-- with any levels more. Or the walk was refused at a visit.
abbrev pub Tests : {X : Type 0} → Testing X → ReadLimiter → Result (Option ℕ) Error → ReadLimiter → Type 0
Tests test old (Ok (Some end)) new = Agrees test old end new
Tests test old (Ok None) new = Differs test old new
Tests test old (Err e) new = Stopped test.path old e new

-- The value at a place, trimmed, from a head on.
abbrev pub value_test : Reach → Place → ℕ → Testing Tree
value_test r p head = record {
  there = tree_at r.levels r.segments p;
  deeper = λ more. tree_at (more + r.levels) r.segments p;
  bad = has_capability;
  stands = λ t. Stands r.segments p head (trim t);
  premise = IsSmall r.segments p;
  path = visits r.levels r.segments p;
}

-- An object that the pointer at a place leads to, once it is paid for.
abbrev pub object_test : Reach → Place → ℕ → Object → Testing Tree
object_test r p head o = record {
  there = tree_in r.segments (tree_at r.levels r.segments) o;
  deeper = λ more. tree_in r.segments (tree_at (more + r.levels) r.segments) o;
  bad = has_capability;
  stands = λ t. Stands r.segments p head (trim t);
  premise = IsSmall r.segments p;
  path = met_in (visits r.levels r.segments) o;
}

-- The values of n pointers in a row.
abbrev pub row_test : Reach → Place → ℕ → ℕ → Testing Trees
row_test r p count head = record {
  there = each (tree_at r.levels r.segments) p count;
  deeper = λ more. each (tree_at (more + r.levels) r.segments) p count;
  bad = have_capability;
  stands = λ ts. StandEach r.segments p head (trim_each ts);
  premise = IsSmall r.segments p;
  path = from_each (visits r.levels r.segments) p count;
}

-- n elements of a list of structs, with d data words and k pointers each.
abbrev pub elements_test : Reach → Place → ℕ → ℕ → ℕ → ℕ → Testing Elements
elements_test r p count d k head = record {
  there = each_element (tree_at r.levels r.segments) p (words_there r.segments p (count * (d + k))) d k count;
  deeper = λ more. each_element (tree_at (more + r.levels) r.segments) p (words_there r.segments p (count * (d + k))) d k count;
  bad = elements_have_capability;
  stands = λ es. StandElements r.segments p d k head (trim_elements es);
  premise = IsSmall r.segments p;
  path = from_elements (visits r.levels r.segments) p d k count;
}

-- A place behind another in its segment, at least n words on.
abbrev pub IsBehind : Segments → Place → ℕ → Place → Type 0
IsBehind s p n head = (head.segment ≡ p.segment) × (p.position + n ≤ head.position) × (is_some (words_at s head 0) ≡ true)

-- A head, and what is left to read.
pub record HeadState : Type 0 where
  pub head : Place
  pub limiter : ReadLimiter

-- From a place on, with what is left to read.
abbrev pub head_state : Place → ReadLimiter → HeadState
head_state h l = record { head = h; limiter = l }

-- What is told of what is there, with the head that it leaves: behind the words that stand, else where it was.
abbrev pub Tells : {X : Type 0} → Testing X → HeadState → Result Bool Error → HeadState → Type 0
Tells test old (Ok true) new = (new.head.segment ≡ old.head.segment) × Agrees test old.limiter new.head.position new.limiter
Tells test old (Ok false) new = (new.head ≡ old.head) × Differs test old.limiter new.limiter
Tells test old (Err e) new = (new.head ≡ old.head) × Stopped test.path old.limiter e new.limiter

-- The value at a place, trimmed, from a head on that lies behind it.
abbrev pub value_from : Reach → Place → Place → Testing Tree
value_from r p head = record {
  there = tree_at r.levels r.segments p;
  deeper = λ more. tree_at (more + r.levels) r.segments p;
  bad = has_capability;
  stands = λ t end. IsBehind r.segments p 1 head × Stands r.segments p head.position (trim t) end;
  premise = IsSmall r.segments p;
  path = visits r.levels r.segments p;
}

-- What is told of the value at a place: whether it stands, trimmed, from the head on.
abbrev pub TellsValue : Reach → Place → HeadState → Result Bool Error → HeadState → Type 0
TellsValue r p old = Tells (value_from r p old.head) old

-- The values of n pointers in a row, from a head on that lies behind them.
abbrev pub row_from : Reach → Place → ℕ → Place → Testing Trees
row_from r p count head = record {
  there = each (tree_at r.levels r.segments) p count;
  deeper = λ more. each (tree_at (more + r.levels) r.segments) p count;
  bad = have_capability;
  stands = λ ts end. IsBehind r.segments p count head × StandEach r.segments p head.position (trim_each ts) end;
  premise = IsSmall r.segments p;
  path = from_each (visits r.levels r.segments) p count;
}

-- What is told of the values of n pointers in a row.
abbrev pub TellsRow : Reach → Place → ℕ → HeadState → Result Bool Error → HeadState → Type 0
TellsRow r p count old = Tells (row_from r p count old.head) old

-- A struct with these children can't do with fewer words or pointers, and the words of what its pointers lead to, trimmed, stand from a head on.
pub record StandsStruct (s : Segments) (p : Place) (size : StructSize) (head : Place) (ts : Trees) (end : ℕ) : Type 0 where
  pub least : trim (structure size.data_words (section_at s p size.data_words) ts) ≡ structure size.data_words (section_at s p size.data_words) (trim_each ts)
  pub behind : IsBehind s (after p size.data_words) size.pointers head
  pub stand : StandEach s (after p size.data_words) head.position (trim_each ts) end

-- A struct whose own words are there and were paid for, and what its pointers lead to, from a head on.
abbrev pub struct_from : Reach → Place → StructSize → Place → Testing Trees
struct_from r p size head = record {
  there = each (tree_at r.levels r.segments) (after p size.data_words) size.pointers;
  deeper = λ more. each (tree_at (more + r.levels) r.segments) (after p size.data_words) size.pointers;
  bad = have_capability;
  stands = StandsStruct r.segments p size head;
  premise = IsSmall r.segments p;
  path = from_each (visits r.levels r.segments) (after p size.data_words) size.pointers;
}

-- What is told of a struct whose own words are there and were paid for: whether it and what its
-- pointers lead to stand as canonical words. The latter stand from the head on.
abbrev pub TellsStruct : Reach → Place → StructSize → HeadState → Result Bool Error → HeadState → Type 0
TellsStruct r p size old = Tells (struct_from r p size old.head) old

-- A second segment is there.
abbrev pub has_second : Segments → Bool
has_second s = is_some (words_at s (place 1 0) 0)

-- What is told of a message: whether it is one segment of the canonical words of its value. A no says that it is none with these levels or more. Where a second segment is there it is not, and nothing was followed.
abbrev pub TellsMessage : ℕ → Segments → ReadLimiter → Result Bool Error → ReadLimiter → Type 0
TellsMessage n s old (Ok true) new = (is_canonical_message n s ≡ true) × Walked (visits n s root) old new
TellsMessage n s old (Ok false) new = (IsSmall s root → (m : ℕ) → n ≤ m → is_canonical_message m s ≡ false) × Began (visits n s root) old new × (has_second s ≡ true → new ≡ old)
TellsMessage n s old (Err e) new = Stopped (visits n s root) old e new × (has_second s ≡ false)
