-- Copies of values from one arena into another, against a budget.
use Rattle.std.specs.Prelude.{◌≡◌, ◌↔◌, ◌⊎◌, ⊤, ℕ, suc, ◌+◌, ◌*◌, ◌≤◌, List, [], ◌∷◌, ◌++◌, length, replicate, Option, Some, Result, Ok, Err}
use Rattle.capnp_model.specs.Chains.{◌>>=◌}
use Rattle.capnp_model.specs.Sections.{number_of, words_for}
use Rattle.capnp_model.specs.Segments.{Segments, Place, words_at}
use Rattle.capnp_model.specs.Pointers.{Object, a_struct, a_list}
use Rattle.capnp_model.specs.Trees.{Tree, structure, struct_list, Trees, tree_count, Elements, element_count}
use Rattle.capnp_model.specs.Traversal.{tree_of, tree_at, each, each_element}
use Rattle.capnp_model.specs.Coverage.{Span, span, times_held, Grows, from_each, from_elements}
use Rattle.capnp_model.specs.Visits.{Visit, visits}
use Rattle.capnp_units.specs.declared.errors.Error.{Error}
use Rattle.capnp_units.specs.declared.kinds.ErrorKind.TheVariants.{SizeOverflow}
use Rattle.capnp_units.specs.declared.limiter.ReadLimiter.{ReadLimiter}
use Rattle.capnp_units.specs.Limits.{Spends, Follows}
use Rattle.capnp_units.specs.Segments.{words_in}
use Rattle.capnp_wire_objects.specs.declared.object.Found.{Found}
use Rattle.capnp_wire_objects.specs.declared.object.Object as wire
use Rattle.capnp_wire_objects.specs.declared.object.Object.TheVariants as object
use Rattle.capnp_wire_objects.specs.declared.place.Place as location
use Rattle.capnp_wire_objects.specs.Places.{place_view}
use Rattle.capnp_wire_objects.specs.Objects.{object_at}
use Rattle.capnp_wire_objects.specs.Follow.{follow_cost}
use Rattle.capnp_wire_objects.specs.Inside.{tree_in, met_in}
use Rattle.capnp_wire_objects.specs.Walks.{Walked, Stopped}
use Rattle.capnp_model_writes.specs.Children.{with_first}
use Rattle.capnp_model_writes.specs.Footprints.{object_footprint, Owns, OwnsObject}
use Rattle.capnp_model_writes.specs.Changes.{Changes, Replaces, ReplacesObject}
use Rattle.capnp_copy_arenas.specs.Allocations.{total_words}
use Rattle.capnp_copy_values.specs.Objects.{copied_words, copied_at, IsTooLarge}

-- What is copied, a pointer's value or more, of segments that are read so many levels deep.
pub record CopySource (X : Type 0) : Type 0 where
  pub levels : ℕ
  pub segments : Segments
  pub what : X

abbrev pub copy_source : {X : Type 0} → ℕ → Segments → X → CopySource X
copy_source levels from what = record { levels = levels; segments = from; what = what }

-- Of segments of these bytes.
abbrev pub source_in : {X : Type 0} → ℕ → List (List ℕ) → X → CopySource X
source_in levels bytes what = copy_source levels (words_in bytes) what

-- The words of an arena that is copied into, and what may still be read for it.
pub record LimitedWords : Type 0 where
  pub segments : Segments
  pub limiter : ReadLimiter

abbrev pub limited_words : Segments → ReadLimiter → LimitedWords
limited_words s limiter = record { segments = s; limiter = limiter }

-- Segments of these bytes.
abbrev pub limited : List (List ℕ) → ReadLimiter → LimitedWords
limited bytes limiter = limited_words (words_in bytes) limiter

-- What is copied of segments, where it is there, and the visits that are made to read it.
pub record CopyOf (X : Type 0) : Type 0 where
  pub from : Segments
  pub there : Option X
  pub path : List Visit

abbrev pub copy_of : {X : Type 0} → Segments → Option X → List Visit → CopyOf X
copy_of from there path = record { from = from; there = there; path = path }

-- A struct of so many data words and pointers, by where it begins.
pub record StructAt : Type 0 where
  pub start : Place
  pub data_words : ℕ
  pub pointers : ℕ

abbrev pub sized_at : Place → ℕ → ℕ → StructAt
sized_at r d k = record { start = r; data_words = d; pointers = k }

-- Whatever value is owned there becomes the tree, which has n levels at most, and nothing else
-- changes.
abbrev pub BecomesCopy : ℕ → Segments → Segments → Place → Tree → Type 0
BecomesCopy levels s u p v = (n : ℕ) (t : Tree) → levels ≤ n → Owns n s p t → Replaces n s u p v

-- All words stand, and new ones are zero.
abbrev pub GrowsByZeros : Segments → Segments → Type 0
GrowsByZeros s u = Changes s u (λ q. 0) (λ q. 0)

-- A copy found no room for an object on the way, whose pointer was followed and paid for. The
-- message is too large with its copy exactly where the kind says so; else the allocator refused.
pub record Unplaced (from : Segments) (path : List Visit) (u : Segments) (old : ReadLimiter) (e : Error) (new : ReadLimiter) : Type 0 where
  pub before : List Visit
  pub rest : List Visit
  pub at : Place
  pub found : Found
  pub found_is : object_at from at ≡ Ok found
  pub path_is : path ≡ before ++ Ok (follow_cost found) ∷ rest
  pub walked : Walked (before ++ Ok (follow_cost found) ∷ []) old new
  pub kind : (e.kind ≡ SizeOverflow) ↔ IsTooLarge found.object (total_words u)

-- No more words were allocated than twice those that were granted: an object's own, and one for its pad.
pub record TakesFew (s u : Segments) (old new : ReadLimiter) : Type 0 where
  pub granted : ℕ
  pub spends : Spends old new granted
  pub few : total_words u ≤ total_words s + 2 * granted

-- What was read is there, its visits were made, and it was made of it what it says.
pub record Copied {X : Type 0} (there : Option X) (path : List Visit) (Made : X → Type 0) (old new : LimitedWords) : Type 0 where
  pub value : X
  pub there_is : there ≡ Some value
  pub walked : Walked path old.limiter new.limiter
  pub grows : Grows old.segments new.segments
  pub takes : TakesFew old.segments new.segments old.limiter new.limiter
  pub made : Made value

-- The walk over what is read was stopped, or there was no room; what is left is as it says.
pub record Refused (from : Segments) (path : List Visit) (Left : Type 0) (old : LimitedWords) (e : Error) (new : LimitedWords) : Type 0 where
  pub left : Left
  pub takes : TakesFew old.segments new.segments old.limiter new.limiter
  pub why : Stopped path old.limiter e new.limiter ⊎ Unplaced from path new.segments old.limiter e new.limiter

-- A copy of what is read from segments, of which `Made` tells what it has made, or a refusal, which leaves `Left`.
abbrev pub CopyGives : {X : Type 0} → CopyOf X → (X → Type 0) → Type 0 → LimitedWords → Result ⊤ Error → LimitedWords → Type 0
CopyGives x Made Left old (Ok _) new = Copied x.there x.path Made old new
CopyGives x Made Left old (Err e) new = Refused x.from x.path Left old e new

-- The value of a pointer, those of n in a row, and that of an object whose words are there; n
-- levels may be followed from each pointer.
abbrev pub copy_of_value : CopySource Place → CopyOf Tree
copy_of_value x = copy_of x.segments (tree_at x.levels x.segments x.what) (visits x.levels x.segments x.what)

abbrev pub copy_of_row : CopySource Place → ℕ → CopyOf Trees
copy_of_row x n = copy_of x.segments (each (tree_at x.levels x.segments) x.what n) (from_each (visits x.levels x.segments) x.what n)

abbrev pub copy_of_object : CopySource wire.Object → CopyOf Tree
copy_of_object x = copy_of x.segments (tree_in x.segments (tree_at x.levels x.segments) x.what) (met_in (visits x.levels x.segments) x.what)

-- The value of a pointer is put in place of that of the pointer at p, as its whole tree; or it is refused, and all words stand.
abbrev pub CopiesValue : CopySource Place → Place → LimitedWords → Result ⊤ Error → LimitedWords → Type 0
CopiesValue x p old result new = CopyGives (copy_of_value x) (BecomesCopy x.levels old.segments new.segments p) (GrowsByZeros old.segments new.segments) old result new

-- No more words were allocated than twice those of an object that was paid for before, and those that were granted.
pub record TakesObject (k : ℕ) (s u : Segments) (old new : ReadLimiter) : Type 0 where
  pub granted : ℕ
  pub spends : Spends old new granted
  pub few : total_words u ≤ total_words s + 2 * (k + granted)

-- What is put into an arena: an object of the size of this one, at a place, with n levels behind it.
pub record ObjectPut : Type 0 where
  pub levels : ℕ
  pub object : wire.Object
  pub at : Place

abbrev pub object_put : ℕ → wire.Object → Place → ObjectPut
object_put levels o p = record { levels = levels; object = o; at = p }

-- An object was put in place of a value, and the visits behind it were made.
pub record ObjectCopied (there : Option Tree) (path : List Visit) (x : ObjectPut) (old new : LimitedWords) : Type 0 where
  pub value : Tree
  pub there_is : there ≡ Some value
  pub walked : Walked path old.limiter new.limiter
  pub grows : Grows old.segments new.segments
  pub takes : TakesObject (copied_words x.object) old.segments new.segments old.limiter new.limiter
  pub becomes : BecomesCopy (suc x.levels) old.segments new.segments x.at value

-- There was no room for the object itself, and nothing was read. The message is too large with it
-- exactly where the kind says so; else the allocator refused.
pub record HasNoPlace (o : wire.Object) (old : LimitedWords) (e : Error) (new : LimitedWords) : Type 0 where
  pub stands : new.segments ≡ old.segments
  pub unread : new.limiter ≡ old.limiter
  pub kind : (e.kind ≡ SizeOverflow) ↔ IsTooLarge o (total_words old.segments)

-- There was no room for the object, or what is behind it was refused; all words stand.
pub record ObjectRefused (from : Segments) (o : wire.Object) (path : List Visit) (old : LimitedWords) (e : Error) (new : LimitedWords) : Type 0 where
  pub left : GrowsByZeros old.segments new.segments
  pub takes : TakesObject (copied_words o) old.segments new.segments old.limiter new.limiter
  pub why : HasNoPlace o old e new ⊎ (Stopped path old.limiter e new.limiter ⊎ Unplaced from path new.segments old.limiter e new.limiter)

-- An object is put in place of the value of the pointer at its place, as the tree that is read; or it is refused.
abbrev pub ObjectGives : CopyOf Tree → ObjectPut → LimitedWords → Result ⊤ Error → LimitedWords → Type 0
ObjectGives tree x old (Ok _) new = ObjectCopied tree.there tree.path x old new
ObjectGives tree x old (Err e) new = ObjectRefused tree.from x.object tree.path old e new

-- An object whose words are there is put in place of that value, as its whole tree; n levels may be
-- followed from each of its pointers.
abbrev pub CopiesObject : CopySource wire.Object → Place → LimitedWords → Result ⊤ Error → LimitedWords → Type 0
CopiesObject x p = ObjectGives (copy_of_object x) (object_put x.levels x.what p)

-- A struct that is read: the number of its data section, the words of that, where its first pointer stands and how many there are.
pub record StructSource : Type 0 where
  pub section : ℕ
  pub data_words : ℕ
  pub first : location.Place
  pub pointers : ℕ

-- Its data section has these bytes, in whole words.
abbrev pub struct_source : List ℕ → location.Place → ℕ → StructSource
struct_source bytes first k = record { section = number_of 8 bytes; data_words = words_for (8 * length bytes); first = first; pointers = k }

-- Its tree, where `below` reads its pointers.
abbrev pub struct_tree : (Place → Option Tree) → StructSource → Option Tree
struct_tree below x = each below (place_view x.first) x.pointers >>= λ ts. Some (structure x.data_words x.section ts)

-- The tree of a struct, by its sections.
abbrev pub copy_of_struct : CopySource StructSource → CopyOf Tree
copy_of_struct x = copy_of x.segments (struct_tree (tree_at x.levels x.segments) x.what) (from_each (visits x.levels x.segments) (place_view x.what.first) x.what.pointers)

-- A struct of its size is put in place of that value, as its whole tree; n levels may be followed
-- from each of its pointers.
abbrev pub CopiesStruct : CopySource StructSource → Place → LimitedWords → Result ⊤ Error → LimitedWords → Type 0
CopiesStruct x p = ObjectGives (copy_of_struct x) (object_put x.levels (object.Struct x.what.first x.what.data_words x.what.pointers) p)

-- No more source pointers were followed than words were granted, and one.
pub record FollowsFew (old new : ReadLimiter) : Type 0 where
  pub granted : ℕ
  pub followed : ℕ
  pub spends : Spends old new granted
  pub follows : Follows old new followed
  pub few : followed ≤ granted + 1

-- The zero words of a span become an object with a value, and nothing else changes.
pub record Fills (n : ℕ) (s u : Segments) (x : Span) (o : Object) (v : Tree) : Type 0 where
  pub means : tree_of u (tree_at n u) o ≡ Some v
  pub changes : Changes s u (times_held (x ∷ [])) (object_footprint n u o)

-- Whatever struct is there: its section and children become these, which have n levels at most.
abbrev pub FillsStruct : ℕ → Segments → Segments → StructAt → ℕ → Trees → Type 0
FillsStruct levels s u o section ts =
    let there = a_struct o.start o.data_words o.pointers in
    (n own : ℕ) (kids : Trees) → levels ≤ n → OwnsObject n s there (structure o.data_words own kids) → ReplacesObject n s u there (structure o.data_words section ts)

-- Whatever struct is there has some other section and children.
abbrev pub LeavesStruct : ℕ → Segments → Segments → StructAt → Type 0
LeavesStruct levels s u o =
    let there = a_struct o.start o.data_words o.pointers in
    (n own : ℕ) (kids : Trees) → levels ≤ n → OwnsObject n s there (structure o.data_words own kids) → (section : ℕ) × (ts : Trees) × ReplacesObject n s u there (structure o.data_words section ts)

-- Whatever struct is there with no fewer pointers: as many children become these, its first, and
-- the others and its section stay.
pub record FillsRow (levels : ℕ) (s u : Segments) (o : StructAt) (ts : Trees) : Type 0 where
  pub count : tree_count ts ≡ o.pointers
  pub first : (n own w : ℕ) (kids : Trees) → levels ≤ n → o.pointers ≤ w → OwnsObject n s (a_struct o.start o.data_words w) (structure o.data_words own kids) → ReplacesObject n s u (a_struct o.start o.data_words w) (structure o.data_words own (with_first o.pointers ts kids))

-- Only some of them did, the first that are read from a place on.
pub record LeavesRow (x : CopySource Place) (s u : Segments) (o : StructAt) : Type 0 where
  pub grows : Grows s u
  pub copied : ℕ
  pub few : copied ≤ o.pointers
  pub read : Trees
  pub read_is : each (tree_at x.levels x.segments) x.what copied ≡ Some read
  pub left : (n own w : ℕ) (kids : Trees) → x.levels ≤ n → o.pointers ≤ w → OwnsObject n s (a_struct o.start o.data_words w) (structure o.data_words own kids) → ReplacesObject n s u (a_struct o.start o.data_words w) (structure o.data_words own (with_first copied read kids))

-- Whatever n structs of this size a list has that begins there: they become these.
abbrev pub FillsElements : ℕ → Segments → Segments → StructAt → ℕ → Elements → Type 0
FillsElements levels s u o count es =
    let there = a_list o.start 7 (count * (o.data_words + o.pointers)) in
    (n : ℕ) (fs : Elements) → levels ≤ n → element_count fs ≡ count → OwnsObject n s there (struct_list o.data_words o.pointers fs) → ReplacesObject n s u there (struct_list o.data_words o.pointers es)

-- The list has some other structs.
abbrev pub LeavesElements : ℕ → Segments → Segments → StructAt → ℕ → Type 0
LeavesElements levels s u o count =
    let there = a_list o.start 7 (count * (o.data_words + o.pointers)) in
    (n : ℕ) (fs : Elements) → levels ≤ n → element_count fs ≡ count → OwnsObject n s there (struct_list o.data_words o.pointers fs) → (es : Elements) × ReplacesObject n s u there (struct_list o.data_words o.pointers es)

-- n words from a place on are there, in segments of these bytes, and all are zero.
abbrev pub HasZeros : List (List ℕ) → location.Place → ℕ → Type 0
HasZeros bytes start n = words_at (words_in bytes) (place_view start) n ≡ Some (replicate n 0)

-- The zero words from its place on become an object, with the tree that is read. Or it is refused,
-- and they are some object of that size.
abbrev pub FillsObject : CopyOf Tree → ObjectPut → LimitedWords → Result ⊤ Error → LimitedWords → Type 0
FillsObject tree x old result new =
    let there = span x.at (copied_words x.object) in
    let made = copied_at x.at x.object in
    CopyGives tree (λ v. (n : ℕ) → x.levels ≤ n → Fills n old.segments new.segments there made v) ((t : Tree) × Fills x.levels old.segments new.segments there made t) old result new

-- The struct of its size at r gets the section of one that is read, and the values of its pointers.
-- Or it is refused, and has some others.
abbrev pub CopiesOverStruct : CopySource StructSource → Place → LimitedWords → Result ⊤ Error → LimitedWords → Type 0
CopiesOverStruct x r old result new =
    let o = x.what in
    let there = sized_at r o.data_words o.pointers in
    CopyGives (copy_of_row (copy_source x.levels x.segments (place_view o.first)) o.pointers) (FillsStruct x.levels old.segments new.segments there o.section) (LeavesStruct x.levels old.segments new.segments there) old result new

-- The structs of a list that are read: where the first stands, the words of all, what each has, and
-- how many there are.
pub record StructsSource : Type 0 where
  pub first : Place
  pub words : List ℕ
  pub data_words : ℕ
  pub pointers : ℕ
  pub count : ℕ

abbrev pub copy_of_structs : CopySource StructsSource → CopyOf Elements
copy_of_structs x =
    let o = x.what in
    copy_of x.segments (each_element (tree_at x.levels x.segments) o.first o.words o.data_words o.pointers o.count) (from_elements (visits x.levels x.segments) o.first o.data_words o.pointers o.count)

-- As many structs of their size, in the list at r, become those that are read. Or it is refused,
-- and they are some others.
abbrev pub CopiesOverElements : CopySource StructsSource → Place → LimitedWords → Result ⊤ Error → LimitedWords → Type 0
CopiesOverElements x r old result new =
    let there = sized_at r x.what.data_words x.what.pointers in
    CopyGives (copy_of_structs x) (FillsElements x.levels old.segments new.segments there x.what.count) (LeavesElements x.levels old.segments new.segments there x.what.count) old result new

-- Why a copy is refused: the walk over what is read was stopped by that very error, or the error is as `told` says.
abbrev pub IsStoppedOr : List Visit → ReadLimiter → ReadLimiter → (Error → Type 0) → Result ⊤ Error → Type 0
IsStoppedOr path old new told (Ok _) = Unit {0}
IsStoppedOr path old new told (Err e) = Stopped path old e new ⊎ told e
