-- Copies of what readers stand at.
use Rattle.std.specs.Prelude.{◌≡◌, ⊤, ℕ, Bool, true, false, min, List, None, MatchOption, map, length, Result, Ok, Err}
use Rattle.capnp_model.specs.Sections.{words_for}
use Rattle.capnp_model.specs.Segments.{Segments, Place}
use Rattle.capnp_units.specs.declared.errors.Error.{Error}
use Rattle.capnp_units.specs.declared.kinds.ErrorKind.TheVariants.{NestingLimitExceeded}
use Rattle.capnp_units.specs.declared.limiter.ReadLimiter.{ReadLimiter}
use Rattle.capnp_units.specs.Limits.{limit_of}
use Rattle.capnp_wire_objects.specs.Places.{place_view}
use Rattle.capnp_wire.specs.Views.{PointerView, StructView, ListView}
use Rattle.capnp_copy_arenas.specs.Clearing.{ClearsValue}
use Rattle.capnp_copy_arenas.specs.declared.fields.StructPlace.{StructPlace}
use Rattle.capnp_copy_values.specs.declared.lists.ListSource.{ListSource}
use Rattle.capnp_model.specs.Sizes.{object_words, each_object_words}
use Rattle.capnp_copy_arenas.specs.States.{ArenaState}
use Rattle.capnp_copy_values.specs.Fits.{Wanted, wanted, limited_arena, FitsCopy, HasLongList, IsLong}
use Rattle.capnp_copy_values.specs.Copies.{CopyOf, copy_source, copy_of_value, copy_of_row, copy_of_struct, limited_words, CopiesValue, CopiesStruct, StructSource, IsStoppedOr}
use Rattle.capnp_copy_values.specs.Contents.{CopiesContent, SetsSection, fitting}
use Rattle.capnp_copy_values.specs.Lists.{list_parts, copy_of_list, CopiesList, listed_section, listed_object}

-- What is done under a limit of words, by what it returns and what it took.
abbrev pub Walk : Type 1
Walk = ReadLimiter → Result ⊤ Error → ReadLimiter → Type 0

-- A walk over what is paid for is under this limit; one over a default is under none, and takes nothing.
abbrev pub Charged : Bool → Walk → Walk
Charged true W old result new = W old result new
Charged false W old result new = (l m : ReadLimiter) × (limit_of l ≡ None) × W l result m × (new ≡ old)

-- Nothing has levels: every copy is refused, and all stands.
abbrev pub WithoutLevels : Segments → Segments → Walk
WithoutLevels s u old result new = (result ≡ Err (record { kind = NestingLimitExceeded })) × (u ≡ s) × (new ≡ old)

-- The value becomes null; nothing is read.
abbrev pub BecomesNull : Segments → Segments → Place → Walk
BecomesNull s u p old result new = (result ≡ Ok tt) × (new ≡ old) × (map length u ≡ map length s) × ClearsValue s u p

-- A copy of a pointer's value that is read is put in place of the value at p; a pointer that stands nowhere is null.
abbrev pub CopiesPointer : PointerView → Segments → Segments → Place → Walk
CopiesPointer v s u p old result new =
    MatchOption v.levels (WithoutLevels s u old result new) (λ n.
    MatchOption v.place (BecomesNull s u p old result new) (λ q.
    Charged v.basis.paid (λ l r m. CopiesValue (copy_source n v.basis.segments q) p (limited_words s l) r (limited_words u m)) old result new))

-- The parts of a struct that is read.
pub record IsSourceOf (v : StructView) (x : StructSource) : Type 0 where
  pub section : x.section ≡ v.section
  pub data_words : x.data_words ≡ words_for v.bits
  pub first : place_view x.first ≡ v.first
  pub pointers : x.pointers ≡ v.pointers

-- A copy of a struct that is read is put in place of the value at p.
abbrev pub SetsStruct : StructView → Segments → Segments → Place → Walk
SetsStruct v s u p old result new =
    MatchOption v.levels (WithoutLevels s u old result new) (λ n.
    Charged v.basis.paid (λ l r m. (x : StructSource) × IsSourceOf v x × CopiesStruct (copy_source n v.basis.segments x) p (limited_words s l) r (limited_words u m)) old result new)

-- Nothing has levels: the copy is refused, but what fits of the data is taken over before. The pointers and all else stand.
pub record TakesDataAlone (v : StructView) (s u : Segments) (o : StructPlace) (old : ReadLimiter) (result : Result ⊤ Error) (new : ReadLimiter) : Type 0 where
  pub refused : result ≡ Err (record { kind = NestingLimitExceeded })
  pub unread : new ≡ old
  pub sizes : map length u ≡ map length s
  pub section : SetsSection s u o (fitting o.data_words v.section)

-- A struct takes over the content of one that is read.
abbrev pub TakesOver : StructView → Segments → Segments → StructPlace → Walk
TakesOver v s u o old result new =
    MatchOption v.levels (TakesDataAlone v s u o old result new) (λ n.
    Charged v.basis.paid (λ l r m. (x : StructSource) × IsSourceOf v x × CopiesContent (copy_source n v.basis.segments x) o (limited_words s l) r (limited_words u m)) old result new)

-- The parts of a list that is read.
pub record IsListSourceOf (v : ListView) (x : ListSource) (bytes : List ℕ) : Type 0 where
  pub size : x.size ≡ v.size
  pub count : x.count ≡ v.count
  pub data_words : x.data_words ≡ v.data_words
  pub pointers : x.pointers ≡ v.pointers
  pub start : place_view x.start ≡ v.start
  pub section : listed_section x bytes ≡ v.section

-- A copy of a list that is read is put in place of the value at p.
abbrev pub SetsList : ListView → Segments → Segments → Place → Walk
SetsList v s u p old result new =
    MatchOption v.levels (WithoutLevels s u old result new) (λ n.
    Charged v.basis.paid (λ l r m. (x : ListSource) × (bytes : List ℕ) × IsListSourceOf v x bytes × CopiesList (copy_source n v.basis.segments (list_parts x bytes)) p (limited_words s l) r (limited_words u m)) old result new)

-- What a copy takes where there is room, and why it is refused, of which `told` tells what doesn't come of what is read.
abbrev pub IsTold : {X : Type 0} → CopyOf X → Wanted X → ArenaState → ArenaState → (Error → Type 0) → Walk
IsTold x w s u told old result new = FitsCopy x w (limited_arena s old) result (limited_arena u new) × IsStoppedOr x.path old new told result

-- What the copy of a pointer's value, a struct, the content of one, or a list takes, and why it is
-- refused.
abbrev pub PointerTold : PointerView → ArenaState → ArenaState → ℕ → (Error → Type 0) → Walk
PointerTold v s u i told old result new =
    MatchOption v.levels (Unit {0}) (λ n.
    MatchOption v.place (Unit {0}) (λ q.
    Charged v.basis.paid (IsTold (copy_of_value (copy_source n v.basis.segments q)) (wanted object_words (HasLongList v.basis.segments) i) s u told) old result new))

abbrev pub StructTold : StructView → ArenaState → ArenaState → ℕ → (Error → Type 0) → Walk
StructTold v s u i told old result new =
    MatchOption v.levels (Unit {0}) (λ n.
    Charged v.basis.paid (λ l r m. (x : StructSource) × IsSourceOf v x × IsTold (copy_of_struct (copy_source n v.basis.segments x)) (wanted object_words (HasLongList v.basis.segments) i) s u told l r m) old result new)

abbrev pub ContentTold : StructView → ArenaState → ArenaState → StructPlace → (Error → Type 0) → Walk
ContentTold v s u o told old result new =
    MatchOption v.levels (Unit {0}) (λ n.
    Charged v.basis.paid (λ l r m. (x : StructSource) × IsSourceOf v x × IsTold (copy_of_row (copy_source n v.basis.segments (place_view x.first)) (min x.pointers o.pointers)) (wanted each_object_words (HasLongList v.basis.segments) o.start.segment) s u told l r m) old result new)

abbrev pub ListTold : ListView → ArenaState → ArenaState → ℕ → (Error → Type 0) → Walk
ListTold v s u i told old result new =
    MatchOption v.levels (Unit {0}) (λ n.
    Charged v.basis.paid (λ l r m. (x : ListSource) × (bytes : List ℕ) × IsListSourceOf v x bytes × IsTold (copy_of_list (copy_source n v.basis.segments (list_parts x bytes))) (wanted object_words (IsLong v.basis.segments (listed_object x)) i) s u told l r m) old result new)
