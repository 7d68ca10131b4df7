-- What pointers read as.
use Rattle.std.specs.Prelude.{◌≡◌, ℕ, ℤ, ◌+◌, ◌*◌, ◌==◌, ◌&&◌, ◌⊎◌, if◌then◌else◌, Bool, true, false, not, List, [], ◌∷◌, length, take, slice_index, Option, Some, None, Result, Ok, Err}
use Rattle.std.specs.Option.{ok_or}
use Rattle.capnp_model.specs.Kinds.{Kind, OutOfBounds, WrongPointerKind, WrongElementSize, TextWithoutZeroByte}
use Rattle.capnp_model.specs.Chains.{◌and_then◌, guard, passes}
use Rattle.capnp_model.specs.Sections.{words_for}
use Rattle.capnp_model.specs.Segments.{Segments, Place, root, after, word_at}
use Rattle.capnp_model.specs.Pointers as model
use Rattle.capnp_model.specs.Trees.{Tree, plain_list, pointer_list, struct_list, none, no_elements, plain_elements}
use Rattle.capnp_model.specs.Readings.{is_accepted_as}
use Rattle.capnp_units.specs.declared.sizes.ElementSize.{ElementSize}
use Rattle.capnp_units.specs.declared.sizes.ElementSize.TheVariants.{Byte, Pointer, InlineComposite}
use Rattle.capnp_units.specs.declared.sizes.PointerType.{PointerType}
use Rattle.capnp_units.specs.declared.sizes.PointerType.TheVariants as sort
use Rattle.capnp_units.specs.declared.errors.Error.{Error}
use Rattle.capnp_units.specs.declared.kinds.ErrorKind.TheVariants.{ReadLimitExceeded}
use Rattle.capnp_units.specs.declared.limiter.ReadLimiter.{ReadLimiter}
use Rattle.capnp_units.specs.Errors.{kind_of}
use Rattle.capnp_units.specs.Segments.{words_in}
use Rattle.capnp_units.specs.Sizes.{size_number, data_bits}
use Rattle.capnp_units.specs.Limits.{left_of, Spends, IsPassed, Follows}
use Rattle.capnp_wire_objects.specs.declared.object.Object.{Object}
use Rattle.capnp_wire_objects.specs.declared.object.Object.TheVariants as object
use Rattle.capnp_wire_objects.specs.declared.object.Found.{Found}
use Rattle.capnp_wire_objects.specs.Places.{place_view}
use Rattle.capnp_wire_objects.specs.Objects.{object_at}
use Rattle.capnp_wire_objects.specs.Follow.{follow_cost, KeepsBudget}
use Rattle.capnp_wire.specs.Levels.{level_below}
use Rattle.capnp_wire.specs.Views.{Ground, default_ground, section_at, arena_root, PointerView, StructView, struct_view, ListView, list_view}

-- ---- null, and defaults

-- There is no pointer, or all its bits are zero.
abbrev pub is_null_at : Segments → Option Place → Bool
is_null_at s None = true
is_null_at s (Some p) = passes (λ w. w == 0) (word_at s p)

-- The pointer is null.
abbrev pub is_null_pointer : PointerView → Bool
is_null_pointer p = is_null_at p.basis.segments p.place

-- The root of a default, with the levels that are left.
abbrev pub default_root : List (List ℕ) → Option ℕ → PointerView
default_root words levels = record { basis = default_ground words; place = Some root; levels = levels }

-- What is read in place of a null pointer: the default, unless its root is null too.
abbrev pub unless_null : PointerView → PointerView → PointerView
unless_null p d = if is_null_pointer d then p else d

-- What is read of a pointer that may have a default.
abbrev pub with_default : PointerView → Option (List (List ℕ)) → PointerView
with_default p None = p
with_default p (Some words) = if is_null_pointer p then unless_null p (default_root words p.levels) else p

-- The root pointer of an arena, where there is one. (Encoding, "Messages")
abbrev pub root_of : List (List ℕ) → ℤ → Result PointerView Kind
root_of bytes nesting = ok_or (word_at (words_in bytes) root) OutOfBounds and_then λ _. Ok (arena_root bytes nesting)

-- ---- what a pointer is followed to

-- What a pointer names that may be none.
abbrev pub found_behind : Segments → Option Place → Result Found Kind
found_behind s None = Ok (record { pads = 0; object = object.Null })
found_behind s (Some p) = object_at s p

-- What the pointer names, else the kind of its fault.
abbrev pub object_behind : PointerView → Result Found Kind
object_behind p = found_behind p.basis.segments p.place

-- The budget is asked: the pointer isn't null and no default's.
abbrev pub is_charged : PointerView → Bool
is_charged p = p.basis.paid && not (is_null_pointer p)

-- n words were paid for a followed pointer; what isn't charged changes nothing.
abbrev pub PaysFor : Bool → ReadLimiter → ReadLimiter → ℕ → Type 0
PaysFor true old new words = Spends old new words × Follows old new 1
PaysFor false old new words = new ≡ old

-- A pointer was followed, and no word was paid.
abbrev pub PaysNothing : Bool → ReadLimiter → ReadLimiter → Type 0
PaysNothing true old new = KeepsBudget old new × Follows old new 1
PaysNothing false old new = new ≡ old

-- n words can't be paid.
abbrev pub IsTooDear : Bool → ReadLimiter → ℕ → Type 0
IsTooDear true old words = IsPassed (left_of old) words
IsTooDear false old words = ⊥

-- What a get of a pointer returns: what its object reads as. It is refused by the kind of the fault
-- there, exactly where the budget doesn't suffice, or by the kind of what doesn't read so.
abbrev pub GetGives : {X Y : Type 0} → (X → Y) → (Object → Result Y Kind) → PointerView → ReadLimiter → Result X Error → ReadLimiter → Type 0
GetGives view read p old (Ok x) new = (f : Found) × (object_behind p ≡ Ok f) × PaysFor (is_charged p) old new (follow_cost f) × (read f.object ≡ Ok (view x))
GetGives view read p old (Err e) new =
    ((object_behind p ≡ Err (kind_of e.kind)) × PaysNothing (is_charged p) old new)
    ⊎ ((f : Found) × (object_behind p ≡ Ok f) × (e.kind ≡ ReadLimitExceeded) × IsTooDear (is_charged p) old (follow_cost f) × PaysNothing (is_charged p) old new)
    ⊎ ((f : Found) × (object_behind p ≡ Ok f) × PaysFor (is_charged p) old new (follow_cost f) × (read f.object ≡ Err (kind_of e.kind)))

-- ---- structs

-- A struct without sections, as which null reads.
abbrev pub struct_of_null : Ground → Option ℕ → StructView
struct_of_null g levels = struct_view g 0 0 root 0 levels

-- An object as a struct. (Encoding, "Structs")
abbrev pub read_struct : Ground → Option ℕ → Object → Result StructView Kind
read_struct g levels object.Null = Ok (struct_of_null g levels)
read_struct g levels (object.Struct p d k) =
    level_below levels and_then λ l. Ok (struct_view g (section_at g.segments (place_view p) d) (64 * d) (after (place_view p) d) k l)
read_struct g levels _ = Err WrongPointerKind

-- ---- data and text

-- An object as the bytes of a list, where there is one. (Encoding, "Blobs")
abbrev pub read_bytes : Ground → Option ℕ → Object → Result (Option (List ℕ)) Kind
read_bytes g levels object.Null = Ok None
read_bytes g levels (object.List p Byte n) = level_below levels and_then λ _. Ok (Some (plain_elements 2 n (section_at g.segments (place_view p) (words_for (8 * n)))))
read_bytes g levels (object.List p size n) = Err WrongElementSize
read_bytes g levels (object.PointerList p n) = Err WrongElementSize
read_bytes g levels (object.StructList p words n d k) = Err WrongElementSize
read_bytes g levels _ = Err WrongPointerKind

-- Data are the bytes; null is none.
abbrev pub as_blob : Option (List ℕ) → Result (List ℕ) Kind
as_blob None = Ok []
as_blob (Some bytes) = Ok bytes

-- A text is what stands before the last byte, which is zero; null is none.
abbrev pub as_text : Option (List ℕ) → Result (List ℕ) Kind
as_text None = Ok []
as_text (Some []) = Err TextWithoutZeroByte
as_text (Some (b ∷ bs)) = if slice_index (b ∷ bs) (length bs) == 0 then Ok (take (length bs) (b ∷ bs)) else Err TextWithoutZeroByte

-- An object as data.
abbrev pub read_blob : Ground → Option ℕ → Object → Result (List ℕ) Kind
read_blob g levels o = read_bytes g levels o and_then as_blob

-- An object as a text.
abbrev pub read_text : Ground → Option ℕ → Object → Result (List ℕ) Kind
read_text g levels o = read_bytes g levels o and_then as_text

-- ---- lists

-- A list of elements of these sizes, as far as its elements are asked for.
abbrev pub list_head : ElementSize → ℕ → ℕ → Tree
list_head size d k = if size_number size == 7 then struct_list d k no_elements else (if size_number size == 6 then pointer_list none else plain_list (size_number size) 0 0)

-- A list that takes a level, where its elements can be read as ones of the expected size.
abbrev pub read_elements : Option ℕ → ElementSize → (Option ℕ → ListView) → ElementSize → ℕ → ℕ → Result ListView Kind
read_elements levels expected view size d k = level_below levels and_then λ l. guard (is_accepted_as (size_number expected) (list_head size d k)) WrongElementSize and_then λ _. Ok (view l)

-- An object as a list with elements of an expected size; null is the empty list of them. (Encoding, "Lists")
abbrev pub read_list : Ground → Option ℕ → ElementSize → Object → Result ListView Kind
read_list g levels expected object.Null = Ok (list_view g expected 0 0 root 0 0 levels)
read_list g levels expected (object.List p size n) =
    read_elements levels expected (list_view g size n (section_at g.segments (place_view p) (words_for (data_bits (size_number size) * n))) (place_view p) 0 0) size 0 0
read_list g levels expected (object.PointerList p n) = read_elements levels expected (list_view g Pointer n 0 (place_view p) 0 0) Pointer 0 0
read_list g levels expected (object.StructList p words n d k) = read_elements levels expected (list_view g InlineComposite n (section_at g.segments (place_view p) (n * (d + k))) (place_view p) d k) InlineComposite d k
read_list g levels expected _ = Err WrongPointerKind

-- ---- the sort of object

-- The sort of the object that a pointer names, whether its words are there or not.
abbrev pub pointer_type_of : model.Object → PointerType
pointer_type_of model.nothing = sort.Null
pointer_type_of (model.a_struct p d k) = sort.Struct
pointer_type_of (model.a_list p size n) = sort.List
pointer_type_of (model.a_capability i) = sort.Capability

-- The sort of object at a place, if there is one, where it begins inside its segment; no word of it is looked at.
abbrev pub type_at : Segments → Option Place → Result PointerType Kind
type_at s None = Ok sort.Null
type_at s (Some p) = model.found_at s p and_then λ f. guard (model.begins_inside s f.object) OutOfBounds and_then λ _. Ok (pointer_type_of f.object)

-- The sort of object behind a pointer that may be none.
abbrev pub type_behind : PointerView → Result PointerType Kind
type_behind p = type_at p.basis.segments p.place
