-- The words of objects and of landing pads. (Encoding, "Structs", "Lists", "Inter-Segment Pointers")
use Rattle.std.specs.Prelude.{ℕ, ◌+◌, ◌-◌, ◌*◌, ◌/◌, ◌%◌, ◌==◌, nat_lt, nat_le, ◌&&◌, if◌then◌else◌, Option, Some, None, Result, Ok, Err}
use Rattle.std.specs.Option.{is_some}
use Rattle.capnp_model.specs.Kinds.{Kind}
use Rattle.capnp_model.specs.Chains.{◌>>=◌, ◌provided◌}
use Rattle.capnp_model.specs.Sections.{words_for}
use Rattle.capnp_model.specs.Segments.{Segments, Place, place, root, word_at, words_at}
use Rattle.capnp_model.specs.Pointers.{Pointer, to_pad, pointer_of}
use Rattle.capnp_units.specs.Sizes.{size_number, data_bits}
use Rattle.capnp_wire_objects.specs.declared.object.Object.{Object}
use Rattle.capnp_wire_objects.specs.declared.object.Object.TheVariants as object
use Rattle.capnp_wire_objects.specs.declared.object.Found.{Found}
use Rattle.capnp_wire_objects.specs.Places.{place_view, placed}
use Rattle.capnp_wire_objects.specs.Objects.{object_at}
use Rattle.hagzimot_faults.specs.declared.steps.Step.TheVariants as step
use Rattle.hagzimot_explain.specs.declared.marks.Part.{Part}
use Rattle.hagzimot_explain.specs.declared.marks.Part.TheVariants as part
use Rattle.hagzimot_explain.specs.declared.parts.Pad.{Pad}

-- ---- objects

-- The object, or null if there is a fault.
abbrev pub object_or_null : Result Found Kind → Object
object_or_null (Ok f) = f.object
object_or_null (Err k) = object.Null

-- The object that the pointer at a place leads to, or null if it can't be followed.
abbrev pub object_there : Segments → Place → Object
object_there s p = object_or_null (object_at s p)

-- The words of an object, with a list's tag.
abbrev pub words_of : Object → ℕ
words_of object.Null = 0
words_of (object.Struct p d k) = d + k
words_of (object.List p size n) = words_for (data_bits (size_number size) * n)
words_of (object.PointerList p n) = n
words_of (object.StructList p words n d k) = words + 1
words_of (object.Capability i) = 0

-- The place of an object's first word, a list's tag too.
abbrev pub start_of : Object → Place
start_of object.Null = root
start_of (object.Struct p d k) = place_view p
start_of (object.List p size n) = place_view p
start_of (object.PointerList p n) = place_view p
start_of (object.StructList p words n d k) = place p.segment (p.position - 1)
start_of (object.Capability i) = root

-- What word i of element e of a list of structs is.
abbrev pub element_part : ℕ → ℕ → ℕ → Part
element_part d e i = if nat_lt i d then part.ElementData e i else part.Pointer (step.Element e (i - d))

-- What the word behind a tag and i more words is.
abbrev pub behind_tag : ℕ → ℕ → ℕ → ℕ → Part
behind_tag n d k i = if nat_lt i (n * (d + k)) then element_part d (i / (d + k)) (i % (d + k)) else part.Unfilled

-- What word i of an object is.
abbrev pub part_of : Object → ℕ → Option Part
part_of object.Null i = None
part_of (object.Struct p d k) i = Some (if nat_lt i d then part.Data i else part.Pointer (step.Pointer (i - d)))
part_of (object.List p size n) i = Some (part.Elements i)
part_of (object.PointerList p n) i = Some (part.Pointer (step.Item i))
part_of (object.StructList p words n d k) i = Some (if i == 0 then part.Tag else behind_tag n d k (i - 1))
part_of (object.Capability j) i = None

-- What word i of an object is, if the object has that many.
abbrev pub part_in : Object → ℕ → Option Part
part_in o i = part_of o i >>= λ x. x provided nat_lt i (words_of o)

-- What the word at a place is in an object whose first word is at a start.
abbrev pub part_from : Place → Object → Place → Option Part
part_from start o q = part_in o (q.position - start.position) >>= λ x. x provided ((start.segment == q.segment) && nat_le start.position q.position)

-- ---- landing pads

-- The landing pad of a pointer.
abbrev pub pad_of : Pointer → Option Pad
pad_of (to_pad words p) = Some (record { place = placed p; is_double = words == 2 })
pad_of _ = None

-- The number of a landing pad's words.
abbrev pub pad_words : Pad → ℕ
pad_words pad = if pad.is_double then 2 else 1

-- The landing pad of the pointer at a place, if its words are there.
abbrev pub pad_there : Segments → Place → Option Pad
pad_there s p = word_at s p >>= λ w. pad_of (pointer_of w) >>= λ pad. pad provided is_some (words_at s (place_view pad.place) (pad_words pad))
