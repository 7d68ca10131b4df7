-- What the words of a message are.
use Rattle.std.specs.Prelude.{◌≡◌, Bool, true, false, ◌&&◌, if◌then◌else◌, List, fold, Contains, Option, Some, None}
use Rattle.capnp_model.specs.Chains.{◌>>=◌, ◌provided◌}
use Rattle.capnp_model.specs.Segments.{Segments, Place, root, after}
use Rattle.capnp_wire_objects.specs.declared.object.Object.{Object}
use Rattle.capnp_wire_objects.specs.declared.place.Place.{Place as Pointer}
use Rattle.capnp_wire_objects.specs.Places.{place_view}
use Rattle.hagzimot_explain.specs.declared.marks.Mark.{Mark}
use Rattle.hagzimot_explain.specs.declared.marks.Mark.TheVariants as mark
use Rattle.hagzimot_explain.specs.declared.marks.Word.{Word}
use Rattle.hagzimot_explain.specs.declared.parts.Pad.{Pad}
use Rattle.hagzimot_explain.specs.Rows.{is_at}
use Rattle.hagzimot_explain.specs.Parts.{object_there, start_of, part_from, pad_there}

-- What the word at q is to a pointer to an object.
abbrev pub object_mark : Pointer → Object → Place → Option Mark
object_mark p o q = part_from (start_of o) o q >>= λ x. Some (mark.Object p x)

-- What the word at q is to a pointer that leads to a landing pad.
abbrev pub pad_mark : Pointer → Option Pad → Place → Option Mark
pad_mark p None q = None
pad_mark p (Some pad) q =
    if is_at (place_view pad.place) q then Some (mark.Pad p false) else (if pad.is_double && is_at (after (place_view pad.place) 1) q then Some (mark.Pad p true) else None)

-- A word that has one mark, after it gets another: the first stays.
abbrev pub marked_again : Mark → Mark → Bool → Word
marked_again mark.NotReached m again = record { mark = m; again = again }
marked_again first m again = record { mark = first; again = true }

-- A word after it gets a mark.
abbrev pub marked : Option Mark → Word → Word
marked None w = w
marked (Some m) w = marked_again w.mark m w.again

-- The word at q after one more pointer.
abbrev pub marked_by : Segments → Place → Word → Pointer → Word
marked_by s q w p = marked (object_mark p (object_there s (place_view p)) q) (marked (pad_mark p (pad_there s (place_view p)) q) w)

-- A word that no pointer leads to.
abbrev pub unmarked : Word
unmarked = record { mark = mark.NotReached; again = false }

-- The word at q before any pointer is followed.
abbrev pub first_word : Place → Word
first_word q = marked (mark.Root provided is_at root q) unmarked

-- The word at q by pointers, one after the other.
abbrev pub word_by : Segments → List Pointer → Place → Word
word_by s ps q = fold (marked_by s q) (first_word q) ps

-- The word at q is what a mark says, by these pointers.
abbrev pub IsMarkOf : Segments → List Pointer → Place → Mark → Type 0
IsMarkOf s ps q mark.NotReached =
    (is_at root q ≡ false) × ((p : Pointer) → Contains ps p → (object_mark p (object_there s (place_view p)) q ≡ None) × (pad_mark p (pad_there s (place_view p)) q ≡ None))
IsMarkOf s ps q mark.Root = is_at root q ≡ true
IsMarkOf s ps q (mark.Pad p second) = Contains ps p × (pad_mark p (pad_there s (place_view p)) q ≡ Some (mark.Pad p second))
IsMarkOf s ps q (mark.Object p x) = Contains ps p × (part_from (start_of (object_there s (place_view p))) (object_there s (place_view p)) q ≡ Some x)
