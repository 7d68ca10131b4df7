-- Where structs and elements stand among canonical words. (Encoding, "Structs" and "Lists")
use Rattle.std.specs.Prelude.{◌≡◌, ℕ, ◌+◌, ◌-◌, ◌*◌, ◌%◌, ◌^◌, ◌<◌, ◌≤◌, Bool, ◌||◌, nat_eq, if◌then◌else◌, Option, IfSome, List, ◌++◌, length, take, drop, ⊤}
use Rattle.capnp_model.specs.Sections.{words_of}
use Rattle.capnp_model.specs.Trees.{Tree, Trees, Elements, structure, pointer_list, struct_list, element_count, tree_count}
use Rattle.capnp_model.specs.Fits.{FitEach, FitElements}
use Rattle.capnp_model.specs.Encoding.{links, bodies, cells, element_bodies}
use Rattle.capnp_model.specs.Edits.{Cell}
use Rattle.capnp_wire_canonical.specs.Writes.{words_view, filled}
use Rattle.capnp_calls_splice.specs.Splices.{PutsBehind, StandsWithin}
use Rattle.capnp_calls_splice.specs.declared.area.Area.{Area}
use Rattle.capnp_calls_splice.specs.declared.area.Placed.{Placed}
use Rattle.capnp_calls_splice.specs.declared.area.Unput.{Unput}
use Rattle.capnp_calls_splice.specs.declared.area.Unput.TheVariants as unputs
use Rattle.capnp_calls_splice.specs.declared.area.Structs.{Structs}
use Rattle.capnp_calls_splice.specs.declared.splice.Hop.{Hop}
use Rattle.capnp_calls_splice.specs.declared.splice.Put.{Put}

-- The words around a cell: those before its data, those between its pointers and what they lead to,
-- and those behind that. Of those between, n belong to the cell's object, and m to targets before
-- the cell's.
pub record Frame : Type 0 where
  pub front : List ℕ
  pub middle : List ℕ
  pub back : List ℕ
  pub behind : ℕ
  pub before : ℕ

-- The words with a cell of n data words in the frame.
abbrev pub framed : ℕ → Frame → Cell → List ℕ
framed d f c = f.front ++ (words_of d c.section ++ (links f.behind f.before c.kids ++ (f.middle ++ (bodies c.kids ++ f.back))))

-- A cell stands in a frame.
pub record StandsIn (area : Area) (f : Frame) (c : Cell) (words : List ℕ) : Type 0 where
  pub place : length f.front ≡ area.at
  pub between : length f.middle ≡ f.behind + f.before
  pub spelled : words ≡ framed area.data_words f c
  pub section : c.section < 2 ^ (64 * area.data_words)
  pub pointers : tree_count c.kids ≡ area.pointers
  pub each : FitEach c.kids

-- The area with so many words of data.
abbrev pub with_data_words : Area → ℕ → Area
with_data_words a m = record { at = a.at; data_words = m; pointers = a.pointers }

-- It stands there after a change that left it so many words of data.
pub record HasChanged (Changes : ℕ → ℕ → Cell → Cell → Type 0) (area : Area) (f : Frame) (old : Cell) (m : ℕ) (words : List ℕ) : Type 0 where
  pub cell : Cell
  pub changes : Changes area.data_words m old cell
  pub stands : StandsIn (with_data_words area m) f cell words

-- It stands there after something was put behind hops.
abbrev pub HasPut : Put → List Hop → Area → Frame → Cell → ℕ → List ℕ → Type 0
HasPut put way area f old m words = HasChanged (PutsBehind put way) area f old m words

-- Whatever stands in the area is changed.
abbrev pub ChangesArea : (ℕ → ℕ → Cell → Cell → Type 0) → Area → ℕ → List (List ℕ) → List (List ℕ) → Placed → Type 0
ChangesArea Changes area count from to p = (f : Frame) (c : Cell) → StandsIn area f c (filled count from) → HasChanged Changes area f c p.data_words (filled p.count to)

-- It is, where what it leads to ends at a word, if that is told.
abbrev pub ChangesUpTo : (ℕ → ℕ → Cell → Cell → Type 0) → Area → Option ℕ → ℕ → List (List ℕ) → List (List ℕ) → Placed → Type 0
ChangesUpTo Changes area end count from to p = (f : Frame) (c : Cell) → IfSome end (λ e. e + length f.back ≡ count) → StandsIn area f c (filled count from) → HasChanged Changes area f c p.data_words (filled p.count to)

-- The words that are used then are among those of a message, and the data are no more than a struct's.
abbrev pub IsWithin : List (List ℕ) → Placed → Type 0
IsWithin to p = StandsWithin to p.count × (p.data_words < 2 ^ 16)

-- What stands after a put behind a pointer of the area's.
abbrev pub stays : Area → ℕ → Placed
stays a n = record { count = n; data_words = a.data_words }

-- What wasn't put left the words as they were, where it didn't spoil them.
abbrev pub LeavesWords : Unput → List (List ℕ) → List (List ℕ) → Type 0
LeavesWords unputs.Room old new = new ≡ old
LeavesWords unputs.Place old new = new ≡ old
LeavesWords unputs.Spoiled old new = ⊤

-- An area's own words are among n, which are those of a message.
pub record IsAreaInside (area : Area) (count : ℕ) (words : List (List ℕ)) : Type 0 where
  pub begins : 0 < area.at
  pub narrow : area.data_words < 2 ^ 16
  pub own : area.at + area.data_words + area.pointers ≤ count
  pub few : count < 2 ^ 29
  pub inside : count ≤ length words

-- The value is a struct of so many words of data and pointers.
abbrev pub IsStructWith : ℕ → ℕ → Tree → Type 0
IsStructWith d k (structure words section kids) = (d ≡ words) × (k ≡ tree_count kids)
IsStructWith d k _ = ⊥

-- The value is a struct of an area's sizes.
abbrev pub IsSizedStruct : Area → Tree → Type 0
IsSizedStruct a t = IsStructWith a.data_words a.pointers t

-- The value is a list of so many pointers.
abbrev pub IsPointerList : ℕ → Tree → Type 0
IsPointerList n (pointer_list ts) = n ≡ tree_count ts
IsPointerList n _ = ⊥

-- What such a word tells doesn't lie behind it, or doesn't lie at all: null, the empty struct's pointer and a capability.
abbrev pub is_fixed : ℕ → Bool
is_fixed w = nat_eq w 0 || (nat_eq (w % 4) 3 || nat_eq w 0xffff_fffc)

-- A pointer's word, with so much more.
abbrev pub shifted : ℕ → ℕ → ℕ
shifted by w = if is_fixed w then w else (w + by) % 2 ^ 64

-- What pointers in a row lead to lies in a message.
abbrev pub FitsInOffsets : ℕ → ℕ → Trees → Type 0
FitsInOffsets behind before ts = tree_count ts + behind + before + length (bodies ts) < 2 ^ 30

-- These are the pointers to values in a row: before them lie m words of other targets, and n words of the object lie behind them.
pub record AreLinks (n m : ℕ) (ts : Trees) (slice : List (List ℕ)) : Type 0 where
  pub fit : FitEach ts
  pub near : FitsInOffsets n m ts
  pub spelled : words_view slice ≡ links n m ts

-- An end, if it is told, is a word.
abbrev pub IsEnd : Option ℕ → ℕ → Type 0
IsEnd end n = IfSome end (λ e. e ≡ n)

-- What the pointers of elements lead to lies in a message.
abbrev pub AreNear : ℕ → ℕ → ℕ → Elements → Type 0
AreNear before d k es = element_count es * (d + k) + before + length (element_bodies es) < 2 ^ 30

-- These are the words of elements in a row, before which lie m words of other targets.
pub record AreCells (m d k : ℕ) (es : Elements) (slice : List (List ℕ)) : Type 0 where
  pub fit : FitElements d k es
  pub near : AreNear m d k es
  pub spelled : words_view slice ≡ cells m d k es

-- The value is a list of n structs of these sizes.
abbrev pub IsStructs : Structs → Tree → Type 0
IsStructs l (struct_list words pointers es) = (l.count ≡ element_count es) × (l.data_words ≡ words) × (l.pointers ≡ pointers)
IsStructs l _ = ⊥

-- The word where the elements behind one begin.
abbrev pub place_behind : Structs → ℕ → ℕ
place_behind l index = l.first + (index + 1) * (l.data_words + l.pointers)

-- Their words, among those of a message.
abbrev pub words_of_later : Structs → ℕ → List (List ℕ) → List (List ℕ)
words_of_later l index words = take (l.first + l.count * (l.data_words + l.pointers) - place_behind l index) (drop (place_behind l index) words)

-- Where their targets begin, if it is told where they end.
abbrev pub TellsBegin : Structs → ℕ → Option ℕ → List (List ℕ) → Option ℕ → Type 0
TellsBegin l index end words begin = (m : ℕ) (es : Elements) → element_count es + (index + 1) ≡ l.count → AreCells m l.data_words l.pointers es (words_of_later l index words)
    → IsEnd end (place_behind l index + length (words_of_later l index words) + m + length (element_bodies es)) → IsEnd begin (place_behind l index + length (words_of_later l index words) + m)

-- What the pointers of the elements behind one lead to is moved, as a message of n words gets m.
abbrev pub MovesElements : Structs → ℕ → ℕ → ℕ → List (List ℕ) → List (List ℕ) → Type 0
MovesElements list index old new from to = (n before after : ℕ) (es : Elements) (x r : List ℕ) → n ≤ length from → element_count es + (index + 1) ≡ list.count → FitElements list.data_words list.pointers es
    → before + new ≡ after + old → AreNear before list.data_words list.pointers es → AreNear after list.data_words list.pointers es
    → length x ≡ list.first + (index + 1) * (list.data_words + list.pointers)
    → filled n from ≡ x ++ (cells before list.data_words list.pointers es ++ r) → filled n to ≡ x ++ (cells after list.data_words list.pointers es ++ r)
