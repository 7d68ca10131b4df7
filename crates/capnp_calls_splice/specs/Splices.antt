-- What is put into the structs of a value. Elements of lists get no wider and no narrower. (Encoding, "Structs" and "Lists")
use Rattle.std.specs.Prelude.{◌≡◌, ℕ, zero, suc, ◌+◌, ◌*◌, ◌^◌, ◌<◌, ◌≤◌, max, Option, Some, None, List, [], ◌∷◌, length, ⊤}
use Rattle.capnp_model.specs.Sections.{needed_words}
use Rattle.capnp_model.specs.Trees.{Tree, null, structure, plain_list, pointer_list, struct_list, Trees, Elements, no_elements, element, child, with_child, size_bits, tree_count, depths}
use Rattle.capnp_model.specs.Fits.{Fits}
use Rattle.capnp_model.specs.Encoding.{canonical_words}
use Rattle.capnp_model.specs.Edits.{Cell, put_child}
use Rattle.capnp_calls_splice.specs.Blobs.{tree_of_blob}
use Rattle.capnp_calls_splice.specs.declared.blob.Blob.{Blob}
use Rattle.capnp_calls_splice.specs.DataWords.{put_set}
use Rattle.capnp_calls_splice.specs.declared.plain.PlainSet.{PlainSet}
use Rattle.capnp_calls_splice.specs.declared.splice.Hop.{Hop}
use Rattle.capnp_calls_splice.specs.declared.splice.Hop.TheVariants as hops
use Rattle.capnp_calls_splice.specs.declared.splice.Put.{Put}
use Rattle.capnp_calls_splice.specs.declared.splice.Put.TheVariants as puts
use Rattle.capnp_calls_splice.specs.declared.splice.Splice.{Splice}
use Rattle.capnp_calls_splice.specs.declared.splice.Spliced.{Spliced}
use Rattle.capnp_calls_splice.specs.declared.splice.Spliced.TheVariants as outcomes
use Rattle.capnp_wire_canonical.specs.Writes.{filled}

-- A list of plain elements.
abbrev pub IsPlainList : Tree → Type 0
IsPlainList (plain_list size n section) = ⊤
IsPlainList _ = ⊥

-- A text or data takes the place of a list of plain elements, or of null in a row of values with so many levels of pointers.
abbrev pub TakesBlob : ℕ → Tree → Type 0
TakesBlob levels null = 0 < levels
TakesBlob levels (plain_list size n section) = ⊤
TakesBlob levels _ = ⊥

-- So it does at an index of values in a row. Null is one of them, and another leads to something.
pub record IsBlobSlot (i : ℕ) (ts : Trees) : Type 0 where
  pub inside : i < tree_count ts
  pub takes : TakesBlob (depths ts) (child ts i)

-- A number is put into the data, which are m words then instead of n: where all n were needed, all m are.
pub record PutsNumber (p : PlainSet) (n m : ℕ) (old new : Cell) : Type 0 where
  pub made : new ≡ record { section = put_set p old.section; kids = old.kids }
  pub fits : new.section < 2 ^ (64 * m)
  pub most : m ≤ max n (suc p.word)
  pub least : needed_words n old.section ≡ n → needed_words m new.section ≡ m

-- A number, if there is one.
abbrev pub PutsNumberIfAny : Option PlainSet → ℕ → ℕ → Cell → Cell → Type 0
PutsNumberIfAny None n m old new = (m ≡ n) × (new ≡ old)
PutsNumberIfAny (Some p) n m old new = PutsNumber p n m old new

-- A discriminant is put, and then the number of the member that it tells, if it has one.
pub record PutsMember (mark : PlainSet) (p : Option PlainSet) (n m : ℕ) (old new : Cell) : Type 0 where
  pub words : ℕ
  pub marked : Cell
  pub first : PutsNumber mark n words old marked
  pub second : PutsNumberIfAny p words m marked new

-- A list of bytes is put at an index of a list of pointers.
abbrev pub PutsBlobAt : ℕ → Blob → Tree → Tree → Type 0
PutsBlobAt k b (pointer_list ts) new = IsBlobSlot k ts × (new ≡ pointer_list (with_child ts k (tree_of_blob b)))
PutsBlobAt k b _ new = ⊥

-- A number has the place of the element at an index of a list of elements of its width.
abbrev pub IsElement : ℕ → PlainSet → Tree → Type 0
IsElement k p (plain_list size n section) = (size_bits size ≡ p.width) × (k < n) × (64 * p.word + p.shift ≡ p.width * k)
IsElement k p _ = ⊥

-- The data of a plain list after a number is put there.
abbrev pub set_element : PlainSet → Tree → Tree
set_element p (plain_list size n section) = plain_list size n (put_set p section)
set_element p t = t

-- What is put into a struct, or an element, of n words, which has m then.
abbrev pub PutsIntoCell : Put → ℕ → ℕ → Cell → Cell → Type 0
PutsIntoCell (puts.Number p) n m old new = PutsNumber p n m old new
PutsIntoCell (puts.Member mark p) n m old new = PutsMember mark p n m old new
PutsIntoCell (puts.Blob i b) n m old new = (m ≡ n) × IsBlobSlot i old.kids × (new ≡ put_child i (tree_of_blob b) old)
PutsIntoCell (puts.BlobAt i k b) n m old new = (m ≡ n) × (t : Tree) × PutsBlobAt k b (child old.kids i) t × (new ≡ put_child i t old)
PutsIntoCell (puts.NumberAt i k p) n m old new = (m ≡ n) × IsElement k p (child old.kids i) × (new ≡ put_child i (set_element p (child old.kids i)) old)

-- A change of a struct's words, data and children.
abbrev pub InStruct : (ℕ → ℕ → Cell → Cell → Type 0) → Tree → Tree → Type 0
InStruct f (structure words section kids) new = (m : ℕ) × (c : Cell) × f words m (record { section = section; kids = kids }) c × (new ≡ structure m c.section c.kids)
InStruct f _ new = ⊥

-- A change of the element at an index.
abbrev pub InElements : (Cell → Cell → Type 0) → ℕ → Elements → Elements → Type 0
InElements f k no_elements new = ⊥
InElements f zero (element section kids es) new = (c : Cell) × f (record { section = section; kids = kids }) c × (new ≡ element c.section c.kids es)
InElements f (suc k) (element section kids es) new = (more : Elements) × InElements f k es more × (new ≡ element section kids more)

-- A change of an element of a list of structs, which keeps its words.
abbrev pub InList : (ℕ → ℕ → Cell → Cell → Type 0) → ℕ → Tree → Tree → Type 0
InList f k (struct_list words pointers es) new = (more : Elements) × InElements (f words words) k es more × (new ≡ struct_list words pointers more)
InList f k _ new = ⊥

-- What is put into the struct that hops lead to.
abbrev pub PutsBehind : Put → List Hop → ℕ → ℕ → Cell → Cell → Type 0
PutsBehind put [] n m old new = PutsIntoCell put n m old new
PutsBehind put (hops.Pointer i ∷ way) n m old new = (m ≡ n) × (t : Tree) × InStruct (PutsBehind put way) (child old.kids i) t × (new ≡ put_child i t old)
PutsBehind put (hops.Group ∷ way) n m old new = PutsBehind put way n m old new
PutsBehind put (hops.Element i k ∷ way) n m old new = (m ≡ n) × (t : Tree) × InList (PutsBehind put way) k (child old.kids i) t × (new ≡ put_child i t old)

-- The value after what a splice puts.
abbrev pub IsSpliced : Splice → Tree → Tree → Type 0
IsSpliced p old new = InStruct (PutsBehind p.put p.hops.items) old new

-- These are the canonical words of the value after what a splice puts.
pub record HasSpliced (p : Splice) (t : Tree) (words : List ℕ) : Type 0 where
  pub value : Tree
  pub spliced : IsSpliced p t value
  pub fits : Fits value
  pub spelled : words ≡ canonical_words value

-- n words stand in a buffer, one or more and fewer than 2^29.
pub record StandsWithin (buffer : List (List ℕ)) (count : ℕ) : Type 0 where
  pub some : 0 < count
  pub few : count < 2 ^ 29
  pub inside : count ≤ length buffer

-- The words in use are as they were.
pub record StandAsBefore (count : ℕ) (old new : List (List ℕ)) : Type 0 where
  pub words : filled count new ≡ filled count old
  pub inside : count ≤ length new

-- What is told of a splice into n words at the front of a buffer.
abbrev pub TellsSplice : Splice → ℕ → List (List ℕ) → List (List ℕ) → Spliced → Type 0
TellsSplice p count old new (outcomes.Done n) = ((t : Tree) → Fits t → filled count old ≡ canonical_words t → HasSpliced p t (filled n new)) × StandsWithin new n
TellsSplice p count old new outcomes.Unplaced = StandAsBefore count old new
TellsSplice p count old new outcomes.Spoiled = ⊤

-- The most words that a number adds to a message, if there is one.
abbrev pub number_room : Option PlainSet → ℕ
number_room None = 0
number_room (Some p) = suc p.word

-- The most words that a put adds to a message.
abbrev pub put_room : Put → ℕ
put_room (puts.Number p) = suc p.word
put_room (puts.Member mark p) = max (suc mark.word) (number_room p)
put_room (puts.Blob i b) = length b.words.items
put_room (puts.BlobAt i k b) = length b.words.items
put_room (puts.NumberAt i k p) = 0
