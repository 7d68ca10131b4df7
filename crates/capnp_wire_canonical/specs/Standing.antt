-- Canonical words where they stand: a pointer at a place, and from a head on, behind it in its segment, the words of what it points to. (Encoding, "Canonicalization")
use Rattle.std.specs.Prelude.{◌≡◌, ℕ, ◌+◌, ◌-◌, ◌*◌, ◌%◌, ◌^◌, ◌<◌, ◌≤◌, List, [], length, Some, Ok, slice_get, unwrap_or}
use Rattle.capnp_model.specs.Sections.{words_for, words_of}
use Rattle.capnp_model.specs.Segments.{Segments, Place, place, word_at, words_at}
use Rattle.capnp_model.specs.Spelling.{AreWords}
use Rattle.capnp_model.specs.Trees.{Tree, Trees, Elements, tree_count, element_count}
use Rattle.capnp_model.specs.Encoding.{pointer, body, links, bodies, cells, element_bodies}
use Rattle.capnp_wire_objects.specs.declared.object.Object.{Object}
use Rattle.capnp_wire_objects.specs.Objects.{AreThere, object_at}
use Rattle.capnp_wire_objects.specs.Inside.{section_at}

-- The words from a place on begin with these.
abbrev pub Hold : Segments → Place → List ℕ → Type 0
Hold s p ws = words_at s p (length ws) ≡ Some ws

-- A value stands to an end: at a place the pointer to its words, and from the head on the words.
pub record Stands (s : Segments) (p : Place) (head : ℕ) (t : Tree) (end : ℕ) : Type 0 where
  pub link : word_at s p ≡ Some (pointer (head - p.position - 1) t)
  pub targets : Hold s (place p.segment head) (body t)
  pub ends : end ≡ head + length (body t)

-- Values in a row stand to an end: their pointers from a place on, and from the head on the words
-- of each.
pub record StandEach (s : Segments) (p : Place) (head : ℕ) (ts : Trees) (end : ℕ) : Type 0 where
  pub row : Hold s p (links 0 (head - p.position - tree_count ts) ts)
  pub targets : Hold s (place p.segment head) (bodies ts)
  pub ends : end ≡ head + length (bodies ts)

-- The elements of a list of structs stand to an end, with d data words and k pointers each.
pub record StandElements (s : Segments) (p : Place) (d k : ℕ) (head : ℕ) (es : Elements) (end : ℕ) : Type 0 where
  pub row : Hold s p (cells (head - p.position - element_count es * (d + k)) d k es)
  pub targets : Hold s (place p.segment head) (element_bodies es)
  pub ends : end ≡ head + length (element_bodies es)

-- The words of a segment, `None` where it isn't there.
unfoldable pub segment_words : Segments → ℕ → List ℕ
segment_words s i = unwrap_or (slice_get s i) []

-- The segment of a place has no more words than a message.
abbrev pub IsSmall : Segments → Place → Type 0
IsSmall s p = length (segment_words s p.segment) < 2 ^ 29

-- There is a head at least n words behind a place, among words of 64 bits.
pub record HasHead (s : Segments) (p : Place) (n head : ℕ) : Type 0 where
  pub behind : p.position + n ≤ head
  pub there : AreThere s (place p.segment head) 0
  pub whole : AreWords (segment_words s p.segment)

-- The pointer at a place leads to an object.
abbrev pub LeadsToObject : Segments → Place → Object → Type 0
LeadsToObject s p o = (pads : ℕ) × (object_at s p ≡ Ok (record { pads = pads; object = o }))

-- The pointer at a place leads to an object, and there is a head behind it that its offset reaches.
pub record ReachesHead (s : Segments) (p : Place) (head : ℕ) (o : Object) : Type 0 where
  pub leads : LeadsToObject s p o
  pub given : HasHead s p 1 head
  pub near : head ≤ p.position + 2 ^ 29

-- In the words from a place on that hold n bits, the bits behind those are 0.
abbrev pub EndsClear : Segments → Place → ℕ → Type 0
EndsClear s p bits = let section = section_at s p (words_for bits) in words_of (words_for bits) (section % 2 ^ bits) ≡ words_of (words_for bits) section
