-- What a copy of an object asks for and gives.
use Rattle.std.specs.Prelude.{ℕ, ◌+◌, ◌*◌, ◌^◌, ◌<◌, ◌≤◌, List, length, Result}
use Rattle.capnp_model.specs.Segments.{Segments, Place, after}
use Rattle.capnp_model.specs.Trees.{Tree, Trees, Elements, no_elements, element, resized, has_capability, have_capability, elements_have_capability}
use Rattle.capnp_model.specs.Traversal.{tree_at, each, each_element}
use Rattle.capnp_model.specs.Trimming.{trim, trim_each, trim_elements, with_pointers}
use Rattle.capnp_model.specs.Coverage.{from_each, from_elements}
use Rattle.capnp_model.specs.Encoding.{canonical_words}
use Rattle.capnp_units.specs.declared.errors.Error.{Error}
use Rattle.capnp_wire_objects.specs.declared.object.Object.{Object}
use Rattle.capnp_wire_objects.specs.declared.object.Object.TheVariants as object
use Rattle.capnp_wire_objects.specs.Objects.{AreThere}
use Rattle.capnp_wire_objects.specs.Follow.{own_cost}
use Rattle.capnp_wire_objects.specs.Inside.{tree_in, met_in, section_at, words_there}
use Rattle.capnp_wire_canonical.specs.declared.cuts.Cut.{Cut}
use Rattle.capnp_wire_canonical.specs.Reaches.{Reach}
use Rattle.capnp_wire_canonical.specs.Widths.{kept}
use Rattle.capnp_wire_canonical.specs.Writes.{with_link, with_links, with_cells}
use Rattle.capnp_wire_canonical.specs.Copies.{copy_visits, CopyState, Copying, WritesCopy}

-- A list is short enough for a pointer or a tag to tell its count.
abbrev pub IsShort : Object → Type 0
IsShort (object.List p size n) = n < 2 ^ 29
IsShort (object.StructList p words n d k) = n < 2 ^ 30
IsShort _ = Unit {0}

-- Where the pointer to what is copied, or its own words, are put, and how many words are in use.
pub record WriteSpot : Type 0 where
  pub at : ℕ
  pub used : ℕ

-- The word at a place, and the words in use.
abbrev pub write_spot : ℕ → ℕ → WriteSpot
write_spot at used = record { at = at; used = used }

-- An object that is paid for: the pointer to it is put, and itself with what its pointers lead to. So many words may be written besides those that are paid.
abbrev pub object_copy : Reach → Object → WriteSpot → ℕ → Copying Tree
object_copy r o spot most = record {
  there = tree_in r.segments (tree_at r.levels r.segments) o;
  bad = has_capability;
  put = λ t. with_link spot.at (trim t);
  path = met_in (copy_visits r.levels r.segments) o;
  used = spot.used;
  most = most;
}

-- What is written of an object that is paid for.
abbrev pub WritesObject : Reach → Object → WriteSpot → CopyState → Result ℕ Error → CopyState → Type 0
WritesObject r o spot old result new = (most : ℕ) → spot.used + own_cost o ≤ most → WritesCopy (object_copy r o spot most) old result new

-- The canonical words of the value at a place, trimmed, over all words.
abbrev pub canonical_copy : Reach → Place → Copying Tree
canonical_copy r p = record {
  there = tree_at r.levels r.segments p;
  bad = has_capability;
  put = λ t words. canonical_words (trim t);
  path = copy_visits r.levels r.segments p;
  used = 1;
  most = 1;
}

-- The value at a place: the pointer to it is put over the word at another, its words behind those in use.
abbrev pub value_copy : Reach → Place → WriteSpot → Copying Tree
value_copy r p spot = record {
  there = tree_at r.levels r.segments p;
  bad = has_capability;
  put = λ t. with_link spot.at (trim t);
  path = copy_visits r.levels r.segments p;
  used = spot.used;
  most = spot.used;
}

-- The values of n pointers in a row.
abbrev pub row_copy : Reach → Place → ℕ → WriteSpot → Copying Trees
row_copy r p count spot = record {
  there = each (tree_at r.levels r.segments) p count;
  bad = have_capability;
  put = λ ts. with_links spot.at (spot.at + count) (trim_each ts);
  path = from_each (copy_visits r.levels r.segments) p count;
  used = spot.used;
  most = spot.used;
}

-- A struct that is cut: its own words are put over those from a place on, what its pointers lead to behind those in use.
abbrev pub element_copy : Reach → Place → Cut → WriteSpot → Copying Trees
element_copy r p c spot = record {
  there = each (tree_at r.levels r.segments) (after p c.data_words) c.pointers;
  bad = have_capability;
  put = λ ts. with_cells spot.at (spot.at + (c.kept_words + c.kept_pointers)) c.kept_words c.kept_pointers (element (section_at r.segments p c.data_words) (resized c.kept_pointers (trim_each ts)) no_elements);
  path = from_each (copy_visits r.levels r.segments) (after p c.data_words) c.pointers;
  used = spot.used;
  most = spot.used;
}

-- n structs among m words, each cut alike.
abbrev pub elements_copy : Reach → Place → ℕ → ℕ → Cut → WriteSpot → Copying Elements
elements_copy r p words count c spot = record {
  there = each_element (tree_at r.levels r.segments) p (words_there r.segments p words) c.data_words c.pointers count;
  bad = elements_have_capability;
  put = λ es. with_cells spot.at (spot.at + count * (c.kept_words + c.kept_pointers)) c.kept_words c.kept_pointers (with_pointers c.kept_pointers (trim_elements es));
  path = from_elements (copy_visits r.levels r.segments) p c.data_words c.pointers count;
  used = spot.used;
  most = spot.used;
}

-- There is a place among the words in use, which a message can have.
abbrev pub HasPlace : ℕ → ℕ → List (List ℕ) → Type 0
HasPlace end used into = (end ≤ used) × (used ≤ length into) × (used < 2 ^ 29)

-- A struct's own words are there, and what is cut off its pointers are nulls.
abbrev pub IsCut : Segments → Place → Cut → Type 0
IsCut s p c = AreThere s p (c.data_words + c.pointers) × (c.kept_words ≤ c.data_words) × (c.kept_pointers ≤ c.pointers) × (kept (words_there s (after p c.data_words) c.pointers) ≤ c.kept_pointers)
