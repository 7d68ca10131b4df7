-- A slot behind a pointer that is set to a text or data, as the model puts it.
use Rattle.std.proofs.Common.{◌≡◌, ℕ, ◌*◌, ◌^◌, ◌<◌, ◌≤◌, List, length, map, Ok, Err, Option, Some, None, refl, sym, ap, subst, ◌∙◌}
use Rattle.std.specs.Prelude.{⊤, option_map}
use Rattle.capnp_model.specs.Segments.{Place, after}
use Rattle.capnp_model.specs.Sections.{words_for}
use Rattle.capnp_model.specs.Schemas.{Ty, Field as FieldNode, pointer_slot}
use Rattle.capnp_model.specs.Sizes.{object_words}
use Rattle.capnp_model.specs.Trees.{Tree}
use Rattle.capnp_model.specs.Calls.{object, blob_tree}
use Rattle.capnp_model.specs.Edits.{Cell, Edit, put_child}
use Rattle.capnp_units.specs.Segments.{words_in}
use Rattle.capnp_units.specs.declared.errors.Error.{Error}
use Rattle.capnp_wire_objects.specs.Places.{place_view}
use Rattle.capnp_wire_objects.specs.declared.place.Place as code
use Rattle.capnp_values_queries.specs.Fields.{Entry, union_in}
use Rattle.capnp_values_queries.specs.Structs.{shape_of_struct}
use Rattle.capnp_values_queries.specs.Handles.{entry_of_field, IsFieldRecord}
use Rattle.capnp_values_queries.specs.declared.fields.Field.{Field}
use Rattle.capnp_copy_arenas.specs.Allocations.{TakesJust, TakesAtMost}
use Rattle.capnp_copy_arenas.specs.declared.fields.StructPlace.{StructPlace}
use Rattle.capnp_copy_arenas.proofs.lemmas.Taken.{takes_so, bounds_so}
use Rattle.capnp_values.specs.declared.dynamic_value.Reader.{Reader}
use Rattle.capnp_layout_builders.specs.Making.{ArenaState, Makes, ListRefused, BytesRefused}
use Rattle.capnp_schema_structs.specs.Edits.{Edits, marked, marked_in}
use Rattle.capnp_schema_structs.specs.Given.{bytes_given, set_content, set_edit}
use Rattle.capnp_schema_structs.specs.Puts.{PutsObject, PutsContent}
use Rattle.capnp_schema_structs.proofs.lemmas.Deeper.{puts_child, deepens_then, deepens_same, mark_last}
use Rattle.capnp_schema_structs.proofs.lemmas.SetSlots.{some_bytes, edit_is, puts_as}

-- ---- an object that is made at a pointer of the struct

module _ (old mid : ArenaState) (p : StructPlace) (slot : code.Place) (i : ℕ) (at_is : place_view slot ≡ after (after (place_view p.start) p.data_words) i) where
  same_segment : slot.segment ≡ p.start.segment
  same_segment = ap (λ (q : Place). q.segment) at_is

  pub object_made : (t : Tree) (n : ℕ) → object_words t ≡ n → i < p.pointers → Makes old mid slot t n → PutsObject old mid p (put_child i t) (object_words t)
  object_made t n words l m =
      let s = words_in old.segments in
      let u = words_in mid.segments in
      let just = subst (λ k. TakesJust s old.room u k n) same_segment m.taken in
      record {
        writes = puts_child s u p i t (place_view slot) l at_is m.becomes;
        taken = subst (λ k. TakesJust s old.room u p.start.segment k) (sym words) just;
        bound = subst (λ k. TakesAtMost s u k 1) (sym words) m.bound;
      }

  pub object_refused : (TooLong : Type 0) (t : Tree) (n : ℕ) (e : Error) → object_words t ≡ n → ListRefused old slot.segment TooLong n e → ListRefused old p.start.segment TooLong (object_words t) e
  object_refused TooLong t n e words h =
      let here = subst (λ k. ListRefused old k TooLong n e) same_segment h in
      subst (λ k. ListRefused old p.start.segment TooLong k e) (sym words) here

-- more is written, and nothing taken
pub written_after : (old mid new : ArenaState) (p : StructPlace) (f g : Edit) (n : ℕ) → PutsObject old mid p f n → Edits (words_in mid.segments) (words_in new.segments) p g → map length (words_in new.segments) ≡ map length (words_in mid.segments) → PutsObject old new p (λ c. g (f c)) n
written_after old mid new p f g n h k sizes =
    record {
      writes = deepens_then (words_in old.segments) (words_in mid.segments) (words_in new.segments) p f g h.writes k;
      taken = takes_so (words_in old.segments) old.room (words_in mid.segments) (words_in new.segments) p.start.segment n sizes h.taken;
      bound = bounds_so (words_in old.segments) (words_in mid.segments) (words_in new.segments) n 1 sizes h.bound;
    }

pub puts_same : (old new : ArenaState) (p : StructPlace) (f g : Edit) (n : ℕ) → ((c : Cell) → f c ≡ g c) → PutsObject old new p f n → PutsObject old new p g n
puts_same old new p f g n e h = record { writes = deepens_same (words_in old.segments) (words_in new.segments) p f g e h.writes; taken = h.taken; bound = h.bound }

-- the union is marked last
pub marked_last : (union : Option ℕ) (o : Option Entry) (i : ℕ) (t : Tree) (c : Cell) → marked_in union o (put_child i t c) ≡ put_child i t (marked_in union o c)
marked_last union None i t c = refl
marked_last union (Some e) i t c = mark_last union e.member i t c

-- ---- texts and data

-- the words of a list of bytes
pub bytes_words : (bytes : List ℕ) → object_words (blob_tree bytes) ≡ words_for (8 * length bytes)
unfolding object_words
bytes_words bytes = refl

module _ {A : Type 0} (v : Reader A) (f : Field) (r : FieldNode) (is : IsFieldRecord f.parent f.index r) (i : ℕ) (ty : Ty) (d : Option Tree) (same : option_map (λ e. e.body) (entry_of_field f) ≡ Some (pointer_slot i ty d)) (bytes : List ℕ) (given : bytes_given v ty ≡ Some bytes) where
  pub sets_bytes : (old mid new : ArenaState) (p : StructPlace) (slot : code.Place) → place_view slot ≡ after (after (place_view p.start) p.data_words) i → i < p.pointers → Makes old mid slot (blob_tree bytes) (words_for (8 * length bytes)) → Edits (words_in mid.segments) (words_in new.segments) p (marked f)
      → map length (words_in new.segments) ≡ map length (words_in mid.segments) → PutsContent {X = ⊤} old new p (set_edit f v) (set_content v (entry_of_field f)) (Ok tt)
  sets_bytes old mid new p slot at_is l m k sizes =
      let t = blob_tree bytes in
      let content = some_bytes v i ty d bytes given in
      let made = object_made old mid p slot i at_is (blob_tree bytes) (words_for (8 * length bytes)) (bytes_words bytes) l m in
      let both = written_after old mid new p (put_child i (blob_tree bytes)) (marked f) (object_words (blob_tree bytes)) made k sizes in
      let union = union_in (shape_of_struct f.parent) in
      let whole = puts_same old new p (λ c. marked f (put_child i (blob_tree bytes) c)) (set_edit f v) (object_words (blob_tree bytes))
      (λ c. marked_last union (entry_of_field f) i (blob_tree bytes) c ∙ edit_is v f r is (pointer_slot i ty d) same (object (blob_tree bytes)) content c) both in
      puts_as v f r is (pointer_slot i ty d) same (object (blob_tree bytes)) content old new p (Ok tt) (whole, tt)

  pub refuses_bytes : (old new : ArenaState) (p : StructPlace) (slot : code.Place) (e : Error) → place_view slot ≡ after (after (place_view p.start) p.data_words) i → BytesRefused old slot.segment (length bytes) e → PutsContent {X = ⊤} old new p (set_edit f v) (set_content v (entry_of_field f)) (Err e)
  refuses_bytes old new p slot e at_is h =
      let content = some_bytes v i ty d bytes given in
      let refused = object_refused old new p slot i at_is (2 ^ 29 ≤ length bytes) (blob_tree bytes) (words_for (8 * length bytes)) e (bytes_words bytes) h in
      puts_as v f r is (pointer_slot i ty d) same (object (blob_tree bytes)) content old new p (Err e) (tt, refused)
