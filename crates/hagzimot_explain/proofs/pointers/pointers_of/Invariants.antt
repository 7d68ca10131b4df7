-- The pointers so far are reached, and those of the first objects are among them.
use Rattle.std.proofs.Common.{◌≡◌, ◌+◌, ◌<◌, ◌≤◌, ◌^◌, None, length, take}
use Rattle.std.specs.List.{Contains, sum_by}
use Rattle.capnp_model.specs.Segments.{Place, root, word_at}
use Rattle.capnp_units.specs.Segments.{words_in}
use Rattle.capnp_wire_objects.specs.declared.place.Place.{Place as Pointer}
use Rattle.capnp_wire_objects.specs.Places.{place_view, placed}
use Rattle.hagzimot_explain.specs.Rows.{value_of}
use Rattle.hagzimot_explain.specs.Parts.{object_there}
use Rattle.hagzimot_explain.specs.Reached.{IsReached, AreListed, HasPointersOf, step_cost}
use Rattle.hagzimot_explain.proofs.pointers.pointers_of.Given as goal

abbrev pub invariant-loop-next : goal.invariant-loop-next
invariant-loop-next g l = record {
  listed : AreListed l.seen.items l.places.items;
  absent : (q : Place) → q.segment < 2 ^ 32 → value_of l.seen.items q ≡ None → word_at (words_in (g.S.ReaderSegments.segments l.segments)) q ≡ None;
  reached : (p : Pointer) → Contains l.places.items p → IsReached (words_in (g.S.ReaderSegments.segments l.segments)) (place_view p);
  root_in : Contains l.places.items (placed root);
  closed : (p : Pointer) → Contains (take l.next l.places.items) p → HasPointersOf (object_there (words_in (g.S.ReaderSegments.segments l.segments)) (place_view p)) l.places.items;
  spent : l.left + sum_by (step_cost (words_in (g.S.ReaderSegments.segments l.segments))) (take l.next l.places.items) ≡ l.words;
  within : l.next ≤ length l.places.items;
}

abbrev pub decreases-loop-next : goal.decreases-loop-next
decreases-loop-next g l = l.left
