-- The first of the row are added.
use Rattle.std.proofs.Common.{ℕ, ◌<◌}
use Rattle.std.specs.List.{Contains}
use Rattle.capnp_model.specs.Segments.{after}
use Rattle.capnp_wire_objects.specs.Places.{place_view, placed}
use Rattle.hagzimot_explain.specs.Reached.{Adds, IsInRow}
use Rattle.hagzimot_explain.proofs.pointers.add_row.Given as goal

abbrev pub invariant-loop-i : goal.invariant-loop-i
invariant-loop-i l = record {
  adds : Adds (IsInRow (place_view l.first) l.i) l.fn.places.items l.places.items l.fn.seen.items l.seen.items;
  has : (i : ℕ) → i < l.i → Contains l.places.items (placed (after (place_view l.first) i));
}
