-- The pointers of the first elements are added.
use Rattle.std.proofs.Common.{ℕ, ◌<◌, ◌+◌, ◌*◌}
use Rattle.std.specs.List.{Contains}
use Rattle.capnp_model.specs.Segments.{after}
use Rattle.capnp_wire_objects.specs.Places.{place_view, placed}
use Rattle.hagzimot_explain.specs.Reached.{Adds, IsInElements}
use Rattle.hagzimot_explain.proofs.pointers.add_elements.Given as goal

abbrev pub invariant-loop-i : goal.invariant-loop-i
invariant-loop-i l = record {
  adds : Adds (IsInElements (place_view l.start) l.i l.data_words l.pointers) l.fn.places.items l.places.items l.fn.seen.items l.seen.items;
  has : (e : ℕ) (i : ℕ) → e < l.i → i < l.pointers → Contains l.places.items (placed (after (place_view l.start) (e * (l.data_words + l.pointers) + l.data_words + i)));
}
