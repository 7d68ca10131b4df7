-- The first words are marked.
use Rattle.std.proofs.Common.{◌≡◌}
use Rattle.std.specs.Option.{option_map}
use Rattle.capnp_model.specs.Segments.{Place}
use Rattle.hagzimot_explain.specs.Rows.{value_of}
use Rattle.hagzimot_explain.specs.Marks.{marked}
use Rattle.hagzimot_explain.proofs.MarkLemmas.{front_mark}
use Rattle.hagzimot_explain.proofs.marking.mark_object.Given as goal

abbrev pub invariant-loop-i : goal.invariant-loop-i
invariant-loop-i l = (q : Place) → value_of l.words.items q ≡ option_map (marked (front_mark l.pointer l.object l.i q)) (value_of l.fn.words.items q)
