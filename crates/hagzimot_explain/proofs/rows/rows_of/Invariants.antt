use Rattle.std.proofs.Common.{◌≡◌, ◌<◌, length}
use Rattle.capnp_model.specs.Segments.{Place}
use Rattle.capnp_units.specs.Segments.{words_in}
use Rattle.hagzimot_explain.specs.Rows.{value_of, for_word}
use Rattle.hagzimot_explain.proofs.rows.rows_of.Given as goal

abbrev pub invariant-loop-id : goal.invariant-loop-id
invariant-loop-id g l = record {
  count : length l.rows.items ≡ l.id;
  each : (q : Place) → q.segment < l.id → value_of l.rows.items q ≡ for_word (words_in (g.S.ReaderSegments.segments l.segments)) q l.value;
}
