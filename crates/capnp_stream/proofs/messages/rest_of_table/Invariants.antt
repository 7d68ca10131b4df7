use Rattle.std.proofs.Common.{◌≡◌, ◌-◌, ◌%◌, ◌++◌, length, drop, map}
use Rattle.capnp_model.specs.Messages.{paired}
use Rattle.capnp_units.specs.Segments.{whole_words, words_in}
use Rattle.capnp_stream.proofs.messages.rest_of_table.Given as goal

abbrev pub invariant-loop-id : goal.invariant-loop-id
invariant-loop-id g l = record {
  whole : length l.table.items % 8 ≡ 0;
  odd : l.id % 2 ≡ 1;
  made : whole_words l.table.items ++ paired (map length (drop l.id (words_in (g.S.ReaderSegments.segments l.segments)))) ≡ paired (map length (drop 1 (words_in (g.S.ReaderSegments.segments l.segments))));
}

abbrev pub decreases-loop-id : goal.decreases-loop-id
decreases-loop-id g l = length (g.S.ReaderSegments.segments l.segments) - l.id
