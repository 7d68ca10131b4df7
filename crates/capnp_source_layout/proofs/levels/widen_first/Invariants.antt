-- the sections have their sizes
use Rattle.std.proofs.Common.{◌≡◌}
use Rattle.capnp_source_layout.proofs.levels.widen_first.Given as goal

abbrev pub invariant-loop-at : goal.invariant-loop-at
invariant-loop-at l = record {
  words : l.sections.words ≡ l.fn.sections.words;
  pointers : l.sections.pointers ≡ l.fn.sections.pointers;
}
