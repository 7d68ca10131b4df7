-- what is left comes behind what was laid out
use Rattle.std.proofs.Common.{◌≡◌, ◌++◌, map, length}
use Rattle.capnp_source_layout.specs.Sections.{size_of, offsets_of, words_of, offsets_from, words_behind}
use Rattle.capnp_source_layout.proofs.sections.data_section.Given as goal

abbrev pub invariant-loop-left : goal.invariant-loop-left
invariant-loop-left l = record {
  offsets : l.offsets.items ++ offsets_from l.words l.holes (map size_of l.left) ≡ offsets_of l.sizes;
  words : words_behind l.words l.holes (map size_of l.left) ≡ words_of l.sizes;
}

abbrev pub decreases-loop-left : goal.decreases-loop-left
decreases-loop-left l = length l.left
