-- Behind n all words are 0.
use Rattle.std.proofs.Common.{◌≡◌, ◌≤◌, drop}
use Rattle.capnp_model.specs.Sections.{section_of}
use Rattle.capnp_units.specs.Segments.{words_in}
use Rattle.capnp_wire_objects.specs.Places.{place_view}
use Rattle.capnp_wire_objects.specs.Inside.{words_there}
use Rattle.capnp_wire_canonical.specs.Widths.{kept}
use Rattle.capnp_wire_canonical.proofs.own_words.more_needed.Given as goal

abbrev pub invariant-loop-n : goal.invariant-loop-n
invariant-loop-n g l = record {
  few : l.n ≤ l.count;
  zeros : kept (drop l.n (words_there (words_in (g.A.ReaderArena.segments l.arena)) (place_view l.start) l.count)) ≡ 0;
  nothing : section_of (drop l.n (words_there (words_in (g.A.ReaderArena.segments l.arena)) (place_view l.start) l.count)) ≡ 0;
}

abbrev pub decreases-loop-n : goal.decreases-loop-n
decreases-loop-n g l = l.n
