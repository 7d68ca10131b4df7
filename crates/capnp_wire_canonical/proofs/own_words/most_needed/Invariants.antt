-- The most of the first i.
use Rattle.std.proofs.Common.{◌≡◌, ◌≤◌}
use Rattle.capnp_model.specs.Sections.{needed_words}
use Rattle.capnp_units.specs.Segments.{words_in}
use Rattle.capnp_wire_objects.specs.Places.{place_view}
use Rattle.capnp_wire_objects.specs.Inside.{section_at, words_there}
use Rattle.capnp_wire_canonical.specs.Widths.{kept, widest}
use Rattle.capnp_wire_canonical.proofs.own_words.most_needed.Given as goal

abbrev pub invariant-loop-i : goal.invariant-loop-i
invariant-loop-i g l =
    let s = words_in (g.A.ReaderArena.segments l.arena) in
    let p = place_view l.start in
    record {
      needed : l.most ≡ widest (λ q. needed_words l.words (section_at s q l.words)) p l.width l.i;
      kept : l.most ≡ widest (λ q. kept (words_there s q l.words)) p l.width l.i;
      few : l.most ≤ l.words;
    }
