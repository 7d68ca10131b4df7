-- What the calls so far put is put; before the first the words are as they were.
use Rattle.std.proofs.Common.{◌≡◌, ◌<◌, ◌≤◌, true, false, take, length}
use Rattle.capnp_model.specs.Trees.{Tree}
use Rattle.capnp_model.specs.Fits.{Fits}
use Rattle.capnp_model.specs.Encoding.{canonical_words}
use Rattle.capnp_wire_canonical.specs.Writes.{filled}
use Rattle.capnp_calls_splice.specs.Splices.{StandsWithin, StandAsBefore}
use Rattle.capnp_calls_in_place.specs.CallSplices.{have_splices}
use Rattle.capnp_calls_in_place.proofs.CallWays.{splices_of}
use Rattle.capnp_calls_in_place.proofs.SpliceRuns.{HaveSpliced}
use Rattle.capnp_calls_in_place.proofs.splices.write_splices.Given as goal

abbrev pub invariant-loop-call : goal.invariant-loop-call
invariant-loop-call l = record {
  inside : l.left ≤ length l.words.items;
  start : l.is_whole ≡ true → l.left ≡ l.fn.count;
  whole : l.is_whole ≡ true → StandAsBefore l.fn.count l.fn.words.items l.words.items;
  some : l.is_whole ≡ false → 0 < l.call-index;
  stands : l.is_whole ≡ false → StandsWithin l.words.items l.left;
  have : have_splices (take l.call-index l.calls) ≡ true;
  puts : (t : Tree) → Fits t → filled l.fn.count l.fn.words.items ≡ canonical_words t → HaveSpliced (splices_of (take l.call-index l.calls)) t (filled l.left l.words.items);
}
