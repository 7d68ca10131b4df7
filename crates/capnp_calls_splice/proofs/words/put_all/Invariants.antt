-- The numbers so far are put.
use Rattle.std.proofs.Common.{◌≡◌, ℕ, length, take}
use Rattle.capnp_calls_splice.specs.DataWords.{put_sets, AreData}
use Rattle.capnp_calls_splice.proofs.words.put_all.Given as goal

abbrev pub invariant-loop-set : goal.invariant-loop-set
invariant-loop-set l = record {
  section : (section : ℕ) → AreData l.fn.slice section → AreData l.slice (put_sets (take l.set-index l.sets) section);
  len : length l.slice ≡ length l.fn.slice;
}
