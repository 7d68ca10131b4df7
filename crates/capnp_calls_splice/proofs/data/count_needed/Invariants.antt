-- The words that were passed over are zeros.
use Rattle.std.proofs.Common.{◌≡◌, ℕ, ◌*◌, ◌^◌, ◌<◌, ◌≤◌, length}
use Rattle.capnp_model.specs.Sections.{needed_words}
use Rattle.capnp_calls_splice.specs.DataWords.{AreData}
use Rattle.capnp_calls_splice.proofs.data.count_needed.Given as goal

abbrev pub invariant-loop-count : goal.invariant-loop-count
invariant-loop-count l = record {
  needed : (section : ℕ) → AreData l.slice section → (section < 2 ^ (64 * l.count)) × (needed_words (length l.slice) section ≡ needed_words l.count section);
  most : l.count ≤ length l.slice;
}

abbrev pub decreases-loop-count : goal.decreases-loop-count
decreases-loop-count l = l.count
