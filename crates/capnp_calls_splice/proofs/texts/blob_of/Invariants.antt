-- The words so far are the lowest bits of the bytes' number.
use Rattle.std.proofs.Common.{◌≡◌, ◌*◌, ◌%◌, ◌^◌, length}
use Rattle.capnp_model.specs.Sections.{number_of, section_of}
use Rattle.capnp_model.specs.Spelling.{AreWords}
use Rattle.capnp_wire_canonical.specs.Writes.{words_view}
use Rattle.capnp_calls_splice.proofs.texts.blob_of.Given as goal

abbrev pub invariant-loop-i : goal.invariant-loop-i
invariant-loop-i l = record {
  long : length l.words.items ≡ l.i;
  whole : AreWords (words_view l.words.items);
  low : section_of (words_view l.words.items) ≡ number_of 8 l.bytes % 2 ^ (64 * l.i);
}
