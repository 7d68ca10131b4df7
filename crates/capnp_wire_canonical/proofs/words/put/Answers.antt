-- A word is that of its bytes.
use Rattle.std.proofs.Common.{set, ◌+◌, ap, ◌∙◌, arith}
use Rattle.std.specs.Int.{from_le_bytes, w64}
use Rattle.std.proofs.Math.ListN.{length-set}
use Rattle.std.proofs.lemmas.List.{map-set, drop-set-lt}
use Rattle.std.proofs.lemmas.Nat.{from_le_bytes-to_le_bytes_8}
use Rattle.capnp_wire_canonical.specs.Writes.{words_view}
use Rattle.capnp_wire_canonical.proofs.words.put.Goals as goal

pub returns-clause-words : goal.returns-clause-words
returns-clause-words c =
    map-set (from_le_bytes w64) c.args.into.now c.args.at c.to_le_bytes.result
    ∙ ap (set (words_view c.args.into.now) c.args.at) (ap (from_le_bytes w64) c.to_le_bytes.ensures ∙ from_le_bytes-to_le_bytes_8 c.args.word c.ranges.word.fits)

pub returns-clause-behind : goal.returns-clause-behind
returns-clause-behind c = (length-set c.args.into.now c.args.at c.to_le_bytes.result, drop-set-lt (c.args.at + 1) c.args.into.now c.args.at c.to_le_bytes.result (omega arith))
