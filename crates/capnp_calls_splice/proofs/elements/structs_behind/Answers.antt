-- The pointer leads to the tag, which tells of the elements.
use Rattle.std.proofs.Common.{arith}
use Rattle.capnp_calls_splice.proofs.Pointing.{structs_are}
use Rattle.capnp_calls_splice.proofs.elements.structs_behind.Goals as goal

pub returns-clause-behind : goal.returns-clause-behind
returns-clause-behind c = λ gap t x r f near e words at.
    structs_are t c.args.word c.from_le_bytes-tag.result gap c.gap_of.result c.args.end c.args.count c.gap_of-2.result c.args.words.now x r f near e c.if-word-ne1.false c.if-word-ne7.false c.gap_of.ensures words at (omega arith) c.from_le_bytes-tag.ensures c.gap_of-2.ensures
