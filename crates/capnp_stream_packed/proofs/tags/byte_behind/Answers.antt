use Rattle.std.proofs.Common.{ℕ, List, get_or, ap, ◌∙◌, arith}
use Rattle.capnp_stream_packed.specs.Tags.{marks}
use Rattle.capnp_stream_packed.proofs.TagLemmas.{not-full, byte-shifted}
use Rattle.capnp_stream_packed.proofs.tags.byte_behind.Goals as goal

pub overflow_shr-left : goal.overflow_shr-left
overflow_shr-left c = let below = not-full c.args.tag (omega arith) c.requires in omega (arith, c.marked.ensures.count)

pub returns : goal.returns
returns c = ap (λ (l : List ℕ). get_or l 0 0) c.to_le_bytes.ensures ∙ byte-shifted c.args.behind.now c.from_le_bytes.result c.marked.result (marks 8 c.args.tag) (omega arith) c.are_bytes.ensures (not-full c.args.tag (omega arith) c.requires) c.from_le_bytes.ensures c.marked.ensures.count
