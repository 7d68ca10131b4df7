use Rattle.std.proofs.Common.{◌<◌, ◌^◌, ℕ, sym, subst, arith}
use Rattle.capnp_stream_packed.proofs.RunLemmas.{tag-small}
use Rattle.capnp_stream_packed.proofs.TagLemmas.{tag-is}
use Rattle.capnp_stream_packed.proofs.tags.tag_of.Goals as goal

pub overflow_cast-result : goal.overflow_cast-result
overflow_cast-result c = record { fits = subst (λ (n : ℕ). n < 2 ^ 8) (sym (tag-is c.args.word.now (omega arith))) (tag-small 8 c.args.word.now (omega arith)) }

pub returns : goal.returns
returns c = tag-is c.args.word.now (omega arith)
