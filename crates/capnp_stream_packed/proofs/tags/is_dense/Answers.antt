use Rattle.std.proofs.Common.{leb, ap, ◌∙◌, arith}
use Rattle.capnp_stream_packed.specs.Tags.{marks}
use Rattle.capnp_stream_packed.proofs.TagLemmas.{dense-is}
use Rattle.capnp_stream_packed.proofs.tags.is_dense.Goals as goal

pub returns : goal.returns
returns c = ap (leb 7) (c.marked.ensures.count ∙ ap (marks 8) c.tag_of.ensures) ∙ dense-is c.args.word.now (omega arith) c.are_bytes.ensures
