use Rattle.capnp_wire.specs.Views.{seen_pointer, seen_list}
use Rattle.capnp_wire.specs.Reads.{read_list}
use Rattle.capnp_values.specs.Sources.{null_root_segments}
use Rattle.capnp_values.proofs.lemmas.Unlimited.{answers_default}
use Rattle.capnp_values.proofs.defaults.default_list.Goals as goal

pub returns-clause-list : goal.returns-clause-list
returns-clause-list c =
    answers_default (seen_list null_root_segments) (λ p. read_list p.basis p.levels c.args.expected) (seen_pointer null_root_segments c.null.result) c.as_chunks.result.0.now c.args.bytes.now c.new-unlimited.result c.get_list.new.limiter c.get_list.result
    c.new-unlimited.ensures.left c.null.ensures c.as_chunks.ensures.front c.get_list.ensures.list
