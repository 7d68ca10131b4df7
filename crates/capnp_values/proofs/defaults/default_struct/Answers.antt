use Rattle.capnp_wire.specs.Views.{seen_pointer, seen_struct}
use Rattle.capnp_wire.specs.Reads.{read_struct}
use Rattle.capnp_values.specs.Sources.{null_root_segments}
use Rattle.capnp_values.proofs.lemmas.Unlimited.{answers_default}
use Rattle.capnp_values.proofs.defaults.default_struct.Goals as goal

pub returns : goal.returns
returns c =
    answers_default (seen_struct null_root_segments) (λ p. read_struct p.basis p.levels) (seen_pointer null_root_segments c.null.result) c.as_chunks.result.0.now c.args.bytes.now c.new-unlimited.result c.get_struct.new.limiter c.get_struct.result
    c.new-unlimited.ensures.left c.null.ensures c.as_chunks.ensures.front c.get_struct.ensures
