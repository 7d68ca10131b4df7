use Rattle.capnp_stream_packed.proofs.SizeLemmas.{packed-none, packed-most}
use Rattle.capnp_stream_packed.proofs.laws.sizes_of_pieces.Goals as goal

pub returns-clause-none : goal.returns-clause-none
returns-clause-none c = packed-none

pub returns-clause-most : goal.returns-clause-most
returns-clause-most c = packed-most
