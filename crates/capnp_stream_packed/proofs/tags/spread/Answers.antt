use Rattle.std.proofs.Common.{◌<◌, ℕ, List, get_or, sym, subst, arith}
use Rattle.capnp_stream_packed.proofs.TagLemmas.{row-small, spread-is}
use Rattle.capnp_stream_packed.proofs.tags.spread.Goals as goal

pub at_places-requires : goal.at_places-requires
at_places-requires c = λ i. subst (λ (row : List ℕ). get_or row i 0 < 9) (sym c.sources_of.ensures) (row-small c.args.tag i)

pub returns : goal.returns
returns c = spread-is c.args.tag c.args.behind.now c.sources_of.result c.at_places.result (omega arith) c.sources_of.ensures c.at_places.ensures
