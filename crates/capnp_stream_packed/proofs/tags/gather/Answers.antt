use Rattle.std.proofs.Common.{◌<◌, ℕ, List, get_or, sym, subst, arith}
use Rattle.capnp_stream_packed.proofs.TagLemmas.{gathers-small, gather-is}
use Rattle.capnp_stream_packed.proofs.tags.gather.Goals as goal

pub at_places-requires : goal.at_places-requires
at_places-requires c = λ i. subst (λ (row : List ℕ). get_or row i 0 < 9) (sym c.places_of.ensures) (gathers-small c.args.tag i)

pub returns : goal.returns
returns c = gather-is c.args.tag c.args.word.now c.places_of.result c.at_places.result (omega arith) c.requires c.places_of.ensures c.at_places.ensures
