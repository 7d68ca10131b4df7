-- the ids are those that the iterator gives
use Rattle.std.proofs.Common.{rules, nat_eq}
use Rattle.std.specs.HashSet as set
use Rattle.std.proofs.lemmas.Iterator.{YieldsList-from_map, YieldsList-from_slice}
use Rattle.std.proofs.lemmas.Iterator.Adapters.{fact_from_collect}
use Rattle.std.proofs.lemmas.Iterator.Consumers.{YieldsList-at}
use Rattle.capnp_source_rules.proofs.groups.set_of.Goals as goal

pub returns : goal.returns
returns c =
    fact_from_collect (set.IsFromIterResult nat_eq) c.collect.result c.collect.ensures.ran
    (YieldsList-from_map _ (λ id. id) (YieldsList-at c.map.ensures.source (YieldsList-from_slice c.args.ids.now c.iter.ensures.rest)) c.map.ensures.closure (λ x r q k. search rules))
