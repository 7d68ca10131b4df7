use Rattle.capnp_relay_streams.specs.Relaying.{relay_work}
use Rattle.capnp_relay_streams.proofs.Whole.{fronts_of, GoesTo-of_all, GoesTo-of_framing}
use Rattle.capnp_relay_streams.proofs.laws.runs_over_known_bytes.Goals as goal

pub returns-clause-finished : goal.returns-clause-finished
returns-clause-finished g c root calls options old new counts all =
    GoesTo-of_all (relay_work root calls options g.W.Write.may_grow g.L.Write.may_grow) (fronts_of c.reads_fronts.ensures c.reads_fronts-2.ensures options.input) old new counts all

pub returns-clause-broken : goal.returns-clause-broken
returns-clause-broken g c root calls options old new counts kind stops =
    GoesTo-of_framing (relay_work root calls options g.W.Write.may_grow g.L.Write.may_grow) (fronts_of c.reads_fronts.ensures c.reads_fronts-2.ensures options.input) old new counts kind stops
