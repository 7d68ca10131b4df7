use Rattle.std.proofs.Common.{map}
use Rattle.capnp_records.specs.Sets.{nodes_of}
use Rattle.capnp_calls.specs.CallViews.{call_view}
use Rattle.capnp_calls_versions.specs.Renamed.{renamings_of}
use Rattle.capnp_values_queries.specs.Structs.{nodes_around, id_of}
use Rattle.capnp_relay.proofs.Admissions.{same_admission_with}
use Rattle.capnp_relay.proofs.versions.admitted_with.Goals as goal

pub returns-clause-answer : goal.returns-clause-answer
returns-clause-answer c =
    let a = c.root_of in
    let b = c.root_of-2 in
    same_admission_with (renamings_of c.args.renamings.now) c.admitted_with.result (map call_view c.args.calls.now) (nodes_of a.result.set.now) (nodes_of b.result.set.now) (nodes_around c.args.older) (nodes_around c.args.newer) a.result.id b.result.id (id_of c.args.older) (id_of c.args.newer) a.ensures.set b.ensures.set a.ensures.id b.ensures.id c.admitted_with.ensures.answer
