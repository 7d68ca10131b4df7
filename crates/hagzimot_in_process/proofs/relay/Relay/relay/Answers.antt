use Rattle.hagzimot_in_process.specs.Relays.{IsRootIn}
use Rattle.hagzimot_in_process.proofs.Runs.{ended_of}
use Rattle.hagzimot_in_process.proofs.relay.Relay.relay.Goals as goal

pub returns-clause-ends : goal.returns-clause-ends
returns-clause-ends c =
    let is_root : IsRootIn c.args.self.now c.root-root.result = record { known = c.root-root.ensures.known; nodes = c.root-root.ensures.nodes; id = c.root-root.ensures.id } in
    ended_of c.runs_over_known_bytes.ensures.finished c.runs_over_known_bytes.ensures.broken c.args.self.now _ c.args.input.now c.relay_pausing.new.source.now c.root-root.result is_root c.as_slice.result.now c.clear.new.self.items c.clear-2.new.self.items c.relay_pausing.result c.as_slice.ensures.value c.clear.ensures.items c.clear-2.ensures.items c.relay_pausing.ensures.run
