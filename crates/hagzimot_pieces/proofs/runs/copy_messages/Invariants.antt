use Rattle.std.proofs.Common.{◌≡◌, List, ◌≤◌, ◌-◌, length}
use Rattle.capnp_model.specs.Segments.{Segments}
use Rattle.hagzimot_pieces.specs.Pieces.{Copied, copying, flow_of}
use Rattle.hagzimot_pieces.proofs.runs.copy_messages.Given as goal

abbrev pub invariant-loop-copied : goal.invariant-loop-copied
invariant-loop-copied g l = record {
  bound : l.copied ≤ l.most;
  run : (messages : List Segments) × (length messages ≡ l.copied)
      × Copied (copying g.I.MessageForm.reader g.O.MessageForm.writer l.limit) messages (flow_of g.R.Read g.W.Write l.initial.source l.initial.out) (flow_of g.R.Read g.W.Write l.source l.out);
}

abbrev pub decreases-loop-copied : goal.decreases-loop-copied
decreases-loop-copied g l = l.most - l.copied
