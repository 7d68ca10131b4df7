use Rattle.std.proofs.Common.{◌*◌}
use Rattle.hagzimot_salvage.specs.Frames.{HasNoneBetween}
use Rattle.hagzimot_salvage.proofs.frames.next_frame.Given as goal

abbrev pub invariant-loop-word : goal.invariant-loop-word
invariant-loop-word l = HasNoneBetween l.limits l.bytes l.from (8 * l.word)
