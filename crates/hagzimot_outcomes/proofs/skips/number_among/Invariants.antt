-- what is left decides
use Rattle.std.proofs.Common.{◌≡◌, drop}
use Rattle.hagzimot_outcomes.specs.Skips.{number_among}
use Rattle.hagzimot_outcomes.proofs.skips.number_among.Given as goal

abbrev pub invariant-loop-before : goal.invariant-loop-before
invariant-loop-before l = number_among l.bits l.before (drop l.before l.probes) l.left ≡ number_among l.bits 0 l.probes l.number
