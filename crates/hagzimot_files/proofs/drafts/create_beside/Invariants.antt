use Rattle.std.specs.Prelude.{◌≡◌}
use Rattle.hagzimot_files.proofs.drafts.create_beside.Given as goal

abbrev pub invariant-loop-number : goal.invariant-loop-number
invariant-loop-number g l = g.F.Files.calls l.files ≡ g.F.Files.calls l.initial.files
