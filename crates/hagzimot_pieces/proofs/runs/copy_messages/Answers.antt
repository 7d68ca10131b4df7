use Rattle.std.proofs.Common.{◌∷◌, [], ◌++◌, refl, arith, length-append}
use Rattle.hagzimot_pieces.specs.Pieces.{copying}
use Rattle.hagzimot_pieces.proofs.CopyLemmas.{Copied-nil, Copied-more}
use Rattle.hagzimot_pieces.proofs.runs.copy_messages.Goals as goal

pub loop-copied-init : goal.loop-copied-init
loop-copied-init g c = record { bound = omega arith; run = ([], refl, Copied-nil _ _) }

pub loop-copied-preserved : goal.loop-copied-preserved
loop-copied-preserved g c =
    let run = c.loop-copied.invariant.run in
    let one = rw c.in-Ok-true.field-0-test at c.in-Ok-true.ensures in
    let number = run.1 in
    let test = c.loop-copied-test.true in
    record {
      bound = omega (arith, test);
      run = (
        run.0 ++ one.0 ∷ [],
        omega (arith, number, length-append run.0 (one.0 ∷ [])),
        Copied-more (copying g.I.MessageForm.reader g.O.MessageForm.writer c.args.limit) g.met.I.MessageForm.fronts run.0 one.0 _ _ _ run.2 one.1,
      );
    }
