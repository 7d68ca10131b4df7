use Rattle.std.proofs.Common.{◌≡◌, ◌∙◌, true, false}
use Rattle.std.proofs.KnownBytes.{Keeps-trans}
use Rattle.hagzimot_show.proofs.Sinks.{grows_kept, grows_on, lines_kept, lines_on}
use Rattle.hagzimot_show.proofs.show.show_all.Goals as goal
use Rattle.hagzimot_show.proofs.show.show_all.Goals.{else-loop-number-test, then-loop-number-test+in_default+in-Ok-true+else-number-number-end}

pub returns-in-Ok-false-clause-out : goal.returns-in-Ok-false-clause-out
returns-in-Ok-false-clause-out g c = grows_on _ _ _ (grows_on _ _ _ c.loop-number.invariant.out (grows_kept _ _ c.pause.ensures.out)) c.show_next.ensures.out

pub returns-in-Ok-false-clause-log : goal.returns-in-Ok-false-clause-log
returns-in-Ok-false-clause-log g c = grows_on _ _ _ (grows_on _ _ _ c.loop-number.invariant.log (grows_kept _ _ c.pause.ensures.log)) c.show_next.ensures.log

pub returns-in-Err-show_next-clause-out : goal.returns-in-Err-show_next-clause-out
returns-in-Err-show_next-clause-out g c = grows_on _ _ _ (grows_on _ _ _ c.loop-number.invariant.out (grows_kept _ _ c.pause.ensures.out)) c.show_next.ensures.out

pub returns-in-Err-show_next-clause-log : goal.returns-in-Err-show_next-clause-log
returns-in-Err-show_next-clause-log g c = grows_on _ _ _ (grows_on _ _ _ c.loop-number.invariant.log (grows_kept _ _ c.pause.ensures.log)) c.show_next.ensures.log

pub loop-number-preserved : goal.loop-number-preserved
loop-number-preserved g c = record {
  out = grows_on _ _ _ (grows_on _ _ _ c.loop-number.invariant.out (grows_kept _ _ c.pause.ensures.out)) c.show_next.ensures.out;
  log = grows_on _ _ _ (grows_on _ _ _ c.loop-number.invariant.log (grows_kept _ _ c.pause.ensures.log)) c.show_next.ensures.log;
  chosen = c.show_next.ensures.chosen ∙ c.loop-number.invariant.chosen;
  count_out = λ only.
      let still : c.loop-number.shower.chosen.is_count ≡ true = rw c.loop-number.invariant.chosen only in
      Keeps-trans _ _ _ (Keeps-trans _ _ _ (c.loop-number.invariant.count_out only) c.pause.ensures.out) (c.show_next.ensures.count still).0;
  count_log = λ only.
      let still : c.loop-number.shower.chosen.is_count ≡ true = rw c.loop-number.invariant.chosen only in
      Keeps-trans _ _ _ (Keeps-trans _ _ _ (c.loop-number.invariant.count_log only) c.pause.ensures.log) (c.show_next.ensures.count still).1;
  counts = λ only.
      let still : c.loop-number.shower.chosen.is_count ≡ true = rw c.loop-number.invariant.chosen only in
      (c.show_next.ensures.count still).2 ∙ c.loop-number.invariant.counts only;
  shown = λ all.
      let still : c.loop-number.shower.chosen.is_count ≡ false = rw c.loop-number.invariant.chosen all in
      lines_on _ _ _ _ _ _ (lines_on _ _ _ _ _ _ (c.loop-number.invariant.shown all) (lines_kept _ _ _ c.pause.ensures.out)) (c.in-Ok-true.ensures.shown still);
  logged = λ all.
      let still : c.loop-number.shower.chosen.is_count ≡ false = rw c.loop-number.invariant.chosen all in
      lines_on _ _ _ _ _ _ (lines_on _ _ _ _ _ _ (c.loop-number.invariant.logged all) (lines_kept _ _ _ c.pause.ensures.log)) (c.in-Ok-true.ensures.logged still);
}

pub returns-clause-out : goal.returns-clause-out
returns-clause-out g c =
    elim c.loop-number-test.branch [
      | else-loop-number-test w ↦ rw w.out-is c.loop-number.invariant.out
      | then-loop-number-test+in_default+in-Ok-true+else-number-number-end w ↦
          rw w.out-is (grows_on _ _ _ (grows_on _ _ _ c.loop-number.invariant.out (grows_kept _ _ w.pause.ensures.out)) w.show_next.ensures.out)
    ]

pub returns-clause-log : goal.returns-clause-log
returns-clause-log g c =
    elim c.loop-number-test.branch [
      | else-loop-number-test w ↦ rw w.log-is c.loop-number.invariant.log
      | then-loop-number-test+in_default+in-Ok-true+else-number-number-end w ↦
          rw w.log-is (grows_on _ _ _ (grows_on _ _ _ c.loop-number.invariant.log (grows_kept _ _ w.pause.ensures.log)) w.show_next.ensures.log)
    ]

pub returns-in-Ok-false-clause-shown : goal.returns-in-Ok-false-clause-shown
returns-in-Ok-false-clause-shown g c = λ all.
    let still : c.loop-number.shower.chosen.is_count ≡ false = rw c.loop-number.invariant.chosen all in
    lines_on _ _ _ _ _ _ (lines_on _ _ _ _ _ _ (c.loop-number.invariant.shown all) (lines_kept _ _ _ c.pause.ensures.out)) (c.in-Ok-false.ensures.shown still)

pub returns-in-Ok-false-clause-logged : goal.returns-in-Ok-false-clause-logged
returns-in-Ok-false-clause-logged g c = λ all.
    let still : c.loop-number.shower.chosen.is_count ≡ false = rw c.loop-number.invariant.chosen all in
    lines_on _ _ _ _ _ _ (lines_on _ _ _ _ _ _ (c.loop-number.invariant.logged all) (lines_kept _ _ _ c.pause.ensures.log)) (c.in-Ok-false.ensures.logged still)

pub returns-clause-shown : goal.returns-clause-shown
returns-clause-shown g c = λ all.
    let still : c.loop-number.shower.chosen.is_count ≡ false = rw c.loop-number.invariant.chosen all in
    elim c.loop-number-test.branch [
      | else-loop-number-test w ↦ rw (w.out-is, w.shower-is) (c.loop-number.invariant.shown all)
      | then-loop-number-test+in_default+in-Ok-true+else-number-number-end w ↦
          rw (w.out-is, w.shower-is) (lines_on _ _ _ _ _ _ (lines_on _ _ _ _ _ _ (c.loop-number.invariant.shown all) (lines_kept _ _ _ w.pause.ensures.out)) (w.in-Ok-true.ensures.shown still))
    ]

pub returns-clause-logged : goal.returns-clause-logged
returns-clause-logged g c = λ all.
    let still : c.loop-number.shower.chosen.is_count ≡ false = rw c.loop-number.invariant.chosen all in
    elim c.loop-number-test.branch [
      | else-loop-number-test w ↦ rw (w.log-is, w.shower-is) (c.loop-number.invariant.logged all)
      | then-loop-number-test+in_default+in-Ok-true+else-number-number-end w ↦
          rw (w.log-is, w.shower-is) (lines_on _ _ _ _ _ _ (lines_on _ _ _ _ _ _ (c.loop-number.invariant.logged all) (lines_kept _ _ _ w.pause.ensures.log)) (w.in-Ok-true.ensures.logged still))
    ]
