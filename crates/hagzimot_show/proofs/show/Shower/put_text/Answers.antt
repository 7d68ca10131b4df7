use Rattle.std.proofs.Common.{ℕ, List, refl, sym, subst}
use Rattle.hagzimot_show.specs.Sinks.{EndsInLineFeed}
use Rattle.hagzimot_show.proofs.Sinks.{grows_same, grows_on, lines_same, line_at_once}
use Rattle.hagzimot_show.proofs.show.Shower.put_text.Goals as goal

pub returns-in_err-put-in-Ok-2-clause-out : goal.returns-in_err-put-in-Ok-2-clause-out
returns-in_err-put-in-Ok-2-clause-out g c = grows_on _ _ _ c.put.ensures.grows c.put-in-Ok.ensures.grows

pub returns-in_ok-put-in-Ok-2-clause-out : goal.returns-in_ok-put-in-Ok-2-clause-out
returns-in_ok-put-in-Ok-2-clause-out g c = grows_on _ _ _ c.put.ensures.grows c.put-in-Ok.ensures.grows

pub returns-in_ok-put-in-Err : goal.returns-in_ok-put-in-Err
returns-in_ok-put-in-Err g c =
    let ended = subst (λ (bytes : List ℕ). EndsInLineFeed bytes) (sym c.deref-in-Err.ensures.value) c.in-Ok-line_of.ensures in
    record {
      out = grows_same _;
      log = c.in_ok-put-in-Err.ensures.grows;
      chosen = refl;
      shown = lines_same _ _;
      logged = line_at_once _ _ _ _ _ c.saturating_add-self-in-Err.ensures ended c.in_ok-put-in-Err.ensures.given;
    }
