-- What lines say of calls that are done.
use Rattle.std.proofs.Common.{◌≡◌, ℕ, zero, suc, ◌++◌, codes, refl, ap, sym, ◌∙◌, append_assoc}
use Rattle.hagzimot_outcomes.specs.Lines.{done_text, more_done}

pub one_done_text : (n : ℕ) → done_text (suc n) ≡ done_text n ++ codes "; done"
one_done_text zero = refl
one_done_text (suc n) = ap (λ l. codes "; done" ++ l) (one_done_text n) ∙ sym (append_assoc (codes "; done") (done_text n) (codes "; done"))

pub one_more_done : (n : ℕ) → more_done (suc n) ≡ more_done n ++ codes ",\"done\""
one_more_done zero = refl
one_more_done (suc n) = ap (λ l. codes ",\"done\"" ++ l) (one_more_done n) ∙ sym (append_assoc (codes ",\"done\"") (more_done n) (codes ",\"done\""))
