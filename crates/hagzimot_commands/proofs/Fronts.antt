-- Texts that begin with others.
use Rattle.std.proofs.Common.{◌≡◌, ◌∙◌, List, ℕ, [], ◌++◌, ap, sym, append-nil, append_assoc}
use Rattle.hagzimot_commands.specs.FloatReplies.{Extends}

-- a text begins with itself
pub extends_same : (front text : List ℕ) → text ≡ front → Extends front text
extends_same front text same = record { rest = []; is = same ∙ sym (append-nil front) }

pub extends_more : (front text rest : List ℕ) → text ≡ front ++ rest → Extends front text
extends_more front text rest is = record { rest = rest; is = is }

pub extends_on : (front middle text : List ℕ) → Extends front middle → Extends middle text → Extends front text
extends_on front middle text a b = record { rest = a.rest ++ b.rest; is = b.is ∙ ap (λ m. m ++ b.rest) a.is ∙ append_assoc front a.rest b.rest }

pub ruleset fronts = (extends_same, extends_more, extends_on)
