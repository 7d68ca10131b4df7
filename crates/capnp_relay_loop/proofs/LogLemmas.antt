-- What the log says of calls that are done.
use Rattle.std.proofs.Common.{◌≡◌, ℕ, zero, suc, List, ◌++◌, codes, refl, ap, sym, ◌∙◌, append_assoc}
use Rattle.std.specs.Prelude.{replicate}
use Rattle.std.specs.List.{flat_map}
use Rattle.capnp_model.specs.Answers.{Reply, reply_done}
use Rattle.capnp_model.specs.Runs.{reply_words}

-- a reply behind its semicolon
abbrev pub one_reply : Reply → List ℕ
one_reply r = codes "; " ++ reply_words r

pub one_more_done : (n : ℕ) → flat_map one_reply (replicate (suc n) reply_done) ≡ flat_map one_reply (replicate n reply_done) ++ codes "; done"
one_more_done zero = refl
one_more_done (suc n) = ap (λ l. codes "; done" ++ l) (one_more_done n) ∙ sym (append_assoc (codes "; done") (flat_map one_reply (replicate n reply_done)) (codes "; done"))
