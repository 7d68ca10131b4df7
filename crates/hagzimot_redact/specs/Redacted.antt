-- What goes out for a message that is redacted. (Encoding, "Canonicalization")
use Rattle.std.specs.Prelude.{◌≡◌, ◌⊎◌, ℕ, [], ◌∷◌, Some}
use Rattle.capnp_model.specs.Segments.{Segments}
use Rattle.capnp_model.specs.Trees.{Tree}
use Rattle.capnp_model.specs.Trimming.{trim}
use Rattle.capnp_model.specs.Encoding.{canonical_words}
use Rattle.capnp_model.specs.Messages.{Reader, Writer}
use Rattle.capnp_model.specs.Answers.{Answer, Limits, refused_root, refused_value, written, value_within}
use Rattle.capnp_relay_loop.specs.Work.{LoopWork, work}
use Rattle.hagzimot_commands.specs.Answers.{canonical_limits}
use Rattle.hagzimot_commands.specs.declared.canonical.Canonical.{Canonical}

-- The canonical words of a value go out, and only for a message that has a value within the limits; otherwise it is refused.
abbrev pub IsRedactedAnswer : Limits → Segments → Answer → Type 0
IsRedactedAnswer limits s a = (a ≡ refused_value) ⊎ (a ≡ refused_root) ⊎ ((t : Tree) × (u : Tree) × (value_within limits s ≡ Some t) × (a ≡ written (canonical_words (trim u) ∷ []) []))

-- No message is too large.
abbrev pub redacted_work : Reader → Writer → Canonical → Type 0 → Type 0 → LoopWork
redacted_work read write c out_grows log_grows = work read write (Some c.words) (IsRedactedAnswer (canonical_limits c)) (λ _. ⊥) out_grows log_grows
