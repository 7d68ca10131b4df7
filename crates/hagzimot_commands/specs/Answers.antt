-- What goes out for a message without a schema. (Encoding, "Serialization Over a Stream" and "Canonicalization")
use Rattle.std.specs.Prelude.{◌≡◌, ℕ, ◌^◌, ◌<◌, ◌≤◌, ◌⊎◌, pos, List, [], ◌∷◌, Option, Some, None, length}
use Rattle.capnp_model.specs.Segments.{Segments}
use Rattle.capnp_model.specs.Trees.{Tree}
use Rattle.capnp_model.specs.Trimming.{trim}
use Rattle.capnp_model.specs.Encoding.{canonical_words}
use Rattle.capnp_model.specs.Messages.{Reader, Writer}
use Rattle.capnp_model.specs.Answers.{Answer, Limits, refused_value, written, value_within}
use Rattle.capnp_wire_canonical.specs.Writes.{filled}
use Rattle.capnp_relay_loop.specs.Work.{LoopWork, work}
use Rattle.hagzimot_commands.specs.declared.canonical.Canonical.{Canonical}

-- The message goes out as it came: the same segments.
abbrev pub IsUnchanged : Segments → Answer → Type 0
IsUnchanged s a = a ≡ written s []

-- Segments that make no message on a stream: none, or more than 511.
abbrev pub IsNoMessage : Segments → Type 0
IsNoMessage s = (length s ≡ 0) ⊎ (511 < length s)

-- Each message goes out as it came, in another form.
abbrev pub convert_work : Reader → Writer → ℕ → Type 0 → Type 0 → LoopWork
convert_work read write limit out_grows log_grows = work read write (Some limit) IsUnchanged IsNoMessage out_grows log_grows

-- How far a message is followed.
abbrev pub canonical_limits : Canonical → Limits
canonical_limits c = record { words = Some c.words; nesting = pos c.nesting }

-- What goes out for a value: its canonical words, as the one segment of a message; a message without a value is skipped.
abbrev pub canonical_answer : Option Tree → Answer
canonical_answer None = refused_value
canonical_answer (Some t) = written (canonical_words (trim t) ∷ []) []

-- The canonical form of the value of a message goes out, where it has one within the limits.
abbrev pub IsCanonicalAnswer : Limits → Segments → Answer → Type 0
IsCanonicalAnswer limits s a = a ≡ canonical_answer (value_within limits s)

-- The canonical form of each message's value goes out; no message is too large.
abbrev pub canonical_work : Reader → Writer → Canonical → Type 0 → Type 0 → LoopWork
canonical_work read write c out_grows log_grows = work read write (Some c.words) (IsCanonicalAnswer (canonical_limits c)) (λ _. ⊥) out_grows log_grows

-- The first words of a buffer are the canonical words of a message's value within the limits.
pub record ReadsValueWithinLimits (limits : Limits) (s : Segments) (into : List (List ℕ)) (count : ℕ) : Type 0 where
  pub value : Tree
  pub within : value_within limits s ≡ Some value
  pub words : filled count into ≡ canonical_words (trim value)
  pub inside : count ≤ length into
  pub few : count < 2 ^ 29

-- The same where there is such a value, and where there is none.
abbrev pub ReadsWithinLimits : Limits → Segments → List (List ℕ) → Option ℕ → Type 0
ReadsWithinLimits limits s into None = value_within limits s ≡ None
ReadsWithinLimits limits s into (Some count) = ReadsValueWithinLimits limits s into count
