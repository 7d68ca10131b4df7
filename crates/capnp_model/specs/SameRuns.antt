-- When two streams of messages are alike for a relay.
use Rattle.std.specs.Prelude.{ℕ, ◌≡◌, ◌⊎◌, List, [], ◌∷◌, Some}
use Rattle.capnp_model.specs.Segments.{Segments}
use Rattle.capnp_model.specs.Trees.{Tree}
use Rattle.capnp_model.specs.Trimming.{trim}
use Rattle.capnp_model.specs.Bytes.{bytes_of_words}
use Rattle.capnp_model.specs.Packing.{packed, unpacked}
use Rattle.capnp_model.specs.Messages.{Reader, Writer, plain_words}
use Rattle.capnp_model.specs.Schemas.{Schema}
use Rattle.capnp_model.specs.Calls.{Call}
use Rattle.capnp_model.specs.Answers.{Answer, written, Limits, value_within, IsAnswer}
use Rattle.capnp_model.specs.Runs.{End, IsRun}

-- A reader of framed or of packed messages. (Encoding, "Serialization Over a Stream", "Packing")
abbrev pub IsFormReader : Reader → Type 0
IsFormReader read = (read ≡ plain_words) ⊎ (read ≡ unpacked)

-- The reader and the writer of one form.
abbrev pub IsForm : Reader → Writer → Type 0
IsForm read write = ((read ≡ plain_words) × (write ≡ bytes_of_words)) ⊎ ((read ≡ unpacked) × (write ≡ packed))

-- Nothing is written for it.
abbrev pub IsRefused : Answer → Type 0
IsRefused (written segments replies) = ⊥
IsRefused _ = Unit {0}

-- What a relay is set to do: the schema of the root, how texts past ASCII are printed, the calls, and the limits of messages and of their values.
pub record Work : Type 0 where
  pub schema : Schema
  pub quoted : List ℕ → List ℕ
  pub root : ℕ
  pub calls : List Call
  pub limits : Limits

-- The answer to a message.
abbrev pub IsAnswerIn : Work → Segments → Answer → Type 0
IsAnswerIn w s a = IsAnswer w.schema w.quoted w.root w.calls w.limits s a

-- A run over bytes that is read in one form and written in another.
abbrev pub Relays : Work → Reader → Writer → List ℕ → List ℕ → List ℕ → End → Type 0
Relays w read write bytes output log end = IsRun read write w.limits.words (IsAnswerIn w) bytes output log end

-- Both messages have a value within the limits, and the trimmed values are one.
abbrev pub HaveOneValue : Limits → Segments → Segments → Type 0
HaveOneValue limits s u = (t v : Tree) × (value_within limits s ≡ Some t) × (value_within limits u ≡ Some v) × (trim t ≡ trim v)

-- The messages have one value each, pair by pair.
abbrev pub HaveOneValueEach : Limits → List Segments → List Segments → Type 0
HaveOneValueEach limits [] [] = Unit {0}
HaveOneValueEach limits (s ∷ messages) (u ∷ others) = HaveOneValue limits s u × HaveOneValueEach limits messages others
HaveOneValueEach limits _ _ = ⊥
