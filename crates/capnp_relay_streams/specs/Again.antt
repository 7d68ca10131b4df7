-- What is written in the plain form, relayed again in the canonical one.
use Rattle.std.specs.Prelude.{◌≡◌, ℕ, false, ⊤, List, [], ◌∷◌}
use Rattle.capnp_model.specs.Segments.{Segments}
use Rattle.capnp_model.specs.Answers.{Answer, written}
use Rattle.capnp_model.specs.Runs.{End, IsRun}
use Rattle.capnp_relay_loop.specs.Work.{LoopWork}
use Rattle.capnp_relay_streams.specs.declared.options.RelayOptions.{RelayOptions}

-- The segments of each message that is written.
abbrev pub written_messages : List Answer → List Segments
written_messages [] = []
written_messages (written segments replies ∷ answers) = segments ∷ written_messages answers
written_messages (a ∷ answers) = written_messages answers

-- A message is written.
abbrev pub WritesMessage : Answer → Type 0
WritesMessage (written segments replies) = ⊤
WritesMessage _ = ⊥

-- A run of this work over bytes.
abbrev pub RunsOver : LoopWork → List ℕ → List ℕ → List ℕ → End → Type 0
RunsOver w bytes output log end = IsRun w.read w.write w.limit w.is_answer bytes output log end

-- Options of two canonical runs, of which the second reads and writes the form that the first writes.
pub record ReadsOutput (first again : RelayOptions) : Type 0 where
  pub canonical : first.plain ≡ false
  pub canonical_again : again.plain ≡ false
  pub input : again.input ≡ first.output
  pub output : again.output ≡ first.output
