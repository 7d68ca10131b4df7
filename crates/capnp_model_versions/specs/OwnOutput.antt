-- What a relay's own output needs to be relayed again.
use Rattle.std.specs.Prelude.{◌≡◌, ℕ, ◌^◌, ◌≤◌, List, [], ◌∷◌, length, Some}
use Rattle.std.specs.List.{AllByRecursion}
use Rattle.capnp_model.specs.Segments.{Segments}
use Rattle.capnp_model.specs.Trees.{Tree}
use Rattle.capnp_model.specs.Trimming.{trim}
use Rattle.capnp_model.specs.Fits.{Fits}
use Rattle.capnp_model.specs.Encoding.{canonical_words}
use Rattle.capnp_model.specs.Schemas.{Node}
use Rattle.capnp_model.specs.Accepted.{schema_of}
use Rattle.capnp_model.specs.Calls.{Call}
use Rattle.capnp_model.specs.Answers.{Answer, written, Limits, value_within, opened_root, edits}
use Rattle.capnp_model.specs.SameRuns.{Work}
use Rattle.capnp_model_versions.specs.Fitting.{HasShortLists}

-- The value that the calls make of a message.
abbrev pub edited_value : Work → Tree → Tree
edited_value w t = edits w.schema w.root w.calls (opened_root w.schema w.root t)

-- What is written for a message has no list that is too long, and its words are few enough for a segment.
abbrev pub SizesSuffice : Work → Segments → Type 0
SizesSuffice w s =
    (t : Tree) → value_within w.limits s ≡ Some t
    → HasShortLists (trim (edited_value w t)) × (length (canonical_words (trim (edited_value w t))) ≤ 2 ^ 29)

-- What is written for a message fits its spelling, and its words are few enough for a segment.
abbrev pub WritesFitting : Work → Segments → Type 0
WritesFitting w s =
    (t : Tree) → value_within w.limits s ≡ Some t
    → Fits (trim (edited_value w t)) × (length (canonical_words (trim (edited_value w t))) ≤ 2 ^ 29)

-- Each segment has few enough words for lists and structs to be found in it.
abbrev pub HaveFewWords : Segments → Type 0
HaveFewWords segments = AllByRecursion (λ words. length words ≤ 2 ^ 29) segments

-- A message is written.
abbrev pub IsWritten : Answer → Type 0
IsWritten (written segments replies) = Unit {0}
IsWritten _ = ⊥

-- It holds of each message that is written, with the segments that are written for it.
abbrev pub HoldsOfWritten : (Segments → Segments → Type 0) → List Segments → List Answer → Type 0
HoldsOfWritten holds [] [] = Unit {0}
HoldsOfWritten holds (s ∷ messages) (written segments replies ∷ answers) = holds s segments × HoldsOfWritten holds messages answers
HoldsOfWritten holds (s ∷ messages) (a ∷ answers) = HoldsOfWritten holds messages answers
HoldsOfWritten holds _ _ = ⊥

-- Sizes suffice for each message that is written.
abbrev pub SufficeEach : Work → List Segments → List Answer → Type 0
SufficeEach w messages answers = HoldsOfWritten (λ s segments. SizesSuffice w s) messages answers

-- The work with other calls and other limits.
abbrev pub with_calls : List Call → Limits → Work → Work
with_calls calls limits w = record { schema = w.schema; quoted = w.quoted; root = w.root; calls = calls; limits = limits }

-- A relay under the schema of node records.
abbrev pub relay_of : List Node → (List ℕ → List ℕ) → ℕ → List Call → Limits → Work
relay_of nodes quoted id calls limits = record { schema = schema_of nodes; quoted = quoted; root = id; calls = calls; limits = limits }
