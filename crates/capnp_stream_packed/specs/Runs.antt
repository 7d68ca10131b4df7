-- What comes next in a piece, as the code holds it. (Encoding, "Packing")
use Rattle.std.specs.Prelude.{◌≡◌, ℕ, ◌*◌, List, [], take, ⊤}
use Rattle.capnp_units.specs.declared.kinds.ErrorKind.{ErrorKind}
use Rattle.capnp_units.specs.declared.kinds.ErrorKind.TheVariants.{FailedToFillTheWholeBuffer, PrematureEndOfPackedInput}
use Rattle.capnp_model.specs.Packing as model
use Rattle.capnp_stream_packed.specs.declared.runs.Run.{Run}
use Rattle.capnp_stream_packed.specs.declared.runs.Run.TheVariants.{First, Next, Zeros, Verbatim}

-- The model's run.
abbrev pub run_view : Run → model.Run
run_view First = model.first
run_view Next = model.next
run_view (Zeros k) = model.zeros k
run_view (Verbatim k) = model.verbatim k

-- No word of a run is left, so that a group comes next.
abbrev pub IsOver : Run → Type 0
IsOver (Zeros k) = k ≡ 0
IsOver (Verbatim k) = k ≡ 0
IsOver _ = ⊤

-- The kind of an end where a group should begin.
abbrev pub end_kind : Run → ErrorKind
end_kind First = FailedToFillTheWholeBuffer
end_kind _ = PrematureEndOfPackedInput

-- How many words a run has.
abbrev pub run_words : Run → ℕ
run_words (Zeros k) = k
run_words (Verbatim k) = k
run_words _ = 0

-- The bytes of a run, at the front of these, as they are written.
abbrev pub run_bytes : Run → List ℕ → List ℕ
run_bytes (Verbatim k) bytes = take (8 * k) bytes
run_bytes _ bytes = []

-- Whether the next word needs bytes: no zero word of a run is left.
abbrev pub NeedsBytes : Run → Type 0
NeedsBytes (Zeros k) = k ≡ 0
NeedsBytes _ = ⊤
