-- What is seen of a source that reads no further than it is asked.
use Rattle.std.specs.Prelude.{◌≡◌, ℕ, List, take, Ok, Err}
use Rattle.std.specs.declared.result.Result.{Result}
use Rattle.capnp_units.specs.declared.errors.Error.{Error}
use Rattle.capnp_units.specs.declared.kinds.ErrorKind.{ErrorKind}
use Rattle.capnp_stream_io.specs.Counting.{KindCounts}
use Rattle.std.specs.declared.option.Option.{Option}
use Rattle.std.specs.Io.KnownBytes.{prepend_known}
use Rattle.capnp_message.specs.declared.unbuffered.Unbuffered.{Unbuffered}

-- The byte that was read and not yet taken, or none.
abbrev pub front_bytes : {R : Type 0} → Unbuffered R → List ℕ
front_bytes s = take s.held s.front

-- It and then the reader's bytes.
abbrev pub bytes_left : {R : Type 0} → (R → Option (List ℕ)) → Unbuffered R → Option (List ℕ)
bytes_left remaining s = prepend_known (front_bytes s) (remaining s.inner)

-- The reader refused, by a kind by which it does, and counted that; else it counted nothing.
abbrev pub HandsOn : {A : Type 0} → (ErrorKind → Type 0) → Result A Error → ℕ → ℕ → Type 0
HandsOn refuses (Ok x) old new = new ≡ old
HandsOn refuses (Err e) old new = (k : ErrorKind) × refuses k × KindCounts k old new
