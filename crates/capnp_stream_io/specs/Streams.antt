-- What the calls of a source and a sink do to the bytes that they tell.
use Rattle.std.specs.Prelude.{◌≡◌, ℕ, ◌+◌, ◌<◌, ◌≤◌, List, ◌++◌, length, drop, ⊤, Some, None, IfOk, IsSomeAnd}
use Rattle.std.specs.declared.result.Result.{Result}
use Rattle.std.specs.declared.option.Option.{Option}
use Rattle.std.specs.Io.KnownBytes.{Keeps, Consumes, Appends, IsAtEnd}
use Rattle.capnp_units.specs.declared.errors.Error.{Error}
use Rattle.capnp_units.specs.declared.kinds.ErrorKind.{ErrorKind}
use Rattle.capnp_units.specs.declared.kinds.ErrorKind.TheVariants.{OutOfMemory, BufferNotLargeEnough, Device}
use Rattle.capnp_stream_io.specs.Counting.{Counts}
use denote.Ref.{Bor}

-- `fill_buf` took nothing, counted its failure, and `consume` may take what it showed.
abbrev pub FillsBuffer : Option (List ℕ) → Option (List ℕ) → ℕ → ℕ → ℕ → Result (Bor (List ℕ)) Error → Type 0
FillsBuffer old new before after shown r = Keeps old new × Counts r before after × IfOk r (λ s. length s.now ≤ shown)

-- Known bytes lose their first n.
abbrev pub Drops : Option (List ℕ) → Option (List ℕ) → ℕ → Type 0
Drops None new n = ⊤
Drops (Some xs) None n = ⊥
Drops (Some xs) (Some ys) n = ys ≡ drop n xs

-- Known bytes lose fewer than n.
abbrev pub ConsumesFewer : Option (List ℕ) → Option (List ℕ) → ℕ → Type 0
ConsumesFewer old new n = (part : List ℕ) × (length part < n) × Consumes old new part

-- Known bytes lose fewer than n, and none is left.
abbrev pub EndsBefore : Option (List ℕ) → Option (List ℕ) → ℕ → Type 0
EndsBefore old new n = (part : List ℕ) × (length part < n) × Consumes old new part × IsAtEnd new

-- Known bytes grow by a beginning of bs.
abbrev pub AppendsPart : Option (List ℕ) → Option (List ℕ) → List ℕ → Type 0
AppendsPart old new bs = (front back : List ℕ) × (bs ≡ front ++ back) × Appends old new front

-- Known room for bytes falls by n.
abbrev pub RoomFalls : Option ℕ → Option ℕ → ℕ → Type 0
RoomFalls None new n = new ≡ None
RoomFalls (Some old) None n = ⊥
RoomFalls (Some old) (Some new) n = old ≡ new + n

-- Why a sink refuses n bytes: its device fails; it wants memory, which only one that may grow does;
-- or its room is known and too small.
abbrev pub IsWriteRefusal : Type 0 → Option ℕ → ℕ → ErrorKind → Type 0
IsWriteRefusal may_grow room n Device = ⊤
IsWriteRefusal may_grow room n OutOfMemory = may_grow
IsWriteRefusal may_grow room n BufferNotLargeEnough = IsSomeAnd room (λ left. left < n)
IsWriteRefusal may_grow room n _ = ⊥
