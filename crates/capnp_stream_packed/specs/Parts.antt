-- Parts of packed pieces, one behind the other. (Encoding, "Packing")
use Rattle.std.specs.Prelude.{◌≡◌, ℕ, List, [], ◌∷◌, ◌++◌, nat_le, ⊤, Some, None, IfSome, Result, Ok, Err}
use Rattle.std.specs.declared.option.Option.{Option}
use Rattle.std.specs.Int.{w64, from_le_bytes}
use Rattle.std.specs.Io.KnownBytes.{Keeps, Consumes, IsAtEnd}
use Rattle.capnp_units.specs.Errors.{kind_of}
use Rattle.capnp_units.specs.declared.kinds.ErrorKind.{ErrorKind}
use Rattle.capnp_units.specs.declared.kinds.ErrorKind.TheVariants.{FailedToFillTheWholeBuffer, PrematureEndOfPackedInput, PackedInputDidNotEndCleanlyOnASegmentBoundary, Device}
use Rattle.capnp_model.specs.Kinds as kinds
use Rattle.capnp_model.specs.Kinds.{Kind}
use Rattle.capnp_model.specs.Chains.{◌and_then◌, guard}
use Rattle.capnp_stream.specs.Pieces.{EachIsNeeded}
use Rattle.capnp_model.specs.Packing.{spread, run_at, with_word, unpacked_from}

-- How a part is read: its value and the bytes behind it, or why the bytes begin with none.
abbrev pub Rule : Type 0 → Type 0
Rule A = List ℕ → Result (A × List ℕ) Kind

-- A front was taken, of which each byte is needed: of it, with any bytes behind it, the rule gives what the other gives of these bytes.
pub record ContinuesWith {A : Type 0} (rule : Rule A) (old new : Option (List ℕ)) (behind : Rule A) : Type 0 where
  pub part : List ℕ
  pub taken : Consumes old new part
  pub says : (more : List ℕ) → rule (part ++ more) ≡ behind more
  pub needed : EachIsNeeded rule part

-- A front of this value was taken, whatever follows it.
abbrev pub Takes : {A : Type 0} → Rule A → Option (List ℕ) → Option (List ℕ) → A → Type 0
Takes rule old new x = ContinuesWith rule old new (λ more. Ok (x, more))

-- Why a part was not taken: the device failed, or the bytes begin with none, and the kind says why.
abbrev pub IsFault : {A : Type 0} → Rule A → Option (List ℕ) → ErrorKind → Type 0
IsFault rule old Device = ⊤
IsFault rule old FailedToFillTheWholeBuffer = IfSome old (λ xs. rule xs ≡ Err (kind_of FailedToFillTheWholeBuffer))
IsFault rule old PrematureEndOfPackedInput = IfSome old (λ xs. rule xs ≡ Err (kind_of PrematureEndOfPackedInput))
IsFault rule old PackedInputDidNotEndCleanlyOnASegmentBoundary = IfSome old (λ xs. rule xs ≡ Err (kind_of PackedInputDidNotEndCleanlyOnASegmentBoundary))
IsFault rule old _ = ⊥

-- Less than a part was taken, no byte behind the first that is at fault, and why.
pub record Refuses {A : Type 0} (rule : Rule A) (old new : Option (List ℕ)) (kind : ErrorKind) : Type 0 where
  pub part : List ℕ
  pub taken : Consumes old new part
  pub none : (x : A × List ℕ) → rule part ≡ Ok x → ⊥
  pub needed : EachIsNeeded rule part
  pub fault : IsFault rule old kind

-- The next byte was taken, or none is left.
abbrev pub TakesByte : Option (List ℕ) → Option (List ℕ) → Option ℕ → Type 0
TakesByte old new (Some b) = Consumes old new (b ∷ [])
TakesByte old new None = IsAtEnd old × Keeps old new

-- The kinds of an early end.
abbrev pub IsEndKind : ErrorKind → Type 0
IsEndKind FailedToFillTheWholeBuffer = ⊤
IsEndKind PrematureEndOfPackedInput = ⊤
IsEndKind _ = ⊥

-- The next byte; this kind where none is left.
abbrev pub byte_or : Kind → Rule ℕ
byte_or kind [] = Err kind
byte_or kind (b ∷ bytes) = Ok (b, bytes)

-- A count of words, at most n.
abbrev pub count_at : ℕ → Rule ℕ
count_at n bytes = byte_or kinds.PrematureEndOfPackedInput bytes and_then λ k. guard (nat_le k.0 n) kinds.PackedInputDidNotEndCleanlyOnASegmentBoundary and_then λ _. Ok k

-- The bytes of a word, by its tag.
unfoldable pub tagged : ℕ → Rule (List ℕ)
tagged tag bytes = spread 8 tag bytes

-- Others that were read, behind these.
abbrev pub with_front : List ℕ → Result (List ℕ × List ℕ) Kind → Result (List ℕ × List ℕ) Kind
with_front front (Ok x) = Ok (front ++ x.0, x.1)
with_front front (Err kind) = Err kind

-- A group, and the n words behind it; this kind where no byte is left.
abbrev pub group_words : ℕ → Kind → Rule (List ℕ)
group_words n kind bytes = byte_or kind bytes and_then λ t. tagged t.0 t.1 and_then λ w. run_at n t.0 w.1 and_then λ r. with_word (from_le_bytes w64 w.0) (unpacked_from n r.0 r.1)
