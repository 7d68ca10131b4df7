-- The pieces of a stream: messages that follow one another, and gaps. (Encoding, "Serialization Over a Stream")
use Rattle.std.specs.List.{flat_map}
use Rattle.std.specs.Prelude.{◌≡◌, ◌⊎◌, ℕ, zero, suc, true, false, Ok, ◌<◌, ◌≤◌, ◌+◌, Some, List, [], ◌∷◌, length, drop, slice_range, IsErr, ⊤}
use Rattle.capnp_model.specs.Segments.{Segments}
use Rattle.capnp_model.specs.Messages.{plain_words, frame_at}
use Rattle.capnp_model.specs.Runs.{BeginWith}
use Rattle.hagzimot_salvage.specs.declared.roots.SalvageLimits.{SalvageLimits}
use Rattle.hagzimot_salvage.specs.declared.pieces.Piece.{Piece}
use Rattle.hagzimot_salvage.specs.declared.pieces.Piece.TheVariants as piece
use Rattle.hagzimot_salvage.specs.Frames.{is_settled, HasNoneBetween, IsFound}

-- So many messages follow one another from a byte up to another, where none begins.
pub record IsRun (limit : ℕ) (bytes : List ℕ) (at end count : ℕ) : Type 0 where
  pub messages : List Segments
  pub number : length messages ≡ count
  pub begins : BeginWith plain_words (Some limit) (drop at bytes) messages (drop end bytes)
  pub order : at ≤ end
  pub inside : end ≤ length bytes
  pub more : 0 < count → at < end
  pub stops : IsErr (frame_at (Some limit) (drop end bytes))

-- Bytes begin with these messages, each of them settled, and then the rest.
abbrev pub BeginSettled : SalvageLimits → List ℕ → List Segments → List ℕ → Type 0
BeginSettled l bytes [] rest = bytes ≡ rest
BeginSettled l bytes (s ∷ messages) rest = (more : List ℕ) × (frame_at (Some l.message_words) bytes ≡ Ok (s, more)) × (is_settled l bytes ≡ true) × BeginSettled l more messages rest

-- So many settled messages follow one another from a byte up to another, where none begins.
pub record IsSettledRun (l : SalvageLimits) (bytes : List ℕ) (at end count : ℕ) : Type 0 where
  pub messages : List Segments
  pub number : length messages ≡ count
  pub begins : BeginSettled l (drop at bytes) messages (drop end bytes)
  pub order : at ≤ end
  pub inside : end ≤ length bytes
  pub more : 0 < count → at < end
  pub stops : is_settled l (drop end bytes) ≡ false

-- What begins at a byte without a settled message ends at another: at the first plausible message behind it, or with the bytes.
pub record GapEnds (l : SalvageLimits) (bytes : List ℕ) (at end : ℕ) : Type 0 where
  pub more : at < end
  pub inside : end ≤ length bytes
  pub none : HasNoneBetween l bytes at end
  pub found : (end ≡ length bytes) ⊎ IsFound l bytes end

-- A gap: no settled message begins at its first byte.
abbrev pub IsGap : SalvageLimits → List ℕ → ℕ → ℕ → Type 0
IsGap l bytes at end = (is_settled l (drop at bytes) ≡ false) × GapEnds l bytes at end

-- Pieces follow one another from a byte up to another.
abbrev pub ArePieces : SalvageLimits → List ℕ → ℕ → List Piece → ℕ → Type 0
ArePieces l bytes from [] to = from ≡ to
ArePieces l bytes from (piece.Messages at end count ∷ ps) to = (at ≡ from) × (0 < count) × IsSettledRun l bytes at end count × ArePieces l bytes end ps to
ArePieces l bytes from (piece.Gap at end ∷ ps) to = (at ≡ from) × IsGap l bytes at end × ArePieces l bytes end ps to

-- The messages of a stream without a fault.
abbrev pub AreAll : SalvageLimits → List ℕ → List Segments → Type 0
AreAll l bytes messages = BeginWith plain_words (Some l.message_words) bytes messages []

-- The one piece of a stream of so many messages without a fault; none, if it has no message.
abbrev pub whole_stream : ℕ → ℕ → List Piece
whole_stream len zero = []
whole_stream len (suc count) = piece.Messages 0 len (suc count) ∷ []

-- The pieces of a stream: one if it has no fault, else those that follow one another.
abbrev pub IsCut : SalvageLimits → List ℕ → List Piece → Type 0
IsCut l bytes ps =
    ((messages : List Segments) × AreAll l bytes messages × (ps ≡ whole_stream (length bytes) (length messages)))
    ⊎ (((messages : List Segments) → AreAll l bytes messages → ⊥) × ArePieces l bytes 0 ps (length bytes))

-- A piece lies in the bytes.
abbrev pub IsWithin : List ℕ → Piece → Type 0
IsWithin bytes (piece.Messages at end count) = (at ≤ end) × (end ≤ length bytes)
IsWithin bytes (piece.Gap at end) = ⊤

-- The bytes of a piece.
abbrev pub bytes_of : List ℕ → Piece → List ℕ
bytes_of bytes (piece.Messages at end count) = slice_range bytes at end
bytes_of bytes (piece.Gap at end) = slice_range bytes at end

-- The bytes of a piece that are kept: those of messages.
abbrev pub kept_of : List ℕ → Piece → List ℕ
kept_of bytes (piece.Messages at end count) = slice_range bytes at end
kept_of bytes (piece.Gap at end) = []

-- The bytes of pieces that are kept, in order.
abbrev pub kept_bytes : List ℕ → List Piece → List ℕ
kept_bytes bytes ps = flat_map (kept_of bytes) ps

-- How many messages pieces have.
abbrev pub kept_count : List Piece → ℕ
kept_count [] = 0
kept_count (piece.Messages at end count ∷ ps) = count + kept_count ps
kept_count (piece.Gap at end ∷ ps) = kept_count ps
