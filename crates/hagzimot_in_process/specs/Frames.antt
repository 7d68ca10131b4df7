-- What a message in memory is told to be, and what its canonical form is. (Encoding, "Serialization Over a Stream" and "Canonicalization")
use Rattle.std.specs.Prelude.{◌≡◌, ◌*◌, ◌^◌, ◌<◌, ℕ, min, false, List, ◌∷◌, length, Some, Ok, IsErr}
use Rattle.capnp_model.specs.Segments.{Segments, root}
use Rattle.capnp_model.specs.Trees.{Tree, has_capability}
use Rattle.capnp_model.specs.Traversal.{tree_at, cost_at}
use Rattle.capnp_model.specs.Messages.{flat_at}
use Rattle.capnp_model.specs.Canonical.{canonical_at, is_canonical_message}
use Rattle.capnp_wire_canonical.specs.Standing.{IsSmall}
use Rattle.hagzimot_in_process.specs.declared.frames.Limits.{Limits}

-- Bytes begin with the message of these segments, of so many words at most.
abbrev pub BeginsWith : ℕ → List ℕ → Segments → Type 0
BeginsWith words bytes s = (rest : List ℕ) × (flat_at (Some words) bytes ≡ Ok (s, rest))

-- Bytes begin with no such message.
abbrev pub BeginsWithNone : ℕ → List ℕ → Type 0
BeginsWithNone words bytes = IsErr (flat_at (Some words) bytes)

-- The words of a framed message of one segment, its table first.
abbrev pub framed : List ℕ → List ℕ
framed segment = length segment * 2 ^ 32 ∷ segment

-- Words are those of the framed canonical form of the message at the front of bytes, whose value is
-- within the limits.
pub record IsCanonicalForm (limits : Limits) (bytes words : List ℕ) : Type 0 where
  pub segments : Segments
  pub begins : BeginsWith limits.words bytes segments
  pub segment : List ℕ
  pub canonical : canonical_at limits.levels segments root ≡ Some segment
  pub words_are : words ≡ framed segment

-- The message at the front of bytes isn't canonical, unless its first segment has more words than a message may have.
pub record IsNotCanonical (limits : Limits) (bytes : List ℕ) : Type 0 where
  pub segments : Segments
  pub begins : BeginsWith limits.words bytes segments
  pub differs : IsSmall segments root → is_canonical_message limits.levels segments ≡ false

-- The message at the front of bytes has no value within the levels, or following it costs more words than the limit.
pub record IsBeyond (limits : Limits) (bytes : List ℕ) : Type 0 where
  pub segments : Segments
  pub begins : BeginsWith limits.words bytes segments
  pub beyond : (t : Tree) → tree_at limits.levels segments root ≡ Some t → limits.words < cost_at limits.levels segments root

-- The same, or the value has a capability.
pub record HasNoForm (limits : Limits) (bytes : List ℕ) : Type 0 where
  pub segments : Segments
  pub begins : BeginsWith limits.words bytes segments
  pub beyond : (t : Tree) → tree_at limits.levels segments root ≡ Some t → has_capability t ≡ false → limits.words < cost_at limits.levels segments root

-- The framed canonical form of the message at the front of bytes, if it has one, has more words than there is room for, or than a
-- message may have.
pub record HasNoRoom (limits : Limits) (bytes : List ℕ) (room : ℕ) : Type 0 where
  pub segments : Segments
  pub begins : BeginsWith limits.words bytes segments
  pub full : (segment : List ℕ) → canonical_at limits.levels segments root ≡ Some segment → min room (2 ^ 29) < length (framed segment)
