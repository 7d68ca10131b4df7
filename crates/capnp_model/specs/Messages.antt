-- Messages on a stream, in both forms: what differs is how words are read from bytes. (Encoding, "Serialization Over a Stream")
use Rattle.std.specs.Prelude.{ℕ, ◌+◌, ◌*◌, ◌/◌, ◌%◌, ◌^◌, nat_lt, nat_le, Bool, true, List, [], ◌∷◌, ◌++◌, length, map, take, drop, sum, Option, Some, None, Result, Ok, Err}
use Rattle.std.specs.List.{flat_map}
use Rattle.capnp_model.specs.Kinds.{Kind, InvalidNumberOfSegments, MessageTooLarge, MessageEndsPrematurely}
use Rattle.capnp_model.specs.Chains.{◌and_then◌, guard}
use Rattle.capnp_model.specs.Segments.{Segments}
use Rattle.capnp_model.specs.Bytes.{bytes_of_words, words_in_bytes, taken}
use Rattle.capnp_model.specs.Packing.{packed, unpacked}

-- Reads n words, a piece, from the front of bytes, and returns the bytes behind as well.
abbrev pub Reader : Type 0
Reader = ℕ → List ℕ → Result (List ℕ × List ℕ) Kind

-- Words as they are.
abbrev pub plain_words : Reader
plain_words n bytes = taken (8 * n) bytes and_then λ x. Ok (words_in_bytes n x.0, x.1)

-- The numbers of 32 bits that words hold.
abbrev pub halves : List ℕ → List ℕ
halves [] = []
halves (w ∷ ws) = w % 2 ^ 32 ∷ w / 2 ^ 32 ∷ halves ws

-- Segments of these lengths, one after the other.
abbrev pub cut : List ℕ → List ℕ → Segments
cut [] words = []
cut (n ∷ ns) words = take n words ∷ cut ns (drop n words)

-- Whether n words keep a limit, where there is one.
abbrev pub within : ℕ → Option ℕ → Bool
within words None = true
within words (Some limit) = nat_le words limit

-- What lies behind the table: segments of these lengths.
abbrev pub behind_lengths : Reader → Option ℕ → List ℕ → List ℕ → Result (Segments × List ℕ) Kind
behind_lengths read limit lengths bytes =
    guard (within (sum lengths) limit) MessageTooLarge and_then λ _. read (sum lengths) bytes and_then λ x. Ok (cut lengths x.0, x.1)

-- What lies behind the first word, which holds the count less one and the first length: the table's rest and the segments, each by its reader.
abbrev pub behind_first : Reader → Reader → Option ℕ → List ℕ → List ℕ → Result (Segments × List ℕ) Kind
behind_first table read limit [] bytes = Err InvalidNumberOfSegments
behind_first table read limit (less_one ∷ first_length) bytes =
    guard (nat_lt less_one 511) InvalidNumberOfSegments and_then λ _. table ((less_one + 1) / 2) bytes and_then λ others. behind_lengths read limit (take (less_one + 1) (first_length ++ halves others.0)) others.1

-- The segments of the message at the front of bytes, and the bytes behind it, by a reader of the
-- table and one of the segments. Else the kind of the first part that can't be read.
abbrev pub message_by : Reader → Reader → Option ℕ → List ℕ → Result (Segments × List ℕ) Kind
message_by table read limit bytes = table 1 bytes and_then λ first. behind_first table read limit (halves first.0) first.1

-- The message at the front of bytes, where one reader serves the table and the segments.
unfoldable pub message_at : Reader → Option ℕ → List ℕ → Result (Segments × List ℕ) Kind
message_at read limit bytes = message_by read read limit bytes

-- A framed message.
abbrev pub frame_at : Option ℕ → List ℕ → Result (Segments × List ℕ) Kind
frame_at limit = message_at plain_words limit

-- A packed message.
abbrev pub packed_at : Option ℕ → List ℕ → Result (Segments × List ℕ) Kind
packed_at limit = message_at unpacked limit

-- What is read, or a refusal of this kind.
abbrev pub else_refused : {A : Type 0} → Kind → Result A Kind → Result A Kind
else_refused kind (Ok x) = Ok x
else_refused kind (Err _) = Err kind

-- The words of segments in a slice that may end in them.
abbrev pub flat_words : Reader
flat_words n bytes = else_refused MessageEndsPrematurely (plain_words n bytes)

-- A framed message at the front of a slice that lies in memory as a whole.
unfoldable pub flat_at : Option ℕ → List ℕ → Result (Segments × List ℕ) Kind
flat_at limit [] = Err MessageEndsPrematurely
flat_at limit (b ∷ bytes) = message_by plain_words flat_words limit (b ∷ bytes)

-- Writes words, a piece.
abbrev pub Writer : Type 0
Writer = List ℕ → List ℕ

-- Numbers of 32 bits, two in a word, the last with a zero.
abbrev pub paired : List ℕ → List ℕ
paired [] = []
paired (a ∷ []) = a ∷ []
paired (a ∷ b ∷ ns) = (a + 2 ^ 32 * b) ∷ paired ns

-- The written message, piece by piece: the table's first word, the rest of the table, each segment.
abbrev pub spelled : Writer → Segments → List ℕ
spelled write [] = []
spelled write (x ∷ xs) = write ((length xs + 2 ^ 32 * length x) ∷ []) ++ (write (paired (map length xs)) ++ flat_map write (x ∷ xs))

-- The framed message of segments.
abbrev pub frame : Segments → List ℕ
frame s = spelled bytes_of_words s

-- The packed message of segments.
abbrev pub packed_message : Segments → List ℕ
packed_message s = spelled packed s
