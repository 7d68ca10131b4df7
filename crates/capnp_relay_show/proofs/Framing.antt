-- Slices are refused where streams of their bytes are.
use Rattle.std.proofs.Common.{◌≡◌, ℕ, ◌+◌, ◌*◌, ◌/◌, Bool, true, false, if◌then◌else◌, nat_le, nat_lt, Option, List, [], ◌∷◌, ◌++◌, length, take, drop, Result, Ok, Err, refl, ap, sym, ◌∙◌, subst}
use Rattle.std.specs.Prelude.{sum}
use Rattle.capnp_model.specs.Kinds.{Kind, InvalidNumberOfSegments, MessageTooLarge, FailedToFillTheWholeBuffer, MessageEndsPrematurely}
use Rattle.capnp_model.specs.Chains.{◌and_then◌, guard}
use Rattle.capnp_model.specs.Segments.{Segments}
use Rattle.capnp_model.specs.Bytes.{words_in_bytes, taken}
use Rattle.capnp_model.specs.Messages.{plain_words, flat_words, else_refused, halves, cut, within, behind_lengths, behind_first, message_by, message_at, frame_at, flat_at}
use Rattle.capnp_units.specs.Errors.{kind_of}
use Rattle.capnp_units.specs.declared.kinds.ErrorKind.{ErrorKind}
use Rattle.capnp_units.specs.declared.kinds.ErrorKind.TheVariants as error
use Rattle.capnp_relay_show.specs.Showing.{first_message}
use Rattle.capnp_relay_show.specs.Streams.{streamed}

-- any other kind is the same
pub same_kind : (k : ErrorKind) → (k ≡ error.MessageEndsPrematurely → ⊥) → kind_of k ≡ streamed (kind_of k)
same_kind error.OutOfBounds h = refl
same_kind error.MalformedFarPointer h = refl
same_kind error.WrongPointerKind h = refl
same_kind error.WrongElementSize h = refl
same_kind error.NestingLimitExceeded h = refl
same_kind error.ReadLimitExceeded h = refl
same_kind error.CapabilityInCanonical h = refl
same_kind error.TextWithoutZeroByte h = refl
same_kind error.UnknownPointerType h = refl
same_kind error.SizeOverflow h = refl
same_kind error.OutOfMemory h = refl
same_kind error.InvalidNumberOfSegments h = refl
same_kind error.FailedToFillTheWholeBuffer h = refl
same_kind error.PrematureEndOfPackedInput h = refl
same_kind error.PackedInputDidNotEndCleanlyOnASegmentBoundary h = refl
same_kind error.MessageTooLarge h = refl
same_kind error.BufferNotLargeEnough h = refl
same_kind error.PrematureEndOfFile h = refl
same_kind error.MessageEndsPrematurely h = absurd (h refl)
same_kind error.Device h = refl
same_kind error.FieldNotFound h = refl
same_kind error.TypeMismatch h = refl
same_kind error.FieldAndDefaultMismatch h = refl
same_kind error.NotAStruct h = refl
same_kind error.GroupFieldButTypeIsNotStruct h = refl
same_kind error.InitIsOnlyValidForStructAndAnyPointerFields h = refl
same_kind error.InitnIsOnlyValidForListTextOrDataFields h = refl
same_kind error.ExpectedAListOrBlob h = refl
same_kind error.ListAnyPointerNotSupported h = refl
same_kind error.ListCapabilityNotSupported h = refl
same_kind error.CannotSetAnyPointerFieldToAPrimitiveValue h = refl
same_kind error.SettingDynamicCapabilitiesIsUnsupported h = refl
same_kind error.InactiveMember h = refl
same_kind error.IndexOutOfRange h = refl
same_kind error.WrongStep h = refl
same_kind error.UnreadablePointer h = refl
same_kind error.ClearNeedsAField h = refl

-- What a slice gives, as a stream of its bytes does.
abbrev turned : {A : Type 0} → Result A Kind → Result A Kind
turned (Ok x) = Ok x
turned (Err k) = Err (streamed k)

then_same : {A B : Type 0} (r r' : Result A Kind) (f f' : A → Result B Kind) → r ≡ turned r' → ((x : A) → f x ≡ turned (f' x)) → (r and_then f) ≡ turned (r' and_then f')
then_same r (Ok x) f f' e same = ap (λ z. z and_then f) e ∙ same x
then_same r (Err k) f f' e same = ap (λ z. z and_then f) e

abbrev piece : (b : Bool) → List ℕ × List ℕ → Result (List ℕ × List ℕ) Kind
piece b x = if b then Ok x else Err FailedToFillTheWholeBuffer

abbrev of_piece : ℕ → List ℕ × List ℕ → Result (List ℕ × List ℕ) Kind
of_piece n x = Ok (words_in_bytes n x.0, x.1)

table_same : (n : ℕ) (bytes : List ℕ) → plain_words n bytes ≡ turned (plain_words n bytes)
table_same n bytes = by (nat_le (8 * n) (length bytes))
  where
    by : (b : Bool) → (piece b (take (8 * n) bytes, drop (8 * n) bytes) and_then of_piece n) ≡ turned (piece b (take (8 * n) bytes, drop (8 * n) bytes) and_then of_piece n)
    by true = refl
    by false = refl

words_same : (n : ℕ) (bytes : List ℕ) → plain_words n bytes ≡ turned (flat_words n bytes)
words_same n bytes = by (nat_le (8 * n) (length bytes))
  where
    by : (b : Bool) → (piece b (take (8 * n) bytes, drop (8 * n) bytes) and_then of_piece n) ≡ turned (else_refused MessageEndsPrematurely (piece b (take (8 * n) bytes, drop (8 * n) bytes) and_then of_piece n))
    by true = refl
    by false = refl

guard_same : (b : Bool) (k : Kind) → streamed k ≡ k → guard b k ≡ turned (guard b k)
guard_same true k e = refl
guard_same false k e = ap (λ z. Err z) (sym e)

lengths_same : (limit : Option ℕ) (lengths bytes : List ℕ) → behind_lengths plain_words limit lengths bytes ≡ turned (behind_lengths flat_words limit lengths bytes)
lengths_same limit lengths bytes =
    then_same (guard (within (sum lengths) limit) MessageTooLarge) (guard (within (sum lengths) limit) MessageTooLarge) _ _ (guard_same (within (sum lengths) limit) MessageTooLarge refl)
    (λ u. then_same (plain_words (sum lengths) bytes) (flat_words (sum lengths) bytes) _ _ (words_same (sum lengths) bytes) (λ x. refl))

first_same : (limit : Option ℕ) (halves : List ℕ) (bytes : List ℕ) → behind_first plain_words plain_words limit halves bytes ≡ turned (behind_first plain_words flat_words limit halves bytes)
first_same limit [] bytes = refl
first_same limit (less_one ∷ first_length) bytes =
    then_same (guard (nat_lt less_one 511) InvalidNumberOfSegments) (guard (nat_lt less_one 511) InvalidNumberOfSegments) _ _ (guard_same (nat_lt less_one 511) InvalidNumberOfSegments refl)
    (λ u. then_same (plain_words ((less_one + 1) / 2) bytes) (plain_words ((less_one + 1) / 2) bytes) _ _ (table_same ((less_one + 1) / 2) bytes)
    (λ others. lengths_same limit (take (less_one + 1) (first_length ++ halves others.0)) others.1))

message_same : (limit : Option ℕ) (bytes : List ℕ) → message_by plain_words plain_words limit bytes ≡ turned (message_by plain_words flat_words limit bytes)
message_same limit bytes = then_same (plain_words 1 bytes) (plain_words 1 bytes) _ _ (table_same 1 bytes) (λ first. first_same limit (halves first.0) first.1)

-- a message that a slice begins with is the first one
pub of_slice : ((limit : Option ℕ) (b : List ℕ) (r : Segments × List ℕ) → flat_at limit b ≡ Ok r → frame_at limit b ≡ Ok r) → (limit : Option ℕ) (b : List ℕ) (r : Segments × List ℕ) → flat_at limit b ≡ Ok r → first_message limit b ≡ Ok r
unfolding flat_at
of_slice law limit [] r e = absurd cc
of_slice law limit (b ∷ bytes) r e = law limit (b ∷ bytes) r e

-- where it begins with none, a stream says why
pub of_refused : (limit : Option ℕ) (b : List ℕ) (k : Kind) → (length b ≡ 0 → ⊥) → flat_at limit b ≡ Err k → first_message limit b ≡ Err (streamed k)
unfolding flat_at message_at
of_refused limit [] k some e = absurd (some refl)
of_refused limit (b ∷ bytes) k some e = message_same limit (b ∷ bytes) ∙ ap turned e

pub of_nothing : (limit : Option ℕ) (b : List ℕ) → length b ≡ 0 → first_message limit b ≡ Err (kind_of error.PrematureEndOfFile)
of_nothing limit [] e = refl
of_nothing limit (b ∷ bytes) e = absurd cc
