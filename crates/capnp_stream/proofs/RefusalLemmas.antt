-- What the kind of a refusal says and leaves out, and buffers that grow.
use Rattle.std.proofs.Common.{◌≡◌, ◌∙◌, ℕ, ◌+◌, ◌*◌, ◌/◌, ◌<◌, ◌≤◌, ◌⊎◌, max, inl, inr, List, ◌++◌, Option, None, Some, IfSome, Result, Ok, Err, refl, sym, ap, subst, arith, length, take}
use Rattle.std.specs.declared.vec.Vec.{Vec}
use Rattle.std.specs.Vec.{with_items}
use Rattle.std.proofs.lemmas.List.{length-append, take_all, with_items_is}
use Rattle.std.specs.Io.KnownBytes.{Keeps}
use Rattle.std.proofs.lemmas.Bool.{cases_lt}
use Rattle.capnp_units.specs.declared.errors.Error.{Error}
use Rattle.capnp_units.specs.declared.kinds.ErrorKind.{ErrorKind}
use Rattle.capnp_units.specs.declared.kinds.ErrorKind.TheVariants.{OutOfMemory, BufferNotLargeEnough, Device}
use Rattle.capnp_model.specs.Messages.{Reader}
use Rattle.capnp_stream_io.specs.Counting.{KindCounts}
use Rattle.capnp_stream.specs.Pieces.{IsPieceKind}
use Rattle.capnp_stream.specs.Frames.{IsFramingKind, IsReadKind}
use Rattle.capnp_stream.specs.Lent.{NeedsMore, IsFillKind}
use Rattle.capnp_stream.specs.Kept.{HasTableRoom}
use Rattle.capnp_stream.specs.declared.flat.NoAllocSegmentTableInfo.{NoAllocSegmentTableInfo}

-- A reader that takes no memory wants none.
pub wants-none : (faults : ErrorKind → Type 0) (k : ErrorKind) → IsFillKind faults k → k ≡ OutOfMemory → ⊥
wants-none faults k fill want = let no : IsFillKind faults OutOfMemory = subst (IsFillKind faults) want fill in no

-- Nor does the reader of a piece.
pub piece-wants-none : (faults : ErrorKind → Type 0) (k : ErrorKind) → IsPieceKind faults k → k ≡ OutOfMemory → ⊥
piece-wants-none faults k piece want = let no : IsPieceKind faults OutOfMemory = subst (IsPieceKind faults) want piece in no

-- Bytes that were not read are as they were.
pub unread : (a : Option (List ℕ)) → Keeps a a
unread None = tt
unread (Some xs) = refl

-- Memory was wanted.
module _ (k : ErrorKind) (want : k ≡ OutOfMemory) where
  -- That is no fault of a message.
  pub memory-faultless : IsFramingKind k → ⊥
  memory-faultless framing = let no : IsFramingKind OutOfMemory = subst IsFramingKind want framing in no

  pub memory-kind : (faults : ErrorKind → Type 0) → IsReadKind faults k
  memory-kind faults = let yes : IsReadKind faults OutOfMemory = tt in subst (IsReadKind faults) (sym want) yes

  -- No device failed.
  pub memory-counts : (m n : ℕ) → n ≡ m → KindCounts k m n
  memory-counts m n same = let left : KindCounts OutOfMemory m n = same in subst (λ k. KindCounts k m n) (sym want) left

-- A list with more behind it is no shorter.
pub grown-front : (old new : List ℕ) → (more : List ℕ) × (new ≡ old ++ more) → length old ≤ length new
grown-front old new front = omega (arith, ap length front.1, length-append old front.0)

-- As many elements as a vector had are what it then has.
pub refilled : {Z : Type 0} (v : Vec ℕ Z) (lent filled : List ℕ) → length filled ≡ length lent → length lent ≡ v.len → lent ≡ v.items → length (with_items v filled).items ≡ length v.items
refilled v lent filled same len is = ap length (with_items_is v filled (same ∙ len)) ∙ same ∙ ap length is

pub no-shorter : (a b c : ℕ) → a ≤ b → c ≡ b → a ≤ c
no-shorter a b c below same = subst (λ n. a ≤ n) (sym same) below

pub between : (a b c : ℕ) → a ≤ b → b ≤ c → a ≤ c
between a b c first second = omega (arith, first, second)

pub same-reach : (a : ℕ) → a ≤ a
same-reach a = omega arith

-- Behind a call that left a device's count, a refusal counts from there.
pub counts-behind : (k : ErrorKind) (l m n : ℕ) → m ≡ l → KindCounts k m n → KindCounts k l n
counts-behind k l m n same counts = subst (λ j. KindCounts k j n) same counts

-- A reader that takes memory of its own doesn't lack room.
pub lacks-none : (faults : ErrorKind → Type 0) (k : ErrorKind) → IsReadKind faults k → k ≡ BufferNotLargeEnough → ⊥
lacks-none faults k read lack = let no : IsReadKind faults BufferNotLargeEnough = subst (IsReadKind faults) lack read in no

-- Nor does the reader of a piece.
pub piece-lacks-none : (faults : ErrorKind → Type 0) (k : ErrorKind) → IsPieceKind faults k → k ≡ BufferNotLargeEnough → ⊥
piece-lacks-none faults k piece lack = let no : IsPieceKind faults BufferNotLargeEnough = subst (IsPieceKind faults) lack piece in no

-- A buffer of less than a word is too small for each message.
pub small-buffer : (read : Reader) (limit : Option ℕ) (a : Option (List ℕ)) (size : ℕ) → size < 8 → IfSome a (NeedsMore read limit size)
small-buffer read limit None size short = tt
small-buffer read limit (Some xs) size short = inl short

-- A list that was cut to at least its length, with more behind it, has the old one in front.
pub resized-front : (old new more : List ℕ) (n : ℕ) → length old ≤ n → new ≡ take n old ++ more → (x : List ℕ) × (new ≡ old ++ x)
resized-front old new more n below is = (more, is ∙ ap (λ l. l ++ more) (take_all n old below))

-- A buffer with room for the longest table has it whatever was read.
pub table-room : (size : ℕ) (result : Result (Option NoAllocSegmentTableInfo) Error) → 2048 ≤ size → HasTableRoom size result
table-room size (Ok (Some info)) there = there
table-room size (Ok None) there = tt
table-room size (Err e) there = tt

pub below-reach : (a b : ℕ) → a < b → a ≤ b
below-reach a b below = omega (arith, below)

-- A device that failed wants no memory.
pub device-wants-none : (k : ErrorKind) → k ≡ Device → k ≡ OutOfMemory → ⊥
device-wants-none k failed want = absurd cc

-- What has room for the longest table has room for each.
pub any-table : (n had size : ℕ) → size ≡ had → 2048 ≤ had → n ≤ 511 → 8 * (n / 2 + 1) ≤ size
any-table n had size same room few = omega (arith, same, room, few)

-- A table has a word at least.
pub table-word : (n size : ℕ) → 8 * (n / 2 + 1) ≤ size → 8 ≤ size
table-word n size room = omega (arith, room)

-- So many words, as bytes.
pub words-of : (total words : ℕ) → total ≡ words → 8 * total / 8 ≡ words
words-of total words same = omega (arith, same)

-- What has room for the longest table, and no room for its own table and its words, has some word.
pub wants-words : (n total words had kept : ℕ) → total ≡ words → kept ≡ had → 2048 ≤ had → n ≤ 511 → kept < 8 * (n / 2 + 1) + 8 * total → 0 < words
wants-words n total words had kept same still room few short = omega (arith, same, still, room, few, short)

-- Nor had it before it grew.
pub wants-longer : (table long total words had kept : ℕ) → long ≡ table → total ≡ words → had ≤ kept → kept < table + 8 * total → had < long + 8 * words
wants-longer table long total words had kept size same grown short = omega (arith, size, same, grown, short)

-- What wants more bytes than there are wants a word at least.
pub some-words : (there words : ℕ) → there < 8 * words → 0 < words
some-words there words more = omega (arith, more)

pub own-reach : (a b : ℕ) → a ≤ max a b
own-reach a b = omega arith

pub other-reach : (a b : ℕ) → b ≤ max a b
other-reach a b = omega arith

-- What is as long as a buffer that grew to the longest table at most, or not at all.
pub grows-little : (had grown size : ℕ) → grown ≤ max had 2048 → size ≡ grown → size ≤ max had (max 2048 0)
grows-little had grown size most same = omega (arith, most, same)

-- What grew once more, to a message.
pub grows-again : (had grown size again more : ℕ) → grown ≤ max had 2048 → size ≡ grown → again ≤ max size more → again ≤ max had (max 2048 more)
grows-again had grown size again more most same further = omega (arith, most, same, further)

-- What is no longer than a buffer, than the longest table, and than a message, where the last says this.
pub grew-in-vain : (had size more : ℕ) (X : Type 0) → size ≤ max had (max 2048 more) → (size ≤ more → X) → (size ≤ max had (max 2048 0)) ⊎ X
grew-in-vain had size more X most says = by (cases_lt more size)
  where
    by : (more < size) ⊎ (size ≤ more) → (size ≤ max had (max 2048 0)) ⊎ X
    by (inl above) = inl (omega (arith, most, above))
    by (inr within) = inr (says within)

-- So many words, in a message.
pub message-reach : (table long total words size : ℕ) → long ≡ table → total ≡ words → size ≤ table + 8 * total → size ≤ long + 8 * words
message-reach table long total words size same count most = omega (arith, same, count, most)
