-- What was unpacked of bytes that are shown. (Encoding, "Packing")
use Rattle.std.specs.Prelude.{◌≡◌, ℕ, ◌-◌, ◌/◌, ◌%◌, ◌≤◌, ◌<◌, List, ◌++◌, length, take, drop, get_or, replicate, Ok}
use Rattle.std.specs.Int.{w64, from_le_bytes}
use Rattle.capnp_model.specs.Bytes.{words_in_bytes}
use Rattle.capnp_model.specs.Packing as model
use Rattle.capnp_model.specs.Packing.{group_at, unpacked_from}
use Rattle.std.specs.declared.option.Option.{Option}
use Rattle.capnp_stream.specs.Pieces.{EachIsNeeded}
use Rattle.capnp_units.specs.declared.kinds.ErrorKind.{ErrorKind}
use Rattle.capnp_stream_packed.specs.Parts.{ContinuesWith, Refuses, with_front, tagged}
use Rattle.capnp_stream_packed.specs.Tags.{marks}
use Rattle.capnp_stream_packed.specs.Runs.{run_view, IsOver}
use Rattle.capnp_stream_packed.specs.declared.runs.Run.{Run}
use Rattle.capnp_stream_packed.specs.declared.runs.Run.TheVariants.{Next}
use Rattle.capnp_stream_packed.specs.declared.shown.Group.{Group}
use Rattle.capnp_stream_packed.specs.declared.shown.Step.{Step}

-- The byte at the front is this tag, and those behind it that it marks spell this word.
pub record BeginsWithTag (tag : ℕ) (word bytes : List ℕ) : Type 0 where
  pub here : tag ≡ get_or bytes 0 0
  pub spells : (more : List ℕ) → tagged tag (take (marks 8 tag) (take 8 (drop 1 bytes)) ++ more) ≡ Ok (word, more)

-- The first `len` of these bytes are a group of this word and this run, in a piece that has n words
-- behind its own. That is so whatever follows them, and each of them is needed.
pub record IsPackedGroup (n : ℕ) (bytes : List ℕ) (len : ℕ) (word : List ℕ) (run : Run) : Type 0 where
  pub within : len ≤ length bytes
  pub says : (more : List ℕ) → group_at n (take len bytes ++ more) ≡ Ok (from_le_bytes w64 word, run_view run, more)
  pub needed : EachIsNeeded (group_at n) (take len bytes)

-- Of a piece that has n more words, from inside a run on, these bytes spell the first, and each of
-- them is needed. m words are left, from inside another run on.
pub record SpellsWords (n : ℕ) (run : model.Run) (bytes words : List ℕ) (m : ℕ) (then_run : model.Run) : Type 0 where
  pub says : (more : List ℕ) → unpacked_from n run (bytes ++ more) ≡ with_front words (unpacked_from m then_run more)
  pub needed : EachIsNeeded (unpacked_from n run) bytes

-- The byte at the front of some, if there is one.
abbrev pub IsFirst : ℕ → List ℕ → Type 0
IsFirst byte bytes = 0 < length bytes → byte ≡ get_or bytes 0 0

-- Bytes at the front of those that are shown spell the words at the front of a buffer, which has room for all words of the piece.
pub record Unpacks (run : Run) (shown buf : List ℕ) (step : Step) : Type 0 where
  pub within : step.taken ≤ length shown
  pub fits : step.filled ≤ length buf
  pub whole : step.filled % 8 ≡ 0
  pub spells : SpellsWords (length buf / 8) (run_view run) (take step.taken shown) (words_in_bytes (step.filled / 8) (take step.filled buf)) ((length buf - step.filled) / 8) (run_view step.run)

-- A whole group and its whole run, where no run is open, were unpacked of bytes that are shown, and which byte is behind them, if there is one.
pub record UnpacksGroup (shown buf : List ℕ) (group : Group) : Type 0 where
  pub some : 0 < group.filled
  pub unpacked : (run : Run) → IsOver run → Unpacks run shown buf (record { taken = group.taken; filled = group.filled; run = Next })
  pub next : IsFirst group.next (drop group.taken shown)

-- Bytes were taken that spell the words at the front of a buffer, which has room for all words of the piece.
pub record Reads (run : Run) (old new : Option (List ℕ)) (buf : List ℕ) (step : Step) : Type 0 where
  pub fits : step.filled ≤ length buf
  pub whole : step.filled % 8 ≡ 0
  pub leads : ContinuesWith (unpacked_from (length buf / 8) (run_view run)) old new (λ more. with_front (words_in_bytes (step.filled / 8) (take step.filled buf)) (unpacked_from ((length buf - step.filled) / 8) (run_view step.run) more))

-- What a refused unpacking of a piece, from inside a run on, leaves in a buffer: words that were
-- taken at its front, and zeros behind them. The words that were to follow are refused.
pub record Leaves (run : Run) (old new : Option (List ℕ)) (buf : List ℕ) (kind : ErrorKind) : Type 0 where
  pub step : Step
  pub reached : Option (List ℕ)
  pub reads : Reads run old reached buf step
  pub fault : Refuses (unpacked_from ((length buf - step.filled) / 8) (run_view step.run)) reached new kind
  pub zeros : drop step.filled buf ≡ replicate (length buf - step.filled) 0
