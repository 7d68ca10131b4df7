-- What is answered to a message in the plain form: the segments that were built, as they stand.
use Rattle.std.specs.Prelude.{◌≡◌, ℕ, suc, pos, ◌*◌, ◌%◌, ◌^◌, ◌<◌, ◌≤◌, ◌⊎◌, List, [], Option, Some, length, All, ⊤}
use Rattle.capnp_model.specs.Segments.{Segments, root}
use Rattle.capnp_model.specs.Trees.{Tree, depth}
use Rattle.capnp_model.specs.Fits.{Fits}
use Rattle.capnp_model.specs.Traversal.{tree_at}
use Rattle.capnp_model.specs.Encoding.{canonical_words}
use Rattle.capnp_units.specs.Segments.{words_in}
use Rattle.capnp_calls.specs.LongLists.{LongInTurn}
use Rattle.capnp_model.specs.Calls.{Call}
use Rattle.capnp_model.specs.Printing.{as_it_is}
use Rattle.capnp_model.specs.Answers.{Answer, Reply, written, answer, answer_struct, edits, opened_root, value_within, widened_root}
use Rattle.capnp_values_queries.specs.Structs.{schema_around, shape_of_struct, id_of}
use Rattle.capnp_values_queries.specs.declared.structs.StructSchema.{StructSchema}
use Rattle.capnp_model_writes.specs.Footprints.{footprint, Owns}
use Rattle.capnp_model_writes.specs.Changes.{ZeroBeside}
use Rattle.capnp_relay_loop.specs.MessageAnswers.{answer_view, StandsInBuffer}
use Rattle.capnp_relay_loop.specs.declared.answer.MessageAnswer.{MessageAnswer}
use Rattle.capnp_relay_answers.specs.Answers.{MakesTooLarge}
use Rattle.capnp_relay_answers.specs.Sizes.{MayPassWords}
use Rattle.capnp_relay_answers.specs.Bounds.{limits_view}
use Rattle.capnp_relay_answers.specs.declared.bounds.Bounds.{Bounds}

-- Every word of the segments but the root word that no object or pad reached from the root, n
-- levels deep, covers is zero. (Encoding, "Messages")
abbrev pub NothingBeside : ℕ → Segments → Type 0
NothingBeside n s = ZeroBeside s (footprint n s root)

-- Within n levels the root means the tree, and beside it all is zero.
pub record MeansAlone (nesting : ℕ) (t : Tree) (segments : Segments) : Type 0 where
  pub means : tree_at nesting segments root ≡ Some t
  pub zeros : NothingBeside nesting segments

-- Segments as they go out: 1 to 511, each of fewer words than 2^29, that mean the tree alone.
pub record ArePlainSegments (nesting : ℕ) (t : Tree) (segments : Segments) : Type 0 where
  pub some : 0 < length segments
  pub few : length segments ≤ 511
  pub small : All (λ words. length words < 2 ^ 29) segments
  pub alone : MeansAlone nesting t segments

-- More segments than go out mean the tree alone.
abbrev pub AreTooMany : ℕ → Tree → Type 0
AreTooMany nesting t = (segments : Segments) × (511 < length segments) × MeansAlone nesting t segments

-- The segments of what is written; none of a refusal.
abbrev pub written_segments : Answer → Segments
written_segments (written segments replies) = segments
written_segments _ = []

-- The answer with other segments, where it is written.
abbrev pub with_segments : Segments → Answer → Answer
with_segments segments (written _ replies) = written segments replies
with_segments segments a = a

-- What is written, if anything, are plain segments of this tree.
abbrev pub WritesPlain : ℕ → Tree → Answer → Type 0
WritesPlain nesting t (written segments replies) = ArePlainSegments nesting t segments
WritesPlain nesting t _ = ⊤

-- What is written, if anything, are plain segments of the value after the calls, which start at the
-- opened root.
abbrev pub WritesPlainAfter : StructSchema → List Call → ℕ → Option Tree → Answer → Type 0
WritesPlainAfter schema calls nesting value a =
    (t : Tree) → value ≡ Some t → WritesPlain nesting (edits (schema_around schema) (id_of schema) calls (opened_root (schema_around schema) (id_of schema) t)) a

-- The plain answer of calls to a message: that of the model, but for the segments, which mean the value after the calls itself.
pub record IsPlainAnswer (schema : StructSchema) (calls : List Call) (bounds : Bounds) (s : Segments) (a : Answer) : Type 0 where
  pub same : a ≡ with_segments (written_segments a) (answer (schema_around schema) as_it_is (id_of schema) calls (limits_view bounds) s)
  pub plain : WritesPlainAfter schema calls bounds.nesting (value_within (limits_view bounds) s) a

-- The plain answer of calls to a message, where what is written stands in a buffer or apart from
-- it.
pub record IsPlainAnswered (schema : StructSchema) (calls : List Call) (bounds : Bounds) (s : Segments) (into : List (List ℕ)) (a : MessageAnswer) : Type 0 where
  pub answers : IsPlainAnswer schema calls bounds s (answer_view into a)
  pub stands : StandsInBuffer into a

-- A call makes a message too large to be answered, or what the calls make of it is built in more segments than go out.
abbrev pub IsTooLargePlain : StructSchema → List Call → Bounds → Segments → Type 0
IsTooLargePlain schema calls bounds s =
    MakesTooLarge schema calls bounds s
    ⊎ ((t : Tree) × (value_within (limits_view bounds) s ≡ Some t) × AreTooMany bounds.nesting (edits (schema_around schema) (id_of schema) calls (opened_root (schema_around schema) (id_of schema) t)))

-- ---- on the way

-- The plain answer of calls that start from a struct.
pub record AnswersPlainStruct (schema : StructSchema) (calls : List Call) (nesting : ℕ) (into : List (List ℕ)) (t : Tree) (a : MessageAnswer) : Type 0 where
  pub same : answer_view into a ≡ with_segments (written_segments (answer_view into a)) (answer_struct (schema_around schema) as_it_is (id_of schema) calls (pos nesting) t)
  pub plain : WritesPlain nesting (edits (schema_around schema) (id_of schema) calls t) (answer_view into a)
  pub stands : StandsInBuffer into a

-- A call that starts from a struct puts a list that is too long, or so many words may be taken that
-- they pass those of a message. Or what the calls make is built in more segments than go out.
abbrev pub IsLongPlain : StructSchema → List Call → Bounds → Tree → Type 0
IsLongPlain schema calls bounds t = (LongInTurn schema calls t ⊎ MayPassWords schema calls bounds) ⊎ AreTooMany bounds.nesting (edits (schema_around schema) (id_of schema) calls t)

-- So it is with whatever value is owned alone at a message's root, a struct or null, as its schema opens it.
abbrev pub AtRoot : StructSchema → ℕ → Segments → (Tree → Type 0) → Type 0
AtRoot schema nesting s Holds =
    (n : ℕ) (t : Tree) → 2 ^ 29 ≤ n → depth t ≤ nesting → Owns (suc n) s root t → NothingBeside nesting s → Holds (widened_root (shape_of_struct schema) t)

-- So it is with the value that has these canonical words.
abbrev pub AtWords : StructSchema → ℕ → List ℕ → (Tree → Type 0) → Type 0
AtWords schema nesting words Holds =
    (t : Tree) → Fits t → depth t ≤ nesting → words ≡ canonical_words t → Holds (widened_root (shape_of_struct schema) t)

-- This is the plain answer of calls that start from whatever value is owned alone at a message's root.
abbrev pub AnswersPlainRoot : StructSchema → List Call → ℕ → Segments → List (List ℕ) → MessageAnswer → Type 0
AnswersPlainRoot schema calls nesting s into a = AtRoot schema nesting s (λ t. AnswersPlainStruct schema calls nesting into t a)

-- This is the plain answer of calls that start from the value with these canonical words.
abbrev pub AnswersPlainWords : StructSchema → List Call → ℕ → List ℕ → List (List ℕ) → MessageAnswer → Type 0
AnswersPlainWords schema calls nesting words into a = AtWords schema nesting words (λ t. AnswersPlainStruct schema calls nesting into t a)

-- Whole words, fewer than 2^29, as bytes.
abbrev pub IsSmallSegment : List ℕ → Type 0
IsSmallSegment bytes = (length bytes % 8 ≡ 0) × (length bytes < 8 * 2 ^ 29)

-- The whole words of segments, 511 at most, each small enough.
pub record CopiesSegments (segments copies : List (List ℕ)) : Type 0 where
  pub words : words_in copies ≡ words_in segments
  pub few : length copies ≤ 511
  pub small : All IsSmallSegment copies

-- An answer that writes these segments, with these replies.
pub record PutsOut (segments : Segments) (replies : List Reply) (into : List (List ℕ)) (a : MessageAnswer) : Type 0 where
  pub view : answer_view into a ≡ written segments replies
  pub few : length segments ≤ 511
  pub small : All (λ words. length words < 2 ^ 29) segments
  pub stands : StandsInBuffer into a
