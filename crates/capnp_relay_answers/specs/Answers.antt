-- What is answered to a message, in a buffer of words.
use Rattle.std.specs.Prelude.{◌≡◌, ℕ, suc, pos, ◌^◌, ◌<◌, ◌≤◌, List, Option, Some, None, Result, Ok, Err, length, true, ⊤, ◌⊎◌}
use Rattle.capnp_model.specs.Segments.{Segments, root}
use Rattle.capnp_model.specs.Trees.{Tree, null, structure, depth}
use Rattle.capnp_model.specs.Fits.{Fits}
use Rattle.capnp_model.specs.Encoding.{canonical_words}
use Rattle.capnp_model.specs.Trimming.{trim}
use Rattle.capnp_model.specs.Traversal.{tree_at}
use Rattle.capnp_model.specs.Calls.{Call}
use Rattle.capnp_model.specs.Answers.{Answer, written, edits, opened_root, value_within, answer_struct, IsAnswer, widened_root}
use Rattle.capnp_values_queries.specs.Structs.{schema_around, shape_of_struct, id_of}
use Rattle.capnp_values_queries.specs.declared.structs.StructSchema.{StructSchema}
use Rattle.capnp_calls.specs.LongLists.{LongInTurn}
use Rattle.capnp_model.specs.Printing.{as_it_is}
use Rattle.capnp_model_writes.specs.Footprints.{Owns}
use Rattle.capnp_relay_loop.specs.MessageAnswers.{answer_view}
use Rattle.capnp_relay_answers.specs.Bounds.{limits_view}
use Rattle.capnp_relay_answers.specs.declared.bounds.Bounds.{Bounds}
use Rattle.capnp_relay_answers.specs.Reading.{ReadsValue, can_be_opened}
use Rattle.capnp_relay_answers.specs.Sizes.{MayPassWords}
use Rattle.capnp_relay_loop.specs.declared.answer.Reason.{Reason}
use Rattle.capnp_relay_loop.specs.declared.answer.MessageAnswer.{MessageAnswer}
use Rattle.capnp_relay_loop.specs.declared.answer.MessageAnswer.TheVariants as answers
use Rattle.capnp_relay_answers.specs.declared.answer.Known.{Known}
use Rattle.capnp_relay_answers.specs.declared.answer.Known.TheVariants as knowns

-- What is written is one segment at the front of a buffer, and has fewer words than 2^29.
abbrev pub StandsAlone : List (List ℕ) → MessageAnswer → Type 0
StandsAlone into (answers.Written count replies) = (count ≤ length into) × (count < 2 ^ 29)
StandsAlone into (answers.Done count calls) = (count ≤ length into) × (count < 2 ^ 29)
StandsAlone into (answers.Several segments replies) = ⊥
StandsAlone into (answers.Refused reason) = ⊤

-- What is written, if anything, means this tree within n levels.
abbrev pub MeansTree : ℕ → Tree → Answer → Type 0
MeansTree nesting t (written segments replies) = tree_at nesting segments root ≡ Some t
MeansTree nesting t _ = ⊤

-- This is the answer of calls that start from a struct; what is written means the trimmed value after them.
pub record AnswersStruct (schema : StructSchema) (calls : List Call) (nesting : ℕ) (into : List (List ℕ)) (t : Tree) (a : MessageAnswer) : Type 0 where
  pub same : answer_view into a ≡ answer_struct (schema_around schema) as_it_is (id_of schema) calls (pos nesting) t
  pub means : MeansTree nesting (trim (edits (schema_around schema) (id_of schema) calls t)) (answer_view into a)
  pub stands : StandsAlone into a

-- This is the answer of calls that start from whatever value is owned at a message's root, a struct
-- or null, as its schema opens it.
abbrev pub AnswersRoot : StructSchema → List Call → ℕ → Segments → List (List ℕ) → MessageAnswer → Type 0
AnswersRoot schema calls nesting s into a =
    (n : ℕ) (t : Tree) → 2 ^ 29 ≤ n → Owns (suc n) s root t → AnswersStruct schema calls nesting into (widened_root (shape_of_struct schema) t) a

-- What is written, if anything, means the trimmed value after the calls, which start at the opened root.
abbrev pub MeansAfter : StructSchema → List Call → ℕ → Option Tree → Answer → Type 0
MeansAfter schema calls nesting value a =
    (t : Tree) → value ≡ Some t → MeansTree nesting (trim (edits (schema_around schema) (id_of schema) calls (opened_root (schema_around schema) (id_of schema) t))) a

-- This is the model's answer of calls to a message; what is written stands in the buffer, and means the trimmed value after the calls.
pub record IsAnswered (schema : StructSchema) (calls : List Call) (bounds : Bounds) (s : Segments) (into : List (List ℕ)) (a : MessageAnswer) : Type 0 where
  pub same : IsAnswer (schema_around schema) as_it_is (id_of schema) calls (limits_view bounds) s (answer_view into a)
  pub means : MeansAfter schema calls bounds.nesting (value_within (limits_view bounds) s) (answer_view into a)
  pub stands : StandsAlone into a

-- A message's value is a struct or null, and the first words of a buffer are those of it, trimmed.
-- Or the message is skipped for this reason, whatever is called.
abbrev pub ReadsRootValue : Bounds → Segments → List (List ℕ) → Result ℕ Reason → Type 0
ReadsRootValue bounds s into (Ok count) = (r : ReadsValue bounds s into count) × (can_be_opened (trim r.value) ≡ true)
ReadsRootValue bounds s into (Err reason) = (schema : StructSchema) (calls : List Call) (any : List (List ℕ)) → IsAnswered schema calls bounds s any (answers.Refused reason)

-- What is told of calls of which it is known what each puts: what answers them, or that the message's words stand in the buffer, or nothing.
abbrev pub TellsKnown : StructSchema → List Call → Bounds → Segments → List (List ℕ) → Known → Type 0
TellsKnown schema calls bounds s into (knowns.Done n) = IsAnswered schema calls bounds s into (answers.Done n (length calls))
TellsKnown schema calls bounds s into (knowns.Refused reason) = IsAnswered schema calls bounds s into (answers.Refused reason)
TellsKnown schema calls bounds s into (knowns.Stands count) = ReadsRootValue bounds s into (Ok count)
TellsKnown schema calls bounds s into knowns.Spoiled = ⊤

-- This is the answer of calls that start from the value with these canonical words.
abbrev pub AnswersWords : StructSchema → List Call → ℕ → List ℕ → List (List ℕ) → MessageAnswer → Type 0
AnswersWords schema calls nesting words into a =
    (t : Tree) → Fits t → depth t ≤ nesting → words ≡ canonical_words t → AnswersStruct schema calls nesting into (widened_root (shape_of_struct schema) t) a

-- A call puts a list that is too long, where the calls start from this value, as it is opened; with no value, and one that isn't opened, none does.
abbrev pub LongFrom : StructSchema → List Call → Option Tree → Type 0
LongFrom schema calls None = ⊥
LongFrom schema calls (Some null) = LongInTurn schema calls (opened_root (schema_around schema) (id_of schema) null)
LongFrom schema calls (Some (structure words section kids)) = LongInTurn schema calls (opened_root (schema_around schema) (id_of schema) (structure words section kids))
LongFrom schema calls (Some _) = ⊥

-- A message can't be answered for its size: a call puts a list that is too long, or the message and
-- its edits may take more words than a message has.
abbrev pub MakesTooLarge : StructSchema → List Call → Bounds → Segments → Type 0
MakesTooLarge schema calls bounds s = LongFrom schema calls (value_within (limits_view bounds) s) ⊎ MayPassWords schema calls bounds

-- A call puts such a list, where the calls start from the value with these canonical words.
abbrev pub LongFromWords : StructSchema → List Call → ℕ → List ℕ → Type 0
LongFromWords schema calls nesting words =
    (t : Tree) → Fits t → depth t ≤ nesting → words ≡ canonical_words t → LongInTurn schema calls (widened_root (shape_of_struct schema) t)

-- Calls that start from the value with these canonical words can't be answered for their size.
abbrev pub IsTooLargeFrom : StructSchema → List Call → Bounds → List ℕ → Type 0
IsTooLargeFrom schema calls bounds words = LongFromWords schema calls bounds.nesting words ⊎ MayPassWords schema calls bounds
