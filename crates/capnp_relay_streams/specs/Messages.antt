-- What an answer of calls to a message says.
use Rattle.std.specs.Prelude.{◌≡◌, ◌<◌, ◌^◌, ⊤, Bool, false, true, Some, List, length, All}
use Rattle.capnp_model.specs.Segments.{Segments, root as message_root}
use Rattle.capnp_model.specs.Trees.{Tree}
use Rattle.capnp_model.specs.Traversal.{tree_at}
use Rattle.capnp_model.specs.Readings.{record_of}
use Rattle.capnp_model.specs.Calls.{Call}
use Rattle.capnp_model.specs.CallRuns.{records_after}
use Rattle.capnp_model.specs.InKindCalls.{IsInKind}
use Rattle.capnp_model.specs.Answers.{Answer, written, value_within, IsAnswer}
use Rattle.capnp_values_queries.specs.Structs.{schema_around, id_of}
use Rattle.capnp_values_queries.specs.declared.structs.StructSchema.{StructSchema}
use Rattle.capnp_model.specs.Printing.{as_it_is}
use Rattle.capnp_relay_answers.specs.Answers.{MeansAfter, MakesTooLarge}
use Rattle.capnp_relay_answers.specs.Plain.{IsPlainAnswer, IsTooLargePlain}
use Rattle.capnp_relay_answers.specs.Bounds.{limits_view}
use Rattle.capnp_relay_answers.specs.declared.bounds.Bounds.{Bounds}

-- What is written reads as the record that the calls make of the message's record, where lists are in kind.
abbrev pub ReadsAsMade : StructSchema → List Call → Bounds → Segments → Answer → Type 0
ReadsAsMade root calls bounds s (written segments replies) =
    (t : Tree) → value_within (limits_view bounds) s ≡ Some t → IsInKind (schema_around root) (id_of root) calls t
    → (u : Tree) × (tree_at bounds.nesting segments message_root ≡ Some u)
    × (record_of (schema_around root) (id_of root) u ≡ records_after (schema_around root) (id_of root) calls (record_of (schema_around root) (id_of root) t))
ReadsAsMade root calls bounds s _ = ⊤

-- Each segment that is written has fewer words than 2^29.
abbrev pub HasSmallSegments : Answer → Type 0
HasSmallSegments (written segments replies) = All (λ words. length words < 2 ^ 29) segments
HasSmallSegments _ = ⊤

-- This is the answer of calls to a message, in small segments; it means the trimmed value after
-- them, and it reads as they make it.
pub record IsAnswerBy (root : StructSchema) (calls : List Call) (bounds : Bounds) (s : Segments) (a : Answer) : Type 0 where
  pub same : IsAnswer (schema_around root) as_it_is (id_of root) calls (limits_view bounds) s a
  pub means : MeansAfter root calls bounds.nesting (value_within (limits_view bounds) s) a
  pub reads : ReadsAsMade root calls bounds s a
  pub small : HasSmallSegments a

-- This is the answer of calls to a message in the plain form, where it means the value after the
-- calls itself.
pub record IsPlainAnswerBy (root : StructSchema) (calls : List Call) (bounds : Bounds) (s : Segments) (a : Answer) : Type 0 where
  pub answers : IsPlainAnswer root calls bounds s a
  pub reads : ReadsAsMade root calls bounds s a

-- The answer in the plain form or, with `false`, in the canonical one.
abbrev pub IsAnswerInForm : Bool → StructSchema → List Call → Bounds → Segments → Answer → Type 0
IsAnswerInForm false root calls bounds s a = IsAnswerBy root calls bounds s a
IsAnswerInForm true root calls bounds s a = IsPlainAnswerBy root calls bounds s a

-- So too a message that is too large to be answered.
abbrev pub IsTooLargeIn : Bool → StructSchema → List Call → Bounds → Segments → Type 0
IsTooLargeIn false root calls bounds s = MakesTooLarge root calls bounds s
IsTooLargeIn true root calls bounds s = IsTooLargePlain root calls bounds s
