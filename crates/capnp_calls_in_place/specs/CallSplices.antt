-- Calls that put something into the structs of a value, each of which gets as many words of data as it needs.
use Rattle.std.specs.Prelude.{◌≡◌, ℕ, ◌+◌, ◌<◌, Bool, true, ◌&&◌, Some, is_some, List, [], ◌∷◌, length, slice_get, ⊤}
use Rattle.capnp_model.specs.Trees.{Tree, depth}
use Rattle.capnp_model.specs.Trimming.{trim}
use Rattle.capnp_model.specs.Fits.{Fits}
use Rattle.capnp_model.specs.Encoding.{canonical_words}
use Rattle.capnp_model.specs.Readings.{record_of}
use Rattle.capnp_model.specs.Calls.{Call}
use Rattle.capnp_model.specs.Steps.{step}
use Rattle.capnp_model.specs.Edits.{edit}
use Rattle.capnp_model.specs.Answers.{reply_of, reply_done}
use Rattle.capnp_values_queries.specs.Structs.{schema_around, id_of}
use Rattle.capnp_values_queries.specs.declared.structs.StructSchema.{StructSchema}
use Rattle.capnp_model.specs.Printing.{as_it_is}
use Rattle.capnp_calls.specs.Resolved.{calls_of, KnowSplices}
use Rattle.capnp_calls.specs.declared.resolved.Resolved.{Resolved}
use Rattle.capnp_calls_splice.specs.Splices.{IsSpliced, StandsWithin, StandAsBefore, TellsSplice, put_room}
use Rattle.capnp_calls_splice.specs.declared.splice.Splice.{Splice}
use Rattle.capnp_calls_splice.specs.declared.splice.Spliced.{Spliced}
use Rattle.capnp_calls_splice.specs.declared.splice.Spliced.TheVariants as outcomes
use Rattle.capnp_wire_canonical.specs.Writes.{filled}
use Rattle.capnp_calls_in_place.specs.PlainSets.{SetsWords}

-- A call is done at a value, and makes this of it, trimmed, as deep as it was.
pub record MakesTrimmed (schema : StructSchema) (c : Call) (old new : Tree) : Type 0 where
  pub replied : reply_of (schema_around schema) as_it_is (step (schema_around schema) (id_of schema) c (record_of (schema_around schema) (id_of schema) old)) ≡ reply_done
  pub made : trim (edit (schema_around schema) (id_of schema) c old) ≡ new
  pub deep : depth (edit (schema_around schema) (id_of schema) c old) ≡ depth old

-- A call puts what a splice puts, wherever that can be put into the trimmed value.
abbrev pub IsCallSplice : StructSchema → Call → Splice → Type 0
IsCallSplice schema c p = (old new : Tree) → Fits (trim old) → IsSpliced p (trim old) new → MakesTrimmed schema c old new

-- Each call has a splice.
abbrev pub have_splices : List Resolved → Bool
have_splices [] = true
have_splices (r ∷ rs) = is_some r.splice && have_splices rs

-- What is told of the splice of a call into n words at the front of a buffer.
abbrev pub TellsCall : Resolved → ℕ → List (List ℕ) → List (List ℕ) → Spliced → Type 0
TellsCall call count old new (outcomes.Done n) = (p : Splice) × (call.splice ≡ Some p) × TellsSplice p count old new (outcomes.Done n)
TellsCall call count old new outcomes.Unplaced = StandAsBefore count old new
TellsCall call count old new outcomes.Spoiled = ⊤

-- A buffer that has n words in use may be too short for what a call puts.
abbrev pub IsShortFor : Resolved → ℕ → List (List ℕ) → Type 0
IsShortFor call count buffer = (p : Splice) × (call.splice ≡ Some p) × (length buffer < count + put_room p.put)

-- Where the old words are the canonical words of a trimmed value, the new ones are those of the value after calls, under the schema that these were resolved under.
abbrev pub HasCallsWords : List Resolved → List ℕ → List ℕ → Type 0
HasCallsWords calls old new = (schema : StructSchema) (t : Tree) → KnowSplices schema calls → Fits t → trim t ≡ t → old ≡ canonical_words t → SetsWords schema (calls_of calls) t new

-- What is told of the splices of calls into n words at the front of a buffer, one after the other.
abbrev pub TellsSplices : List Resolved → ℕ → List (List ℕ) → List (List ℕ) → Spliced → Type 0
TellsSplices calls count old new (outcomes.Done n) = HasCallsWords calls (filled count old) (filled n new) × StandsWithin new n
TellsSplices calls count old new outcomes.Unplaced = StandAsBefore count old new
TellsSplices calls count old new outcomes.Spoiled = ⊤

-- What one of calls puts may add words to a message.
pub record WantsRoom (calls : List Resolved) : Type 0 where
  pub index : ℕ
  pub call : Resolved
  pub splice : Splice
  pub there : slice_get calls index ≡ Some call
  pub puts : call.splice ≡ Some splice
  pub room : 0 < put_room splice.put
