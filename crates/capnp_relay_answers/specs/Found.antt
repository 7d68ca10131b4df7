-- What is known, once, of what calls at the roots of messages put.
use Rattle.std.specs.Prelude.{◌≡◌, ℕ, List, ⊤}
use Rattle.capnp_model.specs.Trees.{Tree}
use Rattle.capnp_model.specs.Fits.{Fits}
use Rattle.capnp_model.specs.Trimming.{trim}
use Rattle.capnp_model.specs.Encoding.{canonical_words}
use Rattle.capnp_model.specs.Calls.{Call}
use Rattle.capnp_values_queries.specs.declared.structs.StructSchema.{StructSchema}
use Rattle.capnp_calls.specs.Resolved.{calls_of, KnowSplices}
use Rattle.capnp_calls.specs.declared.resolved.Resolved.{Resolved}
use Rattle.capnp_wire_canonical.specs.Writes.{filled}
use Rattle.capnp_calls_splice.specs.Splices.{StandsWithin, StandAsBefore}
use Rattle.capnp_calls_splice.specs.declared.splice.Spliced.{Spliced}
use Rattle.capnp_calls_splice.specs.declared.splice.Spliced.TheVariants as outcomes
use Rattle.capnp_calls_in_place.specs.PlainSets.{ArePlain, SetsWords}
use Rattle.capnp_relay_answers.specs.declared.found.Found.{Found}
use Rattle.capnp_relay_answers.specs.declared.found.Found.TheVariants as founds

-- What is found is what the calls put.
abbrev pub IsFound : StructSchema → List Resolved → Found → Type 0
IsFound schema calls (founds.Plain sets wanted) = ArePlain schema (calls_of calls) sets.items × KnowSplices schema calls
IsFound schema calls founds.Spliced = KnowSplices schema calls
IsFound schema calls founds.Gets = ⊤
IsFound schema calls founds.Unknown = ⊤

-- n words at the front of a buffer are those of what the calls make of the value that old canonical
-- words spell.
pub record SetsKnownFront (schema : StructSchema) (calls : List Call) (old : List ℕ) (into : List (List ℕ)) (count : ℕ) : Type 0 where
  pub sets : (t : Tree) → Fits t → trim t ≡ t → old ≡ canonical_words t → SetsWords schema calls t (filled count into)
  pub stands : StandsWithin into count

-- What is told where calls were to be put into n words at the front of a buffer: all are, none is, or the words are of no use.
abbrev pub TellsPut : StructSchema → List Call → ℕ → List (List ℕ) → List (List ℕ) → Spliced → Type 0
TellsPut schema calls count old new (outcomes.Done n) = SetsKnownFront schema calls (filled count old) new n
TellsPut schema calls count old new outcomes.Unplaced = StandAsBefore count old new
TellsPut schema calls count old new outcomes.Spoiled = ⊤
