-- Two relays in a row, and one relay with the calls of both.
use Rattle.std.specs.Prelude.{◌≡◌, ℕ, List, ◌++◌, Some}
use Rattle.std.specs.List.{AllByRecursion}
use Rattle.capnp_model.specs.Segments.{Segments}
use Rattle.capnp_model.specs.Trees.{Tree}
use Rattle.capnp_model.specs.Schemas.{Node}
use Rattle.capnp_model.specs.Accepted.{schema_of}
use Rattle.capnp_model.specs.Calls.{Call}
use Rattle.capnp_model.specs.CallRuns.{IsStart}
use Rattle.capnp_model.specs.Answers.{Reply, written, Limits, value_within}
use Rattle.capnp_model.specs.SameRuns.{Work, IsAnswerIn}
use Rattle.capnp_model_versions.specs.StructElements.{SetNoStructElements}
use Rattle.capnp_model_versions.specs.Fitting.{AreSpelled, HoldsShortLists}
use Rattle.capnp_model_versions.specs.OwnOutput.{relay_of}

-- Two relays under one schema, of which the second reads what the first writes.
pub record TwoRelays : Type 0 where
  pub nodes : List Node
  pub root : ℕ
  pub quoted : List ℕ → List ℕ
  pub calls : List Call
  pub later_calls : List Call
  pub limits : Limits
  pub later_limits : Limits

-- The first one.
abbrev pub first : TwoRelays → Work
first r = relay_of r.nodes r.quoted r.root r.calls r.limits

-- The second one.
abbrev pub second : TwoRelays → Work
second r = relay_of r.nodes r.quoted r.root r.later_calls r.later_limits

-- One relay with the calls of both, within the limits of the first.
abbrev pub joined_relay : TwoRelays → Work
joined_relay r = relay_of r.nodes r.quoted r.root (r.calls ++ r.later_calls) r.limits

-- A relay writes these segments for a message.
abbrev pub RelayWrites : Work → Segments → Segments → Type 0
RelayWrites w message segments = (replies : List Reply) × IsAnswerIn w message (written segments replies)

-- The calls of both can start from the message's value, and none sets a whole element of a list of structs.
pub record CanRelay (r : TwoRelays) (message : Segments) : Type 0 where
  pub plain : SetNoStructElements (schema_of r.nodes) r.root r.calls
  pub later_plain : SetNoStructElements (schema_of r.nodes) r.root r.later_calls
  pub start : (t : Tree) → value_within r.limits message ≡ Some t
      → IsStart r.nodes r.root (r.calls ++ r.later_calls) t

-- The calls of the first can be spelled, and neither hold nor make a list that is too long.
pub record HasShortCalls (r : TwoRelays) : Type 0 where
  pub spelled : AreSpelled r.nodes r.calls
  pub short : AllByRecursion (λ c. HoldsShortLists c.verb) r.calls
