-- Two versions of a schema, and what is asked of calls that are carried out under both.
use Rattle.std.specs.Prelude.{ℕ, List}
use Rattle.std.specs.List.{AllByRecursion}
use Rattle.capnp_model.specs.Trees.{Tree}
use Rattle.capnp_model.specs.Schemas.{Node, Schema}
use Rattle.capnp_model.specs.Readings.{Record, record_of}
use Rattle.capnp_model.specs.Calls.{Call}
use Rattle.capnp_model.specs.Accepted.{schema_of, IsAccepted}
use Rattle.capnp_model.specs.Compatible.{IsCompatible}
use Rattle.capnp_model.specs.Admitted.{IsAdmitted}
use Rattle.capnp_model.specs.Projection.{projected}
use Rattle.capnp_model.specs.NamedPaths.{IsOpen}
use Rattle.capnp_model.specs.CallRuns.{IsStart}
use Rattle.capnp_model_versions.specs.Whole.{IsWhole, IsWholeVerb}
use Rattle.capnp_model_versions.specs.SameReplies.{IsWrite}

-- The node records of an older and of a newer version, with the ids of the two roots.
pub record TwoVersions : Type 0 where
  pub older_nodes : List Node
  pub newer_nodes : List Node
  pub older_root : ℕ
  pub newer_root : ℕ

-- The older schema.
abbrev pub older : TwoVersions → Schema
older v = schema_of v.older_nodes

-- The newer schema.
abbrev pub newer : TwoVersions → Schema
newer v = schema_of v.newer_nodes

-- The record of a value under the newer version.
abbrev pub newer_record : TwoVersions → Tree → Record
newer_record v t = record_of (newer v) v.newer_root t

-- What the older version sees of a newer record.
abbrev pub older_view : TwoVersions → Record → Record
older_view v r = projected (older v) v.older_root r

-- Both schemas are accepted, and the newer is compatible with the older.
pub record AreCompatible (v : TwoVersions) : Type 0 where
  pub older_accepted : IsAccepted v.older_nodes
  pub newer_accepted : IsAccepted v.newer_nodes
  pub compatible : IsCompatible (older v) (newer v) v.older_root v.newer_root

-- A call that is admitted.
abbrev pub IsAdmittedIn : TwoVersions → Call → Type 0
IsAdmittedIn v c = IsAdmitted (older v) (newer v) v.older_root v.newer_root c

-- Compatible versions, an admitted call with what calls hold, and a struct or null as messages hold it.
pub record CanEdit (v : TwoVersions) (c : Call) (t : Tree) : Type 0 where
  pub versions : AreCompatible v
  pub admitted : IsAdmittedIn v c
  pub whole_verb : IsWholeVerb c.verb
  pub whole : IsWhole t
  pub opens : IsOpen t

-- Compatible versions, and an admitted call other than `get`.
pub record CanStep (v : TwoVersions) (c : Call) : Type 0 where
  pub versions : AreCompatible v
  pub admitted : IsAdmittedIn v c
  pub writes : IsWrite c.verb

-- Compatible versions, admitted calls with what calls hold, and a struct or null as messages hold it, from which the calls can start
-- under the newer version.
pub record CanRun (v : TwoVersions) (calls : List Call) (t : Tree) : Type 0 where
  pub versions : AreCompatible v
  pub admitted : AllByRecursion (IsAdmittedIn v) calls
  pub whole_verbs : AllByRecursion (λ c. IsWholeVerb c.verb) calls
  pub whole : IsWhole t
  pub start : IsStart v.newer_nodes v.newer_root calls t
