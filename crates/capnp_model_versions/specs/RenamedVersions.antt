-- Two versions of a schema, of which the newer has fields of the older by other names.
use Rattle.std.specs.Prelude.{IsTrue, List}
use Rattle.std.specs.List.{AllByRecursion}
use Rattle.capnp_model.specs.Trees.{Tree}
use Rattle.capnp_model.specs.Calls.{Call}
use Rattle.capnp_model.specs.Accepted.{IsAccepted}
use Rattle.capnp_model.specs.Partners.{Renaming}
use Rattle.capnp_model.specs.Compatible.{IsCompatibleWith}
use Rattle.capnp_model.specs.Admitted.{is_admitted_with}
use Rattle.capnp_model.specs.RenamedCalls.{renamed_calls}
use Rattle.capnp_model.specs.CallRuns.{IsStart}
use Rattle.capnp_model_versions.specs.Whole.{IsWhole, IsWholeVerb}
use Rattle.capnp_model_versions.specs.TwoVersions.{TwoVersions, older, newer}

-- Calls under the older version in the newer's words.
abbrev pub newer_calls : List Renaming → TwoVersions → List Call → List Call
newer_calls rs v calls = renamed_calls rs (older v) v.older_root calls

-- Both schemas are accepted, and the newer is compatible with the older with renamed fields.
pub record AreCompatibleWith (rs : List Renaming) (v : TwoVersions) : Type 0 where
  pub older_accepted : IsAccepted v.older_nodes
  pub newer_accepted : IsAccepted v.newer_nodes
  pub compatible : IsCompatibleWith rs (older v) (newer v) v.older_root v.newer_root

-- A call that is admitted with renamed fields.
abbrev pub IsAdmittedWith : List Renaming → TwoVersions → Call → Type 0
IsAdmittedWith rs v c = IsTrue (is_admitted_with rs (older v) (newer v) v.older_root v.newer_root c)

-- Compatible versions, admitted calls with what calls hold, and a struct or null as messages hold it, from which the calls can start
-- under the newer version in its words.
pub record CanRunWith (rs : List Renaming) (v : TwoVersions) (calls : List Call) (t : Tree) : Type 0 where
  pub versions : AreCompatibleWith rs v
  pub admitted : AllByRecursion (IsAdmittedWith rs v) calls
  pub whole_verbs : AllByRecursion (λ c. IsWholeVerb c.verb) calls
  pub whole : IsWhole t
  pub start : IsStart v.newer_nodes v.newer_root (newer_calls rs v calls) t
