-- Where the newer schema is compatible, older records are views of the newer's.
use Rattle.std.proofs.Common.{◌≡◌, ℕ, Bool, true, false, List, Result, Ok, Err}
use Rattle.std.specs.Prelude.{IfOk}
use Rattle.std.specs.Bool.{MatchBool}
use Rattle.capnp_model.specs.Trees.{Tree}
use Rattle.capnp_model.specs.Schemas.{Node}
use Rattle.capnp_model.specs.Readings.{record_of}
use Rattle.capnp_model.specs.Partners.{Renaming}
use Rattle.capnp_model.specs.Projection.{projected}
use Rattle.capnp_model.specs.Compatible.{IsCompatible}
use Rattle.capnp_model.specs.Accepted.{schema_of, IsAccepted}
use Rattle.capnp_model_versions.specs.TwoVersions.{TwoVersions, older, newer_record}
use Rattle.capnp_model_versions.specs.RenamedVersions.{AreCompatibleWith as VersionsAre}
use Rattle.capnp_model_versions.specs.RenamedViews.{older_view_with}
use Rattle.capnp_records.specs.Sets.{nodes_of}
use Rattle.capnp_calls_versions.specs.declared.root.Root.{Root}
use Rattle.capnp_calls_versions.specs.Roots.{AreRootsCompatible, AreRootsCompatibleWith, IsViewed, IsViewedWith}

-- what the laws say
abbrev pub RenamedViews : Type 0
RenamedViews = (rs : List Renaming) (v : TwoVersions) (t : Tree) → VersionsAre rs v → record_of (older v) v.older_root t ≡ older_view_with rs v (newer_record v t)

abbrev pub PlainViews : Type 0
PlainViews = (nodes newer_nodes : List Node) (older newer : ℕ) (t : Tree) → IsAccepted nodes → IsCompatible (schema_of nodes) (schema_of newer_nodes) older newer → record_of (schema_of nodes) older t ≡ projected (schema_of nodes) older (record_of (schema_of newer_nodes) newer t)

pub viewed-with : RenamedViews → (rs : List Renaming) (a b : Root) (answer : Bool) → MatchBool answer (AreRootsCompatibleWith rs a b) (AreRootsCompatibleWith rs a b → ⊥) → answer ≡ true → IsViewedWith rs a b
viewed-with law rs a b false h e = absurd (cc e)
viewed-with law rs a b true h e = λ t.
    law rs (record { older_nodes = nodes_of a.set.now; newer_nodes = nodes_of b.set.now; older_root = a.id; newer_root = b.id }) t
    (record { older_accepted = a.set.now.accepted; newer_accepted = b.set.now.accepted; compatible = h })

viewed_where : PlainViews → (a b : Root) (answer : Bool) → MatchBool answer (AreRootsCompatible a b) (AreRootsCompatible a b → ⊥) → answer ≡ true → IsViewed a b
viewed_where law a b false h e = absurd (cc e)
viewed_where law a b true h e = λ t. law (nodes_of a.set.now) (nodes_of b.set.now) a.id b.id t a.set.now.accepted h

pub viewed : {E : Type 0} → PlainViews → (a b : Root) (result : Result Bool E) → IfOk result (λ answer. MatchBool answer (AreRootsCompatible a b) (AreRootsCompatible a b → ⊥)) → IfOk result (λ answer. answer ≡ true → IsViewed a b)
viewed law a b (Ok answer) h = viewed_where law a b answer h
viewed law a b (Err e) h = h
