-- Roots that have the nodes and the ids of two versions are compatible exactly if the versions are.
use Rattle.std.proofs.Common.{◌≡◌, ℕ, List, Bool, subst}
use Rattle.std.specs.Bool.{MatchBool}
use Rattle.capnp_model.specs.Schemas.{Node}
use Rattle.capnp_model.specs.Accepted.{schema_of}
use Rattle.capnp_model.specs.Compatible.{IsCompatibleWith}
use Rattle.capnp_records.specs.Sets.{nodes_of}
use Rattle.capnp_calls_versions.specs.Roots.{AreRootsCompatibleWith}
use Rattle.capnp_calls_versions.specs.Renamed.{renamings_of}
use Rattle.capnp_calls_versions.specs.declared.root.Root.{Root}
use Rattle.hagzimot_in_process.specs.declared.versions.Versions.{Versions}
use Rattle.hagzimot_in_process.specs.Opened.{AreCompatible}

pub of_roots : (v : Versions) (older newer : Root) (are : Bool) → nodes_of older.set.now ≡ nodes_of v.older.set → older.id ≡ v.older.root.id → nodes_of newer.set.now ≡ nodes_of v.newer.set → newer.id ≡ v.newer.root.id
    → MatchBool are (AreRootsCompatibleWith (renamings_of v.renamings) older newer) (AreRootsCompatibleWith (renamings_of v.renamings) older newer → ⊥) → MatchBool are (AreCompatible v) (AreCompatible v → ⊥)
of_roots v older newer are e i f j h =
    let C : List Node → ℕ → List Node → ℕ → Type 0 = λ a n b m. IsCompatibleWith (renamings_of v.renamings) (schema_of a) (schema_of b) n m in
    let P : List Node → ℕ → List Node → ℕ → Type 0 = λ a n b m. MatchBool are (C a n b m) (C a n b m → ⊥) in
    let A : List Node → Type 0 = λ a. P a older.id (nodes_of newer.set.now) newer.id in
    let N : ℕ → Type 0 = λ n. P (nodes_of v.older.set) n (nodes_of newer.set.now) newer.id in
    let B : List Node → Type 0 = λ b. P (nodes_of v.older.set) v.older.root.id b newer.id in
    let M : ℕ → Type 0 = λ m. P (nodes_of v.older.set) v.older.root.id (nodes_of v.newer.set) m in
    subst M j (subst B f (subst N i (subst A e h)))
