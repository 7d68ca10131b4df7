-- All pairs that break the compatibility of two versions. (Schema language, "Evolving Your Protocol")
use Rattle.std.specs.Prelude.{ℕ, ◌≡◌, ◌⊎◌, true, List, [], ◌∷◌, Some, slice_get}
use Rattle.capnp_model.specs.Schemas.{Schema}
use Rattle.capnp_model.specs.Partners.{Renaming, renamed}
use Rattle.capnp_model.specs.Compatible.{Pairs, has_pair, keeps}
use Rattle.capnp_calls_versions.specs.declared.breaks.Break.{Break}
use Rattle.capnp_calls_versions.specs.declared.keeps.Versions.{Versions}
use Rattle.capnp_calls_versions.specs.declared.keeps.Levels.{Levels}
use Rattle.capnp_calls_versions.specs.declared.root.Root.{Root}
use Rattle.capnp_calls_versions.specs.Roots.{schema_at}
use Rattle.capnp_calls_versions.specs.Walks.{keeps_at}
use Rattle.capnp_calls_versions.specs.Faults.{IsBreakAt, IsClosedAt}
use Rattle.capnp_calls_versions.specs.Breaks.{IsBreak, IsReached, AreOfOtherSorts}

-- One of the breaks is such.
pub record HasBreak (bs : List Break) (P : Break → Type 0) : Type 0 where
  pub place : ℕ
  pub one : Break
  pub is : slice_get bs place ≡ Some one
  pub holds : P one

-- Breaks of pairs that are reached and are not kept, whichever others are: each is of one, and each of these has one.
pub record AreBreaksOf (reached : ℕ → ℕ → Type 0) (kept : ℕ → ℕ → Pairs → Type 0) (breaks : ℕ → ℕ → Break → Type 0) (bs : List Break) : Type 0 where
  pub each : (k : ℕ) (b : Break) → slice_get bs k ≡ Some b → (i : ℕ) × (j : ℕ) × reached i j × ((pairs : Pairs) → kept i j pairs → ⊥) × breaks i j b
  pub all : (i j : ℕ) → reached i j → ((pairs : Pairs) → kept i j pairs → ⊥) → HasBreak bs (breaks i j)

-- Breaks of pairs that are reached and are not kept at n levels, as above.
abbrev pub AreBreaksAt : Versions → Levels → ℕ → ℕ → List Break → Type 0
AreBreaksAt v levels older newer bs =
    AreBreaksOf (λ i j. (pairs : Pairs) → has_pair pairs older newer ≡ true → IsClosedAt v levels pairs → has_pair pairs i j ≡ true)
    (λ i j pairs. keeps_at v levels i j pairs ≡ true) (λ i j b. IsBreakAt v levels i j b) bs

-- The one break of roots of which one is a group and the other is none, or those of the pairs that are reached.
abbrev pub AllBreaksOf : Schema → Schema → ℕ → ℕ → List Break → Type 0
AllBreaksOf o n older newer bs =
    ((b : Break) × (bs ≡ b ∷ []) × AreOfOtherSorts o n older newer b)
    ⊎ ((o.is_group older ≡ n.is_group newer)
    × AreBreaksOf (λ i j. IsReached o n older newer i j) (λ i j pairs. keeps o n pairs (o.shape_of i) (n.shape_of j) ≡ true) (λ i j b. IsBreak o n b (o.shape_of i) (n.shape_of j)) bs)

-- What breaks the compatibility from two roots on, where fields are renamed.
abbrev pub AreAllBreaks : List Renaming → Root → Root → List Break → Type 0
AreAllBreaks rs older newer bs = AllBreaksOf (renamed rs (schema_at older)) (schema_at newer) older.id newer.id bs
