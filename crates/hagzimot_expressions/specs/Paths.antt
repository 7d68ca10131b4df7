-- The texts of paths, as `lines[0].count`.
use Rattle.std.specs.Prelude.{◌≡◌, ◌≢◌, ℕ, ⊤, List, [], ◌++◌, codes, decimal, string_bytes}
use Rattle.std.specs.List.{All, flat_map}
use Rattle.hagzimot_expressions.specs.declared.tree.Step.{Step}
use Rattle.hagzimot_expressions.specs.declared.tree.Step.TheVariants as step

-- A name has a byte, and neither a point nor an opening bracket.
abbrev pub IsName : List ℕ → Type 0
IsName text = (text ≢ []) × All (λ b. (b ≢ 46) × (b ≢ 91)) text

-- A step that has a name has one of these.
abbrev pub IsNamed : Step → Type 0
IsNamed (step.Name name) = IsName (string_bytes name)
IsNamed (step.Index index) = ⊤
IsNamed step.Each = ⊤

-- The text of a step: a name behind a point, an index or a star in brackets.
abbrev pub step_text : Step → List ℕ
step_text (step.Name name) = codes "." ++ string_bytes name
step_text (step.Index index) = codes "[" ++ (decimal index ++ codes "]")
step_text step.Each = codes "[*]"

-- A text spells these steps, and no others: it begins without a point, and no name has one.
pub record SpellsPath (text : List ℕ) (path : List Step) : Type 0 where
  pub spelled : codes "." ++ text ≡ flat_map step_text path
  pub named : All IsNamed path
