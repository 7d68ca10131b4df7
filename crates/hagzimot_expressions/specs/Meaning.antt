-- What a tree of conditions says, if each condition is told to hold or not.
use Rattle.std.specs.Prelude.{ℕ, Bool, true, false, ◌⊎◌}
use Rattle.hagzimot_expressions.specs.declared.tree.Tree.{Tree, Test, Not', And', Or'}

-- A tree holds or not, where this says of each condition whether it does. What decides is told from left to right.
unfoldable pub Decides : (ℕ → Bool → Type 0) → Tree → Bool → Type 0
Decides says (Test number) is = says number is
Decides says (Not' p inner) true = Decides says inner false
Decides says (Not' p inner) false = Decides says inner true
Decides says (And' p left q right) true = Decides says left true × Decides says right true
Decides says (And' p left q right) false = Decides says left false ⊎ (Decides says left true × Decides says right false)
Decides says (Or' p left q right) true = Decides says left true ⊎ (Decides says left false × Decides says right true)
Decides says (Or' p left q right) false = Decides says left false × Decides says right false
