-- The numbers of the conditions in a tree.
use Rattle.std.specs.Prelude.{◌≡◌, ℕ, suc, length}
use Rattle.hagzimot_expressions.specs.declared.parser.Parser.{Parser}
use Rattle.hagzimot_expressions.specs.declared.tree.Tree.{Tree, Test, Not', And', Or'}

-- From left to right the conditions of a tree have the numbers from one up to another, each once.
unfoldable pub NumbersFrom : ℕ → Tree → ℕ → Type 0
NumbersFrom from (Test number) to = (number ≡ from) × (to ≡ suc from)
NumbersFrom from (Not' p inner) to = NumbersFrom from inner to
NumbersFrom from (And' p left q right) to = (mid : ℕ) × NumbersFrom from left mid × NumbersFrom mid right to
NumbersFrom from (Or' p left q right) to = (mid : ℕ) × NumbersFrom from left mid × NumbersFrom mid right to

-- The number of conditions that were read.
abbrev pub tests_read : Parser → ℕ
tests_read p = length p.tests.items

-- The conditions that were read between two states are those of a tree, in order.
abbrev pub NumbersRead : Parser → Parser → Tree → Type 0
NumbersRead old new tree = NumbersFrom (tests_read old) tree (tests_read new)
