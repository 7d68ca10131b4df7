-- The reasons why files can't be compiled.
use Rattle.std.specs.Prelude.{ℕ, ◌+◌, ◌*◌, ◌^◌, ◌<◌, ◌≤◌, List, length, All}
use Rattle.std.specs.List.Sorted.{IsNonDecreasingBy}
use Rattle.capnp_source_nodes.specs.declared.problems.Problem.{Problem}
use Rattle.capnp_source_compile.specs.declared.compile.CompileFault.{CompileFault}
use Rattle.capnp_source_compile.specs.declared.compile.CompileFault.TheVariants as F

-- Where a problem is, in the order of files and places.
abbrev pub place_of : Problem → ℕ
place_of p = p.file * 2 ^ 64 + p.start

-- Problems of some files: one at least and 100 at most, each in one of the files, in the order of places.
pub record AreProblems (files : ℕ) (problems : List Problem) : Type 0 where
  pub some : 0 < length problems
  pub few : length problems ≤ 100
  pub inside : 0 < files → All (λ p. p.file < files) problems
  pub spans : All (λ p. p.start ≤ p.end) problems
  pub order : IsNonDecreasingBy place_of problems

abbrev pub IsCompileFault : ℕ → CompileFault → Type 0
IsCompileFault files (F.Problems v) = AreProblems files v.items
IsCompileFault files F.Memory = Unit {0}
