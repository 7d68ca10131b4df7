use Rattle.std.proofs.Common.{ℕ, List, [], ◌∷◌, ◌++◌, ◌≤◌, length, arith}
use Rattle.std.specs.List.{flat_map}

-- Nothing is lent in owned segments.
pub nothing_lent : {X : Type 0} (xs : List X) → length (flat_map {A = ℕ} (λ (x : X). []) xs ++ []) ≤ 1
nothing_lent [] = omega arith
nothing_lent (x ∷ xs) = nothing_lent xs
