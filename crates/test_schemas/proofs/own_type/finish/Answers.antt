use Rattle.std.proofs.Common.{ℕ, List, [], ◌∷◌, ◌++◌, ◌≤◌, length, arith}
use Rattle.std.specs.List.{flat_map}
use Rattle.test_schemas.proofs.own_type.finish.Goals as goal

-- Nothing is lent in owned segments.
nothing_lent : {X : Type 0} (xs : List X) → length (flat_map {A = ℕ} (λ (x : X). []) xs ++ []) ≤ 1
nothing_lent [] = omega arith
nothing_lent (x ∷ xs) = nothing_lent xs

pub into_allocator-requires : goal.into_allocator-requires
into_allocator-requires c = nothing_lent c.args.arena.segments.items
