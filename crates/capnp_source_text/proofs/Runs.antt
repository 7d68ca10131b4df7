-- How far a test holds from the front of a list on.
use Rattle.std.proofs.Common.{◌≡◌, ℕ, ◌<◌, ◌≤◌, Bool, true, List, [], ◌∷◌, length, get_or, arith}
use Rattle.std.specs.List.{prefix_len}

-- it holds once where it holds of the first
pub prefix_first : (p : ℕ → Bool) (xs : List ℕ) → 0 < length xs → p (get_or xs 0 0) ≡ true → 1 ≤ prefix_len p xs
prefix_first p [] h e = absurd (omega arith)
prefix_first p (x ∷ xs) h e = rw e (omega arith)
