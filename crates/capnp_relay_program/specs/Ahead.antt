-- What is told of bytes before they are taken.
use Rattle.std.specs.Prelude.{◌≡◌, ℕ, List, [], ◌∷◌, Some, None, Ok}
use Rattle.std.specs.declared.option.Option.{Option}
use Rattle.capnp_model.specs.Messages.{Reader}
use denote.Ref.{Bor}

-- The word that is read from the front of bytes, and the bytes behind it; none where none is read.
abbrev pub SplitsFirstWord : Reader → List ℕ → Option (ℕ × Bor (List ℕ)) → Type 0
SplitsFirstWord read bytes (Some front) = read 1 bytes ≡ Ok (front.0 ∷ [], front.1.now)
SplitsFirstWord read bytes None = (r : List ℕ × List ℕ) → read 1 bytes ≡ Ok r → ⊥
