-- A byte that was held is read.
use Rattle.std.proofs.Common.{◌≡◌, ℕ, List, [], ◌∷◌, length, take, slice_index_or, slice_set, arith, Some, None, Bool, false}
use Rattle.std.specs.declared.option.Option.{Option}
use Rattle.std.specs.Bool.{◌==◌}
use Rattle.std.specs.Io.KnownBytes.{Consumes, prepend_known}

pub byte_read : (known : Option (List ℕ)) (front buf : List ℕ) (held : ℕ) → held ≡ 1 → length front ≡ 1 → (r : Bool) → r ≡ false → r ≡ (length buf == 0) → Consumes (prepend_known (take held front) known) (prepend_known (take 0 front) known) (take 1 (slice_set buf 0 (slice_index_or front 0 0)))
byte_read None front buf held h l r f e = tt
byte_read (Some xs) [] buf held h l r f e = absurd (omega (arith, l))
byte_read (Some xs) (x ∷ front) [] held h l r f e = absurd cc
byte_read (Some xs) (x ∷ front) (y ∷ buf) held h l r f e = rw h
