-- Slices that are lent to an allocator.
use Rattle.std.specs.Prelude.{ℕ, ◌*◌, List, [], ◌∷◌, Bool, true, false, take}

-- The names of the lent slices that an allocator of one slice holds: none while its slice is out.
abbrev pub loans_of : Bool → ℕ → List ℕ
loans_of true name = []
loans_of false name = name ∷ []

-- The bytes of the words of a lent slice that are used already: none while the slice is out.
abbrev pub opened_in : Bool → ℕ → List ℕ → List ℕ
opened_in true used bytes = []
opened_in false used bytes = take (8 * used) bytes
