-- The front of lent memory.
use Rattle.std.proofs.Common.{arith, ◌≡◌, ◌≤◌, ◌<◌, ℕ, List, ◌++◌, length, ◌∙◌}
use Rattle.std.proofs.lemmas.List.{take-append-le, take_all}
use Rattle.hagzimot_c.specs.Exports.{IsLent}

-- Bytes that lent memory begins with are lent.
pub lent_front : (bytes rest lent : List ℕ) (len : ℕ) → len ≡ length bytes → lent ≡ bytes ++ rest → IsLent bytes lent len
lent_front bytes rest lent len count is =
    let fits : length bytes ≤ length bytes = omega arith in
    record { len_is = count; front = λ few. rw is (take-append-le (length bytes) bytes rest fits ∙ take_all (length bytes) bytes fits) }

-- Bytes that are longer than lent memory are lent by their length only.
pub too_long : (bytes lent : List ℕ) (len : ℕ) → len ≡ length bytes → length lent < length bytes → IsLent bytes lent len
too_long bytes lent len count more = record { len_is = count; front = λ few. absurd (let no : ⊥ = omega (arith, more, few) in no) }
