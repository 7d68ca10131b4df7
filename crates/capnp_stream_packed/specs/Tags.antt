-- Which bytes of a word a tag marks. (Encoding, "Packing")
use Rattle.std.specs.Prelude.{ℕ, zero, suc, ◌+◌, ◌-◌, ◌/◌, ◌%◌, ◌==◌, if◌then◌else◌, List, [], ◌∷◌, ◌++◌, replicate}

-- How many of n bytes a tag marks.
unfoldable pub marks : ℕ → ℕ → ℕ
marks zero t = 0
marks (suc n) t = t % 2 + marks n (t / 2)

-- Where each of n bytes of a word stands among the bytes behind the tag, of which the next is the
-- k-th. One that the tag doesn't mark is at 8, where none stands.
unfoldable pub sources : ℕ → ℕ → ℕ → List ℕ
sources zero t k = []
sources (suc n) t k = (if t % 2 == 0 then 8 else k) ∷ sources n (t / 2) (k + t % 2)

-- Which of n bytes of a word a tag marks, in order. The first of them is the i-th.
unfoldable pub places : ℕ → ℕ → ℕ → List ℕ
places zero t i = []
places (suc n) t i = if t % 2 == 0 then places n (t / 2) (i + 1) else i ∷ places n (t / 2) (i + 1)

-- The bytes of a word that a tag marks, in order; at 8, where none stands, behind them.
abbrev pub eight_places : ℕ → List ℕ
eight_places t = places 8 t 0 ++ replicate (8 - marks 8 t) 8
