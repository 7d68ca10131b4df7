-- Bytes of segments, and the zeros in them.
use Rattle.std.specs.Prelude.{◌≡◌, ℕ, ◌+◌, List, ◌++◌, length, take, drop, replicate}

-- All bytes are zero.
abbrev pub AllZero : List ℕ → Type 0
AllZero bytes = bytes ≡ replicate (length bytes) 0

-- The bytes from the nth on are zero.
abbrev pub ZeroFrom : ℕ → List ℕ → Type 0
ZeroFrom n bytes = AllZero (drop n bytes)

-- The bytes with others in place of as many from a position on.
abbrev pub overwritten : ℕ → List ℕ → List ℕ → List ℕ
overwritten at from bytes = take at bytes ++ (from ++ drop (at + length from) bytes)
