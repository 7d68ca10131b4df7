-- Bytes as texts of a program, which are UTF-8.
use Rattle.std.specs.Prelude.{◌≡◌, ℕ, List, Option, Some, None, Result, Ok, Err}
use Rattle.std.specs.Str.{IsUtf8, IsValidUpTo, valid_up_to}
use Rattle.std.specs.declared.str.Utf8Error.{Utf8Error}

-- A text of these bytes where they are UTF-8, else how far they are.
abbrev pub IsUtf8Text : {X : Type 0} → (X → List ℕ) → List ℕ → Result X Utf8Error → Type 0
IsUtf8Text view bytes (Ok text) = (view text ≡ bytes) × IsUtf8 bytes
IsUtf8Text view bytes (Err e) = ¬ (IsUtf8 bytes) × IsValidUpTo bytes (valid_up_to e)

-- A text of these bytes exactly where they are UTF-8.
abbrev pub IsTextIfAny : {X : Type 0} → (X → List ℕ) → List ℕ → Option X → Type 0
IsTextIfAny view bytes (Some text) = (view text ≡ bytes) × IsUtf8 bytes
IsTextIfAny view bytes None = ¬ (IsUtf8 bytes)
