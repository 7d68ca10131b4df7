-- Lines on messages that are not shown or edited.
use Rattle.std.specs.Prelude.{ℕ, List, ◌++◌, codes, decimal}
use Rattle.hagzimot_show.specs.declared.explain.MessageOrigin.{MessageOrigin}

-- The line about a message: its file, its number and the byte at which it begins, what became of it, and why.
abbrev pub message_text : MessageOrigin → List ℕ → List ℕ → List ℕ
message_text o what why =
    o.file.now ++ (codes ": message " ++ (decimal o.number ++ (codes " (byte " ++ (decimal o.byte ++ (codes ") " ++ (what ++ (codes ": " ++ why)))))))
