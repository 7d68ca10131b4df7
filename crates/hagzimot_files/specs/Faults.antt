-- The ends of giving a draft its name.
use Rattle.std.specs.Prelude.{Result, MatchResult, ⊤}
use Rattle.hagzimot_files.specs.declared.faults.CommitError.{CommitError}

-- the error says that the name holds what it held
abbrev pub IsKept : CommitError → Type 0 → Type 0
IsKept (CommitError.Kept e) claim = claim
IsKept (CommitError.Unsynced e) claim = ⊤

-- the error says that the name holds the draft
abbrev pub IsUnsynced : CommitError → Type 0 → Type 0
IsUnsynced (CommitError.Kept e) claim = ⊤
IsUnsynced (CommitError.Unsynced e) claim = claim

abbrev pub IfKept : {T : Type 0} → Result T CommitError → Type 0 → Type 0
IfKept result claim = MatchResult result (λ _. ⊤) (λ e. IsKept e claim)

abbrev pub IfUnsynced : {T : Type 0} → Result T CommitError → Type 0 → Type 0
IfUnsynced result claim = MatchResult result (λ _. ⊤) (λ e. IsUnsynced e claim)
