-- Calls that did not run, among those that did.
use Rattle.std.specs.Prelude.{◌≡◌, ℕ, ◌+◌, ◌-◌, ◌^◌, ◌/◌, ◌%◌, ◌==◌, ◌&&◌, nat_lt, nat_le, Bool, true, false, not, if◌then◌else◌, Option, Some, None, List, [], ◌∷◌, ◌++◌, replicate}
use Rattle.hagzimot_outcomes.specs.declared.outcomes.CallOutcome.{CallOutcome}
use Rattle.hagzimot_outcomes.specs.declared.outcomes.CallOutcome.TheVariants as call
use Rattle.hagzimot_outcomes.specs.declared.outcomes.Outcome.{Outcome}
use Rattle.hagzimot_outcomes.specs.declared.outcomes.Outcome.TheVariants as outcome

-- A call did not run: the bit of its probe is set.
abbrev pub is_skipped : ℕ → Option ℕ → Bool
is_skipped bits None = false
is_skipped bits (Some n) = nat_lt n 64 && ((bits / 2 ^ n) % 2 == 1)

-- What became of a call that did not run, or of the next of those that ran; and those that are left behind it.
abbrev pub next_call : Bool → List CallOutcome → List CallOutcome
next_call true ran = call.Skipped ∷ []
next_call false [] = []
next_call false (c ∷ ran) = c ∷ []

abbrev pub further_calls : Bool → List CallOutcome → List CallOutcome
further_calls true ran = ran
further_calls false [] = []
further_calls false (c ∷ ran) = ran

-- What became of all calls, by their probes, where this is what became of those that ran.
abbrev pub all_calls : ℕ → List (Option ℕ) → List CallOutcome → List CallOutcome
all_calls bits [] ran = []
all_calls bits (p ∷ probes) ran = next_call (is_skipped bits p) ran ++ all_calls bits probes (further_calls (is_skipped bits p) ran)

-- What is left of the number of a call behind another, among those that ran.
abbrev pub number_behind : Bool → ℕ → ℕ
number_behind true n = n
number_behind false n = n - 1

-- The number among all calls of the n-th of those that ran, where so many calls are before these; none if fewer ran.
abbrev pub number_among : ℕ → ℕ → List (Option ℕ) → ℕ → Option ℕ
number_among bits before [] n = None
number_among bits before (p ∷ probes) n =
    if not (is_skipped bits p) && nat_le n 1 then Some (before + 1)
    else number_among bits (before + 1) probes (number_behind (is_skipped bits p) n)

-- A message was written after these calls.
abbrev pub IsWrittenAfter : List CallOutcome → Outcome → Type 0
IsWrittenAfter calls (outcome.Written told) = told.items ≡ calls
IsWrittenAfter calls (outcome.Done n) = ⊥
IsWrittenAfter calls (outcome.Unedited c) = ⊥
IsWrittenAfter calls (outcome.Refused c) = ⊥

-- What became of a message, with the calls that did not run among the others, from what became of it without them.
abbrev pub HasSkips : ℕ → List (Option ℕ) → Outcome → Outcome → Type 0
HasSkips bits probes (outcome.Done n) new = IsWrittenAfter (all_calls bits probes (replicate n call.Done)) new
HasSkips bits probes (outcome.Written calls) new = IsWrittenAfter (all_calls bits probes calls.items) new
HasSkips bits probes (outcome.Unedited c) new = new ≡ outcome.Unedited c
HasSkips bits probes (outcome.Refused c) new = new ≡ outcome.Refused c
