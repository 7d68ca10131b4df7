-- The lines of the log, as text and as JSON.
use Rattle.std.specs.Prelude.{ℕ, Option, Some, None, ◌-◌, ◌/◌, ◌%◌, ◌==◌, ◌||◌, nat_lt, false, if◌then◌else◌, List, [], ◌∷◌, ◌++◌, replicate, codes, decimal}
use Rattle.std.specs.List.{flat_map}
use Rattle.std.specs.Fmt.{digit_glyph}
use Rattle.capnp_model.specs.Kinds.{kind_name}
use Rattle.capnp_units.specs.Errors.{kind_of}
use Rattle.capnp_relay_loop.specs.declared.answer.Reason.{Reason}
use Rattle.capnp_relay_loop.specs.declared.answer.Reason.TheVariants as reasons
use Rattle.hagzimot_outcomes.specs.declared.outcomes.CallOutcome.{CallOutcome}
use Rattle.hagzimot_outcomes.specs.declared.outcomes.CallOutcome.TheVariants as call
use Rattle.hagzimot_outcomes.specs.declared.outcomes.Cause.{Cause}
use Rattle.hagzimot_outcomes.specs.declared.outcomes.Cause.TheVariants as cause
use Rattle.hagzimot_outcomes.specs.declared.outcomes.Outcome.{Outcome}
use Rattle.hagzimot_outcomes.specs.declared.outcomes.Outcome.TheVariants as outcome
use Rattle.hagzimot_outcomes.specs.declared.log_lines.Explanation.{Explanation}

-- ---- as text

-- What a line says of a call.
abbrev pub call_text : CallOutcome → List ℕ
call_text (call.Text bytes) = bytes.items
call_text call.Done = codes "done"
call_text (call.Refused kind) = codes "refused " ++ kind_name (kind_of kind)
call_text call.Skipped = codes "skipped"

-- What it says of calls.
abbrev pub each_call_text : List CallOutcome → List ℕ
each_call_text calls = flat_map (λ c. codes "; " ++ call_text c) calls

-- What it says of n calls that are done.
abbrev pub done_text : ℕ → List ℕ
done_text n = flat_map (λ w. codes "; " ++ w) (replicate n (codes "done"))

-- Why a message has no answer.
abbrev pub reason_text : Reason → List ℕ
reason_text reasons.Value = codes "value"
reason_text reasons.Root = codes "root"
reason_text reasons.Depth = codes "depth"

-- Why a message is not edited.
abbrev pub cause_text : Cause → List ℕ
cause_text (cause.Message reason) = reason_text reason
cause_text (cause.Call c) = codes "call " ++ (decimal c.number ++ (codes " " ++ kind_name (kind_of c.kind)))

-- What a line says of a message.
abbrev pub outcome_text : Outcome → List ℕ
outcome_text (outcome.Done n) = codes "written" ++ done_text n
outcome_text (outcome.Written calls) = codes "written" ++ each_call_text calls.items
outcome_text (outcome.Unedited c) = codes "written unedited: " ++ cause_text c
outcome_text (outcome.Refused c) = codes "refused: " ++ cause_text c

-- The line of message n.
abbrev pub text_line_of : ℕ → Outcome → List ℕ
text_line_of n o = codes "message " ++ (decimal n ++ (codes " " ++ (outcome_text o ++ codes "\n")))

-- ---- as JSON

-- How a byte stands in a text between double quotes. (JSON, "Strings")
abbrev pub byte_quoted : ℕ → List ℕ
byte_quoted b = if b == 34 then codes "\\\"" else if b == 92 then codes "\\\\" else if b == 10 then codes "\\n" else if b == 13 then codes "\\r" else if b == 9 then codes "\\t"
    else if nat_lt b 32 || b == 127 then codes "\\u00" ++ (digit_glyph false (b / 16) ∷ digit_glyph false (b % 16) ∷ [])
    else b ∷ []

-- A text between double quotes.
abbrev pub quoted : List ℕ → List ℕ
quoted text = codes "\"" ++ (flat_map byte_quoted text ++ codes "\"")

-- The texts of n calls that are done, each behind a comma.
abbrev pub more_done : ℕ → List ℕ
more_done n = flat_map (λ u. codes "," ++ quoted u) (replicate n (codes "done"))

-- The value that says why a message is not edited, and the member with the number of the call.
abbrev pub cause_members : Cause → List ℕ
cause_members (cause.Message reason) = quoted (reason_text reason)
cause_members (cause.Call c) = quoted (kind_name (kind_of c.kind)) ++ (codes ",\"call\":" ++ decimal c.number)

-- An array of what became of calls.
abbrev pub call_array : List CallOutcome → List ℕ
call_array [] = codes "[]"
call_array (c ∷ rest) = codes "[" ++ (quoted (call_text c) ++ (flat_map (λ d. codes "," ++ quoted (call_text d)) rest ++ codes "]"))

-- An array that says of n calls that they are done.
abbrev pub done_array : ℕ → List ℕ
done_array n = if n == 0 then codes "[]" else codes "[\"done\"" ++ (more_done (n - 1) ++ codes "]")

-- The members that say what became of a message.
abbrev pub outcome_members : Outcome → List ℕ
outcome_members (outcome.Done n) = codes "\"result\":\"written\",\"replies\":" ++ done_array n
outcome_members (outcome.Written calls) = codes "\"result\":\"written\",\"replies\":" ++ call_array calls.items
outcome_members (outcome.Unedited c) = codes "\"result\":\"written\",\"unedited\":" ++ cause_members c
outcome_members (outcome.Refused c) = codes "\"result\":\"refused\",\"reason\":" ++ cause_members c

-- The members that explain why a message has no answer.
abbrev pub explained_members : Option Explanation → List ℕ
explained_members None = []
explained_members (Some e) = codes ",\"file\":" ++ (quoted e.file.now ++ (codes ",\"why\":" ++ quoted e.why.now))

-- The line of message n as JSON, which begins after so many bytes.
abbrev pub json_line_of : ℕ → ℕ → Outcome → Option Explanation → List ℕ
json_line_of n start o e = codes "{\"message\":" ++ (decimal n ++ (codes ",\"byte\":" ++ (decimal start ++ (codes "," ++ (outcome_members o ++ (explained_members e ++ codes "}\n"))))))
