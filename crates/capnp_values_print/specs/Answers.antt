-- What functions return that append a text.
use Rattle.std.specs.Prelude.{ℕ, ◌≡◌, ◌⊎◌, Bool, true, false, List, ◌++◌, Option, Some, Result, Ok, Err}
use Rattle.capnp_model.specs.Printing.{Style, on_one_line, indented, print, as_it_is}
use Rattle.capnp_units.specs.declared.errors.Error.{Error}
use Rattle.capnp_units.specs.declared.kinds.ErrorKind.TheVariants.{OutOfMemory}
use Rattle.capnp_units.specs.Errors.{kind_of}
use Rattle.capnp_values.specs.Shown.{Shown}
use Rattle.capnp_values_print.specs.ShownReadings.{reading_of}
use Rattle.capnp_values_print.specs.Printed.{Text, text_if_any, null_printed, schema_shown, as_shown, shown_text}

-- For want of memory, or by the kind of the fault in place of the text.
abbrev pub IsTextRefused : Text → Error → Type 0
IsTextRefused t e = (e.kind ≡ OutOfMemory) ⊎ (t ≡ Err (kind_of e.kind))

-- The text was appended, or the call is refused.
abbrev pub Appends : {X : Type 0} → Text → List ℕ → Result X Error → List ℕ → Type 0
Appends t old (Ok x) new = (bytes : List ℕ) × (t ≡ Ok bytes) × (new ≡ old ++ bytes)
Appends t old (Err e) new = IsTextRefused t e

-- A text was put behind the old, or nothing was, for want of memory.
abbrev pub Joins : {X : Type 0} → List ℕ → List ℕ → Result X Error → List ℕ → Type 0
Joins old text (Ok x) new = new ≡ old ++ text
Joins old text (Err e) new = (new ≡ old) × (e.kind ≡ OutOfMemory)

-- The form: on one line, or with a line for each item.
abbrev pub style_named : Bool → Style
style_named false = on_one_line
style_named true = indented 0

-- The model's text of what is shown, if it has one.
abbrev pub model_text : Style → Shown → Option (List ℕ)
model_text style x = let s = schema_shown x in print s as_it_is (λ st ty d. text_if_any (null_printed s as_it_is 64 st ty d)) style (as_shown x) (reading_of x)

-- What is shown is the text.
abbrev pub IsShownText : Style → Shown → List ℕ → Type 0
IsShownText style x bytes = model_text style x ≡ Some bytes

-- What `print` returns. The text of what is shown was appended, by the model; else nothing was, for
-- want of memory or by the kind of the first fault on the way.
abbrev pub Prints : {X : Type 0} → Style → Shown → List ℕ → Result X Error → List ℕ → Type 0
Prints style x old (Ok done) new = (bytes : List ℕ) × IsShownText style x bytes × (new ≡ old ++ bytes)
Prints style x old (Err e) new = (new ≡ old) × IsTextRefused (shown_text 64 style x) e
