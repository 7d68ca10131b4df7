-- What `print` answers.
use Rattle.std.proofs.Common.{◌≡◌, ℕ, List, Result, Ok, Err, refl, ap, sym, ◌∙◌, subst, inl}
use Rattle.std.specs.Prelude.{◌++◌, IsErrAnd, OnErr}
use Rattle.std.proofs.lemmas.Result.{err_from_is_err_and}
use Rattle.capnp_model.specs.Printing.{Style, as_it_is}
use Rattle.capnp_units.specs.declared.errors.Error.{Error}
use Rattle.capnp_units.specs.declared.kinds.ErrorKind.TheVariants.{OutOfMemory}
use Rattle.capnp_values.specs.Shown.{Shown}
use Rattle.capnp_values_print.specs.ShownReadings.{reading_of}
use Rattle.capnp_values_print.specs.Printed.{Text, text_if_any, null_printed, schema_shown, as_shown, shown_text}
use Rattle.capnp_values_print.specs.Answers.{IsTextRefused, IsShownText, Appends, Joins, Prints}
use Rattle.capnp_values_print.proofs.lemmas.Models.{printed_print}

-- the text that is appended is the model's
pub text_of_shown : (style : Style) (x : Shown) (bytes : List ℕ) → shown_text 64 style x ≡ Ok bytes → IsShownText style x bytes
text_of_shown style x bytes e =
    let s = schema_shown x in
    sym (printed_print s as_it_is (null_printed s as_it_is 64) (λ st ty d. text_if_any (null_printed s as_it_is 64 st ty d)) (λ st ty d. refl) style (as_shown x) (reading_of x)) ∙ ap text_if_any e

pub failed : {X : Type 0} (style : Style) (x : Shown) (old new : List ℕ) (r : Result X Error) (e : Error) → IsErrAnd r (λ y. y ≡ e) → new ≡ old → IsTextRefused (shown_text 64 style x) e → Prints style x old r new
failed style x old new r e h same why =
    let a = err_from_is_err_and r h in
    subst (λ z. Prints style x old z new) (sym (a.1 ∙ ap (λ y. Err y) a.2)) (same, why)

pub starved : {X : Type 0} (style : Style) (x : Shown) (old new : List ℕ) (r : Result X Error) → IsErrAnd r (λ e. e.kind ≡ OutOfMemory) → new ≡ old → Prints style x old r new
starved style x old new r h same =
    let a = err_from_is_err_and r h in
    subst (λ z. Prints style x old z new) (sym a.1) (same, inl a.2)

-- a text that is put behind another

pub joins : {X : Type 0} (old text new : List ℕ) (r : Result X Error) → IsErrAnd r (λ e. e.kind ≡ OutOfMemory) → new ≡ old → Joins old text r new
joins old text new r h same =
    let a = err_from_is_err_and r h in
    subst (λ z. Joins old text z new) (sym a.1) (same, a.2)

pub prints : {X : Type 0} (style : Style) (x : Shown) (bytes old text new : List ℕ) (r : Result X Error) → shown_text 64 style x ≡ Ok bytes → text ≡ bytes → Joins old text r new → Prints style x old r new
prints style x bytes old text new (Ok done) e same j = (bytes, text_of_shown style x bytes e, j ∙ ap (λ (z : List ℕ). old ++ z) same)
prints style x bytes old text new (Err err) e same j = (j.0, inl j.1)

pub appends : {X : Type 0} (t : Text) (bytes old text new : List ℕ) (r : Result X Error) → t ≡ Ok bytes → text ≡ bytes → Joins old text r new → Appends t old r new
appends t bytes old text new (Ok done) e same j = (bytes, e, j ∙ ap (λ (z : List ℕ). old ++ z) same)
appends t bytes old text new (Err err) e same j = inl j.1

pub stays : {X : Type 0} (old text new : List ℕ) (r : Result X Error) → Joins old text r new → OnErr r (new ≡ old)
stays old text new (Ok done) j = tt
stays old text new (Err err) j = j.0
