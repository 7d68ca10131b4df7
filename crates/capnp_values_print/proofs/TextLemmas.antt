-- Texts between quotes, and bytes by their numbers.
use Rattle.std.proofs.Common.{◌≡◌, ℕ, Bool, true, false, if◌then◌else◌, List, [], ◌∷◌, ◌++◌, refl, ap, sym, ◌∙◌, append_assoc, append-nil}
use Rattle.std.specs.Prelude.{codes}
use Rattle.std.specs.Prelude.{map, decimal, nat_lt}
use Rattle.std.specs.List.{flat_map, list_all}
use Rattle.std.specs.Str.{is_utf8, IsUtf8}
use Rattle.std.proofs.lemmas.Str.{is_utf8-from_IsUtf8, IsUtf8-from_is_utf8}
use Rattle.capnp_model.specs.Printing.{escaped, joined, text_text, as_it_is}
use Rattle.capnp_values_print.specs.Texts.{number_list}

-- a number with a comma and a blank in front
abbrev pub with_comma : ℕ → List ℕ
with_comma b = codes ", " ++ decimal b

pub number_list-cons : (x : ℕ) (xs : List ℕ) → number_list (x ∷ xs) ≡ decimal x ++ flat_map with_comma xs
unfolding number_list
number_list-cons x [] = sym (append-nil (decimal x))
number_list-cons x (y ∷ ys) =
    ap (λ e. (decimal x ++ codes ", ") ++ e) (number_list-cons y ys)
    ∙ append_assoc (decimal x) (codes ", ") (decimal y ++ flat_map with_comma ys)
    ∙ ap (λ e. decimal x ++ e) (sym (append_assoc (codes ", ") (decimal y) (flat_map with_comma ys)))

same_branches : {A : Type 0} (b : Bool) (x : A) → (if b then x else x) ≡ x
same_branches true x = refl
same_branches false x = refl

-- the text, where a test says whether the bytes are UTF-8
text_by : Bool → List ℕ → List ℕ
text_by b bs =
    if b then codes "\"" ++ (if list_all (λ x. nat_lt x 128) bs then flat_map escaped bs else as_it_is bs) ++ codes "\"" else codes "<invalid utf-8: [" ++ joined (codes ", ") (map decimal bs) ++ codes "]>"

pub text_text-utf8 : (bs : List ℕ) → IsUtf8 bs → text_text as_it_is bs ≡ codes "\"" ++ flat_map escaped bs ++ codes "\""
unfolding text_by
text_text-utf8 bs h = ap (λ b. text_by b bs) (is_utf8-from_IsUtf8 bs h) ∙ ap (λ x. codes "\"" ++ x ++ codes "\"") (same_branches (list_all (λ x. nat_lt x 128) bs) (flat_map escaped bs))

pub text_text-invalid : (bs : List ℕ) → (IsUtf8 bs → ⊥) → text_text as_it_is bs ≡ codes "<invalid utf-8: [" ++ number_list bs ++ codes "]>"
unfolding text_by number_list
text_text-invalid bs h = by (is_utf8 bs) refl (λ e. ap (λ b. text_by b bs) e)
  where
    by : (b : Bool) → is_utf8 bs ≡ b → (is_utf8 bs ≡ false → text_text as_it_is bs ≡ codes "<invalid utf-8: [" ++ number_list bs ++ codes "]>") → text_text as_it_is bs ≡ codes "<invalid utf-8: [" ++ number_list bs ++ codes "]>"
    by true e shown = absurd (h (IsUtf8-from_is_utf8 bs e))
    by false e shown = shown e

pub ruleset text_text_rules = (text_text-utf8, text_text-invalid)

pub number_list-nil : number_list [] ≡ []
unfolding number_list
number_list-nil = refl

pub ruleset number_list_rules = (number_list-cons, number_list-nil)
