-- The texts of this crate are those of the model.
use Rattle.std.proofs.Common.{◌≡◌, ℕ, Bool, true, false, Option, Some, None, option_map, List, [], ◌∷◌, ◌++◌, Ok, Err, refl, ap, sym, ◌∙◌, append_assoc, append-nil}
use Rattle.std.specs.Prelude.{codes}
use Rattle.capnp_model.specs.Chains.{◌and_then◌}
use Rattle.capnp_model.specs.Trees.{Tree, null}
use Rattle.capnp_model.specs.Schemas.{Ty, Fields, no_fields, field, Body, Schema}
use Rattle.capnp_model.specs.Readings.{Reading, inactive, null_pointer, fault, number, text_of, blob_of, list_of, record_as, opaque, Readings, no_readings, ◌▹◌, Record, no_more, entry}
use Rattle.capnp_model.specs.Printing.{joined, Style, inner, opening, between, closing, list_text, struct_text, As, as_type, as_body, type_of_as, element_type, shape_as, is_shown, cons_if, Nulls, print, print_items, print_fields}
use Rattle.capnp_values_print.specs.Printed.{Text, NullTexts, text_if_any, item_mark, field_and_rest, list_between, struct_between, printed, items_printed, fields_printed}

-- items, each behind its mark
abbrev pub marked : Style → Bool → List (List ℕ) → List ℕ
marked style first [] = []
marked style first (x ∷ xs) = item_mark style first ++ x ++ marked style false xs

joined_marked : (style : Style) (x : List ℕ) (xs : List (List ℕ)) → joined (between style) (x ∷ xs) ≡ x ++ marked style false xs
joined_marked style x [] = sym (append-nil x)
joined_marked style x (y ∷ ys) = ap (λ z. (x ++ between style) ++ z) (joined_marked style y ys) ∙ simp append_assoc

some_list : (style : Style) (t x : List ℕ) (xs : List (List ℕ)) → t ≡ marked style true (x ∷ xs) → ((codes "[" ++ t) ++ closing style) ++ codes "]" ≡ list_text style (x ∷ xs)
some_list style t x xs e =
    ap (λ z. ((codes "[" ++ z) ++ closing style) ++ codes "]") e
    ∙ ap (λ z. (z ++ closing style) ++ codes "]") (let same : codes "[" ++ ((opening style ++ x) ++ marked style false xs) ≡ (codes "[" ++ opening style) ++ (x ++ marked style false xs) = simp append_assoc in same)
    ∙ ap (λ z. (((codes "[" ++ opening style) ++ z) ++ closing style) ++ codes "]") (sym (joined_marked style x xs))

some_struct : (style : Style) (name : List ℕ) (m : Option ℕ) (b : Body) (fs : Fields) (t : List ℕ) (xs : List (List ℕ)) → t ≡ marked style true xs
    → ((codes "(" ++ t) ++ closing style) ++ codes ")" ≡ struct_text style (field name m b fs) xs
some_struct style name m b fs t [] e = ap (λ z. ((codes "(" ++ z) ++ closing style) ++ codes ")") e
some_struct style name m b fs t (x ∷ xs) e =
    ap (λ z. ((codes "(" ++ z) ++ closing style) ++ codes ")") e
    ∙ ap (λ z. (z ++ closing style) ++ codes ")") (let same : codes "(" ++ ((opening style ++ x) ++ marked style false xs) ≡ (codes "(" ++ opening style) ++ (x ++ marked style false xs) = simp append_assoc in same)
    ∙ ap (λ z. (((codes "(" ++ opening style) ++ z) ++ closing style) ++ codes ")") (sym (joined_marked style x xs))

pub list_is : (style : Style) (r : Reading) (rs : Readings) (items : Text) (o : Option (List ℕ)) (os : Option (List (List ℕ))) → text_if_any items ≡ option_map (marked style true) (cons_if true o os)
    → text_if_any (list_between style (r ▹ rs) items) ≡ option_map (list_text style) (cons_if true o os)
list_is style r rs (Err kind) None os e = refl
list_is style r rs (Err kind) (Some x) None e = refl
list_is style r rs (Err kind) (Some x) (Some xs) e = absurd cc
list_is style r rs (Ok t) None os e = absurd cc
list_is style r rs (Ok t) (Some x) None e = absurd cc
list_is style r rs (Ok t) (Some x) (Some xs) e = let is : t ≡ marked style true (x ∷ xs) = cc in ap (λ z. Some z) (sym (append_assoc (codes "[" ++ t) (closing style) (codes "]")) ∙ some_list style t x xs is)

pub struct_is : (style : Style) (fs : Fields) (items : Text) (os : Option (List (List ℕ))) → text_if_any items ≡ option_map (marked style true) os → (fs ≡ no_fields → os ≡ Some [])
    → text_if_any (struct_between style fs items) ≡ option_map (struct_text style fs) os
struct_is style no_fields items os e none = sym (ap (option_map (struct_text style no_fields)) (none refl))
struct_is style (field name m b fs) (Err kind) None e none = refl
struct_is style (field name m b fs) (Err kind) (Some xs) e none = absurd cc
struct_is style (field name m b fs) (Ok t) None e none = absurd cc
struct_is style (field name m b fs) (Ok t) (Some xs) e none = let is : t ≡ marked style true xs = cc in ap (λ z. Some z) (sym (append_assoc (codes "(" ++ t) (closing style) (codes ")")) ∙ some_struct style name m b fs t xs is)

pub item_is : (style : Style) (first : Bool) (value rest : Text) (o : Option (List ℕ)) (os : Option (List (List ℕ))) → text_if_any value ≡ o → text_if_any rest ≡ option_map (marked style false) os
    → text_if_any (value and_then λ t. rest and_then λ u. Ok (item_mark style first ++ t ++ u)) ≡ option_map (marked style first) (cons_if true o os)
item_is style first (Err kind) rest None os e f = refl
item_is style first (Err kind) rest (Some x) os e f = absurd cc
item_is style first (Ok t) rest None os e f = absurd cc
item_is style first (Ok t) (Err kind) (Some x) None e f = refl
item_is style first (Ok t) (Err kind) (Some x) (Some xs) e f = absurd cc
item_is style first (Ok t) (Ok u) (Some x) None e f = absurd cc
item_is style first (Ok t) (Ok u) (Some x) (Some xs) e f =
    let one : t ≡ x = cc in
    let more : u ≡ marked style false xs = cc in
    ap (λ z. Some ((item_mark style first ++ z) ++ u)) one ∙ ap (λ z. Some ((item_mark style first ++ x) ++ z)) more

named_is : (style : Style) (first : Bool) (name v u x : List ℕ) (xs : List (List ℕ)) → v ≡ x → u ≡ marked style false xs
    → (((item_mark style first ++ name) ++ codes " = ") ++ v) ++ u ≡ marked style first (((name ++ codes " = ") ++ x) ∷ xs)
named_is style first name v u x xs e f =
    ap (λ z. (((item_mark style first ++ name) ++ codes " = ") ++ z) ++ u) e ∙ ap (λ z. (((item_mark style first ++ name) ++ codes " = ") ++ x) ++ z) f
    ∙ simp append_assoc

pub field_is : (style : Style) (first shown : Bool) (name : List ℕ) (value : Text) (rest : Bool → Text) (o : Option (List ℕ)) (os : Option (List (List ℕ)))
    → text_if_any value ≡ o → ((b : Bool) → text_if_any (rest b) ≡ option_map (marked style b) os)
    → text_if_any (field_and_rest shown (item_mark style first ++ name ++ codes " = ") value rest first) ≡ option_map (marked style first) (cons_if shown (option_map (λ v. name ++ codes " = " ++ v) o) os)
field_is style first false name value rest o os e f = f first
field_is style first true name (Err kind) rest None os e f = refl
field_is style first true name (Err kind) rest (Some x) os e f = absurd cc
field_is style first true name (Ok v) rest None os e f = absurd cc
field_is style first true name (Ok v) rest (Some x) os e f = by (rest false) os (f false)
  where
    by : (r : Text) (os : Option (List (List ℕ))) → text_if_any r ≡ option_map (marked style false) os
        → text_if_any (r and_then λ u. Ok (((item_mark style first ++ name) ++ codes " = ") ++ v ++ u)) ≡ option_map (marked style first) (option_map (λ ys. ((name ++ codes " = ") ++ x) ∷ ys) os)
    by (Err kind) None g = refl
    by (Err kind) (Some xs) g = absurd cc
    by (Ok u) None g = absurd cc
    by (Ok u) (Some xs) g =
        let one : v ≡ x = cc in
        let more : u ≡ marked style false xs = cc in
        ap (λ z. Some z) (named_is style first name v u x xs one more)

pub no_fields_shown : (s : Schema) (quoted : List ℕ → List ℕ) (nulls : Nulls) (style : Style) (fs : Fields) (r : Record) → fs ≡ no_fields → print_fields s quoted nulls style fs r ≡ Some []
unfolding print
no_fields_shown s quoted nulls style no_fields r e = refl
no_fields_shown s quoted nulls style (field n m b fs) r e = absurd cc

module _ (s : Schema) (quoted : List ℕ → List ℕ) (nulls' : NullTexts) (nulls : Nulls) (same : (style : Style) (ty : Ty) (d : Tree) → text_if_any (nulls' style ty d) ≡ nulls style ty d) where
  mutual
    unfolding printed print

    pub printed_print : (style : Style) (how : As) (r : Reading) → text_if_any (printed s quoted nulls' style how r) ≡ print s quoted nulls style how r
    printed_print style how inactive = refl
    printed_print style how null_pointer = same style _ _
    printed_print style how (fault kind) = refl
    printed_print style how (number n) = refl
    printed_print style how (text_of bytes) = refl
    printed_print style how (blob_of bytes) = refl
    printed_print style how (list_of no_readings) = refl
    printed_print style how (list_of (r ▹ rs)) =
        let how' = as_type (element_type (type_of_as how)) null in
        list_is style r rs _ (print s quoted nulls (inner style) how' r) (print_items s quoted nulls (inner style) how' rs) (items_print style how' true (r ▹ rs))
    printed_print style how (record_as r) =
        struct_is style (shape_as s how) _ (print_fields s quoted nulls (inner style) (shape_as s how) r) (fields_print style true (shape_as s how) r) (no_fields_shown s quoted nulls (inner style) (shape_as s how) r)
    printed_print style how (opaque t) = refl

    items_print : (style : Style) (how : As) (first : Bool) (rs : Readings) → text_if_any (items_printed s quoted nulls' style how first rs) ≡ option_map (marked style first) (print_items s quoted nulls (inner style) how rs)
    items_print style how first no_readings = refl
    items_print style how first (r ▹ rs) = item_is style first _ _ _ _ (printed_print (inner style) how r) (items_print style how false rs)

    fields_print : (style : Style) (first : Bool) (fs : Fields) (r : Record) → text_if_any (fields_printed s quoted nulls' style first fs r) ≡ option_map (marked style first) (print_fields s quoted nulls (inner style) fs r)
    fields_print style first no_fields r = refl
    fields_print style first (field n m b fs) no_more = refl
    fields_print style first (field n m b fs) (entry k r rest) =
        field_is style first (is_shown m r) n _ _ _ _ (printed_print (inner style) (as_body b) r) (λ c. fields_print style c fs rest)
