-- Texts that grow, item by item.
use Rattle.std.proofs.Common.{◌≡◌, ℕ, zero, suc, ◌==◌, ◌≤◌, inl, inr, Bool, true, false, Option, Some, List, [], ◌++◌, Result, Ok, Err, refl, ap, sym, ◌∙◌, subst, arith, append_assoc, append-nil}
use Rattle.std.specs.Prelude.{codes, IsErrAnd}
use Rattle.std.proofs.lemmas.Bool.Decides.{nat_tests}
use Rattle.std.proofs.lemmas.Result.{err_from_is_err_and}
use Rattle.capnp_model.specs.Chains.{◌and_then◌}
use Rattle.capnp_model.specs.Trees.{null}
use Rattle.capnp_model.specs.Schemas.{Ty, Shape, shape, Fields, no_fields, field, Schema}
use Rattle.capnp_model.specs.Readings.{Reading, Extent, Children, discriminant, is_active, only_if, shape_record, fields_of, body_of}
use Rattle.capnp_model.specs.Printing.{Style, inner, closing, as_type, as_body, is_shown, fields_in}
use Rattle.capnp_values_queries.specs.Fields.{Entry, field_at, field_count, union_in}
use Rattle.capnp_units.specs.declared.errors.Error.{Error}
use Rattle.capnp_units.specs.declared.kinds.ErrorKind.TheVariants.{OutOfMemory}
use Rattle.capnp_wire.specs.Views.{ListView}
use Rattle.capnp_values.specs.Shown.{Shown}
use Rattle.capnp_values_print.specs.ShownReadings.{element_read, elements_read}
use Rattle.capnp_values_print.specs.Printed.{Text, NullTexts, item_mark, field_and_rest, list_between, struct_between, printed, items_printed, fields_printed}
use Rattle.capnp_values_print.specs.Answers.{IsTextRefused, Appends}

-- ---- refusals

pub memory : {X : Type 0} (t : Text) (old new : List ℕ) (r : Result X Error) → IsErrAnd r (λ e. e.kind ≡ OutOfMemory) → Appends t old r new
memory t old new r h =
    let a = err_from_is_err_and r h in
    subst (λ z. Appends t old z new) (sym a.1) (inl a.2)

pub refused_more : (t whole : Text) (f : List ℕ → Text) (e : Error) → whole ≡ (t and_then f) → IsTextRefused t e → IsTextRefused whole e
refused_more t whole f e same (inl h) = inl h
refused_more t whole f e same (inr h) = inr (same ∙ ap (λ z. z and_then f) h)

pub refused : {X : Type 0} (whole : Text) (old new : List ℕ) (r : Result X Error) (e : Error) → IsErrAnd r (λ y. y ≡ e) → IsTextRefused whole e → Appends whole old r new
refused whole old new r e h why =
    let a = err_from_is_err_and r h in
    subst (λ z. Appends whole old z new) (sym (a.1 ∙ ap (λ y. Err y) a.2)) why

-- ---- what is there so far

-- Of the whole text so much is there, and the rest follows.
pub record Going (whole rest : Text) (old new : List ℕ) : Type 0 where
  pub sofar : List ℕ
  pub there : new ≡ old ++ sofar
  pub follows : whole ≡ (rest and_then λ u. Ok (sofar ++ u))

nothing_more : (t : Text) → t ≡ (t and_then λ u. Ok ([] ++ u))
nothing_more (Ok t) = refl
nothing_more (Err kind) = refl

pub begins : (whole rest : Text) (old : List ℕ) → whole ≡ rest → Going whole rest old old
begins whole rest old e = record { sofar = []; there = sym (append-nil old); follows = e ∙ nothing_more rest }

pub ends : (whole rest : Text) (old new : List ℕ) → Going whole rest old new → rest ≡ Ok [] → (bytes : List ℕ) × (whole ≡ Ok bytes) × (new ≡ old ++ bytes)
ends whole rest old new g e = (g.sofar, g.follows ∙ ap (λ z. z and_then λ u. Ok (g.sofar ++ u)) e ∙ ap (λ (z : List ℕ). Ok z) (append-nil g.sofar), g.there)

pub goes_same : (whole rest more : Text) (old new : List ℕ) → rest ≡ more → Going whole rest old new → Going whole more old new
goes_same whole rest more old new e g = record { sofar = g.sofar; there = g.there; follows = g.follows ∙ ap (λ z. z and_then λ u. Ok (g.sofar ++ u)) e }

step_text : (value more : Text) (sofar front bytes : List ℕ) → value ≡ Ok bytes → ((value and_then λ v. more and_then λ u. Ok (front ++ v ++ u)) and_then λ u. Ok (sofar ++ u)) ≡ (more and_then λ u. Ok ((sofar ++ (front ++ bytes)) ++ u))
step_text value more sofar front bytes e = ap (λ z. (z and_then λ v. more and_then λ u. Ok (front ++ v ++ u)) and_then λ u. Ok (sofar ++ u)) e ∙ by more
  where
    by : (more : Text) → ((more and_then λ u. Ok (front ++ bytes ++ u)) and_then λ u. Ok (sofar ++ u)) ≡ (more and_then λ u. Ok ((sofar ++ (front ++ bytes)) ++ u))
    by (Ok u) = ap (λ (z : List ℕ). Ok z) (sym (append_assoc sofar (front ++ bytes) u))
    by (Err kind) = refl

-- an item behind what stands in front of it
pub goes_on : (whole rest value more : Text) (old now middle new front : List ℕ) → rest ≡ (value and_then λ v. more and_then λ u. Ok (front ++ v ++ u)) → middle ≡ now ++ front
    → (bytes : List ℕ) × (value ≡ Ok bytes) × (new ≡ middle ++ bytes) → Going whole rest old now → Going whole more old new
goes_on whole rest value more old now middle new front e m a g =
    record {
      sofar = g.sofar ++ (front ++ a.0);
      there = a.2 ∙ ap (λ z. z ++ a.0) (m ∙ ap (λ z. z ++ front) g.there) ∙ (let same : ((old ++ g.sofar) ++ front) ++ a.0 ≡ old ++ (g.sofar ++ (front ++ a.0)) = simp append_assoc in same);
      follows = g.follows ∙ ap (λ z. z and_then λ u. Ok (g.sofar ++ u)) e ∙ step_text value more g.sofar front a.0 a.1;
    }

-- an item that is refused
pub goes_wrong : (whole rest value more : Text) (old now front : List ℕ) (e : Error) → rest ≡ (value and_then λ v. more and_then λ u. Ok (front ++ v ++ u)) → IsTextRefused value e → Going whole rest old now → IsTextRefused whole e
goes_wrong whole rest value more old now front e same (inl h) g = inl h
goes_wrong whole rest value more old now front e same (inr h) g =
    inr (g.follows ∙ ap (λ z. z and_then λ u. Ok (g.sofar ++ u)) (same ∙ ap (λ z. z and_then λ v. more and_then λ u. Ok (front ++ v ++ u)) h))

-- ---- fields

-- the fields from an index on
pub fields_after : ℕ → Fields → Fields
fields_after zero fs = fs
fields_after (suc i) no_fields = no_fields
fields_after (suc i) (field n m b fs) = fields_after i fs

pub after_is : (i : ℕ) (fs : Fields) (e : Entry) → field_at fs i ≡ Some e → fields_after i fs ≡ field e.name e.member e.body (fields_after (suc i) fs)
unfolding fields_after
after_is i no_fields e h = absurd cc
after_is zero (field n m b fs) e h =
    let P : Entry → Type 0 = λ x. field n m b fs ≡ field x.name x.member x.body fs in
    let here : record { name = n; member = m; body = b } ≡ e = cc in
    subst P here refl
after_is (suc i) (field n m b fs) e h = after_is i fs e h

pub all_after : (i : ℕ) (fs : Fields) → field_count fs ≤ i → fields_after i fs ≡ no_fields
unfolding fields_after
all_after zero no_fields h = refl
all_after (suc i) no_fields h = refl
all_after zero (field n m b fs) h = absurd (omega arith)
all_after (suc i) (field n m b fs) h = all_after i fs (omega arith)

module _ (s : Schema) (quoted : List ℕ → List ℕ) (nulls : NullTexts) (style : Style) (d : Option ℕ) (size : Extent) (section : ℕ) (kids : Children) where
  -- the fields that are left
  abbrev pub Left : Fields → Bool → Text
  Left fs first = fields_printed s quoted nulls style first fs (fields_of fs d size section kids)

  -- what a field reads as
  abbrev pub Value : Entry → Reading
  Value e = only_if (is_active e.member d) (body_of e.body size section kids)

  front_is : (fs more : Fields) (e : Entry) (first : Bool) → fs ≡ field e.name e.member e.body more
      → Left fs first ≡ field_and_rest (is_shown e.member (Value e)) (item_mark style first ++ e.name ++ codes " = ") (printed s quoted nulls (inner style) (as_body e.body) (Value e)) (λ b. Left more b) first
  unfolding printed shape_record
  front_is fs more e first h = ap (λ fs. Left fs first) h

  -- a field that isn't printed leaves nothing
  pub left_out : (i : ℕ) (fs : Fields) (e : Entry) (first : Bool) → field_at fs i ≡ Some e → is_shown e.member (Value e) ≡ false → Left (fields_after i fs) first ≡ Left (fields_after (suc i) fs) first
  left_out i fs e first h hidden =
      front_is (fields_after i fs) (fields_after (suc i) fs) e first (after_is i fs e h)
      ∙ ap (λ b. field_and_rest b (item_mark style first ++ e.name ++ codes " = ") (printed s quoted nulls (inner style) (as_body e.body) (Value e)) (λ b. Left (fields_after (suc i) fs) b) first) hidden

  -- one that is printed
  pub left_in : (i : ℕ) (fs : Fields) (e : Entry) (first : Bool) → field_at fs i ≡ Some e → is_shown e.member (Value e) ≡ true
      → Left (fields_after i fs) first ≡ (printed s quoted nulls (inner style) (as_body e.body) (Value e) and_then λ v. Left (fields_after (suc i) fs) false and_then λ u. Ok ((item_mark style first ++ e.name ++ codes " = ") ++ v ++ u))
  left_in i fs e first h shown =
      front_is (fields_after i fs) (fields_after (suc i) fs) e first (after_is i fs e h)
      ∙ ap (λ b. field_and_rest b (item_mark style first ++ e.name ++ codes " = ") (printed s quoted nulls (inner style) (as_body e.body) (Value e)) (λ b. Left (fields_after (suc i) fs) b) first) shown

  -- nothing is left
  pub none_left : (i : ℕ) (fs : Fields) (first : Bool) → field_count fs ≤ i → Left (fields_after i fs) first ≡ Ok []
  unfolding printed shape_record
  none_left i fs first h = ap (λ fs. Left fs first) (all_after i fs h)

-- the record of a shape is that of its fields
pub record_is : (s : Schema) (quoted : List ℕ → List ℕ) (nulls : NullTexts) (style : Style) (g : Shape) (size : Extent) (section : ℕ) (kids : Children)
    → fields_printed s quoted nulls style true (fields_in g) (shape_record g size section kids) ≡ fields_printed s quoted nulls style true (fields_after 0 (fields_in g)) (fields_of (fields_after 0 (fields_in g)) (discriminant (union_in g) size section) size section kids)
unfolding shape_record fields_after
record_is s quoted nulls style (shape nid w p u fs) size section kids = refl

-- ---- elements

module _ (s : Schema) (quoted : List ℕ → List ℕ) (nulls : NullTexts) (style : Style) (below : Shown → Reading) (ty : Ty) (l : ListView) where
  -- the elements that are left
  abbrev pub Rest : ℕ → ℕ → Text
  Rest i n = items_printed s quoted nulls style (as_type ty null) (i == 0) (elements_read below s ty l i n)

  pub element_next : (i n k : ℕ) → n ≡ suc k
      → Rest i n ≡ (printed s quoted nulls (inner style) (as_type ty null) (element_read below s ty l i) and_then λ t. Rest (suc i) k and_then λ u. Ok (item_mark style (i == 0) ++ t ++ u))
  unfolding printed elements_read
  element_next i n k e =
      let other : (suc i == 0) ≡ false = grind (arith, nat_tests) in
      ap (Rest i) e
      ∙ ap (λ b. printed s quoted nulls (inner style) (as_type ty null) (element_read below s ty l i) and_then λ t. items_printed s quoted nulls style (as_type ty null) b (elements_read below s ty l (suc i) k) and_then λ u. Ok (item_mark style (i == 0) ++ t ++ u)) (sym other)

  pub elements_end : (i : ℕ) → Rest i 0 ≡ Ok []
  unfolding printed elements_read
  elements_end i = refl

-- ---- signs

pub list_text_is : (s : Schema) (quoted : List ℕ → List ℕ) (nulls : NullTexts) (style : Style) (below : Shown → Reading) (ty : Ty) (l : ListView) (n : ℕ) (items : Text) → (n ≡ 0 → ⊥)
    → list_between style (elements_read below s ty l 0 n) items ≡ (items and_then λ t. Ok (codes "[" ++ t ++ (closing style ++ codes "]")))
unfolding elements_read
list_text_is s quoted nulls style below ty l zero items h = absurd (h refl)
list_text_is s quoted nulls style below ty l (suc n) items h = refl

pub list_text_empty : (s : Schema) (style : Style) (below : Shown → Reading) (ty : Ty) (l : ListView) (n : ℕ) (items : Text) → n ≡ 0 → list_between style (elements_read below s ty l 0 n) items ≡ Ok (codes "[]")
unfolding elements_read
list_text_empty s style below ty l zero items h = refl
list_text_empty s style below ty l (suc n) items h = absurd (omega arith)

pub struct_text_is : (style : Style) (fs : Fields) (items : Text) → (field_count fs ≡ 0 → ⊥) → struct_between style fs items ≡ (items and_then λ t. Ok (codes "(" ++ t ++ (closing style ++ codes ")")))
struct_text_is style no_fields items h = absurd (h refl)
struct_text_is style (field n m b fs) items h = refl

pub struct_text_empty : (style : Style) (fs : Fields) (items : Text) → field_count fs ≡ 0 → struct_between style fs items ≡ Ok (codes "()")
struct_text_empty style no_fields items h = refl
struct_text_empty style (field n m b fs) items h = absurd (omega arith)

-- a text between an opening sign and an end
pub between_signs : (inside whole : Text) (old a b c front end : List ℕ) → whole ≡ (inside and_then λ t. Ok ((front ++ t) ++ end)) → a ≡ old ++ front → (bytes : List ℕ) × (inside ≡ Ok bytes) × (b ≡ a ++ bytes) → c ≡ b ++ end
    → (bytes : List ℕ) × (whole ≡ Ok bytes) × (c ≡ old ++ bytes)
between_signs inside whole old a b c front end e f g h =
    ((front ++ g.0) ++ end, e ∙ ap (λ z. z and_then λ t. Ok ((front ++ t) ++ end)) g.1, h ∙ ap (λ z. z ++ end) (g.2 ∙ ap (λ z. z ++ g.0) f) ∙ (let same : ((old ++ front) ++ g.0) ++ end ≡ old ++ ((front ++ g.0) ++ end) = simp append_assoc in same))
