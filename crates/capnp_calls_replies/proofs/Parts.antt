-- Replies at the parts of structs and lists.
use Rattle.std.proofs.Common.{◌≡◌, ◌≢◌, ℕ, zero, suc, ◌<◌, ◌≤◌, true, false, Some, List, [], ◌∷◌, Result, Ok, Err, refl, ap, sym, ◌∙◌, subst, arith}
use Rattle.capnp_model.specs.Kinds.{Kind, InactiveMember, IndexOutOfRange, UnreadablePointer}
use Rattle.capnp_model.specs.Schemas.{Ty, TypeRecord, type_of, Field as FieldNode, Schema}
use Rattle.capnp_model.specs.Readings.{Reading, list_of, record_as, Readings, no_readings, ◌▹◌, Record}
use Rattle.capnp_model.specs.ActiveMembers.{element_of as reading_of}
use Rattle.capnp_model.specs.Calls.{Step, index, Verb}
use Rattle.capnp_model.specs.Steps.{Outcome, refused, outcome_map, on_index, step_field, step_element}
use Rattle.capnp_model.specs.Answers.{Reply, reply_of, reply_refused}
use Rattle.capnp_wire.specs.Views.{StructView, ListView}
use Rattle.capnp_values_queries.specs.Fields.{Entry, entry_in}
use Rattle.capnp_values_queries.specs.Structs.{schema_around, shape_of_struct}
use Rattle.capnp_values_queries.specs.Handles.{entry_of_field, IsFieldRecord}
use Rattle.capnp_values_queries.specs.declared.fields.Field.{Field}
use Rattle.capnp_values.specs.GoodDefaults.{KeepsDefault}
use Rattle.capnp_values.specs.Records.{reading_at_index, is_live, FieldsOfRecords}
use Rattle.capnp_values.specs.Shown.{Shown, kind_shown, element_shown}
use Rattle.capnp_values.specs.Standing.{IsRecord, AreItems, Answers, null_as_empty, ElementsAreRead}
use Rattle.capnp_values.proofs.lemmas.ElementReadings.{item_count, elements_stand}
use Rattle.capnp_model.specs.Printing.{as_it_is}
use Rattle.capnp_calls.proofs.lemmas.OneStep.{reply_of-map}
use Rattle.capnp_values_print.proofs.lemmas.PrintedFields.{entry_same}
use Rattle.capnp_calls_replies.specs.Parts.{items_reply, RepliesBehind, IsFieldReply}
use Rattle.capnp_calls_replies.proofs.Sorts.{element_sorted}
use Rattle.capnp_calls_replies.proofs.Steps.{RepliesThrough, kind_through, inactive_through, element_through}

-- A refusal, or the reply at what is shown.
abbrev pub RepliesAlong : List Step → Verb → Result Shown Kind → Reply → Type 0
RepliesAlong path verb (Ok x) answer = RepliesBehind x path verb answer
RepliesAlong path verb (Err kind) answer = answer ≡ reply_refused UnreadablePointer

through : (s : Schema) (st : Step) (path : List Step) (verb : Verb) (q : Result Shown Kind) (answer : Reply) → RepliesAlong (st ∷ path) verb q answer → RepliesThrough s path verb st q answer
through s st path verb (Ok x) answer h = h
through s st path verb (Err kind) answer h = h

-- ---- a field

-- the rest of a path at what a field shows
pub field_answer : FieldsOfRecords → (f : Field) (said : FieldNode) (v : StructView) (path : List Step) (verb : Verb) (q : Result Shown Kind) (e : Entry) (r : Record) (answer : Reply)
    → IsFieldRecord f.parent f.index said → KeepsDefault said.kind → q ≡ kind_shown (schema_around f.parent) v said.kind → path ≢ [] → entry_of_field f ≡ Some e → IsRecord (schema_around f.parent) (shape_of_struct f.parent) v (record_as r)
    → is_live (reading_at_index f.index r) ≡ true → RepliesAlong path verb q answer → IsFieldReply path verb answer (schema_around f.parent) e.body (reading_at_index f.index r)
field_answer law f said v [] verb q e r answer is keeps shows some at rec live h = absurd (some refl)
field_answer law f said v (st ∷ path) verb q e r answer is keeps shows some at rec live h =
    let s = schema_around f.parent in
    let x = reading_at_index f.index r in
    let of = law f said v r is keeps rec in
    let here : RepliesThrough s path verb st (kind_shown s v said.kind) answer = subst (λ (z : Result Shown Kind). RepliesThrough s path verb st z answer) shows (through s st path verb q answer h) in
    let same : e ≡ entry_in s said = entry_same (entry_of_field f) e (entry_in s said) at is.entry in
    kind_through s path verb st v said.kind x live (of.shows live) answer here
    ∙ ap (λ (z : Entry). reply_of s as_it_is (step_field s (st ∷ path) verb z.body x)) (sym same)

-- a member that isn't active
pub inactive_answer : (s : Schema) (path : List Step) (verb : Verb) (e : Entry) (x : Reading) → path ≢ [] → is_live x ≡ false → IsFieldReply path verb (reply_refused InactiveMember) s e.body x
inactive_answer s [] verb e x some live = absurd (some refl)
inactive_answer s (st ∷ path) verb e x some live = inactive_through s path verb st e.body x live

-- ---- an element

pub same_items : (a b : Readings) → list_of a ≡ list_of b → a ≡ b
same_items a b e = cc

-- what an element shows is what the list reads as there
pub element_answers : ElementsAreRead → (s : Schema) (tr : TypeRecord) (ty : Ty) → ty ≡ type_of tr → (l : ListView) (rs : Readings) → AreItems s ty l (list_of rs) → (i : ℕ) → i < l.count → Answers s (element_shown s ty l i) (null_as_empty s ty (reading_of i rs))
element_answers law s tr ty e l rs are i inside =
    let P : Ty → Type 0 = λ t. AreItems s t l (list_of rs) → Answers s (element_shown s t l i) (null_as_empty s t (reading_of i rs)) in
    subst P (sym e) (λ a. subst (λ (z : Readings). Answers s (element_shown s (type_of tr) l i) (null_as_empty s (type_of tr) (reading_of i z))) (sym (same_items rs a.items a.is)) ((law s tr l (list_of rs) a i).0 inside)) are

-- the rest of a path at what an element shows
pub element_answer : ElementsAreRead → (s : Schema) (tr : TypeRecord) (ty : Ty) → ty ≡ type_of tr → (l : ListView) (rs : Readings) → AreItems s ty l (list_of rs) → (i : ℕ) → i < l.count
    → (path : List Step) (verb : Verb) (q : Result Shown Kind) (answer : Reply) → q ≡ element_shown s ty l i → path ≢ [] → RepliesAlong path verb q answer → answer ≡ reply_of s as_it_is (step_element s path verb ty (reading_of i rs))
element_answer law s tr ty e l rs are i inside [] verb q answer shows some h = absurd (some refl)
element_answer law s tr ty e l rs are i inside (st ∷ path) verb q answer shows some h =
    let here : RepliesThrough s path verb st (element_shown s ty l i) answer = subst (λ (z : Result Shown Kind). RepliesThrough s path verb st z answer) shows (through s st path verb q answer h) in
    element_through s path verb st ty (element_shown s ty l i) (reading_of i rs) (element_answers law s tr ty e l rs are i inside) (λ x shown. element_sorted s ty l i x shown) answer here

-- ---- an index

index_in : (s : Schema) (f : Reading → Outcome Reading) (k : ℕ) (rs : Readings) → k < item_count rs → reply_of s as_it_is (on_index f k rs) ≡ reply_of s as_it_is (f (reading_of k rs))
unfolding item_count
index_in s f k no_readings h = absurd (omega arith)
index_in s f zero (r ▹ rs) h = reply_of-map s (λ (x : Reading). x ▹ rs) (f r)
index_in s f (suc k) (r ▹ rs) h = reply_of-map s (λ (xs : Readings). r ▹ xs) (on_index f k rs) ∙ index_in s f k rs (omega arith)

index_out : (s : Schema) (f : Reading → Outcome Reading) (k : ℕ) (rs : Readings) → item_count rs ≤ k → on_index f k rs ≡ refused IndexOutOfRange
unfolding item_count
index_out s f k no_readings h = refl
index_out s f zero (r ▹ rs) h = absurd (omega arith)
index_out s f (suc k) (r ▹ rs) h = ap (outcome_map (λ (xs : Readings). r ▹ xs)) (index_out s f k rs (omega arith))

count_is : (s : Schema) (tr : TypeRecord) (ty : Ty) → ty ≡ type_of tr → (l : ListView) (rs : Readings) → AreItems s ty l (list_of rs) → item_count rs ≡ l.count
count_is s tr ty e l rs are =
    let P : Ty → Type 0 = λ t. AreItems s t l (list_of rs) → item_count rs ≡ l.count in
    subst P (sym e) (λ a. ap item_count (same_items rs a.items a.is) ∙ (elements_stand s tr l (list_of rs) a).count) are

-- the reply at an element is that along its index
pub index_answer : (s : Schema) (tr : TypeRecord) (ty : Ty) → ty ≡ type_of tr → (l : ListView) (rs : Readings) → AreItems s ty l (list_of rs) → (i : ℕ) → i < l.count → (path whole : List Step) (verb : Verb) (answer : Reply) → whole ≡ index i ∷ path
    → answer ≡ reply_of s as_it_is (step_element s path verb ty (reading_of i rs)) → answer ≡ items_reply s ty whole verb rs
index_answer s tr ty e l rs are i inside path whole verb answer split h =
    let count = count_is s tr ty e l rs are in
    h ∙ sym (index_in s (step_element s path verb ty) i rs (omega (arith, count, inside))) ∙ ap (λ (w : List Step). items_reply s ty w verb rs) (sym split)

-- an index past the last element
pub past_answer : (s : Schema) (tr : TypeRecord) (ty : Ty) → ty ≡ type_of tr → (l : ListView) (rs : Readings) → AreItems s ty l (list_of rs) → (i : ℕ) → l.count ≤ i → (path whole : List Step) (verb : Verb) → whole ≡ index i ∷ path
    → reply_refused IndexOutOfRange ≡ items_reply s ty whole verb rs
past_answer s tr ty e l rs are i past path whole verb split =
    let count = count_is s tr ty e l rs are in
    ap (reply_of s as_it_is) (sym (index_out s (step_element s path verb ty) i rs (omega (arith, count, past)))) ∙ ap (λ (w : List Step). items_reply s ty w verb rs) (sym split)
