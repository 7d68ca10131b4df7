-- The replies to `get` of fields and elements.
use Rattle.std.proofs.Common.{◌≡◌, ℕ, zero, suc, ◌+◌, ◌<◌, true, false, Option, Some, None, List, [], Result, Ok, Err, refl, ap, sym, ◌∙◌, arith}
use Rattle.capnp_model.specs.Kinds.{Kind, InactiveMember}
use Rattle.capnp_model.specs.Trees.{null}
use Rattle.capnp_model.specs.Schemas.{Ty, TypeRecord, type_of, Node, Body, Schema}
use Rattle.capnp_model.specs.Accepted.{schema_of, IsAccepted}
use Rattle.capnp_model.specs.Readings.{Reading, inactive, null_pointer, fault, number, text_of, blob_of, list_of, record_as, opaque, Readings, no_readings, ◌▹◌, Record}
use Rattle.capnp_model.specs.ActiveMembers.{element_of as reading_of}
use Rattle.capnp_model.specs.Printing.{on_one_line, print, nulls_as, As, as_type, as_body, as_it_is}
use Rattle.capnp_model.specs.Calls.{get}
use Rattle.capnp_model.specs.Steps.{shown, got, step_field, step_element}
use Rattle.capnp_model.specs.Answers.{reply_of, reply_refused, text_reply}
use Rattle.capnp_units.specs.Errors.{kind_of}
use Rattle.capnp_units.specs.declared.kinds.ErrorKind.{ErrorKind}
use Rattle.capnp_wire.specs.Views.{StructView, ListView}
use Rattle.capnp_values_queries.specs.Fields.{Entry}
use Rattle.capnp_values_queries.specs.Structs.{schema_around, shape_of_struct}
use Rattle.capnp_values_queries.specs.Handles.{entry_of_field}
use Rattle.capnp_values_queries.specs.declared.structs.StructSchema.{StructSchema}
use Rattle.capnp_values_queries.specs.declared.fields.Field.{Field}
use Rattle.capnp_values.specs.Records.{reading_at_index, is_live}
use Rattle.capnp_values.specs.Shown.{Shown, a_number, an_enum, a_text, a_blob, a_struct, a_list, a_pointer, a_capability, element_shown}
use Rattle.capnp_values.specs.Standing.{IsRecord, AreItems, Answers, null_as_empty, PointersAreRead}
use Rattle.capnp_values_print.specs.Models.{unopened, unopened_each, WholesAreRead, FieldsAreModels}
use Rattle.capnp_values_print.specs.Parts.{member_text}
use Rattle.capnp_values_print.specs.ShownReadings.{element_read, elements_read, reading_within, levels_left, reading_of as whole_reading}
use Rattle.capnp_values_print.specs.Printed.{Text, text_if_any, printed, null_printed, schema_shown, as_shown, shown_text}
use Rattle.capnp_values_print.specs.Answers.{IsShownText}
use Rattle.capnp_values_print.proofs.lemmas.Children.{within}
use Rattle.capnp_values_print.proofs.lemmas.ElementTexts.{text_or_fault, element_text}
use Rattle.capnp_values_print.proofs.lemmas.Models.{printed_print}
use Rattle.capnp_values_print.proofs.lemmas.ModelTexts.{whole_model}
use Rattle.capnp_values_print.proofs.lemmas.SoundShapes.{no_default_is, shapes_sound}
use Rattle.capnp_calls.specs.Replies.{reply_view}
use Rattle.capnp_calls.specs.declared.reply.Reply.{Reply as Own}
use Rattle.capnp_calls.specs.declared.reply.Reply.TheVariants as reply
use Rattle.capnp_calls_replies.specs.Parts.{IsFieldReply}
use Rattle.capnp_calls_replies.specs.Texts.{IsTextReply, RepliesText}
use Rattle.capnp_calls_replies.proofs.Records.{not_live}
use Rattle.capnp_calls_replies.proofs.Parts.{same_items}

-- ---- what is got

live_got : (how : As) (x : Reading) → is_live x ≡ true → got how x ≡ shown how x
live_got how inactive h = absurd cc
live_got how null_pointer h = refl
live_got how (fault kind) h = refl
live_got how (number n) h = refl
live_got how (text_of bytes) h = refl
live_got how (blob_of bytes) h = refl
live_got how (list_of rs) h = refl
live_got how (record_as r) h = refl
live_got how (opaque t) h = refl

-- a member that isn't active
pub inactive_got : (s : Schema) (body : Body) (x : Reading) → is_live x ≡ false → IsFieldReply [] get (reply_refused InactiveMember) s body x
unfolding step_field
inactive_got s body x live = ap (λ z. reply_of s as_it_is (got (as_body body) z)) (sym (not_live x live))

-- a text that the model has is replied, else a refusal
told_got : (s : Schema) (how : As) (x : Reading) (t : Text) (answer : Own) → is_live x ≡ true → text_if_any t ≡ print s as_it_is (nulls_as s as_it_is 64) on_one_line how x → RepliesText t answer → reply_view answer ≡ reply_of s as_it_is (got how x)
told_got s how x t (reply.Text bytes) live model h = ap text_reply (sym (ap text_if_any h) ∙ model) ∙ ap (reply_of s as_it_is) (sym (live_got how x live))
told_got s how x t (reply.Refused kind) live model h =
    ap (λ (k : ErrorKind). reply_refused (kind_of k)) h.0 ∙ ap text_reply (sym (ap text_if_any h.1.1) ∙ model) ∙ ap (reply_of s as_it_is) (sym (live_got how x live))
told_got s how x t reply.Done live model h = absurd h

-- ---- a field

pub field_got : FieldsAreModels → (f : Field) (root : StructSchema) (v : StructView) (e : Entry) (r : Record) (answer : Own) → f.parent ≡ root → entry_of_field f ≡ Some e → IsRecord (schema_around f.parent) (shape_of_struct f.parent) v (record_as r) → is_live (reading_at_index f.index r) ≡ true
    → RepliesText (member_text 64 on_one_line root v e) answer → IsFieldReply [] get (reply_view answer) (schema_around f.parent) e.body (reading_at_index f.index r)
unfolding step_field
field_got law f root v e r answer parent at rec live h =
    told_got (schema_around f.parent) (as_body e.body) (reading_at_index f.index r) (member_text 64 on_one_line root v e) answer live
    (ap (λ (q : StructSchema). text_if_any (member_text 64 on_one_line q v e)) (sym parent) ∙ law f.parent v f.index e r at rec on_one_line) h

-- ---- an element

read_at : (s : Schema) (ty : Ty) (l : ListView) (below : Shown → Reading) (i k n : ℕ) → k < n → reading_of k (elements_read below s ty l i n) ≡ element_read below s ty l (i + k)
unfolding elements_read
read_at s ty l below i k zero h = absurd (omega arith)
read_at s ty l below i zero (suc n) h = let e : i ≡ i + 0 = omega arith in ap (element_read below s ty l) e
read_at s ty l below i (suc k) (suc n) h = let e : suc i + k ≡ i + suc k = omega arith in read_at s ty l below (suc i) k n (omega arith) ∙ ap (element_read below s ty l) e

unopened_at : (i : ℕ) (rs : Readings) → reading_of i (unopened_each rs) ≡ unopened (reading_of i rs)
unopened_at i no_readings = refl
unopened_at zero (r ▹ rs) = refl
unopened_at (suc i) (r ▹ rs) = unopened_at i rs

module _ (wholes : WholesAreRead) (pointers : PointersAreRead) (nodes : List Node) (accepted : IsAccepted nodes) (tr : TypeRecord) (ty : Ty) (named : ty ≡ type_of tr) (l : ListView) (rs : Readings) (are : AreItems (schema_of nodes) ty l (list_of rs)) (i : ℕ) (inside : i < l.count) where
  abbrev s : Schema
  s = schema_of nodes

  element_is : element_read (reading_within (levels_left l.levels)) s ty l i ≡ unopened (reading_of i rs)
  element_is =
      let below = reading_within (levels_left l.levels) in
      let x = a_list s ty l in
      let items : elements_read below s ty l 0 l.count ≡ unopened_each rs = same_items _ _ (sym (within (suc (levels_left l.levels)) x) ∙ wholes nodes x (list_of rs) accepted (tr, named) (refl, are)) in
      let e : i ≡ 0 + i = omega arith in
      ap (element_read below s ty l) e ∙ sym (read_at s ty l below 0 i l.count inside) ∙ ap (reading_of i) items ∙ unopened_at i rs

  -- the text of an element is the model's
  element_model : text_if_any (text_or_fault 64 on_one_line (element_shown s ty l i)) ≡ print s as_it_is (nulls_as s as_it_is 64) on_one_line (as_type ty null) (reading_of i rs)
  element_model =
      ap text_if_any (element_text 64 on_one_line s ty l i ∙ ap (printed s as_it_is (null_printed s as_it_is 64) on_one_line (as_type ty null)) element_is)
      ∙ whole_model pointers s (shapes_sound nodes accepted) on_one_line (as_type ty null) (reading_of i rs) (no_default_is ty)

  not_inactive : (q : Result Shown Kind) → Answers s q inactive → ⊥
  not_inactive (Err kind) h = absurd (cc h)
  not_inactive (Ok (a_number t n)) h = absurd (cc h)
  not_inactive (Ok (an_enum t id n)) h = absurd (cc (h.1))
  not_inactive (Ok (a_text bytes)) h = absurd (cc h)
  not_inactive (Ok (a_blob bytes)) h = absurd (cc h)
  not_inactive (Ok (a_struct t g v)) h = absurd (cc (h.1.is))
  not_inactive (Ok (a_list t e v)) h = absurd (cc (h.1.is))
  not_inactive (Ok (a_pointer p)) h = absurd (cc (h.is))
  not_inactive (Ok a_capability) h = absurd (cc (h.1))

  live_answer : (q : Result Shown Kind) (z : Reading) → Answers s q (null_as_empty s ty z) → is_live z ≡ true
  live_answer q inactive h = absurd (not_inactive q h)
  live_answer q null_pointer h = refl
  live_answer q (fault kind) h = refl
  live_answer q (number n) h = refl
  live_answer q (text_of bytes) h = refl
  live_answer q (blob_of bytes) h = refl
  live_answer q (list_of items) h = refl
  live_answer q (record_as r) h = refl
  live_answer q (opaque t) h = refl

  printed_told : (x : Shown) (answer : Own) → Ok x ≡ element_shown s ty l i → IsTextReply x answer → text_if_any (text_or_fault 64 on_one_line (element_shown s ty l i)) ≡ text_if_any (shown_text 64 on_one_line x)
  printed_told x answer shows h = ap (λ (q : Result Shown Kind). text_if_any (text_or_fault 64 on_one_line q)) (sym shows)

  told : (x : Shown) (bytes : List ℕ) → IsShownText on_one_line x bytes → text_if_any (shown_text 64 on_one_line x) ≡ Some bytes
  told x bytes h =
      let z = schema_shown x in
      printed_print z as_it_is (null_printed z as_it_is 64) (λ st ty d. text_if_any (null_printed z as_it_is 64 st ty d)) (λ st ty d. refl) on_one_line (as_shown x) (whole_reading x) ∙ h

  reply_got : (q : Result Shown Kind) → Answers s q (null_as_empty s ty (reading_of i rs)) → (o : Option (List ℕ)) → o ≡ print s as_it_is (nulls_as s as_it_is 64) on_one_line (as_type ty null) (reading_of i rs)
      → text_reply o ≡ reply_of s as_it_is (step_element s [] get ty (reading_of i rs))
  unfolding step_element
  reply_got q answers o e = ap text_reply e ∙ ap (reply_of s as_it_is) (sym (live_got (as_type ty null) (reading_of i rs) (live_answer q (reading_of i rs) answers)))

  -- the reply at what an element shows
  pub element_got : (x : Shown) (answer : Own) → Ok x ≡ element_shown s ty l i → Answers s (element_shown s ty l i) (null_as_empty s ty (reading_of i rs)) → IsTextReply x answer → reply_view answer ≡ reply_of s as_it_is (step_element s [] get ty (reading_of i rs))
  element_got x (reply.Text bytes) shows answers h =
      reply_got (element_shown s ty l i) answers (Some bytes.items) (sym (told x bytes.items h) ∙ sym (printed_told x (reply.Text bytes) shows h) ∙ element_model)
  element_got x (reply.Refused kind) shows answers h =
      ap (λ (k : ErrorKind). reply_refused (kind_of k)) h.0 ∙ reply_got (element_shown s ty l i) answers None (sym (ap text_if_any h.1.1) ∙ sym (printed_told x (reply.Refused kind) shows h) ∙ element_model)
  element_got x reply.Done shows answers h = absurd h

  -- a fault in its place
  pub element_refused : (kind : Kind) → Err kind ≡ element_shown s ty l i → Answers s (element_shown s ty l i) (null_as_empty s ty (reading_of i rs)) → text_reply None ≡ reply_of s as_it_is (step_element s [] get ty (reading_of i rs))
  element_refused kind shows answers = reply_got (element_shown s ty l i) answers None (ap (λ (q : Result Shown Kind). text_if_any (text_or_fault 64 on_one_line q)) shows ∙ element_model)
