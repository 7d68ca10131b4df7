-- Where paths lead and what is taken there, as replies tell.
use Rattle.std.proofs.Common.{◌≡◌, ℕ, zero, suc, Bool, true, false, if◌then◌else◌, Option, Some, None, option_map, List, [], ◌∷◌, refl, ap, sym, ◌∙◌, subst}
use Rattle.std.specs.Str.{bytes_eq}
use Rattle.capnp_model.specs.Trees.{Tree, structure}
use Rattle.capnp_model.specs.Groups.{group_fault}
use Rattle.capnp_model.specs.Kinds.{Kind}
use Rattle.capnp_model.specs.Schemas.{Ty, plain, Shape, Fields, no_fields, field, Body, void_slot, plain_slot, pointer_slot, group_slot, Schema}
use Rattle.capnp_model.specs.Readings.{number, record_by_shape}
use Rattle.capnp_model.specs.Calls.{Step, name, index, CallValue, whole_number, truth, enumerant, text_value, blob_value, message, message_root, Verb, get, set_to, init, initn, clear, Content, refused_by, bits_of, object, element_content}
use Rattle.capnp_model.specs.Steps.{target, target_if, target_of, reading_after, at_field, set_group, set_group_from, copied_or_refused}
use Rattle.capnp_model.specs.Answers.{Reply, reply_of}
use Rattle.capnp_model.specs.InKindCalls.{PathEnd, at_slot, at_value, nowhere, end_at, step_into, next_end, end_of}
use Rattle.capnp_model.specs.Printing.{as_it_is, fields_in}
use Rattle.capnp_values_queries.specs.Fields.{Entry, field_at, place_of_name, type_of_body}
use Rattle.capnp_calls.specs.Replies.{content_reply}
use Rattle.capnp_calls_replies.specs.Checks.{is_taken, takes_at, is_done_reply, end_of_entry}
use Rattle.capnp_calls_replies.specs.Parts.{IsNonGroup}
use Rattle.capnp_calls_replies.specs.Writes.{type_content, is_get}

-- ---- a field

-- the field at the first index of a name is where the name leads
pub entry_named : (n : List ℕ) (fs : Fields) (i : ℕ) → Some i ≡ place_of_name n fs → end_of_entry (field_at fs i) ≡ end_at (target_of n fs)
entry_named n no_fields i place = absurd cc
entry_named n (field m member body fs) i place = by (bytes_eq m n) (entry_named n fs) (place_of_name n fs) refl i place
  where
    by : (t : Bool) → ((j : ℕ) → Some j ≡ place_of_name n fs → end_of_entry (field_at fs j) ≡ end_at (target_of n fs)) → (o : Option ℕ) → place_of_name n fs ≡ o
        → (j : ℕ) → Some j ≡ (if t then Some 0 else option_map (λ k. suc k) o) → end_of_entry (field_at (field m member body fs) j) ≡ end_at (target_if t (target member body) (target_of n fs))
    by true again o at zero h = refl
    by true again o at (suc j) h = absurd cc
    by false again None at j h = absurd cc
    by false again (Some k) at zero h = absurd cc
    by false again (Some k) at (suc j) h = let same : j ≡ k = cc in again j (ap (λ (x : ℕ). Some x) same ∙ sym at)

-- the body that is told is that of the field's entry
pub entry_is : (o : Option Entry) (b : Body) → option_map (λ e. e.body) o ≡ Some b → end_of_entry o ≡ at_slot b
entry_is None b h = absurd cc
entry_is (Some e) b h = let same : e.body ≡ b = cc in ap (λ (x : Body). at_slot x) same

-- ---- a step from a field

-- a step from a field that is no group is one into its type
pub typed_step : (s : Schema) (st : Step) (o : Option Entry) (ty : Ty) → ((e : Entry) → o ≡ Some e → IsNonGroup e.body) → option_map (λ e. type_of_body e.body) o ≡ Some ty → step_into s st ty ≡ next_end s st (end_of_entry o)
typed_step s st None ty is type = absurd cc
typed_step s st (Some e) ty is type =
    let typed : type_of_body e.body ≡ ty = cc in
    ap (step_into s st) (sym typed) ∙ by st e.body (is e refl)
  where
    by : (st : Step) (c : Body) → IsNonGroup c → step_into s st (type_of_body c) ≡ next_end s st (at_slot c)
    by (name n) (void_slot j) h = refl
    by (name n) (plain_slot p at d) h = refl
    by (name n) (pointer_slot i t d) h = refl
    by (name n) (group_slot g) h = absurd h
    by (index k) (void_slot j) h = refl
    by (index k) (plain_slot p at d) h = refl
    by (index k) (pointer_slot i t d) h = refl
    by (index k) (group_slot g) h = absurd h

-- a name leads from a group to its field
pub group_step : (s : Schema) (n : List ℕ) (o : Option Entry) (g : Shape) → option_map (λ e. e.body) o ≡ Some (group_slot g) → end_at (target_of n (fields_in g)) ≡ next_end s (name n) (end_of_entry o)
group_step s n o g here = ap (next_end s (name n)) (sym (entry_is o (group_slot g) here))

-- an index leads from a field into its type, also from a group
typed_index : (s : Schema) (k : ℕ) (o : Option Entry) (ty : Ty) → option_map (λ e. type_of_body e.body) o ≡ Some ty → step_into s (index k) ty ≡ next_end s (index k) (end_of_entry o)
typed_index s k None ty type = absurd cc
typed_index s k (Some e) ty type =
    let typed : type_of_body e.body ≡ ty = cc in
    ap (step_into s (index k)) (sym typed) ∙ by e.body
  where
    by : (c : Body) → step_into s (index k) (type_of_body c) ≡ next_end s (index k) (at_slot c)
    by (void_slot j) = refl
    by (plain_slot p at d) = refl
    by (pointer_slot i t d) = refl
    by (group_slot g) = refl

pub index_step : (s : Schema) (st : Step) (k : ℕ) (o : Option Entry) (ty : Ty) → st ≡ index k → option_map (λ e. type_of_body e.body) o ≡ Some ty → step_into s st ty ≡ next_end s st (end_of_entry o)
index_step s st k o ty is type = subst (λ (x : Step). step_into s x ty ≡ next_end s x (end_of_entry o)) (sym is) (typed_index s k o ty type)

-- ---- along a path

pub none_left : (s : Schema) (at : PathEnd) → end_of s [] at ≡ at
unfolding end_of
none_left s at = refl

pub one_step : (s : Schema) (st : Step) (path : List Step) (at : PathEnd) → end_of s (st ∷ path) at ≡ end_of s path (next_end s st at)
unfolding end_of
one_step s st path at = refl

-- a path that leads nowhere leads nowhere further on
pub nowhere_on : (s : Schema) (path : List Step) → end_of s path nowhere ≡ nowhere
unfolding end_of
nowhere_on s [] = refl
nowhere_on s (name n ∷ path) = nowhere_on s path
nowhere_on s (index k ∷ path) = nowhere_on s path

-- ---- the end

content_taken : (s : Schema) (ty : Ty) (c : Content) → is_done_reply (content_reply c) ≡ is_taken (reading_after s ty c)
content_taken s ty (refused_by k) = refl
content_taken s ty (bits_of n) = refl
content_taken s ty (object t) = refl

slot_taken : (s : Schema) (verb : Verb) (b : Body) → IsNonGroup b → is_done_reply (content_reply (type_content s verb (type_of_body b))) ≡ is_taken (at_field s verb b (number 0))
slot_taken s verb (group_slot g) is = absurd is
slot_taken s get (void_slot j) is = refl
slot_taken s get (plain_slot p at d) is = refl
slot_taken s get (pointer_slot i ty d) is = refl
slot_taken s (set_to v) (void_slot j) is = refl
slot_taken s (set_to v) (plain_slot p at d) is = content_taken s (plain p) _
slot_taken s (set_to v) (pointer_slot i ty d) is = content_taken s ty _
slot_taken s init (void_slot j) is = refl
slot_taken s init (plain_slot p at d) is = refl
slot_taken s init (pointer_slot i ty d) is = content_taken s ty _
slot_taken s (initn n) (void_slot j) is = refl
slot_taken s (initn n) (plain_slot p at d) is = refl
slot_taken s (initn n) (pointer_slot i ty d) is = content_taken s ty _
slot_taken s clear (void_slot j) is = refl
slot_taken s clear (plain_slot p at d) is = refl
slot_taken s clear (pointer_slot i ty d) is = refl

-- a verb at a field that is no group
pub field_taken : (s : Schema) (verb : Verb) (o : Option Entry) (b : Body) (ty : Ty) → IsNonGroup b → option_map (λ e. e.body) o ≡ Some b → option_map (λ e. type_of_body e.body) o ≡ Some ty
    → is_done_reply (content_reply (type_content s verb ty)) ≡ takes_at s verb (end_of_entry o)
field_taken s verb None b ty is here type = absurd cc
field_taken s verb (Some e) b ty is here type =
    let same : e.body ≡ b = cc in
    let typed : type_of_body e.body ≡ ty = cc in
    ap (λ (t : Ty). is_done_reply (content_reply (type_content s verb t))) (sym typed) ∙ slot_taken s verb e.body (subst IsNonGroup (sym same) is)

set_taken : (s : Schema) (g : Shape) (v : CallValue) → is_done_reply (reply_of s as_it_is (set_group s g v)) ≡ is_taken (set_group s g v)
set_taken s g (message t) = by (message_root t)
  where
    copied : (x : Tree) (k : Option Kind) → is_done_reply (reply_of s as_it_is (copied_or_refused s g (record_by_shape s g x) k)) ≡ is_taken (copied_or_refused s g (record_by_shape s g x) k)
    copied x (Some k) = refl
    copied x None = refl

    by : (x : Tree) → is_done_reply (reply_of s as_it_is (set_group_from s g x)) ≡ is_taken (set_group_from s g x)
    by (structure words section kids) = copied (structure words section kids) (group_fault g (record_by_shape s g (structure words section kids)))
    by _ = refl
set_taken s g (whole_number z) = refl
set_taken s g (truth b) = refl
set_taken s g (enumerant n) = refl
set_taken s g (text_value bs) = refl
set_taken s g (blob_value bs) = refl

-- a `get` of a group
pub group_shown : (s : Schema) (verb : Verb) (o : Option Entry) (g : Shape) → is_get verb ≡ true → option_map (λ e. e.body) o ≡ Some (group_slot g) → true ≡ takes_at s verb (end_of_entry o)
group_shown s verb o g reads here = by verb reads ∙ ap (takes_at s verb) (sym (entry_is o (group_slot g) here))
  where
    by : (verb : Verb) → is_get verb ≡ true → true ≡ takes_at s verb (at_slot (group_slot g))
    by get h = refl
    by (set_to v) h = absurd cc
    by init h = absurd cc
    by (initn n) h = absurd cc
    by clear h = absurd cc

-- a verb that writes a group
pub group_taken : (s t : Schema) (verb : Verb) (o : Option Entry) (g : Shape) (answer : Reply) → t ≡ s → is_get verb ≡ false → option_map (λ e. e.body) o ≡ Some (group_slot g)
    → answer ≡ reply_of t as_it_is (at_field t verb (group_slot g) (number 0)) → is_done_reply answer ≡ takes_at s verb (end_of_entry o)
group_taken s t verb o g answer around write here h =
    ap is_done_reply h ∙ ap (λ (z : Schema). is_done_reply (reply_of z as_it_is (at_field z verb (group_slot g) (number 0)))) around ∙ by verb write ∙ ap (takes_at s verb) (sym (entry_is o (group_slot g) here))
  where
    by : (verb : Verb) → is_get verb ≡ false → is_done_reply (reply_of s as_it_is (at_field s verb (group_slot g) (number 0))) ≡ is_taken (at_field s verb (group_slot g) (number 0))
    by get write = absurd cc
    by (set_to v) write = set_taken s g v
    by init write = refl
    by (initn n) write = refl
    by clear write = refl

-- a `get` of an element
pub element_shown : (s : Schema) (verb : Verb) (ty : Ty) → is_get verb ≡ true → true ≡ takes_at s verb (at_value ty)
element_shown s get ty h = refl
element_shown s (set_to v) ty h = absurd cc
element_shown s init ty h = absurd cc
element_shown s (initn n) ty h = absurd cc
element_shown s clear ty h = absurd cc

-- a verb that writes an element
pub element_taken : (s : Schema) (verb : Verb) (ty : Ty) → is_get verb ≡ false → is_done_reply (content_reply (element_content s verb ty)) ≡ takes_at s verb (at_value ty)
element_taken s get ty write = absurd cc
element_taken s (set_to v) ty write = content_taken s ty (element_content s (set_to v) ty)
element_taken s init ty write = content_taken s ty (element_content s init ty)
element_taken s (initn n) ty write = content_taken s ty (element_content s (initn n) ty)
element_taken s clear ty write = content_taken s ty (element_content s clear ty)
