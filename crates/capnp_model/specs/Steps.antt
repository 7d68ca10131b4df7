-- The record machine: what a call replies at a record, and the record after it.
use Rattle.std.specs.Prelude.{ℕ, zero, suc, Bool, true, false, Option, Some, None, List, [], ◌∷◌}
use Rattle.std.specs.Str.{bytes_eq}
use Rattle.capnp_model.specs.Kinds.{Kind, FieldNotFound, NotAStruct, InitnIsOnlyValidForListTextOrDataFields, InactiveMember, IndexOutOfRange, WrongStep, UnreadablePointer}
use Rattle.capnp_model.specs.Trees.{Tree, null, structure}
use Rattle.capnp_model.specs.Schemas.{Ty, void, plain, struct, list, Shape, Fields, no_fields, field, Body, void_slot, plain_slot, pointer_slot, group_slot, Schema, default_or_null}
use Rattle.capnp_model.specs.Readings.{Reading, inactive, null_pointer, fault, number, list_of, record_as, Readings, no_readings, ◌▹◌, Record, no_more, entry, no_children, whole_words, shape_record, read, record_by_shape}
use Rattle.capnp_model.specs.Printing.{As, as_type, as_body, fields_in}
use Rattle.capnp_model.specs.Calls.{Step, name, index, Verb, get, set_to, init, initn, clear, Call, Content, refused_by, bits_of, object, slot_content, element_content, CallValue, message, message_root}
use Rattle.capnp_model.specs.Groups.{copied_record, group_fault}

-- A refusal, what a `get` shows, or what stands afterwards.
pub data Outcome (A : Type 0) : Type 0 where
  refused : Kind → Outcome A
  -- a `get`: what is printed, and how it is to be understood
  shown : As → Reading → Outcome A
  done : A → Outcome A

-- The outcome with another value.
abbrev pub outcome_map : {A B : Type 0} → (A → B) → Outcome A → Outcome B
outcome_map f (refused k) = refused k
outcome_map f (shown how r) = shown how r
outcome_map f (done x) = done (f x)

-- ---- a field by its name

-- A field that a name finds.
pub data Target : Type 0 where
  no_target : Target
  -- the member's value and what the field is
  target : Option ℕ → Body → Target

-- The first where the test holds, else the second.
abbrev pub target_if : Bool → Target → Target → Target
target_if true x y = x
target_if false x y = y

-- The field of a name.
abbrev pub target_of : List ℕ → Fields → Target
target_of n no_fields = no_target
target_of n (field m member body fs) = target_if (bytes_eq m n) (target member body) (target_of n fs)

-- The first reading where the test holds, else the second.
abbrev pub choose : Bool → Reading → Reading → Reading
choose true x y = x
choose false x y = y

-- What the field of a name reads as.
abbrev pub entry_of : List ℕ → Record → Reading
entry_of n no_more = inactive
entry_of n (entry m r rest) = choose (bytes_eq m n) r (entry_of n rest)

-- The other members of a union whose member is written.
abbrev pub unless_member : Option ℕ → Option ℕ → Reading → Reading
unless_member (Some w) (Some m) r = inactive
unless_member _ _ r = r

-- The field reads as x. Where it is a union member, it is now the active one.
abbrev pub replaced : List ℕ → Option ℕ → Reading → Fields → Record → Record
replaced n written x no_fields r = no_more
replaced n written x (field m member body fs) no_more = no_more
replaced n written x (field m member body fs) (entry l r rest) =
    entry m (choose (bytes_eq m n) x (unless_member written member r)) (replaced n written x fs rest)

-- A step at a field that was found.
abbrev pub at_target : (Body → Reading → Outcome Reading) → List ℕ → Fields → Record → Target → Outcome Record
at_target f n fs r no_target = refused FieldNotFound
at_target f n fs r (target member body) = outcome_map (λ x. replaced n member x fs r) (f body (entry_of n r))

-- A step at the field of a name.
abbrev pub on_name : (Body → Reading → Outcome Reading) → List ℕ → Fields → Record → Outcome Record
on_name f n fs r = at_target f n fs r (target_of n fs)

-- ---- an element by its index

-- A step at the element of an index.
abbrev pub on_index : (Reading → Outcome Reading) → ℕ → Readings → Outcome Readings
on_index f k no_readings = refused IndexOutOfRange
on_index f zero (r ▹ rs) = outcome_map (λ x. x ▹ rs) (f r)
on_index f (suc k) (r ▹ rs) = outcome_map (λ xs. r ▹ xs) (on_index f k rs)

-- ---- the end of a path

-- The type of a slot.
abbrev pub slot_type : Body → Ty
slot_type (void_slot j) = void
slot_type (plain_slot p at d) = plain p
slot_type (pointer_slot i ty d) = ty
slot_type (group_slot g) = void

-- `get` of a field or an element.
abbrev pub got : As → Reading → Outcome Reading
got how inactive = refused InactiveMember
got how r = shown how r

-- A write replaces a field by the value that its content reads as.
abbrev pub reading_after : Schema → Ty → Content → Outcome Reading
reading_after s ty (refused_by k) = refused k
reading_after s ty (bits_of n) = done (number n)
reading_after s ty (object t) = done (read s t ty)

-- A cleared group: member 0, and defaults.
abbrev pub cleared_group : Shape → Reading
cleared_group g = record_as (shape_record g whole_words 0 no_children)

-- `set` of a group from what its source reads as, unless that has a fault.
abbrev pub copied_or_refused : Schema → Shape → Record → Option Kind → Outcome Reading
copied_or_refused s g r (Some k) = refused k
copied_or_refused s g r None = done (record_as (copied_record s g r))

-- `set` of a group from a tree.
abbrev pub set_group_from : Schema → Shape → Tree → Outcome Reading
set_group_from s g (structure words section kids) = let r = record_by_shape s g (structure words section kids) in copied_or_refused s g r (group_fault g r)
set_group_from s g t = refused NotAStruct

-- `set` of a group.
abbrev pub set_group : Schema → Shape → CallValue → Outcome Reading
set_group s g (message t) = set_group_from s g (message_root t)
set_group s g v = refused NotAStruct

-- A path that ends at a field.
abbrev pub at_field : Schema → Verb → Body → Reading → Outcome Reading
at_field s get body r = got (as_body body) r
at_field s init (group_slot g) r = done (cleared_group g)
at_field s clear (group_slot g) r = done (cleared_group g)
at_field s (initn n) (group_slot g) r = refused InitnIsOnlyValidForListTextOrDataFields
at_field s (set_to v) (group_slot g) r = set_group s g v
at_field s verb body r = reading_after s (slot_type body) (slot_content s verb body)

-- A path that ends at an element.
abbrev pub at_element : Schema → Verb → Ty → Reading → Outcome Reading
at_element s get ty r = got (as_type ty null) r
at_element s verb ty r = reading_after s ty (element_content s verb ty)

-- ---- on the way

-- The empty struct or list.
abbrev pub empty_reading : Schema → Ty → Reading
empty_reading s (struct id) = record_as (shape_record (s.shape_of id) whole_words 0 no_children)
empty_reading s (list ty) = list_of no_readings
empty_reading s ty = null_pointer

-- A null as the empty value.
abbrev pub or_empty : Schema → Ty → Reading → Reading
or_empty s ty null_pointer = empty_reading s ty
or_empty s ty r = r

-- A null becomes its default, else the empty value.
abbrev pub opened : Schema → Ty → Tree → Reading → Reading
opened s ty d null_pointer = or_empty s ty (read s d ty)
opened s ty d r = r

-- A step into a pointer's value.
abbrev pub through_value : Schema → Step → (Body → Reading → Outcome Reading) → (Ty → Reading → Outcome Reading) → Ty → Reading → Outcome Reading
through_value s step f e ty (fault k) = refused UnreadablePointer
through_value s (name n) f e (struct id) (record_as r) = outcome_map record_as (on_name f n (fields_in (s.shape_of id)) r)
through_value s (index k) f e (list ty) (list_of rs) = outcome_map list_of (on_index (e ty) k rs)
through_value s step f e ty r = refused WrongStep

-- A step through a field.
abbrev pub through_field : Schema → Step → (Body → Reading → Outcome Reading) → (Ty → Reading → Outcome Reading) → Body → Reading → Outcome Reading
through_field s step f e body inactive = refused InactiveMember
through_field s (name n) f e (group_slot g) (record_as r) = outcome_map record_as (on_name f n (fields_in g) r)
through_field s step f e (pointer_slot i ty d) r = through_value s step f e ty (opened s ty (default_or_null d) r)
through_field s step f e body r = refused WrongStep

unfoldable mutual
  -- The rest of a path at a field.
  pub step_field : Schema → List Step → Verb → Body → Reading → Outcome Reading
  step_field s [] verb body r = at_field s verb body r
  step_field s (st ∷ path) verb body r = through_field s st (step_field s path verb) (step_element s path verb) body r

  -- The rest of a path at an element.
  pub step_element : Schema → List Step → Verb → Ty → Reading → Outcome Reading
  step_element s [] verb ty r = at_element s verb ty r
  step_element s (st ∷ path) verb ty r = through_value s st (step_field s path verb) (step_element s path verb) ty (opened s ty null r)

-- A path at a struct.
abbrev pub step_path : Schema → Fields → List Step → Verb → Record → Outcome Record
step_path s fs (name n ∷ path) verb r = on_name (step_field s path verb) n fs r
step_path s fs _ verb r = refused WrongStep

-- The call at the record of a struct.
unfoldable pub step : Schema → ℕ → Call → Record → Outcome Record
step s id call r = step_path s (fields_in (s.shape_of id)) call.path call.verb r

-- What stands after an outcome.
abbrev pub after_outcome : {A : Type 0} → A → Outcome A → A
after_outcome old (done new) = new
after_outcome old _ = old

-- The record after the call: a refused call and a `get` leave it.
abbrev pub record_after : Schema → ℕ → Call → Record → Record
record_after s id call r = after_outcome r (step s id call r)
