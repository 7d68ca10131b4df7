-- The hops by which paths go, step by step. (Encoding, "Structs" and "Lists")
use Rattle.std.specs.Prelude.{◌≡◌, ℕ, ◌*◌, ◌^◌, ◌<◌, Bool, true, false, ⊤, Option, None, Some, List, [], ◌∷◌, ◌⊎◌, IfSome}
use Rattle.capnp_model.specs.Schemas.{PlainType, width, Ty, plain, struct, list, Shape, Body, void_slot, plain_slot, pointer_slot, group_slot, Schema}
use Rattle.capnp_model.specs.Printing.{fields_in}
use Rattle.capnp_model.specs.Calls.{Step, name, index, CallValue, Verb, set_to}
use Rattle.capnp_model.specs.InKindCalls.{PathEnd, at_slot, at_value, nowhere}
use Rattle.capnp_model.specs.Steps.{Target, no_target, target, target_of}
use Rattle.capnp_values_queries.specs.Fields.{Entry, union_in}
use Rattle.capnp_values_queries.specs.Structs.{schema_around, shape_of_struct}
use Rattle.capnp_values_queries.specs.declared.structs.StructSchema.{StructSchema}
use Rattle.capnp_calls_splice.specs.declared.plain.PlainSet.{PlainSet}
use Rattle.capnp_calls_splice.specs.declared.splice.Hop.{Hop}
use Rattle.capnp_calls_splice.specs.declared.splice.Hop.TheVariants as hops
use Rattle.capnp_calls_splice.specs.declared.splice.Put.{Put}
use Rattle.capnp_calls_splice.specs.declared.splice.Put.TheVariants as puts
use Rattle.capnp_calls.specs.PlainFields.{SetsPlainSlot}
use Rattle.capnp_calls.specs.Splices.{IsPutOf, MarksMember, IsNumberOf, IsBlobOf, PathLeadsTo}
use Rattle.capnp_calls.specs.declared.splices.Course.{Course}
use Rattle.capnp_calls.specs.declared.splices.ListPlace.{ListPlace}
use Rattle.capnp_calls.specs.declared.splices.Onward.{Onward}
use Rattle.capnp_calls.specs.declared.splices.Onward.TheVariants as ways

-- ---- where a step leads

-- What is found is no member of a union.
abbrev pub IsAlone : Target → Type 0
IsAlone no_target = ⊤
IsAlone (target None body) = ⊤
IsAlone (target _ body) = ⊥

-- A name finds no member of a union in a value of a type.
abbrev pub FindsAlone : Schema → Step → Ty → Type 0
FindsAlone s (name n) (struct id) = IsAlone (target_of n (fields_in (s.shape_of id)))
FindsAlone s _ _ = ⊤

-- Nor does it in a group.
abbrev pub FindsAloneIn : Shape → Step → Type 0
FindsAloneIn g (name n) = IsAlone (target_of n (fields_in g))
FindsAloneIn g (index k) = ⊤

-- Nor does it where a path stands: in a group, or behind a pointer.
abbrev pub StepsAlone : Schema → Step → PathEnd → Type 0
StepsAlone s step (at_slot (pointer_slot i ty d)) = FindsAlone s step ty
StepsAlone s step (at_slot (group_slot g)) = FindsAloneIn g step
StepsAlone s step (at_slot _) = ⊤
StepsAlone s step (at_value ty) = FindsAlone s step ty
StepsAlone s step nowhere = ⊤

-- The default of a plain slot is of the slot's width.
abbrev pub HasSmallDefault : Body → Type 0
HasSmallDefault (void_slot j) = ⊤
HasSmallDefault (plain_slot q at d) = d < 2 ^ width q
HasSmallDefault (pointer_slot i ty d) = ⊤
HasSmallDefault (group_slot g) = ⊤

-- So is that of the slot where a path ends.
abbrev pub EndsSmall : PathEnd → Type 0
EndsSmall (at_slot body) = HasSmallDefault body
EndsSmall (at_value ty) = ⊤
EndsSmall nowhere = ⊤

-- ---- hops

-- A step makes the hop from the pointer slot of a type: a name to a struct, an index to an element of a list of structs.
abbrev pub HopsFrom : Hop → ℕ → Ty → Step → Type 0
HopsFrom (hops.Pointer i) j ty step = (id : ℕ) × (n : List ℕ) × (i ≡ j) × (ty ≡ struct id) × (step ≡ name n)
HopsFrom hops.Group j ty step = ⊥
HopsFrom (hops.Element i k) j ty step = (id : ℕ) × (i ≡ j) × (ty ≡ list (struct id)) × (step ≡ index k)

-- An index leads from the pointer slot of a type to the element at a place: of a list.
abbrev pub EntersList : ListPlace → ℕ → Ty → Step → Type 0
EntersList place i ty step = (e : Ty) × (place.pointer ≡ i) × (ty ≡ list e) × (step ≡ index place.index)

-- So a path goes on by a step from the pointer slot of a type.
abbrev pub StepsBehind : Onward → ℕ → Ty → Step → Type 0
StepsBehind ways.Here i ty step = ⊥
StepsBehind (ways.Behind hop) i ty step = HopsFrom hop i ty step
StepsBehind (ways.Into place) i ty step = EntersList place i ty step
StepsBehind ways.Astray i ty step = ⊤

-- A hop into a group is one by a name.
abbrev pub EntersGroup : Hop → Step → Type 0
EntersGroup hops.Group (name n) = ⊤
EntersGroup hops.Group (index k) = ⊥
EntersGroup (hops.Pointer i) step = ⊥
EntersGroup (hops.Element i k) step = ⊥

-- So a path goes on by a step from where it stands.
abbrev pub GoesOn : Onward → PathEnd → Step → Type 0
GoesOn o (at_slot (pointer_slot i ty d)) step = StepsBehind o i ty step
GoesOn ways.Here (at_value ty) (name n) = ⊤
GoesOn (ways.Behind hop) (at_slot (group_slot g)) step = EntersGroup hop step
GoesOn ways.Astray _ _ = ⊤
GoesOn _ _ _ = ⊥

-- It goes on by hops.
abbrev pub goes_straight : Onward → Bool
goes_straight ways.Here = true
goes_straight (ways.Behind hop) = true
goes_straight (ways.Into place) = false
goes_straight ways.Astray = false

-- The hop that is made, as a list.
abbrev pub hops_made : Onward → List Hop
hops_made ways.Here = []
hops_made (ways.Behind hop) = hop ∷ []
hops_made (ways.Into place) = []
hops_made ways.Astray = []

-- A path that was straight goes on so, another in another way.
abbrev pub onward_if : Bool → Onward → Onward
onward_if true o = o
onward_if false o = ways.Astray

-- ---- members of unions

-- The number is the discriminant of the member that is found in a struct with this union.
abbrev pub MarksTarget : PlainSet → Option ℕ → Target → Type 0
MarksTarget mark union no_target = ⊥
MarksTarget mark union (target member body) = MarksMember mark union member

-- It is that of the field at a place.
abbrev pub MarksEntry : PlainSet → Option ℕ → Option Entry → Type 0
MarksEntry mark union None = ⊥
MarksEntry mark union (Some e) = MarksMember mark union e.member

-- It is that of what a name finds in a struct or a group.
abbrev pub MarksNamed : PlainSet → Shape → List ℕ → Type 0
MarksNamed mark g n = MarksTarget mark (union_in g) (target_of n (fields_in g))

-- It is that of what a step finds in a value of a type.
abbrev pub MarksInto : Schema → PlainSet → Step → Ty → Type 0
MarksInto s mark (name n) (struct id) = MarksNamed mark (s.shape_of id) n
MarksInto s mark (name n) _ = ⊥
MarksInto s mark (index k) ty = ⊥

-- It is that of what a step finds from where a path stands.
abbrev pub MarksStep : Schema → PlainSet → Step → PathEnd → Type 0
MarksStep s mark step (at_value ty) = MarksInto s mark step ty
MarksStep s mark step (at_slot (pointer_slot i ty d)) = MarksInto s mark step ty
MarksStep s mark (name n) (at_slot (group_slot g)) = MarksNamed mark g n
MarksStep s mark (index k) (at_slot (group_slot g)) = ⊥
MarksStep s mark step (at_slot (void_slot j)) = ⊥
MarksStep s mark step (at_slot (plain_slot q at d)) = ⊥
MarksStep s mark step nowhere = ⊥

-- ---- along a path

-- A verb sets the slot where a path ends by what is put.
abbrev pub SetsAt : Put → PathEnd → Verb → Type 0
SetsAt put (at_slot body) (set_to v) = IsPutOf put body v
SetsAt put _ _ = ⊥

-- By the hops a path leads from a struct to its end, whatever sets the slot there.
abbrev pub LeadsToEnd : StructSchema → List Hop → List Step → PathEnd → Type 0
LeadsToEnd root hops path at = (v : CallValue) (put : Put) → SetsAt put at (set_to v) → PathLeadsTo (schema_around root) v put hops (shape_of_struct root) path

-- A verb sets the slot of a member where a path ends by a number, if it has one.
abbrev pub SetsMemberAt : Option PlainSet → PathEnd → Verb → Type 0
SetsMemberAt p (at_slot body) (set_to v) = IsNumberOf p body v
SetsMemberAt p _ _ = ⊥

-- The element of a type at a place of a list is set to a value by what is put.
abbrev pub IsElementOf : Put → ListPlace → Ty → CallValue → Type 0
IsElementOf (puts.BlobAt j k b) place ty v = (j ≡ place.pointer) × (k ≡ place.index) × IsBlobOf b ty v
IsElementOf (puts.NumberAt j k p) place ty v = (q : PlainType) × (j ≡ place.pointer) × (k ≡ place.index) × (ty ≡ plain q) × SetsPlainSlot q (width q * k) 0 v p
IsElementOf _ place ty v = ⊥

-- A verb sets the element at a place of a list, where a path ends, by what is put.
abbrev pub SetsElementAt : Put → ListPlace → PathEnd → Verb → Type 0
SetsElementAt put place (at_value ty) (set_to v) = IsElementOf put place ty v
SetsElementAt put place _ _ = ⊥

-- By the hops a path leads to a member of a union with this discriminant, whatever sets its slot.
abbrev pub LeadsToMember : StructSchema → List Hop → List Step → PathEnd → PlainSet → Type 0
LeadsToMember root hops path at mark =
    (v : CallValue) (p : Option PlainSet) → SetsMemberAt p at (set_to v) → PathLeadsTo (schema_around root) v (puts.Member mark p) hops (shape_of_struct root) path

-- By the hops a path leads to the element at a place of a list, whatever sets it.
abbrev pub LeadsToElement : StructSchema → List Hop → List Step → PathEnd → ListPlace → Type 0
LeadsToElement root hops path at place =
    (v : CallValue) (put : Put) → SetsElementAt put place at (set_to v) → PathLeadsTo (schema_around root) v put hops (shape_of_struct root) path

-- It is told rightly how a path goes to its end: straight, to a member with this discriminant, or to the element at a place of a list.
pub record TellsCourse (root : StructSchema) (hops : List Hop) (path : List Step) (at : PathEnd) (course : Course) : Type 0 where
  pub straight : course.is_straight ≡ true → LeadsToEnd root hops path at
  pub member : IfSome course.mark (LeadsToMember root hops path at)
  pub element : IfSome course.element (LeadsToElement root hops path at)

-- What is put is a member with the discriminant that a path goes to, and its slot is set.
abbrev pub SetsCourseMember : Put → Course → PathEnd → Verb → Type 0
SetsCourseMember put course at verb = (m : PlainSet) × (p : Option PlainSet) × (course.mark ≡ Some m) × (put ≡ puts.Member m p) × SetsMemberAt p at verb

-- It sets the element of a list that a path goes to.
abbrev pub SetsCourseElement : Put → Course → PathEnd → Verb → Type 0
SetsCourseElement put course at verb = (place : ListPlace) × (course.element ≡ Some place) × SetsElementAt put place at verb

-- What is put sets what a path ends at: a slot that is no member, where the path is straight, or a member with its discriminant, or an element of a list.
abbrev pub SetsEnd : Put → Course → PathEnd → Verb → Type 0
SetsEnd put course at verb = ((course.is_straight ≡ true) × SetsAt put at verb) ⊎ SetsCourseMember put course at verb ⊎ SetsCourseElement put course at verb
