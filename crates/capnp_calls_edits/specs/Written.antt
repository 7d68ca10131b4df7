-- Calls along paths, written where a struct lies. (Encoding, "Structs")
use Rattle.std.specs.Prelude.{◌≡◌, ℕ, ◌+◌, Bool, true, false, List, [], ◌∷◌, Option, Some, None, option_map}
use Rattle.capnp_model.specs.Kinds.{WrongStep}
use Rattle.capnp_model.specs.Segments.{Segments, Place}
use Rattle.capnp_model.specs.Trees.{Tree, null, Trees, structure}
use Rattle.capnp_model.specs.Schemas.{Ty, void, plain, text, blob, untyped, interface, struct, list, Shape, group_slot, Schema}
use Rattle.capnp_model.specs.Readings.{Reading, inactive, null_pointer, fault, number, text_of, blob_of, list_of, record_as, opaque, read}
use Rattle.capnp_model.specs.Calls.{Step, Verb, Call, CallValue, whole_number, truth, enumerant, text_value, blob_value, message}
use Rattle.capnp_model.specs.Steps.{Outcome, refused, opened, through_value, step_field, step_element}
use Rattle.capnp_model.specs.Edits.{Cell, Edit, opened_tree, edit_value, edit_field, edit_element}
use Rattle.capnp_model_writes.specs.Footprints.{Owns, OwnsObject}
use Rattle.capnp_model_writes.specs.Changes.{Replaces, ReplacesObject}
use Rattle.capnp_copy_arenas.specs.Structs.{object_of_struct}
use Rattle.capnp_copy_arenas.specs.declared.fields.StructPlace.{StructPlace}
use Rattle.capnp_values_queries.specs.Fields.{Entry, union_in}
use Rattle.capnp_values_queries.specs.Structs.{schema_around, shape_of_struct}
use Rattle.capnp_values_queries.specs.Handles.{entry_of_field}
use Rattle.capnp_values_queries.specs.declared.structs.StructSchema.{StructSchema}
use Rattle.capnp_values_queries.specs.declared.fields.Field.{Field}
use Rattle.capnp_schema_structs.specs.GroupSets as dynamic
use Rattle.capnp_calls.specs.Sizes.{IsDone}
use Rattle.capnp_calls.specs.Paths.{field_outcome, shape_outcome, shape_edit}

-- Whatever data and children the struct has for which the test holds: they become what the edit
-- makes of them. Some levels of pointers may be new, and nothing else changes.
abbrev pub EditsWhere : (Cell → Type 0) → Segments → Segments → StructPlace → Edit → Type 0
EditsWhere Holds s u p f =
    (n section : ℕ) (kids : Trees) → OwnsObject n s (object_of_struct p) (structure p.data_words section kids) → Holds (record { section = section; kids = kids })
    → let d = f (record { section = section; kids = kids }) in (more : ℕ) × ReplacesObject (n + more) s u (object_of_struct p) (structure p.data_words d.section d.kids)

-- Of whatever data and children the struct has for which the test holds: the claim.
abbrev pub ClaimsWhere : (Cell → Type 0) → Segments → StructPlace → Type 0 → Type 0
ClaimsWhere Holds s p Claim =
    (n section : ℕ) (kids : Trees) → OwnsObject n s (object_of_struct p) (structure p.data_words section kids) → Holds (record { section = section; kids = kids }) → Claim

-- ---- at a struct or a group

-- Where the record machine does the call at the struct: the claim.
abbrev pub WhereDone : Segments → StructPlace → StructSchema → Call → Type 0 → Type 0
WhereDone s p g call Claim = ClaimsWhere (λ c. IsDone (shape_outcome (schema_around g) (shape_of_struct g) call.path call.verb c)) s p Claim

-- Where the record machine does the call at the struct: its data and children become what the call's edit makes of them.
abbrev pub WritesPath : Segments → Segments → StructPlace → StructSchema → Call → Type 0
WritesPath s u p g call =
    EditsWhere (λ c. IsDone (shape_outcome (schema_around g) (shape_of_struct g) call.path call.verb c)) s u p (shape_edit (schema_around g) (shape_of_struct g) call.path call.verb)

-- ---- at a field

-- The record machine does the rest of a call at a field; at none it does nothing.
abbrev pub IsDoneAt : Field → List Step → Verb → Option Entry → Cell → Type 0
IsDoneAt f path verb None c = ⊥
IsDoneAt f path verb (Some e) c = IsDone (field_outcome (schema_around f.parent) path verb (union_in (shape_of_struct f.parent)) e.member e.body c)

-- What it makes of the struct.
abbrev pub edit_at : Field → List Step → Verb → Option Entry → Edit
edit_at f path verb None c = c
edit_at f path verb (Some e) c = edit_field (schema_around f.parent) path verb (union_in (shape_of_struct f.parent)) e.member e.body c

-- Where the rest of a call is done at a field, the struct becomes what it makes of it.
abbrev pub WritesField : Segments → Segments → StructPlace → Field → Call → Type 0
WritesField s u p f c = EditsWhere (IsDoneAt f c.path c.verb (entry_of_field f)) s u p (edit_at f c.path c.verb (entry_of_field f))

-- Where the record machine does the end of a call at a field, whatever the struct has: the claim.
abbrev pub WhereFieldTakes : Field → Verb → Type 0 → Type 0
WhereFieldTakes f verb Claim = (c : Cell) → IsDoneAt f [] verb (entry_of_field f) c → Claim

-- A value is a number, a truth value or an enum's: no text, no data and no message's.
abbrev pub is_single : CallValue → Bool
is_single (whole_number z) = true
is_single (truth b) = true
is_single (enumerant n) = true
is_single (text_value bs) = false
is_single (blob_value bs) = false
is_single (message t) = false

-- The field is a group.
abbrev pub IsGroup : Option Entry → Type 0
IsGroup o = (g : Shape) × (option_map (λ e. e.body) o ≡ Some (group_slot g))

-- ---- at a pointer's value

-- How a pointer's value is read: the schema, its type, and the default that null stands for.
pub record TypedValue : Type 0 where
  pub around : Schema
  pub ty : Ty
  pub default : Tree

-- What the record machine makes of the steps into a pointer's value of a type; null is its default, else the empty value.
abbrev pub value_outcome : TypedValue → List Step → Verb → Tree → Outcome Reading
value_outcome v [] verb t = refused WrongStep
value_outcome v (st ∷ path) verb t = through_value v.around st (step_field v.around path verb) (step_element v.around path verb) v.ty (opened v.around v.ty v.default (read v.around t v.ty))

-- What stands after it.
abbrev pub value_edit : TypedValue → List Step → Verb → Tree → Tree
value_edit v [] verb t = t
value_edit v (st ∷ path) verb t = edit_value v.around st (edit_field v.around path verb) (edit_element v.around path verb) v.ty (opened_tree v.ty v.default t)

-- Whatever value is owned there at which the steps are done becomes what they make of it, where some levels of pointers may be new, and nothing else changes.
abbrev pub EditsValueAt : Segments → Segments → Place → TypedValue → Call → Type 0
EditsValueAt s u p v c =
    (n : ℕ) (t : Tree) → Owns n s p t → IsDone (value_outcome v c.path c.verb t) → (more : ℕ) × Replaces (n + more) s u p (value_edit v c.path c.verb t)

-- Whatever value is owned there at which the steps are done: the claim.
abbrev pub WhereValueDone : Segments → Place → TypedValue → Call → Type 0 → Type 0
WhereValueDone s p v c Claim = (n : ℕ) (t : Tree) → Owns n s p t → IsDone (value_outcome v c.path c.verb t) → Claim

-- A reading without a fault.
abbrev pub HasNoFault : Reading → Type 0
HasNoFault inactive = Unit {0}
HasNoFault null_pointer = Unit {0}
HasNoFault (fault k) = ⊥
HasNoFault (number n) = Unit {0}
HasNoFault (text_of bs) = Unit {0}
HasNoFault (blob_of bs) = Unit {0}
HasNoFault (list_of rs) = Unit {0}
HasNoFault (record_as r) = Unit {0}
HasNoFault (opaque t) = Unit {0}

-- Whatever value is owned there that can be read as one of the type, null as its default: the claim.
abbrev pub WhereRead : Segments → Place → TypedValue → Type 0 → Type 0
WhereRead s p v Claim = (n : ℕ) (t : Tree) → Owns n s p t → HasNoFault (read v.around (opened_tree v.ty v.default t) v.ty) → Claim

-- The words of a default, if there is one, hold this value, at most 64 levels deep; no default is null.
abbrev pub HoldsDefaultOrNull : Option (List (List ℕ)) → Tree → Type 0
HoldsDefaultOrNull None d = d ≡ null
HoldsDefaultOrNull (Some words) d = dynamic.HoldsDefault words d

-- A path can go on inside a value of the type.
abbrev pub has_inside : Ty → Bool
has_inside void = false
has_inside (plain p) = false
has_inside text = false
has_inside blob = false
has_inside untyped = false
has_inside interface = false
has_inside (struct id) = true
has_inside (list ty) = true

-- ---- values of messages

-- A slot of the type can be set to the value of a message.
abbrev pub takes_message : Ty → Bool
takes_message void = false
takes_message (plain p) = false
takes_message text = false
takes_message blob = false
takes_message untyped = true
takes_message interface = false
takes_message (struct id) = true
takes_message (list ty) = true
