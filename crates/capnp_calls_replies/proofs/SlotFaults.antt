-- Faults of slots of groups that are set to structs.
use Rattle.std.proofs.Common.{◌≡◌, ℕ, Bool, true, false, Option, Some, option_map, Result, Ok, Err, refl, ap, sym, subst, ◌∙◌}
use Rattle.std.specs.Prelude.{◌&&◌, ◌||◌, is_err}
use Rattle.capnp_model.specs.Kinds.{Kind, CannotSetAnyPointerFieldToAPrimitiveValue, SettingDynamicCapabilitiesIsUnsupported, UnreadablePointer}
use Rattle.capnp_model.specs.Trees.{Tree}
use Rattle.capnp_model.specs.Schemas.{Ty, void, plain, text, blob, untyped, interface, struct, list, type_of, Value, FieldKind, slot, group, Body, Schema, default_or_null}
use Rattle.capnp_model.specs.Accepted.{field_body, slot_body, default_tree}
use Rattle.capnp_model.specs.Readings.{Reading, inactive, null_pointer, fault, number, text_of, blob_of, list_of, record_as, opaque}
use Rattle.capnp_model.specs.Groups.{field_fault, group_fault, body_fault}
use Rattle.capnp_units.specs.declared.errors.Error.{Error}
use Rattle.capnp_wire_objects.specs.Places.{seen}
use Rattle.capnp_values_queries.specs.Fields.{Entry, type_of_body}
use Rattle.capnp_values.specs.Records.{is_live, is_there}
use Rattle.capnp_values.specs.Shown.{Shown, a_number, an_enum, a_text, a_blob, a_struct, a_list, a_pointer, a_capability}
use Rattle.capnp_values.specs.Standing.{IsReading, Answers, or_default, defaulted_field}
use Rattle.capnp_values_print.proofs.lemmas.PrintedFields.{entry_same}
use Rattle.capnp_calls_replies.specs.Parts.{IsNonGroup}
use Rattle.capnp_calls_replies.specs.Faults.{refused_if, refusal_of}

abbrev is_fault : Reading → Bool
is_fault inactive = false
is_fault null_pointer = false
is_fault (fault kind) = true
is_fault (number n) = false
is_fault (text_of bytes) = false
is_fault (blob_of bytes) = false
is_fault (list_of rs) = false
is_fault (record_as r) = false
is_fault (opaque t) = false

abbrev IsPlainFault : Ty → Type 0
IsPlainFault ty = (members : Bool) (x : Reading) → is_live x ≡ true → field_fault members ty x ≡ refused_if (is_fault x) UnreadablePointer

text_fault : IsPlainFault text
text_fault true inactive live = absurd cc
text_fault true null_pointer live = refl
text_fault true (fault kind) live = refl
text_fault true (number n) live = refl
text_fault true (text_of bytes) live = refl
text_fault true (blob_of bytes) live = refl
text_fault true (list_of rs) live = refl
text_fault true (record_as r) live = refl
text_fault true (opaque t) live = refl
text_fault false inactive live = absurd cc
text_fault false null_pointer live = refl
text_fault false (fault kind) live = refl
text_fault false (number n) live = refl
text_fault false (text_of bytes) live = refl
text_fault false (blob_of bytes) live = refl
text_fault false (list_of rs) live = refl
text_fault false (record_as r) live = refl
text_fault false (opaque t) live = refl

blob_fault : IsPlainFault blob
blob_fault true inactive live = absurd cc
blob_fault true null_pointer live = refl
blob_fault true (fault kind) live = refl
blob_fault true (number n) live = refl
blob_fault true (text_of bytes) live = refl
blob_fault true (blob_of bytes) live = refl
blob_fault true (list_of rs) live = refl
blob_fault true (record_as r) live = refl
blob_fault true (opaque t) live = refl
blob_fault false inactive live = absurd cc
blob_fault false null_pointer live = refl
blob_fault false (fault kind) live = refl
blob_fault false (number n) live = refl
blob_fault false (text_of bytes) live = refl
blob_fault false (blob_of bytes) live = refl
blob_fault false (list_of rs) live = refl
blob_fault false (record_as r) live = refl
blob_fault false (opaque t) live = refl

struct_fault : (id : ℕ) → IsPlainFault (struct id)
struct_fault id true inactive live = absurd cc
struct_fault id true null_pointer live = refl
struct_fault id true (fault kind) live = refl
struct_fault id true (number n) live = refl
struct_fault id true (text_of bytes) live = refl
struct_fault id true (blob_of bytes) live = refl
struct_fault id true (list_of rs) live = refl
struct_fault id true (record_as r) live = refl
struct_fault id true (opaque t) live = refl
struct_fault id false inactive live = absurd cc
struct_fault id false null_pointer live = refl
struct_fault id false (fault kind) live = refl
struct_fault id false (number n) live = refl
struct_fault id false (text_of bytes) live = refl
struct_fault id false (blob_of bytes) live = refl
struct_fault id false (list_of rs) live = refl
struct_fault id false (record_as r) live = refl
struct_fault id false (opaque t) live = refl

list_fault : (ty : Ty) → IsPlainFault (list ty)
list_fault ty true inactive live = absurd cc
list_fault ty true null_pointer live = refl
list_fault ty true (fault kind) live = refl
list_fault ty true (number n) live = refl
list_fault ty true (text_of bytes) live = refl
list_fault ty true (blob_of bytes) live = refl
list_fault ty true (list_of rs) live = refl
list_fault ty true (record_as r) live = refl
list_fault ty true (opaque t) live = refl
list_fault ty false inactive live = absurd cc
list_fault ty false null_pointer live = refl
list_fault ty false (fault kind) live = refl
list_fault ty false (number n) live = refl
list_fault ty false (text_of bytes) live = refl
list_fault ty false (blob_of bytes) live = refl
list_fault ty false (list_of rs) live = refl
list_fault ty false (record_as r) live = refl
list_fault ty false (opaque t) live = refl

untyped_fault : (members : Bool) (x : Reading) → is_live x ≡ true → field_fault members untyped x ≡ refused_if (members || is_there x) CannotSetAnyPointerFieldToAPrimitiveValue
untyped_fault true inactive live = absurd cc
untyped_fault true null_pointer live = refl
untyped_fault true (fault kind) live = refl
untyped_fault true (number n) live = refl
untyped_fault true (text_of bytes) live = refl
untyped_fault true (blob_of bytes) live = refl
untyped_fault true (list_of rs) live = refl
untyped_fault true (record_as r) live = refl
untyped_fault true (opaque t) live = refl
untyped_fault false inactive live = absurd cc
untyped_fault false null_pointer live = refl
untyped_fault false (fault kind) live = refl
untyped_fault false (number n) live = refl
untyped_fault false (text_of bytes) live = refl
untyped_fault false (blob_of bytes) live = refl
untyped_fault false (list_of rs) live = refl
untyped_fault false (record_as r) live = refl
untyped_fault false (opaque t) live = refl

interface_fault : (members : Bool) (x : Reading) → is_live x ≡ true → field_fault members interface x ≡ refused_if (members || is_there x) SettingDynamicCapabilitiesIsUnsupported
interface_fault true inactive live = absurd cc
interface_fault true null_pointer live = refl
interface_fault true (fault kind) live = refl
interface_fault true (number n) live = refl
interface_fault true (text_of bytes) live = refl
interface_fault true (blob_of bytes) live = refl
interface_fault true (list_of rs) live = refl
interface_fault true (record_as r) live = refl
interface_fault true (opaque t) live = refl
interface_fault false inactive live = absurd cc
interface_fault false null_pointer live = refl
interface_fault false (fault kind) live = refl
interface_fault false (number n) live = refl
interface_fault false (text_of bytes) live = refl
interface_fault false (blob_of bytes) live = refl
interface_fault false (list_of rs) live = refl
interface_fault false (record_as r) live = refl
interface_fault false (opaque t) live = refl

not_fault : (s : Schema) (x : Shown) (z : Reading) → IsReading s x z → is_fault z ≡ false
not_fault s (a_number t n) z h = ap is_fault h
not_fault s (an_enum t id n) z h = ap is_fault h.1
not_fault s (a_text bytes) z h = ap is_fault h
not_fault s (a_blob bytes) z h = ap is_fault h
not_fault s (a_struct t g v) z h = ap is_fault h.1.is
not_fault s (a_list t e v) z h = ap is_fault h.1.is
not_fault s (a_pointer p) z h = ap is_fault h.is
not_fault s a_capability z h = ap is_fault h.1

answered : (s : Schema) (q : Result Shown Kind) (z : Reading) → Answers s q z → is_fault z ≡ is_err q
answered s (Ok x) z h = not_fault s x z h
answered s (Err kind) z h = ap is_fault h

-- what is there and is answered with a fault is one
there_fault : (s : Schema) (ty : Ty) (d : Tree) (x : Reading) (q : Result Shown Kind) → Answers s q (or_default s ty d x) → (is_there x && is_err q) ≡ is_fault x
there_fault s ty d inactive q h = refl
there_fault s ty d null_pointer q h = refl
there_fault s ty d (fault kind) q h = sym (answered s q (fault kind) h)
there_fault s ty d (number n) q h = sym (answered s q (number n) h)
there_fault s ty d (text_of bytes) q h = sym (answered s q (text_of bytes) h)
there_fault s ty d (blob_of bytes) q h = sym (answered s q (blob_of bytes) h)
there_fault s ty d (list_of rs) q h = sym (answered s q (list_of rs) h)
there_fault s ty d (record_as r) q h = sym (answered s q (record_as r) h)
there_fault s ty d (opaque t) q h = sym (answered s q (opaque t) h)

module _ (s : Schema) (members : Bool) (x : Reading) (live : is_live x ≡ true) (q : Result Shown Kind) where
  abbrev refusal : Ty → Option Kind
  refusal ty = refusal_of ty members (is_there x) (is_err q)

  readable : (ty : Ty) (d : Tree) → IsPlainFault ty → Answers s q (or_default s ty d x) → refused_if (is_there x && is_err q) UnreadablePointer ≡ field_fault members ty x
  readable ty d law h = ap (λ (b : Bool). refused_if b UnreadablePointer) (there_fault s ty d x q h) ∙ sym (law members x live)

  slot_fault : (o : ℕ) (ty : Ty) (d : Option Value) → Answers s q (defaulted_field s (slot_body o ty d) x) → refusal (type_of_body (slot_body o ty d)) ≡ body_fault members (slot_body o ty d) x
  unfolding group_fault
  slot_fault o void d h = refl
  slot_fault o (plain p) d h = refl
  slot_fault o text d h = readable text (default_or_null (default_tree d)) text_fault h
  slot_fault o blob d h = readable blob (default_or_null (default_tree d)) blob_fault h
  slot_fault o untyped d h = sym (untyped_fault members x live)
  slot_fault o interface d h = sym (interface_fault members x live)
  slot_fault o (struct id) d h = readable (struct id) (default_or_null (default_tree d)) (struct_fault id) h
  slot_fault o (list ty) d h = readable (list ty) (default_or_null (default_tree d)) (list_fault ty) h

  kind_fault : (k : FieldKind) → IsNonGroup (field_body s.shape_of k) → Answers s q (defaulted_field s (field_body s.shape_of k) x) → refusal (type_of_body (field_body s.shape_of k)) ≡ body_fault members (field_body s.shape_of k) x
  kind_fault (slot o ty d) is h = slot_fault o (type_of ty) d h
  kind_fault (group id) is h = absurd is

same_ty : (o : Option Entry) (e : Entry) (ty : Ty) → o ≡ Some e → option_map (λ x. type_of_body x.body) o ≡ Some ty → ty ≡ type_of_body e.body
same_ty o e ty at there = let both : ◌≡◌ {A = Option Ty} (Some (type_of_body e.body)) (Some ty) = ap (option_map (λ (x : Entry). type_of_body x.body)) (sym at) ∙ there in cc

pub seen_err : {X Y : Type 0} (view : X → Y) (r : Result X Error) → is_err r ≡ is_err (seen view r)
seen_err view (Ok x) = refl
seen_err view (Err e) = refl

-- the fault of a slot by its type
pub slot_refused : (s : Schema) (said : FieldKind) (members : Bool) (x : Reading) (q : Result Shown Kind) (there : Bool) (ty : Ty) (o : Option Entry) (e whole : Entry) (told : Option Kind) → o ≡ Some e → o ≡ Some whole → whole.body ≡ field_body s.shape_of said
    → option_map (λ y. type_of_body y.body) o ≡ Some ty → there ≡ is_there x → is_live x ≡ true → Answers s q (defaulted_field s (field_body s.shape_of said) x) → IsNonGroup e.body → told ≡ refusal_of ty members there (is_err q) → told ≡ body_fault members e.body x
slot_refused s said members x q there ty o e whole told at at' body type has live shows is h =
    let b : e.body ≡ field_body s.shape_of said = ap (λ (y : Entry). y.body) (entry_same o e whole at at') ∙ body in
    let t : ty ≡ type_of_body (field_body s.shape_of said) = same_ty o e ty at type ∙ ap type_of_body b in
    h ∙ ap (λ (y : Ty). refusal_of y members there (is_err q)) t ∙ ap (λ (y : Bool). refusal_of (type_of_body (field_body s.shape_of said)) members y (is_err q)) has
    ∙ kind_fault s members x live q said (subst IsNonGroup b is) shows ∙ ap (λ (y : Body). body_fault members y x) (sym b)
