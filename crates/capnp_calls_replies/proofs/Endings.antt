-- Where a path ends.
use Rattle.std.proofs.Common.{◌≡◌, true, false, Option, Some, option_map, [], refl, ap, sym, ◌∙◌, subst}
use Rattle.capnp_model.specs.Schemas.{Ty, plain, Shape, Body, void_slot, plain_slot, pointer_slot, group_slot, Schema}
use Rattle.capnp_model.specs.Readings.{Reading}
use Rattle.capnp_model.specs.Calls.{Verb, get, set_to, init, initn, clear, Content, refused_by, bits_of, object, element_content}
use Rattle.capnp_model.specs.Steps.{reading_after, at_field, step_field, step_element}
use Rattle.capnp_model.specs.Answers.{Reply, reply_of}
use Rattle.capnp_values_queries.specs.Fields.{Entry, type_of_body}
use Rattle.capnp_values_queries.specs.Handles.{body_of_place}
use Rattle.capnp_values_queries.specs.declared.structs.StructSchema.{StructSchema}
use Rattle.capnp_values_queries.specs.declared.slots.FieldPlace.{FieldPlace}
use Rattle.capnp_values_queries.specs.declared.slots.FieldPlace.TheVariants as place
use Rattle.capnp_model.specs.Printing.{as_it_is}
use Rattle.capnp_calls.specs.Replies.{content_reply}
use Rattle.capnp_calls_replies.specs.Parts.{IsNonGroup}
use Rattle.capnp_calls_replies.specs.Writes.{type_content, is_get}

content_replied : (s : Schema) (ty : Ty) (x : Content) → content_reply x ≡ reply_of s as_it_is (reading_after s ty x)
content_replied s ty (refused_by k) = refl
content_replied s ty (bits_of n) = refl
content_replied s ty (object t) = refl

-- a write of a slot replies by its type
pub slot_end : (s : Schema) (verb : Verb) (body : Body) (r : Reading) → is_get verb ≡ false → IsNonGroup body → content_reply (type_content s verb (type_of_body body)) ≡ reply_of s as_it_is (step_field s [] verb body r)
unfolding step_field
slot_end s get body r write is = absurd cc
slot_end s (set_to v) (void_slot j) r write is = refl
slot_end s (set_to v) (plain_slot p at d) r write is = content_replied s (plain p) _
slot_end s (set_to v) (pointer_slot i ty d) r write is = content_replied s ty _
slot_end s (set_to v) (group_slot g) r write is = absurd is
slot_end s init (void_slot j) r write is = refl
slot_end s init (plain_slot p at d) r write is = refl
slot_end s init (pointer_slot i ty d) r write is = content_replied s ty _
slot_end s init (group_slot g) r write is = absurd is
slot_end s (initn n) (void_slot j) r write is = refl
slot_end s (initn n) (plain_slot p at d) r write is = refl
slot_end s (initn n) (pointer_slot i ty d) r write is = content_replied s ty _
slot_end s (initn n) (group_slot g) r write is = absurd is
slot_end s clear (void_slot j) r write is = refl
slot_end s clear (plain_slot p at d) r write is = refl
slot_end s clear (pointer_slot i ty d) r write is = refl
slot_end s clear (group_slot g) r write is = absurd is

same_body : (o : Option Entry) (e : Entry) (body : Body) → o ≡ Some e → option_map (λ x. x.body) o ≡ Some body → e.body ≡ body
same_body o e body at there = let both : ◌≡◌ {A = Option Body} (Some e.body) (Some body) = ap (option_map (λ (x : Entry). x.body)) (sym at) ∙ there in cc

same_type : (o : Option Entry) (e : Entry) (ty : Ty) → o ≡ Some e → option_map (λ x. type_of_body x.body) o ≡ Some ty → type_of_body e.body ≡ ty
same_type o e ty at there = let both : ◌≡◌ {A = Option Ty} (Some (type_of_body e.body)) (Some ty) = ap (option_map (λ (x : Entry). type_of_body x.body)) (sym at) ∙ there in cc

-- a write of a field that is no group
pub field_slot : (s : Schema) (verb : Verb) (o : Option Entry) (e : Entry) (ty : Ty) (r : Reading) (answer : Reply) → is_get verb ≡ false → IsNonGroup e.body → o ≡ Some e → option_map (λ x. type_of_body x.body) o ≡ Some ty
    → answer ≡ content_reply (type_content s verb ty) → answer ≡ reply_of s as_it_is (step_field s [] verb e.body r)
field_slot s verb o e ty r answer write is at type h =
    h ∙ ap (λ (t : Ty). content_reply (type_content s verb t)) (sym (same_type o e ty at type)) ∙ slot_end s verb e.body r write is

-- a write of a group
pub field_group : (s t : Schema) (verb : Verb) (o : Option Entry) (e : Entry) (g : Shape) (r : Reading) (answer : Reply) → t ≡ s → o ≡ Some e → option_map (λ x. x.body) o ≡ Some (group_slot g)
    → answer ≡ reply_of t as_it_is (at_field t verb (group_slot g) r) → answer ≡ reply_of s as_it_is (step_field s [] verb e.body r)
unfolding step_field
field_group s t verb o e g r answer around at there h =
    h ∙ ap (λ (z : Schema). reply_of z as_it_is (at_field z verb (group_slot g) r)) around ∙ ap (λ (b : Body). reply_of s as_it_is (at_field s verb b r)) (sym (same_body o e (group_slot g) at there))

-- a place that is no group is a slot
pub no_group : (p : FieldPlace) → ((g : StructSchema) → p ≡ place.Group g → ⊥) → IsNonGroup (body_of_place p)
no_group (place.Void offset) h = tt
no_group (place.Plain ty offset bits) h = tt
no_group (place.Pointer i ty d) h = tt
no_group (place.Group g) h = h g refl

pub no_group_body : (o : Option Entry) (e : Entry) (p : FieldPlace) → ((g : StructSchema) → p ≡ place.Group g → ⊥) → o ≡ Some e → option_map (λ x. x.body) o ≡ Some (body_of_place p) → IsNonGroup e.body
no_group_body o e p h at there = subst IsNonGroup (sym (same_body o e (body_of_place p) at there)) (no_group p h)

-- a verb that reads
pub get_is : (verb : Verb) → is_get verb ≡ true → get ≡ verb
get_is get h = refl
get_is (set_to v) h = absurd cc
get_is init h = absurd cc
get_is (initn n) h = absurd cc
get_is clear h = absurd cc

-- a write of an element replies by the type
pub element_end : (s : Schema) (verb : Verb) (ty : Ty) (r : Reading) → is_get verb ≡ false → content_reply (element_content s verb ty) ≡ reply_of s as_it_is (step_element s [] verb ty r)
unfolding step_element
element_end s get ty r write = absurd cc
element_end s (set_to v) ty r write = content_replied s ty (element_content s (set_to v) ty)
element_end s init ty r write = content_replied s ty (element_content s init ty)
element_end s (initn n) ty r write = content_replied s ty (element_content s (initn n) ty)
element_end s clear ty r write = content_replied s ty (element_content s clear ty)
