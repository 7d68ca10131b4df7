-- What a call puts into a slot or an element is in kind.
use Rattle.std.proofs.Common.{◌≡◌, ℕ, zero, suc, ◌^◌, Bool, true, false, nat_lt, ◌-◌, ◌&&◌, if◌then◌else◌, Option, refl, ap}
use Rattle.std.specs.Prelude.{pos, negsuc}
use Rattle.capnp_model.specs.Kinds.{Kind, TypeMismatch, InitnIsOnlyValidForListTextOrDataFields}
use Rattle.capnp_model.specs.Trees.{Tree, null, structure, none, resized, size_of_width}
use Rattle.capnp_model.specs.Schemas.{PlainType, bool, int, uint, «enum», width, Ty, void, plain, text, blob, untyped, interface, struct, list, Shape, shape, pointer_slot, Schema}
use Rattle.capnp_model.specs.Readings.{expected_size, is_list_of}
use Rattle.capnp_model.specs.Calls.{CallValue, whole_number, truth, enumerant, text_value, blob_value, message, Verb, get, set_to, init, initn, clear, Content, refused_by, bits_of, object, message_root, struct_content, plain_content, value_content, empty_struct, empty_elements, empty_structs, new_list, init_content, initn_content, slot_content}
use Rattle.capnp_model.specs.InKind.{in_kind, child_in_kind, children_in_kind, elements_in_kind}
use Rattle.capnp_model.specs.InKindCalls.{PathEnd, at_slot, at_value, target_in_kind}
use Rattle.capnp_model.proofs.CopiedFields.{quiet_shape, quiet_child}
use Rattle.capnp_model.proofs.lemmas.Tests.{number_is, both}

-- ---- the value of a call

-- what a verb sets at the end of a path is in kind
abbrev pub verb_in_kind : Schema → Verb → PathEnd → Bool
verb_in_kind s verb at = elim verb [
  | set_to v ↦ elim v [ message t ↦ target_in_kind s at (message_root t) | _ ↦ true ]
  | _ ↦ true
]

-- a content that is a value is in kind
abbrev pub ContentInKind : Schema → Ty → Content → Type 0
ContentInKind s ty (object t) = in_kind s t ty ≡ true
ContentInKind s ty _ = Unit {0}

quiet_elements : (s : Schema) (id n p : ℕ) → elements_in_kind s (empty_elements n p) (struct id) ≡ true
unfolding in_kind
quiet_elements s id zero p = refl
quiet_elements s id (suc n) p = both _ _ (quiet_shape (s.shape_of id) 0 (child_in_kind s (resized p none)) (quiet_child s p)) (quiet_elements s id n p)

quiet_children : (s : Schema) (n : ℕ) (ty : Ty) → expected_size ty ≡ 6 → children_in_kind s (resized n none) ty ≡ true
unfolding in_kind
quiet_children s zero ty e = refl
quiet_children s (suc n) text e = both _ _ refl (quiet_children s n text e)
quiet_children s (suc n) blob e = both _ _ refl (quiet_children s n blob e)
quiet_children s (suc n) untyped e = both _ _ refl (quiet_children s n untyped e)
quiet_children s (suc n) interface e = both _ _ refl (quiet_children s n interface e)
quiet_children s (suc n) (list t) e = both _ _ refl (quiet_children s n (list t) e)
quiet_children s (suc n) void e = absurd (cc e)
quiet_children s (suc n) (plain p) e = both _ _ refl (quiet_children s n (plain p) e)
quiet_children s (suc n) (struct id) e = absurd (cc e)

new_in_kind : (s : Schema) (n : ℕ) (ty : Ty) → in_kind s (new_list s n ty) (list ty) ≡ true
unfolding in_kind
new_in_kind s n void = refl
new_in_kind s n (plain p) = ap (λ z. z && true) (number_is (size_of_width (width p)))
new_in_kind s n (struct id) = by (s.shape_of id)
  where
    by : (g : Shape) → in_kind s (empty_structs g n) (list (struct id)) ≡ true
    by (shape nid w p u fs) = quiet_elements s id n p
new_in_kind s n text = quiet_children s n text refl
new_in_kind s n blob = quiet_children s n blob refl
new_in_kind s n untyped = quiet_children s n untyped refl
new_in_kind s n interface = quiet_children s n interface refl
new_in_kind s n (list t) = quiet_children s n (list t) refl

pub initn_kinds : (s : Schema) (n : ℕ) (ty : Ty) (k : Kind) → ContentInKind s ty (initn_content s n ty k)
unfolding in_kind
initn_kinds s n text k = refl
initn_kinds s n blob k = refl
initn_kinds s n (list ty) k = new_in_kind s n ty
initn_kinds s n _ k = tt

init_kinds : (s : Schema) (ty : Ty) → ContentInKind s ty (init_content s ty)
unfolding in_kind
init_kinds s (struct id) = by (s.shape_of id)
  where
    by : (g : Shape) → in_kind s (empty_struct g) (struct id) ≡ true
    by (shape nid w p u fs) = quiet_shape (s.shape_of id) 0 (child_in_kind s (resized p none)) (quiet_child s p)
init_kinds s untyped = refl
init_kinds s _ = tt

struct_content_kinds : (s : Schema) (id : ℕ) (t : Tree) → in_kind s t (struct id) ≡ true → ContentInKind s (struct id) (struct_content t)
struct_content_kinds s id (structure w n k) h = h
struct_content_kinds s id null h = tt
struct_content_kinds s id _ h = tt

list_content_kinds : (s : Schema) (ty : Ty) (t : Tree) → in_kind s (message_root t) (list ty) ≡ true → ContentInKind s (list ty) (if is_list_of t ty then object t else refused_by TypeMismatch)
list_content_kinds s ty null h = tt
list_content_kinds s ty (structure w n k) h = tt
list_content_kinds s ty t h = by (is_list_of t ty) h
  where
    by : (b : Bool) → in_kind s t (list ty) ≡ true → ContentInKind s (list ty) (if b then object t else refused_by TypeMismatch)
    by true k = k
    by false k = tt

if_kinds : (s : Schema) (ty : Ty) (b : Bool) (x : ℕ) (k : Kind) → ContentInKind s ty (if b then bits_of x else refused_by k)
if_kinds s ty true x k = tt
if_kinds s ty false x k = tt

pub plain_kinds : (s : Schema) (p : PlainType) (v : CallValue) → ContentInKind s (plain p) (plain_content p v)
plain_kinds s bool (truth b) = tt
plain_kinds s (uint w) (whole_number (pos n)) = if_kinds s (plain (uint w)) (nat_lt n (2 ^ w)) n TypeMismatch
plain_kinds s (int w) (whole_number (pos n)) = if_kinds s (plain (int w)) (nat_lt n (2 ^ (w - 1))) n TypeMismatch
plain_kinds s (int w) (whole_number (negsuc n)) = if_kinds s (plain (int w)) (nat_lt n (2 ^ (w - 1))) (2 ^ w - suc n) TypeMismatch
plain_kinds s («enum» id) (enumerant n) = tt
plain_kinds _ _ _ = tt

pub value_kinds : (s : Schema) (v : CallValue) (ty : Ty) → verb_in_kind s (set_to v) (at_value ty) ≡ true → ContentInKind s ty (value_content v ty)
unfolding in_kind
value_kinds s v void h = tt
value_kinds s v (plain p) h = plain_kinds s p v
value_kinds s (text_value bs) text h = refl
value_kinds s _ text h = tt
value_kinds s (blob_value bs) blob h = refl
value_kinds s _ blob h = tt
value_kinds s (message t) (struct id) h = struct_content_kinds s id (message_root t) h
value_kinds s _ (struct id) h = tt
value_kinds s (message t) (list ty) h = list_content_kinds s ty t h
value_kinds s _ (list ty) h = tt
value_kinds s (text_value bs) untyped h = refl
value_kinds s (blob_value bs) untyped h = refl
value_kinds s (message t) untyped h = h
value_kinds s _ untyped h = tt
value_kinds s v interface h = tt

pub slot_kinds : (s : Schema) (verb : Verb) (i : ℕ) (ty : Ty) (d : Option Tree) → verb_in_kind s verb (at_slot (pointer_slot i ty d)) ≡ true → ContentInKind s ty (slot_content s verb (pointer_slot i ty d))
unfolding in_kind
slot_kinds s get i ty d h = tt
slot_kinds s (set_to v) i ty d h = value_kinds s v ty h
slot_kinds s init i ty d h = init_kinds s ty
slot_kinds s (initn n) i ty d h = initn_kinds s n ty InitnIsOnlyValidForListTextOrDataFields
slot_kinds s clear i ty d h = refl
