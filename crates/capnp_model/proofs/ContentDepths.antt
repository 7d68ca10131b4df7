-- How deep what calls put is.
use Rattle.std.proofs.Common.{ℕ, zero, suc, ◌≤◌, max, Bool, true, false, nat_lt, if◌then◌else◌, ◌-◌, ◌^◌, arith}
use Rattle.std.specs.Prelude.{pos, negsuc}
use Rattle.capnp_model.specs.Kinds.{Kind, TypeMismatch, InitnIsOnlyValidForListTextOrDataFields, ExpectedAListOrBlob}
use Rattle.capnp_model.specs.Trees.{Tree, null, capability, structure, plain_list, pointer_list, struct_list, Trees, none, ◌▸◌, child, with_child, padded_to, widened, depth, depths, element_depths}
use Rattle.capnp_model.specs.Schemas.{PlainType, bool, int, uint, «enum», Ty, void, plain, text, blob, untyped, interface, struct, list, Shape, shape, Body, void_slot, plain_slot, pointer_slot, group_slot, Schema}
use Rattle.capnp_model.specs.Readings.{is_list_of}
use Rattle.capnp_model.specs.Calls.{CallValue, whole_number, truth, enumerant, text_value, blob_value, message, Verb, get, set_to, init, initn, clear, Content, refused_by, bits_of, object, plain_content, struct_content, message_root, value_content, empty_elements, empty_structs, empty_struct, new_list, init_content, initn_content, slot_content, element_content}
use Rattle.capnp_model.specs.EditDepths.{verb_depth}
use Rattle.capnp_model.proofs.lemmas.Stripping.{depths-resized}

-- ---- children

pub depths-with_child : (ts : Trees) (i : ℕ) (t : Tree) → depths (with_child ts i t) ≤ max (depths ts) (depth t)
depths-with_child none zero t = omega arith
depths-with_child none (suc i) t = let r = depths-with_child none i t in omega arith
depths-with_child (u ▸ ts) zero t = omega arith
depths-with_child (u ▸ ts) (suc i) t = let r = depths-with_child ts i t in omega arith

pub depth-child : (ts : Trees) (i : ℕ) → depth (child ts i) ≤ depths ts
depth-child none i = omega arith
depth-child (t ▸ ts) zero = omega arith
depth-child (t ▸ ts) (suc i) = let r = depth-child ts i in omega arith

pub depths-padded_to : (n : ℕ) (ts : Trees) → depths (padded_to n ts) ≤ depths ts
depths-padded_to zero ts = omega arith
depths-padded_to (suc n) none = let r = depths-padded_to n none in omega arith
depths-padded_to (suc n) (t ▸ ts) = let r = depths-padded_to n ts in omega arith

pub depth-widened : (w p : ℕ) (t : Tree) → depth (widened w p t) ≤ max 1 (depth t)
depth-widened w p null = let r = depths-resized p none in omega arith
depth-widened w p (capability i) = omega arith
depth-widened w p (structure n section ts) = let r = depths-padded_to p ts in omega arith
depth-widened w p (plain_list z n k) = omega arith
depth-widened w p (pointer_list ts) = omega arith
depth-widened w p (struct_list d k es) = omega arith

-- ---- what a verb puts

abbrev pub ContentWithin : ℕ → Content → Type 0
ContentWithin m (refused_by k) = Unit {0}
ContentWithin m (bits_of n) = Unit {0}
ContentWithin m (object t) = depth t ≤ m

pub content_if : (m : ℕ) (b : Bool) (t : Tree) → depth t ≤ m → ContentWithin m (if b then object t else refused_by TypeMismatch)
content_if m true t h = h
content_if m false t h = tt

pub root_depth : (t : Tree) → depth (message_root t) ≤ max 1 (depth t)
root_depth null = omega arith
root_depth (capability i) = omega arith
root_depth (structure n section ts) = omega arith
root_depth (plain_list z n k) = omega arith
root_depth (pointer_list ts) = omega arith
root_depth (struct_list d k es) = omega arith

pub struct_within : (m : ℕ) (t : Tree) → depth t ≤ m → ContentWithin m (struct_content t)
struct_within m (structure w n ts) h = h
struct_within m null h = tt
struct_within m (capability k) h = tt
struct_within m (plain_list z n k) h = tt
struct_within m (pointer_list ts) h = tt
struct_within m (struct_list w p es) h = tt

pub bits_if : (m : ℕ) (b : Bool) (x : ℕ) → ContentWithin m (if b then bits_of x else refused_by TypeMismatch)
bits_if m true x = tt
bits_if m false x = tt

pub plain_within : (m : ℕ) (p : PlainType) (v : CallValue) → ContentWithin m (plain_content p v)
plain_within m bool (truth b) = tt
plain_within m (uint w) (whole_number (pos n)) = bits_if m (nat_lt n (2 ^ w)) n
plain_within m (int w) (whole_number (pos n)) = bits_if m (nat_lt n (2 ^ (w - 1))) n
plain_within m (int w) (whole_number (negsuc n)) = bits_if m (nat_lt n (2 ^ (w - 1))) (2 ^ w - suc n)
plain_within m («enum» id) (enumerant n) = tt
plain_within m _ _ = tt

pub value_within : (m : ℕ) → 1 ≤ m → (v : CallValue) → verb_depth (set_to v) ≤ m → (ty : Ty) → ContentWithin m (value_content v ty)
value_within m one (whole_number z) h void = tt
value_within m one (whole_number z) h (plain p) = plain_within m p (whole_number z)
value_within m one (whole_number z) h text = tt
value_within m one (whole_number z) h blob = tt
value_within m one (whole_number z) h untyped = tt
value_within m one (whole_number z) h interface = tt
value_within m one (whole_number z) h (struct id) = tt
value_within m one (whole_number z) h (list ty) = tt
value_within m one (truth b) h void = tt
value_within m one (truth b) h (plain p) = plain_within m p (truth b)
value_within m one (truth b) h text = tt
value_within m one (truth b) h blob = tt
value_within m one (truth b) h untyped = tt
value_within m one (truth b) h interface = tt
value_within m one (truth b) h (struct id) = tt
value_within m one (truth b) h (list ty) = tt
value_within m one (enumerant n) h void = tt
value_within m one (enumerant n) h (plain p) = plain_within m p (enumerant n)
value_within m one (enumerant n) h text = tt
value_within m one (enumerant n) h blob = tt
value_within m one (enumerant n) h untyped = tt
value_within m one (enumerant n) h interface = tt
value_within m one (enumerant n) h (struct id) = tt
value_within m one (enumerant n) h (list ty) = tt
value_within m one (text_value bs) h void = tt
value_within m one (text_value bs) h (plain p) = plain_within m p (text_value bs)
value_within m one (text_value bs) h text = one
value_within m one (text_value bs) h blob = tt
value_within m one (text_value bs) h untyped = one
value_within m one (text_value bs) h interface = tt
value_within m one (text_value bs) h (struct id) = tt
value_within m one (text_value bs) h (list ty) = tt
value_within m one (blob_value bs) h void = tt
value_within m one (blob_value bs) h (plain p) = plain_within m p (blob_value bs)
value_within m one (blob_value bs) h text = tt
value_within m one (blob_value bs) h blob = one
value_within m one (blob_value bs) h untyped = one
value_within m one (blob_value bs) h interface = tt
value_within m one (blob_value bs) h (struct id) = tt
value_within m one (blob_value bs) h (list ty) = tt
value_within m one (message t) h void = tt
value_within m one (message t) h (plain p) = plain_within m p (message t)
value_within m one (message t) h text = tt
value_within m one (message t) h blob = tt
value_within m one (message t) h untyped = let r = root_depth t in omega arith
value_within m one (message t) h interface = tt
value_within m one (message t) h (struct id) = struct_within m (message_root t) (let r = root_depth t in omega arith)
value_within m one (message t) h (list ty) = content_if m (is_list_of t ty) t (omega arith)

pub depths-empty_elements : (n p : ℕ) → element_depths (empty_elements n p) ≤ 0
depths-empty_elements zero p = omega arith
depths-empty_elements (suc n) p = let r = depths-empty_elements n p in let q = depths-resized p none in omega arith

pub empty_structs_within : (m : ℕ) → 1 ≤ m → (g : Shape) (n : ℕ) → depth (empty_structs g n) ≤ m
empty_structs_within m one (shape nid w p u fs) n = let r = depths-empty_elements n p in omega arith

pub empty_struct_within : (m : ℕ) → 1 ≤ m → (g : Shape) → depth (empty_struct g) ≤ m
empty_struct_within m one (shape nid w p u fs) = let r = depths-resized p none in omega arith

pub new_list_within : (m : ℕ) → 1 ≤ m → (s : Schema) (n : ℕ) (ty : Ty) → depth (new_list s n ty) ≤ m
new_list_within m one s n void = one
new_list_within m one s n (plain p) = one
new_list_within m one s n text = let r = depths-resized n none in omega arith
new_list_within m one s n blob = let r = depths-resized n none in omega arith
new_list_within m one s n untyped = let r = depths-resized n none in omega arith
new_list_within m one s n interface = let r = depths-resized n none in omega arith
new_list_within m one s n (struct id) = empty_structs_within m one (s.shape_of id) n
new_list_within m one s n (list ty) = let r = depths-resized n none in omega arith

pub init_within : (m : ℕ) → 1 ≤ m → (s : Schema) (ty : Ty) → ContentWithin m (init_content s ty)
init_within m one s void = tt
init_within m one s (plain p) = tt
init_within m one s text = tt
init_within m one s blob = tt
init_within m one s untyped = omega arith
init_within m one s interface = tt
init_within m one s (struct id) = empty_struct_within m one (s.shape_of id)
init_within m one s (list ty) = tt

pub initn_within : (m : ℕ) → 1 ≤ m → (s : Schema) (n : ℕ) (ty : Ty) (k : Kind) → ContentWithin m (initn_content s n ty k)
initn_within m one s n void k = tt
initn_within m one s n (plain p) k = tt
initn_within m one s n text k = one
initn_within m one s n blob k = one
initn_within m one s n untyped k = tt
initn_within m one s n interface k = tt
initn_within m one s n (struct id) k = tt
initn_within m one s n (list ty) k = new_list_within m one s n ty

pub slot_within : (m : ℕ) → 1 ≤ m → (s : Schema) (verb : Verb) → verb_depth verb ≤ m → (body : Body) → ContentWithin m (slot_content s verb body)
slot_within m one s get h (void_slot j) = tt
slot_within m one s get h (plain_slot p at d) = tt
slot_within m one s get h (pointer_slot i ty d) = tt
slot_within m one s get h (group_slot g) = tt
slot_within m one s (set_to v) h (void_slot j) = tt
slot_within m one s (set_to v) h (plain_slot p at d) = plain_within m p v
slot_within m one s (set_to v) h (pointer_slot i ty d) = value_within m one v h ty
slot_within m one s (set_to v) h (group_slot g) = tt
slot_within m one s init h (void_slot j) = tt
slot_within m one s init h (plain_slot p at d) = tt
slot_within m one s init h (pointer_slot i ty d) = init_within m one s ty
slot_within m one s init h (group_slot g) = tt
slot_within m one s (initn n) h (void_slot j) = tt
slot_within m one s (initn n) h (plain_slot p at d) = tt
slot_within m one s (initn n) h (pointer_slot i ty d) = initn_within m one s n ty InitnIsOnlyValidForListTextOrDataFields
slot_within m one s (initn n) h (group_slot g) = tt
slot_within m one s clear h (void_slot j) = tt
slot_within m one s clear h (plain_slot p at d) = tt
slot_within m one s clear h (pointer_slot i ty d) = omega arith
slot_within m one s clear h (group_slot g) = tt

pub element_within : (m : ℕ) → 1 ≤ m → (s : Schema) (verb : Verb) → verb_depth verb ≤ m → (ty : Ty) → ContentWithin m (element_content s verb ty)
element_within m one s (set_to v) h void = value_within m one v h void
element_within m one s (set_to v) h (plain p) = value_within m one v h (plain p)
element_within m one s (set_to v) h text = value_within m one v h text
element_within m one s (set_to v) h blob = value_within m one v h blob
element_within m one s (set_to v) h untyped = tt
element_within m one s (set_to v) h interface = tt
element_within m one s (set_to v) h (struct id) = value_within m one v h (struct id)
element_within m one s (set_to v) h (list ty) = value_within m one v h (list ty)
element_within m one s (initn n) h void = initn_within m one s n void ExpectedAListOrBlob
element_within m one s (initn n) h (plain p) = initn_within m one s n (plain p) ExpectedAListOrBlob
element_within m one s (initn n) h text = initn_within m one s n text ExpectedAListOrBlob
element_within m one s (initn n) h blob = initn_within m one s n blob ExpectedAListOrBlob
element_within m one s (initn n) h untyped = tt
element_within m one s (initn n) h interface = initn_within m one s n interface ExpectedAListOrBlob
element_within m one s (initn n) h (struct id) = initn_within m one s n (struct id) ExpectedAListOrBlob
element_within m one s (initn n) h (list ty) = initn_within m one s n (list ty) ExpectedAListOrBlob
element_within m one s get h void = tt
element_within m one s get h (plain p) = tt
element_within m one s get h text = tt
element_within m one s get h blob = tt
element_within m one s get h untyped = tt
element_within m one s get h interface = tt
element_within m one s get h (struct id) = tt
element_within m one s get h (list ty) = tt
element_within m one s init h void = tt
element_within m one s init h (plain p) = tt
element_within m one s init h text = tt
element_within m one s init h blob = tt
element_within m one s init h untyped = tt
element_within m one s init h interface = tt
element_within m one s init h (struct id) = tt
element_within m one s init h (list ty) = tt
element_within m one s clear h void = tt
element_within m one s clear h (plain p) = tt
element_within m one s clear h text = tt
element_within m one s clear h blob = tt
element_within m one s clear h untyped = tt
element_within m one s clear h interface = tt
element_within m one s clear h (struct id) = tt
element_within m one s clear h (list ty) = tt
