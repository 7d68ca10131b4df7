-- What calls put has no capability, where their messages have none.
use Rattle.std.proofs.Common.{ℕ, zero, suc, ◌-◌, ◌^◌, Bool, true, false, nat_lt, if◌then◌else◌}
use Rattle.std.specs.Prelude.{pos, negsuc}
use Rattle.capnp_model.specs.Kinds.{Kind, TypeMismatch, InitnIsOnlyValidForListTextOrDataFields, ExpectedAListOrBlob}
use Rattle.capnp_model.specs.Trees.{Tree, null, capability, structure, plain_list, pointer_list, struct_list, none}
use Rattle.capnp_model.specs.Schemas.{PlainType, bool, int, uint, «enum», Ty, void, plain, text, blob, untyped, interface, struct, list, Shape, shape, Body, void_slot, plain_slot, pointer_slot, group_slot, Schema}
use Rattle.capnp_model.specs.Readings.{is_list_of}
use Rattle.capnp_model.specs.Calls.{CallValue, whole_number, truth, enumerant, text_value, blob_value, message, Verb, get, set_to, init, initn, clear, Content, refused_by, bits_of, object, plain_content, struct_content, message_root, value_content, empty_elements, empty_structs, empty_struct, new_list, init_content, initn_content, slot_content, element_content}
use Rattle.capnp_model_versions.specs.Capabilities.{SetsNoCapability}
use Rattle.capnp_model_versions.proofs.BareValues.{IsBare, HaveBare, is-bare, bare-resized}

-- a verb whose message has no capability
abbrev pub IsBareVerb : Verb → Type 0
IsBareVerb (set_to (message t)) = IsBare t
IsBareVerb _ = Unit {0}

pub is-bare-verb : (verb : Verb) → SetsNoCapability verb → IsBareVerb verb
is-bare-verb get h = tt
is-bare-verb (set_to (whole_number z)) h = tt
is-bare-verb (set_to (truth b)) h = tt
is-bare-verb (set_to (enumerant n)) h = tt
is-bare-verb (set_to (text_value bs)) h = tt
is-bare-verb (set_to (blob_value bs)) h = tt
is-bare-verb (set_to (message t)) h = is-bare t h
is-bare-verb init h = tt
is-bare-verb (initn n) h = tt
is-bare-verb clear h = tt

abbrev pub IsBareContent : Content → Type 0
IsBareContent (object t) = IsBare t
IsBareContent _ = Unit {0}

pub bare-root : (t : Tree) → IsBare t → IsBare (message_root t)
bare-root null h = tt
bare-root (capability i) h = h
bare-root (structure n x ts) h = h
bare-root (plain_list z n x) h = h
bare-root (pointer_list ts) h = h
bare-root (struct_list w p es) h = h

bare-struct : (t : Tree) → IsBare t → IsBareContent (struct_content t)
bare-struct (structure w n ts) h = h
bare-struct null h = tt
bare-struct (capability k) h = tt
bare-struct (plain_list z n k) h = tt
bare-struct (pointer_list ts) h = tt
bare-struct (struct_list w p es) h = tt

content-if : (b : Bool) (t : Tree) → IsBare t → IsBareContent (if b then object t else refused_by TypeMismatch)
content-if true t h = h
content-if false t h = tt

bits-if : (b : Bool) (x : ℕ) → IsBareContent (if b then bits_of x else refused_by TypeMismatch)
bits-if true x = tt
bits-if false x = tt

plain-content : (p : PlainType) (v : CallValue) → IsBareContent (plain_content p v)
plain-content bool (truth b) = tt
plain-content (uint w) (whole_number (pos n)) = bits-if (nat_lt n (2 ^ w)) n
plain-content (int w) (whole_number (pos n)) = bits-if (nat_lt n (2 ^ (w - 1))) n
plain-content (int w) (whole_number (negsuc n)) = bits-if (nat_lt n (2 ^ (w - 1))) (2 ^ w - suc n)
plain-content («enum» id) (enumerant n) = tt
plain-content _ _ = tt

value-content : (v : CallValue) → IsBareVerb (set_to v) → (ty : Ty) → IsBareContent (value_content v ty)
value-content (whole_number z) h void = tt
value-content (whole_number z) h (plain p) = plain-content p (whole_number z)
value-content (whole_number z) h text = tt
value-content (whole_number z) h blob = tt
value-content (whole_number z) h untyped = tt
value-content (whole_number z) h interface = tt
value-content (whole_number z) h (struct id) = tt
value-content (whole_number z) h (list ty) = tt
value-content (truth b) h void = tt
value-content (truth b) h (plain p) = plain-content p (truth b)
value-content (truth b) h text = tt
value-content (truth b) h blob = tt
value-content (truth b) h untyped = tt
value-content (truth b) h interface = tt
value-content (truth b) h (struct id) = tt
value-content (truth b) h (list ty) = tt
value-content (enumerant n) h void = tt
value-content (enumerant n) h (plain p) = plain-content p (enumerant n)
value-content (enumerant n) h text = tt
value-content (enumerant n) h blob = tt
value-content (enumerant n) h untyped = tt
value-content (enumerant n) h interface = tt
value-content (enumerant n) h (struct id) = tt
value-content (enumerant n) h (list ty) = tt
value-content (text_value bs) h void = tt
value-content (text_value bs) h (plain p) = plain-content p (text_value bs)
value-content (text_value bs) h text = tt
value-content (text_value bs) h blob = tt
value-content (text_value bs) h untyped = tt
value-content (text_value bs) h interface = tt
value-content (text_value bs) h (struct id) = tt
value-content (text_value bs) h (list ty) = tt
value-content (blob_value bs) h void = tt
value-content (blob_value bs) h (plain p) = plain-content p (blob_value bs)
value-content (blob_value bs) h text = tt
value-content (blob_value bs) h blob = tt
value-content (blob_value bs) h untyped = tt
value-content (blob_value bs) h interface = tt
value-content (blob_value bs) h (struct id) = tt
value-content (blob_value bs) h (list ty) = tt
value-content (message t) h void = tt
value-content (message t) h (plain p) = plain-content p (message t)
value-content (message t) h text = tt
value-content (message t) h blob = tt
value-content (message t) h untyped = bare-root t h
value-content (message t) h interface = tt
value-content (message t) h (struct id) = bare-struct (message_root t) (bare-root t h)
value-content (message t) h (list ty) = content-if (is_list_of t ty) t h

-- ---- what is new

pub bare-elements : (n p : ℕ) → HaveBare (empty_elements n p)
bare-elements zero p = tt
bare-elements (suc n) p = (bare-resized p none tt, bare-elements n p)

bare-structs : (g : Shape) (n : ℕ) → IsBare (empty_structs g n)
bare-structs (shape nid w p u fs) n = bare-elements n p

bare-empty : (g : Shape) → IsBare (empty_struct g)
bare-empty (shape nid w p u fs) = bare-resized p none tt

module _ (s : Schema) where
  pub bare-list : (n : ℕ) (ty : Ty) → IsBare (new_list s n ty)
  bare-list n void = tt
  bare-list n (plain p) = tt
  bare-list n text = bare-resized n none tt
  bare-list n blob = bare-resized n none tt
  bare-list n untyped = bare-resized n none tt
  bare-list n interface = bare-resized n none tt
  bare-list n (struct id) = bare-structs (s.shape_of id) n
  bare-list n (list ty) = bare-resized n none tt

  init-content : (ty : Ty) → IsBareContent (init_content s ty)
  init-content void = tt
  init-content (plain p) = tt
  init-content text = tt
  init-content blob = tt
  init-content untyped = tt
  init-content interface = tt
  init-content (struct id) = bare-empty (s.shape_of id)
  init-content (list ty) = tt

  initn-content : (n : ℕ) (ty : Ty) (k : Kind) → IsBareContent (initn_content s n ty k)
  initn-content n void k = tt
  initn-content n (plain p) k = tt
  initn-content n text k = tt
  initn-content n blob k = tt
  initn-content n untyped k = tt
  initn-content n interface k = tt
  initn-content n (struct id) k = tt
  initn-content n (list ty) k = bare-list n ty

  pub slot-content : (verb : Verb) → IsBareVerb verb → (b : Body) → IsBareContent (slot_content s verb b)
  slot-content get h (void_slot j) = tt
  slot-content get h (plain_slot p at d) = tt
  slot-content get h (pointer_slot i ty d) = tt
  slot-content get h (group_slot g) = tt
  slot-content (set_to v) h (void_slot j) = tt
  slot-content (set_to v) h (plain_slot p at d) = plain-content p v
  slot-content (set_to v) h (pointer_slot i ty d) = value-content v h ty
  slot-content (set_to v) h (group_slot g) = tt
  slot-content init h (void_slot j) = tt
  slot-content init h (plain_slot p at d) = tt
  slot-content init h (pointer_slot i ty d) = init-content ty
  slot-content init h (group_slot g) = tt
  slot-content (initn n) h (void_slot j) = tt
  slot-content (initn n) h (plain_slot p at d) = tt
  slot-content (initn n) h (pointer_slot i ty d) = initn-content n ty InitnIsOnlyValidForListTextOrDataFields
  slot-content (initn n) h (group_slot g) = tt
  slot-content clear h (void_slot j) = tt
  slot-content clear h (plain_slot p at d) = tt
  slot-content clear h (pointer_slot i ty d) = tt
  slot-content clear h (group_slot g) = tt

  pub element-content : (verb : Verb) → IsBareVerb verb → (ty : Ty) → IsBareContent (element_content s verb ty)
  element-content (set_to v) h void = value-content v h void
  element-content (set_to v) h (plain p) = value-content v h (plain p)
  element-content (set_to v) h text = value-content v h text
  element-content (set_to v) h blob = value-content v h blob
  element-content (set_to v) h untyped = tt
  element-content (set_to v) h interface = tt
  element-content (set_to v) h (struct id) = value-content v h (struct id)
  element-content (set_to v) h (list ty) = value-content v h (list ty)
  element-content (initn n) h void = initn-content n void ExpectedAListOrBlob
  element-content (initn n) h (plain p) = initn-content n (plain p) ExpectedAListOrBlob
  element-content (initn n) h text = initn-content n text ExpectedAListOrBlob
  element-content (initn n) h blob = initn-content n blob ExpectedAListOrBlob
  element-content (initn n) h untyped = tt
  element-content (initn n) h interface = initn-content n interface ExpectedAListOrBlob
  element-content (initn n) h (struct id) = initn-content n (struct id) ExpectedAListOrBlob
  element-content (initn n) h (list ty) = initn-content n (list ty) ExpectedAListOrBlob
  element-content get h void = tt
  element-content get h (plain p) = tt
  element-content get h text = tt
  element-content get h blob = tt
  element-content get h untyped = tt
  element-content get h interface = tt
  element-content get h (struct id) = tt
  element-content get h (list ty) = tt
  element-content init h void = tt
  element-content init h (plain p) = tt
  element-content init h text = tt
  element-content init h blob = tt
  element-content init h untyped = tt
  element-content init h interface = tt
  element-content init h (struct id) = tt
  element-content init h (list ty) = tt
  element-content clear h void = tt
  element-content clear h (plain p) = tt
  element-content clear h text = tt
  element-content clear h blob = tt
  element-content clear h untyped = tt
  element-content clear h interface = tt
  element-content clear h (struct id) = tt
  element-content clear h (list ty) = tt
