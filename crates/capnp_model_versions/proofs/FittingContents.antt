-- What calls put fits.
use Rattle.std.proofs.Common.{◌≡◌, ◌+◌, refl, ap, subst, sym, length, ℕ, zero, suc, ◌-◌, ◌*◌, ◌^◌, ◌<◌, ◌==◌, Bool, true, false, nat_lt, if◌then◌else◌, List, [], ◌∷◌, ◌++◌, arith}
use Rattle.std.specs.Prelude.{pos, negsuc}
use Rattle.std.proofs.lemmas.Nat.{pow_pos}
use Rattle.std.proofs.lemmas.List.{length-append}
use Rattle.capnp_model.specs.Kinds.{Kind, TypeMismatch, InitnIsOnlyValidForListTextOrDataFields, ExpectedAListOrBlob}
use Rattle.capnp_model.specs.Trees.{element_count, Tree, null, capability, structure, plain_list, pointer_list, struct_list, none, resized, size_bits, size_of_width}
use Rattle.capnp_model.specs.Schemas.{PlainType, bool, int, uint, «enum», width, Ty, void, plain, text, blob, untyped, interface, struct, list, Shape, shape, Body, void_slot, plain_slot, pointer_slot, group_slot, Schema}
use Rattle.capnp_model.specs.Readings.{is_list_of}
use Rattle.capnp_model.specs.Calls.{CallValue, whole_number, truth, enumerant, text_value, blob_value, message, Verb, get, set_to, init, initn, clear, Content, refused_by, bits_of, object, plain_content, struct_content, message_root, value_content, blob_tree, text_tree, empty_elements, empty_structs, empty_struct, new_list, init_content, initn_content, slot_content, element_content}
use Rattle.capnp_model.proofs.lemmas.Numbers.{number_of_lt}
use Rattle.capnp_model.proofs.lemmas.Stripping.{count-resized}
use Rattle.capnp_model_versions.proofs.FittingParts.{Lengths, FitsBy, AllFitBy, ElementsFitBy, SpelledBy, all-resized, StructFits, SchemaFits}

pub small-size : (w : ℕ) → size_of_width w < 6
small-size w = by (w == 1) (w == 8) (w == 16) (w == 32)
  where
    by : (a b c d : Bool) → (if a then 1 else (if b then 2 else (if c then 3 else (if d then 4 else 5)))) < 6
    by true b c d = omega arith
    by false true c d = omega arith
    by false false true d = omega arith
    by false false false true = omega arith
    by false false false false = omega arith

module _ (L : Lengths) where
  -- ---- what a verb puts

  abbrev pub ContentFits : Content → Type 0
  ContentFits (object t) = FitsBy L t
  ContentFits _ = Unit {0}

  pub blob-fits : (bs : List ℕ) → L.lists (length bs) → FitsBy L (blob_tree bs)
  blob-fits bs h = (omega arith, number_of_lt 8 bs, h)

  pub text-fits : (bs : List ℕ) → L.lists (length bs + 1) → FitsBy L (text_tree bs)
  text-fits bs h = blob-fits (bs ++ 0 ∷ []) (subst L.lists (sym (length-append bs (0 ∷ []))) h)

  pub root-fits : (t : Tree) → FitsBy L t → FitsBy L (message_root t)
  root-fits null h = (omega arith, omega arith, omega arith, tt)
  root-fits (capability i) h = h
  root-fits (structure n section ts) h = h
  root-fits (plain_list z n k) h = h
  root-fits (pointer_list ts) h = h
  root-fits (struct_list d k es) h = h

  pub struct-content : (t : Tree) → FitsBy L t → ContentFits (struct_content t)
  struct-content (structure w n ts) h = h
  struct-content null h = tt
  struct-content (capability k) h = tt
  struct-content (plain_list z n k) h = tt
  struct-content (pointer_list ts) h = tt
  struct-content (struct_list w p es) h = tt

  pub content-if : (b : Bool) (t : Tree) → FitsBy L t → ContentFits (if b then object t else refused_by TypeMismatch)
  content-if true t h = h
  content-if false t h = tt

  pub bits-if : (b : Bool) (x : ℕ) → ContentFits (if b then bits_of x else refused_by TypeMismatch)
  bits-if true x = tt
  bits-if false x = tt

  pub plain-content : (p : PlainType) (v : CallValue) → ContentFits (plain_content p v)
  plain-content bool (truth b) = tt
  plain-content (uint w) (whole_number (pos n)) = bits-if (nat_lt n (2 ^ w)) n
  plain-content (int w) (whole_number (pos n)) = bits-if (nat_lt n (2 ^ (w - 1))) n
  plain-content (int w) (whole_number (negsuc n)) = bits-if (nat_lt n (2 ^ (w - 1))) (2 ^ w - suc n)
  plain-content («enum» id) (enumerant n) = tt
  plain-content _ _ = tt

  pub value-content : (v : CallValue) → SpelledBy L (set_to v) → (ty : Ty) → ContentFits (value_content v ty)
  value-content (whole_number z) h void = tt
  value-content (whole_number z) h (plain p) = plain-content p (whole_number z)
  value-content (whole_number z) h text = tt
  value-content (whole_number z) h blob = tt
  value-content (whole_number z) h untyped = tt
  value-content (whole_number z) h interface = tt
  value-content (whole_number z) h (struct id) = tt
  value-content (whole_number z) h (list ty) = tt
  value-content (truth b) h void = tt
  value-content (truth b) h (plain p) = plain-content p (truth b)
  value-content (truth b) h text = tt
  value-content (truth b) h blob = tt
  value-content (truth b) h untyped = tt
  value-content (truth b) h interface = tt
  value-content (truth b) h (struct id) = tt
  value-content (truth b) h (list ty) = tt
  value-content (enumerant n) h void = tt
  value-content (enumerant n) h (plain p) = plain-content p (enumerant n)
  value-content (enumerant n) h text = tt
  value-content (enumerant n) h blob = tt
  value-content (enumerant n) h untyped = tt
  value-content (enumerant n) h interface = tt
  value-content (enumerant n) h (struct id) = tt
  value-content (enumerant n) h (list ty) = tt
  value-content (text_value bs) h void = tt
  value-content (text_value bs) h (plain p) = plain-content p (text_value bs)
  value-content (text_value bs) h text = text-fits bs h
  value-content (text_value bs) h blob = tt
  value-content (text_value bs) h untyped = text-fits bs h
  value-content (text_value bs) h interface = tt
  value-content (text_value bs) h (struct id) = tt
  value-content (text_value bs) h (list ty) = tt
  value-content (blob_value bs) h void = tt
  value-content (blob_value bs) h (plain p) = plain-content p (blob_value bs)
  value-content (blob_value bs) h text = tt
  value-content (blob_value bs) h blob = blob-fits bs h
  value-content (blob_value bs) h untyped = blob-fits bs h
  value-content (blob_value bs) h interface = tt
  value-content (blob_value bs) h (struct id) = tt
  value-content (blob_value bs) h (list ty) = tt
  value-content (message t) h void = tt
  value-content (message t) h (plain p) = plain-content p (message t)
  value-content (message t) h text = tt
  value-content (message t) h blob = tt
  value-content (message t) h untyped = root-fits t h
  value-content (message t) h interface = tt
  value-content (message t) h (struct id) = struct-content (message_root t) (root-fits t h)
  value-content (message t) h (list ty) = content-if (is_list_of t ty) t h

  pub zeros-fit : (size n : ℕ) → size < 6 → L.lists n → FitsBy L (plain_list size n 0)
  zeros-fit size n h short = (h, pow_pos (size_bits size * n), short)

  pub null-list-fits : (n : ℕ) → L.lists n → FitsBy L (pointer_list (resized n none))
  null-list-fits n short = (subst L.lists (sym (count-resized n none)) short, all-resized L n none tt)

  pub nulls-fit : (n : ℕ) → AllFitBy L (resized n none)
  nulls-fit n = all-resized L n none tt

  pub empty-elements-fit : (n w p : ℕ) → ElementsFitBy L w p (empty_elements n p)
  empty-elements-fit zero w p = tt
  empty-elements-fit (suc n) w p = (pow_pos (64 * w), count-resized p none, nulls-fit p, empty-elements-fit n w p)

  count-empty : (n p : ℕ) → element_count (empty_elements n p) ≡ n
  count-empty zero p = refl
  count-empty (suc n) p = ap suc (count-empty n p)

  pub empty-structs-fit : (g : Shape) → StructFits L g → (n : ℕ) → L.lists n → FitsBy L (empty_structs g n)
  empty-structs-fit (shape nid w p u fs) h n short = (h.words, h.pointers, subst L.elements (sym (count-empty n p)) (L.grow n short), empty-elements-fit n w p)

  pub empty-struct-fits : (g : Shape) → StructFits L g → FitsBy L (empty_struct g)
  empty-struct-fits (shape nid w p u fs) h = (h.words, rw (count-resized p none) h.pointers, pow_pos (64 * w), nulls-fit p)

  module _ (s : Schema) (fits : SchemaFits L s) where
    pub new-list-fits : (n : ℕ) (ty : Ty) → L.lists n → FitsBy L (new_list s n ty)
    new-list-fits n void h = zeros-fit 0 n (omega arith) h
    new-list-fits n (plain p) h = zeros-fit (size_of_width (width p)) n (small-size (width p)) h
    new-list-fits n text h = null-list-fits n h
    new-list-fits n blob h = null-list-fits n h
    new-list-fits n untyped h = null-list-fits n h
    new-list-fits n interface h = null-list-fits n h
    new-list-fits n (struct id) h = empty-structs-fit (s.shape_of id) (fits id) n h
    new-list-fits n (list ty) h = null-list-fits n h

    pub init-content : (ty : Ty) → ContentFits (init_content s ty)
    init-content void = tt
    init-content (plain p) = tt
    init-content text = tt
    init-content blob = tt
    init-content untyped = tt
    init-content interface = tt
    init-content (struct id) = empty-struct-fits (s.shape_of id) (fits id)
    init-content (list ty) = tt

    pub initn-content : (n : ℕ) (ty : Ty) (k : Kind) → L.lists n × L.lists (n + 1) → ContentFits (initn_content s n ty k)
    initn-content n void k h = tt
    initn-content n (plain p) k h = tt
    initn-content n text k h = zeros-fit 2 (suc n) (omega arith) (subst L.lists (omega arith) h.1)
    initn-content n blob k h = zeros-fit 2 n (omega arith) h.0
    initn-content n untyped k h = tt
    initn-content n interface k h = tt
    initn-content n (struct id) k h = tt
    initn-content n (list ty) k h = new-list-fits n ty h.0

    pub slot-content : (verb : Verb) → SpelledBy L verb → (b : Body) → ContentFits (slot_content s verb b)
    slot-content get h (void_slot j) = tt
    slot-content get h (plain_slot p at d) = tt
    slot-content get h (pointer_slot i ty d) = tt
    slot-content get h (group_slot g) = tt
    slot-content (set_to v) h (void_slot j) = tt
    slot-content (set_to v) h (plain_slot p at d) = plain-content p v
    slot-content (set_to v) h (pointer_slot i ty d) = value-content v h ty
    slot-content (set_to v) h (group_slot g) = tt
    slot-content init h (void_slot j) = tt
    slot-content init h (plain_slot p at d) = tt
    slot-content init h (pointer_slot i ty d) = init-content ty
    slot-content init h (group_slot g) = tt
    slot-content (initn n) h (void_slot j) = tt
    slot-content (initn n) h (plain_slot p at d) = tt
    slot-content (initn n) h (pointer_slot i ty d) = initn-content n ty InitnIsOnlyValidForListTextOrDataFields h
    slot-content (initn n) h (group_slot g) = tt
    slot-content clear h (void_slot j) = tt
    slot-content clear h (plain_slot p at d) = tt
    slot-content clear h (pointer_slot i ty d) = tt
    slot-content clear h (group_slot g) = tt

    pub element-content : (verb : Verb) → SpelledBy L verb → (ty : Ty) → ContentFits (element_content s verb ty)
    element-content (set_to v) h void = value-content v h void
    element-content (set_to v) h (plain p) = value-content v h (plain p)
    element-content (set_to v) h text = value-content v h text
    element-content (set_to v) h blob = value-content v h blob
    element-content (set_to v) h untyped = tt
    element-content (set_to v) h interface = tt
    element-content (set_to v) h (struct id) = value-content v h (struct id)
    element-content (set_to v) h (list ty) = value-content v h (list ty)
    element-content (initn n) h void = initn-content n void ExpectedAListOrBlob h
    element-content (initn n) h (plain p) = initn-content n (plain p) ExpectedAListOrBlob h
    element-content (initn n) h text = initn-content n text ExpectedAListOrBlob h
    element-content (initn n) h blob = initn-content n blob ExpectedAListOrBlob h
    element-content (initn n) h untyped = tt
    element-content (initn n) h interface = initn-content n interface ExpectedAListOrBlob h
    element-content (initn n) h (struct id) = initn-content n (struct id) ExpectedAListOrBlob h
    element-content (initn n) h (list ty) = initn-content n (list ty) ExpectedAListOrBlob h
    element-content get h void = tt
    element-content get h (plain p) = tt
    element-content get h text = tt
    element-content get h blob = tt
    element-content get h untyped = tt
    element-content get h interface = tt
    element-content get h (struct id) = tt
    element-content get h (list ty) = tt
    element-content init h void = tt
    element-content init h (plain p) = tt
    element-content init h text = tt
    element-content init h blob = tt
    element-content init h untyped = tt
    element-content init h interface = tt
    element-content init h (struct id) = tt
    element-content init h (list ty) = tt
    element-content clear h void = tt
    element-content clear h (plain p) = tt
    element-content clear h text = tt
    element-content clear h blob = tt
    element-content clear h untyped = tt
    element-content clear h interface = tt
    element-content clear h (struct id) = tt
    element-content clear h (list ty) = tt
