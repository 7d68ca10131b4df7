-- What a call puts into a slot or an element is the same under two versions, but for the sizes of new structs.
use Rattle.std.proofs.Common.{◌≡◌, ℕ, zero, suc, ◌+◌, ◌-◌, ◌*◌, ◌^◌, ◌<◌, ◌≤◌, Bool, true, false, ◌&&◌, nat_lt, if◌then◌else◌, Option, refl, sym, ◌∙◌, ap, subst, arith}
use Rattle.std.specs.Prelude.{pos, negsuc}
use Rattle.std.proofs.lemmas.Nat.{pow_pos}
use lib.Bits.{bit_xor, xor_lt}
use Rattle.capnp_model.specs.Kinds.{Kind, TypeMismatch, InitnIsOnlyValidForListTextOrDataFields, ExpectedAListOrBlob}
use Rattle.capnp_model.specs.Trees.{Tree, null, capability, structure, plain_list, pointer_list, struct_list, none, resized}
use Rattle.capnp_model.specs.Schemas.{PlainType, bool, int, uint, «enum», width, Ty, void, plain, text, blob, untyped, interface, struct, list, Shape, shape, Body, plain_slot, pointer_slot, group_slot, Schema, words_of_shape}
use Rattle.capnp_model.specs.Readings.{is_list_of}
use Rattle.capnp_model.specs.Calls.{CallValue, whole_number, truth, enumerant, text_value, blob_value, message, Verb, get, set_to, init, initn, clear, Content, refused_by, bits_of, object, plain_content, message_root, struct_content, blob_tree, text_tree, value_content, empty_struct, empty_elements, empty_structs, new_list, init_content, initn_content, slot_content, element_content}
use Rattle.capnp_model.specs.Admitted.{is_set, is_struct_type}
use Rattle.capnp_model.specs.NamedPaths.{IsInRange}
use Rattle.capnp_model.specs.Edits.{put_bits, put_content, put_in_element, put_group, put_field}
use Rattle.capnp_model.specs.Trimming.{after_stripping, trim}
use Rattle.capnp_model.proofs.lemmas.SoundShapes.{FitsSlot}
use Rattle.capnp_model.proofs.lemmas.FitCalls.{contents_fit}
use Rattle.capnp_model.proofs.lemmas.Widening.{bare}
use Rattle.capnp_model.proofs.lemmas.OlderReading.{SamePlain, same_bool, same_int, same_uint, same_enum, Related, related_void, related_plain', related_text, related_blob, related_untyped, related_interface, related_struct, related_list}
pub use Rattle.capnp_model_versions.specs.SameReplies.{IsWrite}
use Rattle.capnp_model_versions.specs.Whole.{IsWhole, HaveWhole, IsWholeVerb}
use Rattle.capnp_model_versions.proofs.lemmas.WholeValues.{whole-resized}
use Rattle.capnp_model_versions.proofs.Alike.{alike-self, Alike, Agree, agree-more, agree-put_bits, agree-put_child, alike-structure}
use Rattle.capnp_model_versions.proofs.SameLists.{SameElements, alike-elements}
use Rattle.capnp_model_versions.proofs.SameShapes.{Congruent, no_change, AnyPair, SameBody, same_void, same_plain', same_pointer, same_group, width-same, congruent-cleared, congruent-message}

-- ---- new structs

pub bare_nulls : (p : ℕ) → bare (resized p none) ≡ none
unfolding trim
bare_nulls zero = refl
bare_nulls (suc p) = ap (after_stripping null) (bare_nulls p)

new_alike : (g g' : Shape) → Alike (empty_struct g) (empty_struct g')
new_alike (shape nid w p u fs) (shape nid' w' p' u' fs') =
    alike-structure w w' 0 0 (resized p none) (resized p' none) refl (bare_nulls p ∙ sym (bare_nulls p')) (pow_pos (64 * w)) (pow_pos (64 * w')) (whole-resized p none tt) (whole-resized p' none tt)

new_elements : (k p p' : ℕ) → SameElements (empty_elements k p) (empty_elements k p')
new_elements zero p p' = tt
new_elements (suc k) p p' = (record { sections = refl; kids = bare_nulls p ∙ sym (bare_nulls p'); whole = whole-resized p none tt; whole' = whole-resized p' none tt }, new_elements k p p')

new_whole : (w k p : ℕ) → HaveWhole w (empty_elements k p)
new_whole w zero p = tt
new_whole w (suc k) p = (pow_pos (64 * w), whole-resized p none tt, new_whole w k p)

new_structs : (k : ℕ) (g g' : Shape) → Alike (empty_structs g k) (empty_structs g' k)
new_structs k (shape nid w p u fs) (shape nid' w' p' u' fs') = alike-elements w p w' p' (empty_elements k p) (empty_elements k p') (new_whole w k p) (new_whole w' k p') (new_elements k p p')

-- ---- contents

-- the same bits, or values of one trimmed value
abbrev pub SameContent : Content → Content → Type 0
SameContent (refused_by k) (refused_by l) = Unit {0}
SameContent (bits_of m) (bits_of k) = m ≡ k
SameContent (object t) (object u) = Alike t u
SameContent _ _ = ⊥

checked : (b : Bool) (x : ℕ) → SameContent (if b then bits_of x else refused_by TypeMismatch) (if b then bits_of x else refused_by TypeMismatch)
checked true x = refl
checked false x = tt

checked_object : (b b' : Bool) (t : Tree) → b ≡ b' → IsWhole t → SameContent (if b then object t else refused_by TypeMismatch) (if b' then object t else refused_by TypeMismatch)
checked_object true true t e h = alike-self t h
checked_object false false t e h = tt
checked_object true false t e h = absurd (cc e)
checked_object false true t e h = absurd (cc e)

struct_same : (t : Tree) → IsWhole t → SameContent (struct_content t) (struct_content t)
struct_same null h = tt
struct_same (capability i) h = tt
struct_same (structure w m ts) h = alike-self (structure w m ts) h
struct_same (plain_list z m x) h = tt
struct_same (pointer_list ts) h = tt
struct_same (struct_list w p es) h = tt

pub whole-root : (t : Tree) → IsWhole t → IsWhole (message_root t)
whole-root null h = (omega arith, tt)
whole-root (capability i) h = h
whole-root (structure w m ts) h = h
whole-root (plain_list z m x) h = h
whole-root (pointer_list ts) h = h
whole-root (struct_list w p es) h = h

plain_contents : (p q : PlainType) (v : CallValue) → SamePlain p q → SameContent (plain_content p v) (plain_content q v)
plain_contents p q (truth true) same_bool = refl
plain_contents p q (truth false) same_bool = refl
plain_contents p q v same_bool = tt
plain_contents p q (whole_number (pos k)) (same_int w) = checked (nat_lt k (2 ^ (w - 1))) k
plain_contents p q (whole_number (negsuc k)) (same_int w) = checked (nat_lt k (2 ^ (w - 1))) (2 ^ w - suc k)
plain_contents p q v (same_int w) = tt
plain_contents p q (whole_number (pos k)) (same_uint w) = checked (nat_lt k (2 ^ w)) k
plain_contents p q (whole_number (negsuc k)) (same_uint w) = tt
plain_contents p q v (same_uint w) = tt
plain_contents p q (enumerant k) (same_enum i j) = refl
plain_contents p q v (same_enum i j) = tt

pub in_range : (verb : Verb) → IsWrite verb → IsWholeVerb verb → IsInRange verb
in_range get w h = w
in_range (set_to (whole_number z)) w h = tt
in_range (set_to (truth b)) w h = tt
in_range (set_to (enumerant k)) w h = h
in_range (set_to (text_value bs)) w h = tt
in_range (set_to (blob_value bs)) w h = tt
in_range (set_to (message t)) w h = tt
in_range init w h = tt
in_range (initn k) w h = tt
in_range clear w h = tt

module _ (o n : Schema) where
  abbrev Same : Ty → Ty → Type 0
  Same ty ty' = Related o n AnyPair ty ty'

  -- lists are accepted alike
  lists_same : (t : Tree) (ty ty' : Ty) → Same ty ty' → is_list_of t ty ≡ is_list_of t ty'
  lists_same t ty ty' related_void = refl
  lists_same t ty ty' (related_plain' same_bool) = refl
  lists_same t ty ty' (related_plain' (same_int w)) = refl
  lists_same t ty ty' (related_plain' (same_uint w)) = refl
  lists_same t ty ty' (related_plain' (same_enum i j)) = refl
  lists_same t ty ty' related_text = refl
  lists_same t ty ty' related_blob = refl
  lists_same t ty ty' related_untyped = refl
  lists_same t ty ty' related_interface = refl
  lists_same t ty ty' (related_struct r) = refl
  lists_same t ty ty' (related_list h) = refl

  value_same : (v : CallValue) (ty ty' : Ty) → Same ty ty' → IsWholeVerb (set_to v) → SameContent (value_content v ty) (value_content v ty')
  value_same v ty ty' related_void h = refl
  value_same v ty ty' (related_plain' {p = p} {q = q} same) h = plain_contents p q v same
  value_same (text_value bs) ty ty' related_text h = alike-self (text_tree bs) tt
  value_same v ty ty' related_text h = tt
  value_same (blob_value bs) ty ty' related_blob h = alike-self (blob_tree bs) tt
  value_same v ty ty' related_blob h = tt
  value_same (text_value bs) ty ty' related_untyped h = alike-self (text_tree bs) tt
  value_same (blob_value bs) ty ty' related_untyped h = alike-self (blob_tree bs) tt
  value_same (message t) ty ty' related_untyped h = alike-self (message_root t) (whole-root t h)
  value_same v ty ty' related_untyped h = tt
  value_same v ty ty' related_interface h = interface_same v
    where
      interface_same : (v : CallValue) → SameContent (value_content v interface) (value_content v interface)
      interface_same (whole_number z) = tt
      interface_same (truth b) = tt
      interface_same (enumerant k) = tt
      interface_same (text_value bs) = tt
      interface_same (blob_value bs) = tt
      interface_same (message t) = tt
  value_same (message t) ty ty' (related_struct r) h = struct_same (message_root t) (whole-root t h)
  value_same v ty ty' (related_struct r) h = tt
  value_same (message t) ty ty' (related_list {a = a} {b = b} r) h = checked_object (is_list_of t a) (is_list_of t b) t (lists_same t a b r) h
  value_same v ty ty' (related_list r) h = tt

  list_same : (k : ℕ) (ty ty' : Ty) → Same ty ty' → Alike (new_list o k ty) (new_list n k ty')
  list_same k ty ty' related_void = alike-self (plain_list 0 k 0) tt
  list_same k ty ty' (related_plain' same_bool) = alike-self (new_list o k (plain bool)) tt
  list_same k ty ty' (related_plain' (same_int w)) = alike-self (new_list o k (plain (int w))) tt
  list_same k ty ty' (related_plain' (same_uint w)) = alike-self (new_list o k (plain (uint w))) tt
  list_same k ty ty' (related_plain' (same_enum i j)) = alike-self (new_list o k (plain («enum» i))) tt
  list_same k ty ty' related_text = alike-self (pointer_list (resized k none)) (whole-resized k none tt)
  list_same k ty ty' related_blob = alike-self (pointer_list (resized k none)) (whole-resized k none tt)
  list_same k ty ty' related_untyped = alike-self (pointer_list (resized k none)) (whole-resized k none tt)
  list_same k ty ty' related_interface = alike-self (pointer_list (resized k none)) (whole-resized k none tt)
  list_same k ty ty' (related_struct {i = i} {j = j} r) = new_structs k (o.shape_of i) (n.shape_of j)
  list_same k ty ty' (related_list r) = alike-self (pointer_list (resized k none)) (whole-resized k none tt)

  init_same : (ty ty' : Ty) → Same ty ty' → SameContent (init_content o ty) (init_content n ty')
  init_same ty ty' related_void = tt
  init_same ty ty' (related_plain' same) = tt
  init_same ty ty' related_text = tt
  init_same ty ty' related_blob = tt
  init_same ty ty' related_untyped = alike-self null tt
  init_same ty ty' related_interface = tt
  init_same ty ty' (related_struct {i = i} {j = j} r) = new_alike (o.shape_of i) (n.shape_of j)
  init_same ty ty' (related_list r) = tt

  initn_same : (k : ℕ) (ty ty' : Ty) (x : Kind) → Same ty ty' → SameContent (initn_content o k ty x) (initn_content n k ty' x)
  initn_same k ty ty' x related_void = tt
  initn_same k ty ty' x (related_plain' same) = tt
  initn_same k ty ty' x related_text = alike-self (plain_list 2 (suc k) 0) tt
  initn_same k ty ty' x related_blob = alike-self (plain_list 2 k 0) tt
  initn_same k ty ty' x related_untyped = tt
  initn_same k ty ty' x related_interface = tt
  initn_same k ty ty' x (related_struct r) = tt
  initn_same k ty ty' x (related_list {a = a} {b = b} r) = list_same k a b r

  -- ---- slots

  slot_same : (verb : Verb) (i : ℕ) (ty ty' : Ty) (d d' : Option Tree) → Same ty ty' → IsWrite verb → IsWholeVerb verb → SameContent (slot_content o verb (pointer_slot i ty d)) (slot_content n verb (pointer_slot i ty' d'))
  slot_same get i ty ty' d d' r w h = absurd w
  slot_same (set_to v) i ty ty' d d' r w h = value_same v ty ty' r h
  slot_same init i ty ty' d d' r w h = init_same ty ty' r
  slot_same (initn k) i ty ty' d d' r w h = initn_same k ty ty' InitnIsOnlyValidForListTextOrDataFields r
  slot_same clear i ty ty' d d' r w h = alike-self null tt

  plain_same : (verb : Verb) (p q : PlainType) (at d : ℕ) → SamePlain p q → IsWrite verb → SameContent (slot_content o verb (plain_slot p at d)) (slot_content n verb (plain_slot q at d))
  plain_same get p q at d r w = absurd w
  plain_same (set_to v) p q at d r w = plain_contents p q v r
  plain_same init p q at d r w = tt
  plain_same (initn k) p q at d r w = tt
  plain_same clear p q at d r w = refl

  module _ (bits : ℕ) where
    put_plain : (p q : PlainType) (at d : ℕ) (x y : Content) → SamePlain p q → at + width p ≤ bits → SameContent x y → FitsSlot (plain_slot p at d) x → Congruent bits (put_content (plain_slot p at d) x) (put_content (plain_slot q at d) y)
    put_plain p q at d (refused_by k) (refused_by l) r le s f = no_change bits
    put_plain p q at d (bits_of m) (bits_of k) r le s f = λ c e same.
        subst (λ z. Agree bits c (put_bits at (width p) (bit_xor m d) c) (put_bits at z (bit_xor k d) e)) (width-same o n bits r)
        (subst (λ z. Agree bits c (put_bits at (width p) (bit_xor m d) c) (put_bits at (width p) (bit_xor z d) e)) s
        (agree-put_bits bits at (width p) (bit_xor m d) c e (xor_lt (width p) m d f.0 f.1) le same))
    put_plain p q at d (object t) (object u) r le s f = absurd f
    put_plain p q at d (refused_by k) (bits_of l) r le s f = absurd s
    put_plain p q at d (refused_by k) (object u) r le s f = absurd s
    put_plain p q at d (bits_of m) (refused_by l) r le s f = absurd s
    put_plain p q at d (bits_of m) (object u) r le s f = absurd s
    put_plain p q at d (object t) (refused_by l) r le s f = absurd s
    put_plain p q at d (object t) (bits_of l) r le s f = absurd s

    put_pointer : (i : ℕ) (ty ty' : Ty) (d d' : Option Tree) (x y : Content) → SameContent x y → Congruent bits (put_content (pointer_slot i ty d) x) (put_content (pointer_slot i ty' d') y)
    put_pointer i ty ty' d d' (refused_by k) (refused_by l) s = no_change bits
    put_pointer i ty ty' d d' (bits_of m) (bits_of k) s = no_change bits
    put_pointer i ty ty' d d' (object t) (object u) s = λ c e same. agree-more 0 bits c _ _ (omega arith) (agree-put_child i t u c e s same)
    put_pointer i ty ty' d d' (refused_by k) (bits_of l) s = absurd s
    put_pointer i ty ty' d d' (refused_by k) (object u) s = absurd s
    put_pointer i ty ty' d d' (bits_of m) (refused_by l) s = absurd s
    put_pointer i ty ty' d d' (bits_of m) (object u) s = absurd s
    put_pointer i ty ty' d d' (object t) (refused_by l) s = absurd s
    put_pointer i ty ty' d d' (object t) (bits_of l) s = absurd s

    group_same : (verb : Verb) (g g' : Shape) → SameBody o n bits (group_slot g) (group_slot g') → IsWholeVerb verb → Congruent bits (put_group o verb g) (put_group n verb g')
    group_same verb g g' (same_group s) h = by verb h
      where
        by : (verb : Verb) → IsWholeVerb verb → Congruent bits (put_group o verb g) (put_group n verb g')
        by (set_to (message t)) k = congruent-message o n bits g g' (message_root t) s (whole-root t k)
        by verb k = congruent-cleared o n bits g g' s

    -- a write of a field
    pub congruent-field : (verb : Verb) (b b' : Body) → SameBody o n bits b b' → IsWrite verb → IsWholeVerb verb → Congruent bits (put_field o verb b) (put_field n verb b')
    congruent-field verb b b' same_void w h = no_change bits
    congruent-field verb b b' (same_plain' {p = p} {q = q} {at = at} {d = d} r le small) w h =
        put_plain p q at d _ _ r le (plain_same verb p q at d r w) (contents_fit o (plain_slot p at d) small verb (in_range verb w h))
    congruent-field verb b b' (same_pointer {i = i} {ty = ty} {ty' = ty'} {d = d} {d' = d'} r e k) w h = put_pointer i ty ty' d d' _ _ (slot_same verb i ty ty' d d' r w h)
    congruent-field verb b b' (same_group {g = g} {g' = g'} s) w h = group_same verb g g' (same_group s) h

  -- ---- elements

  element_same : (verb : Verb) (ty ty' : Ty) → Same ty ty' → IsWrite verb → IsWholeVerb verb → SameContent (element_content o verb ty) (element_content n verb ty')
  element_same get ty ty' r w h = absurd w
  element_same (set_to v) ty ty' related_untyped w h = tt
  element_same (set_to v) ty ty' related_interface w h = tt
  element_same (set_to v) ty ty' related_void w h = value_same v void void related_void h
  element_same (set_to v) ty ty' (related_plain' {p = p} {q = q} r) w h = value_same v (plain p) (plain q) (related_plain' r) h
  element_same (set_to v) ty ty' related_text w h = value_same v text text related_text h
  element_same (set_to v) ty ty' related_blob w h = value_same v blob blob related_blob h
  element_same (set_to v) ty ty' (related_struct {i = i} {j = j} r) w h = value_same v (struct i) (struct j) (related_struct r) h
  element_same (set_to v) ty ty' (related_list {a = a} {b = b} r) w h = value_same v (list a) (list b) (related_list r) h
  element_same init ty ty' r w h = tt
  element_same (initn k) ty ty' related_void w h = tt
  element_same (initn k) ty ty' (related_plain' r) w h = tt
  element_same (initn k) ty ty' related_text w h = initn_same k text text ExpectedAListOrBlob related_text
  element_same (initn k) ty ty' related_blob w h = initn_same k blob blob ExpectedAListOrBlob related_blob
  element_same (initn k) ty ty' related_untyped w h = tt
  element_same (initn k) ty ty' related_interface w h = tt
  element_same (initn k) ty ty' (related_struct r) w h = tt
  element_same (initn k) ty ty' (related_list {a = a} {b = b} r) w h = initn_same k (list a) (list b) ExpectedAListOrBlob (related_list r)
  element_same clear ty ty' r w h = tt

-- the bits within which an element is written
abbrev pub element_bits : Schema → Ty → ℕ
element_bits s (plain p) = width p
element_bits s (struct id) = 64 * words_of_shape (s.shape_of id)
element_bits s ty = 0

-- the content fits the element
abbrev pub FitsElement : Ty → Content → Type 0
FitsElement (plain p) (bits_of m) = m < 2 ^ width p
FitsElement (struct id) (object t) = ⊥
FitsElement _ _ = Unit {0}

fits_element : (s : Schema) (p : PlainType) (x : Content) → FitsSlot (plain_slot p 0 0) x → FitsElement (plain p) x
fits_element s p (refused_by k) h = tt
fits_element s p (bits_of m) h = h.0
fits_element s p (object t) h = tt

pub element-fits : (s : Schema) (verb : Verb) (ty : Ty) → IsWrite verb → IsWholeVerb verb → (is_set verb && is_struct_type ty) ≡ false → FitsElement ty (element_content s verb ty)
element-fits s get ty w h e = absurd w
element-fits s (set_to v) void w h e = tt
element-fits s (set_to v) (plain p) w h e = fits_element s p (plain_content p v) (contents_fit s (plain_slot p 0 0) (pow_pos (width p)) (set_to v) (in_range (set_to v) tt h))
element-fits s (set_to v) text w h e = tt
element-fits s (set_to v) blob w h e = tt
element-fits s (set_to v) untyped w h e = tt
element-fits s (set_to v) interface w h e = tt
element-fits s (set_to v) (struct id) w h e = absurd (cc e)
element-fits s (set_to v) (list ty) w h e = tt
element-fits s init (plain p) w h e = tt
element-fits s init (struct id) w h e = tt
element-fits s init ty w h e = tt
element-fits s (initn k) (plain p) w h e = tt
element-fits s (initn k) (struct id) w h e = tt
element-fits s (initn k) ty w h e = tt
element-fits s clear (plain p) w h e = tt
element-fits s clear (struct id) w h e = tt
element-fits s clear ty w h e = tt

module _ (o n : Schema) where
  put_object : (bits w p v q : ℕ) (ty ty' : Ty) (t u : Tree) → Related o n AnyPair ty ty' → FitsElement ty (object t) → Alike t u → Congruent bits (put_in_element w p ty (object t)) (put_in_element v q ty' (object u))
  put_object bits w p v q ty ty' t u related_void f s = λ c e same. agree-more 0 bits c _ _ (omega arith) (agree-put_child 0 t u c e s same)
  put_object bits w p v q ty ty' t u (related_plain' r) f s = λ c e same. agree-more 0 bits c _ _ (omega arith) (agree-put_child 0 t u c e s same)
  put_object bits w p v q ty ty' t u related_text f s = λ c e same. agree-more 0 bits c _ _ (omega arith) (agree-put_child 0 t u c e s same)
  put_object bits w p v q ty ty' t u related_blob f s = λ c e same. agree-more 0 bits c _ _ (omega arith) (agree-put_child 0 t u c e s same)
  put_object bits w p v q ty ty' t u related_untyped f s = λ c e same. agree-more 0 bits c _ _ (omega arith) (agree-put_child 0 t u c e s same)
  put_object bits w p v q ty ty' t u related_interface f s = λ c e same. agree-more 0 bits c _ _ (omega arith) (agree-put_child 0 t u c e s same)
  put_object bits w p v q ty ty' t u (related_struct r) f s = absurd f
  put_object bits w p v q ty ty' t u (related_list r) f s = λ c e same. agree-more 0 bits c _ _ (omega arith) (agree-put_child 0 t u c e s same)

  put_number : (w p v q : ℕ) (ty ty' : Ty) (m k : ℕ) → Related o n AnyPair ty ty' → FitsElement ty (bits_of m) → m ≡ k → Congruent (element_bits o ty) (put_in_element w p ty (bits_of m)) (put_in_element v q ty' (bits_of k))
  put_number w p v q ty ty' m k (related_plain' {p = x} {q = y} r) f s = λ c e same.
      subst (λ z. Agree (width x) c (put_bits 0 (width x) m c) (put_bits 0 z k e)) (width-same o n 0 r)
      (subst (λ z. Agree (width x) c (put_bits 0 (width x) m c) (put_bits 0 (width x) z e)) s (agree-put_bits (width x) 0 (width x) m c e f (omega arith) same))
  put_number w p v q ty ty' m k related_void f s = no_change 0
  put_number w p v q ty ty' m k related_text f s = no_change 0
  put_number w p v q ty ty' m k related_blob f s = no_change 0
  put_number w p v q ty ty' m k related_untyped f s = no_change 0
  put_number w p v q ty ty' m k related_interface f s = no_change 0
  put_number w p v q ty ty' m k (related_struct {i = i} r) f s = no_change (64 * words_of_shape (o.shape_of i))
  put_number w p v q ty ty' m k (related_list r) f s = no_change 0

  put_nothing : (bits w p v q : ℕ) (ty ty' : Ty) (k l : Kind) → Related o n AnyPair ty ty' → Congruent bits (put_in_element w p ty (refused_by k)) (put_in_element v q ty' (refused_by l))
  put_nothing bits w p v q ty ty' k l related_void = no_change bits
  put_nothing bits w p v q ty ty' k l (related_plain' r) = no_change bits
  put_nothing bits w p v q ty ty' k l related_text = no_change bits
  put_nothing bits w p v q ty ty' k l related_blob = no_change bits
  put_nothing bits w p v q ty ty' k l related_untyped = no_change bits
  put_nothing bits w p v q ty ty' k l related_interface = no_change bits
  put_nothing bits w p v q ty ty' k l (related_struct r) = no_change bits
  put_nothing bits w p v q ty ty' k l (related_list r) = no_change bits

  put_element : (w p v q : ℕ) (ty ty' : Ty) (x y : Content) → Related o n AnyPair ty ty' → FitsElement ty x → SameContent x y → Congruent (element_bits o ty) (put_in_element w p ty x) (put_in_element v q ty' y)
  put_element w p v q ty ty' (refused_by k) (refused_by l) r f s = put_nothing (element_bits o ty) w p v q ty ty' k l r
  put_element w p v q ty ty' (bits_of m) (bits_of k) r f s = put_number w p v q ty ty' m k r f s
  put_element w p v q ty ty' (object t) (object u) r f s = put_object (element_bits o ty) w p v q ty ty' t u r f s
  put_element w p v q ty ty' (refused_by k) (bits_of l) r f s = absurd s
  put_element w p v q ty ty' (refused_by k) (object u) r f s = absurd s
  put_element w p v q ty ty' (bits_of m) (refused_by l) r f s = absurd s
  put_element w p v q ty ty' (bits_of m) (object u) r f s = absurd s
  put_element w p v q ty ty' (object t) (refused_by l) r f s = absurd s
  put_element w p v q ty ty' (object t) (bits_of l) r f s = absurd s

  -- a write of an element
  pub congruent-element : (verb : Verb) (w p v q : ℕ) (ty ty' : Ty) → Related o n AnyPair ty ty' → IsWrite verb → IsWholeVerb verb → (is_set verb && is_struct_type ty) ≡ false
      → Congruent (element_bits o ty) (put_in_element w p ty (element_content o verb ty)) (put_in_element v q ty' (element_content n verb ty'))
  congruent-element verb w p v q ty ty' r k h e = put_element w p v q ty ty' _ _ r (element-fits o verb ty k h e) (element_same o n verb ty ty' r k h)
