-- What a call puts into a slot or an element reads, under the older schema, as the older view of what it reads as under the newer.
use Rattle.std.proofs.Common.{◌≡◌, ℕ, zero, suc, ◌*◌, true, if◌then◌else◌, Option, refl, sym, ◌∙◌, ap, arith}
use Rattle.std.specs.Prelude.{pos, negsuc}
use Rattle.capnp_model.specs.Kinds.{Kind, TypeMismatch, InitnIsOnlyValidForListTextOrDataFields, ExpectedAListOrBlob}
use Rattle.capnp_model.specs.Trees.{Tree, null, plain_list, pointer_list, struct_list, none, Elements, resized}
use Rattle.capnp_model.specs.Schemas.{PlainType, Ty, void, plain, text, blob, untyped, interface, struct, list, Shape, shape, void_slot, plain_slot, pointer_slot, Schema, default_or_null}
use Rattle.capnp_model.specs.Readings.{Reading, record_as, ◌▹◌, Children, whole_words, shape_record, read, read_child, struct_elements, is_list_of, list_reading, have_room}
use Rattle.capnp_model.specs.Printing.{as_type, as_body}
use Rattle.capnp_model.specs.Projection.{project}
use Rattle.capnp_model.specs.Calls.{CallValue, whole_number, truth, enumerant, text_value, blob_value, message, Verb, get, set_to, init, initn, clear, Content, refused_by, bits_of, object, plain_content, value_content, empty_struct, empty_elements, empty_structs, new_list, init_content, initn_content, element_content}
use Rattle.capnp_model.specs.Steps.{done, outcome_map, reading_after, at_field, at_element}
use Rattle.capnp_model.proofs.lemmas.OlderReading.{SamePlain, same_bool, same_int, same_uint, same_enum, Related, related_void, related_plain', related_text, related_blob, related_untyped, related_interface, related_struct, related_list, KeptShape, read-project}
use Rattle.capnp_model.proofs.lemmas.Paths.{nothing_in}
use Rattle.capnp_model_versions.specs.SameReplies.{IsWrite}

plain_is : (p q : PlainType) (v : CallValue) → SamePlain p q → plain_content p v ≡ plain_content q v
plain_is p q v same_bool = refl
plain_is p q v (same_int w) = refl
plain_is p q v (same_uint w) = refl
plain_is p q (whole_number (pos k)) (same_enum i j) = refl
plain_is p q (whole_number (negsuc k)) (same_enum i j) = refl
plain_is p q (truth b) (same_enum i j) = refl
plain_is p q (enumerant k) (same_enum i j) = refl
plain_is p q (text_value bs) (same_enum i j) = refl
plain_is p q (blob_value bs) (same_enum i j) = refl
plain_is p q (message t) (same_enum i j) = refl

-- ---- new structs read alike, whatever their sizes

new_struct : (s : Schema) (g g' : Shape) (i : ℕ) → read s (empty_struct g) (struct i) ≡ read s (empty_struct g') (struct i)
unfolding read
new_struct s (shape nid w p u fs) (shape nid' w' p' u' fs') i = ap (λ (kids : Children). record_as (shape_record (s.shape_of i) whole_words 0 kids)) (λ k j ty. (nothing_in s p j ty ∙ sym (nothing_in s p' j ty)) k)

new_elements : (s : Schema) (k p p' i : ℕ) → struct_elements s (empty_elements k p) (struct i) ≡ struct_elements s (empty_elements k p') (struct i)
unfolding read
new_elements s zero p p' i = refl
new_elements s (suc k) p p' i =
    ap (λ (kids : Children). record_as (shape_record (s.shape_of i) whole_words 0 kids) ▹ struct_elements s (empty_elements k p) (struct i)) (λ z j ty. (nothing_in s p j ty ∙ sym (nothing_in s p' j ty)) z)
    ∙ ap (λ rs. record_as (shape_record (s.shape_of i) whole_words 0 (read_child s (resized p' none))) ▹ rs) (new_elements s k p p' i)

takes_structs : (w p i : ℕ) (es : Elements) → is_list_of (struct_list w p es) (struct i) ≡ true
takes_structs w p i es = room w p
  where
    room : (w p : ℕ) → have_room (64 * w) p 7 ≡ true
    room w p = grind arith

new_structs : (s : Schema) (k : ℕ) (g g' : Shape) (i : ℕ) → read s (empty_structs g k) (list (struct i)) ≡ read s (empty_structs g' k) (list (struct i))
unfolding read
new_structs s k (shape nid w p u fs) (shape nid' w' p' u' fs') i =
    ap (λ b. list_reading b (struct_elements s (empty_elements k p) (struct i))) (takes_structs w p i (empty_elements k p) ∙ sym (takes_structs w' p' i (empty_elements k p')))
    ∙ ap (list_reading (is_list_of (struct_list w' p' (empty_elements k p')) (struct i))) (new_elements s k p p' i)

module _ (o n : Schema) (R : ℕ → ℕ → Type 0) (closed : (i j : ℕ) → R i j → KeptShape o n R (o.shape_of i) (n.shape_of j)) where
  lists_is : (t : Tree) (ty ty' : Ty) → Related o n R ty ty' → is_list_of t ty ≡ is_list_of t ty'
  lists_is t ty ty' related_void = refl
  lists_is t ty ty' (related_plain' same_bool) = refl
  lists_is t ty ty' (related_plain' (same_int w)) = refl
  lists_is t ty ty' (related_plain' (same_uint w)) = refl
  lists_is t ty ty' (related_plain' (same_enum i j)) = refl
  lists_is t ty ty' related_text = refl
  lists_is t ty ty' related_blob = refl
  lists_is t ty ty' related_untyped = refl
  lists_is t ty ty' related_interface = refl
  lists_is t ty ty' (related_struct r) = refl
  lists_is t ty ty' (related_list h) = refl

  value_is : (v : CallValue) (ty ty' : Ty) → Related o n R ty ty' → value_content v ty ≡ value_content v ty'
  value_is v ty ty' related_void = refl
  value_is v ty ty' (related_plain' {p = p} {q = q} same) = plain_is p q v same
  value_is v ty ty' related_text = refl
  value_is v ty ty' related_blob = refl
  value_is v ty ty' related_untyped = refl
  value_is v ty ty' related_interface = refl
  value_is (whole_number z) ty ty' (related_struct r) = refl
  value_is (truth b) ty ty' (related_struct r) = refl
  value_is (enumerant k) ty ty' (related_struct r) = refl
  value_is (text_value bs) ty ty' (related_struct r) = refl
  value_is (blob_value bs) ty ty' (related_struct r) = refl
  value_is (message t) ty ty' (related_struct r) = refl
  value_is (message t) ty ty' (related_list {a = a} {b = b} r) = ap (λ z. if z then object t else refused_by TypeMismatch) (lists_is t a b r)
  value_is (whole_number z) ty ty' (related_list r) = refl
  value_is (truth b) ty ty' (related_list r) = refl
  value_is (enumerant k) ty ty' (related_list r) = refl
  value_is (text_value bs) ty ty' (related_list r) = refl
  value_is (blob_value bs) ty ty' (related_list r) = refl

  -- the same content
  reads_view : (ty ty' : Ty) (d : Tree) (x : Content) → Related o n R ty ty' → reading_after o ty x ≡ outcome_map (project o (as_type ty d)) (reading_after n ty' x)
  unfolding project
  reads_view ty ty' d (refused_by k) r = refl
  reads_view ty ty' d (bits_of m) r = refl
  reads_view ty ty' d (object t) r = ap done (read-project o n R closed t ty ty' d r)

  reads_same : (ty ty' : Ty) (d : Tree) (x y : Content) → Related o n R ty ty' → x ≡ y → reading_after o ty x ≡ outcome_map (project o (as_type ty d)) (reading_after n ty' y)
  reads_same ty ty' d x y r e = ap (reading_after o ty) e ∙ reads_view ty ty' d y r

  -- a value of other sizes
  reads_other : (ty ty' : Ty) (d t u : Tree) → Related o n R ty ty' → read o t ty ≡ read o u ty → reading_after o ty (object t) ≡ outcome_map (project o (as_type ty d)) (reading_after n ty' (object u))
  reads_other ty ty' d t u r e = ap done (e ∙ read-project o n R closed u ty ty' d r)

  init_view : (ty ty' : Ty) (d : Tree) → Related o n R ty ty' → reading_after o ty (init_content o ty) ≡ outcome_map (project o (as_type ty d)) (reading_after n ty' (init_content n ty'))
  init_view ty ty' d (related_struct {i = i} {j = j} r) = reads_other (struct i) (struct j) d (empty_struct (o.shape_of i)) (empty_struct (n.shape_of j)) (related_struct r) (new_struct o (o.shape_of i) (n.shape_of j) i)
  init_view ty ty' d related_void = refl
  init_view ty ty' d (related_plain' same) = refl
  init_view ty ty' d related_text = refl
  init_view ty ty' d related_blob = refl
  init_view ty ty' d related_untyped = reads_view untyped untyped d (object null) related_untyped
  init_view ty ty' d related_interface = refl
  init_view ty ty' d (related_list r) = refl

  list_view : (k : ℕ) (a b : Ty) (d : Tree) → Related o n R a b → reading_after o (list a) (object (new_list o k a)) ≡ outcome_map (project o (as_type (list a) d)) (reading_after n (list b) (object (new_list n k b)))
  list_view k a b d (related_struct {i = i} {j = j} r) = reads_other (list (struct i)) (list (struct j)) d (empty_structs (o.shape_of i) k) (empty_structs (n.shape_of j) k) (related_list (related_struct r)) (new_structs o k (o.shape_of i) (n.shape_of j) i)
  list_view k a b d related_void = reads_view (list void) (list void) d (object (new_list o k void)) (related_list related_void)
  list_view k a b d (related_plain' {p = p} {q = q} same_bool) = reads_view (list (plain p)) (list (plain q)) d (object (new_list o k (plain p))) (related_list (related_plain' same_bool))
  list_view k a b d (related_plain' {p = p} {q = q} (same_int w)) = reads_view (list (plain p)) (list (plain q)) d (object (new_list o k (plain p))) (related_list (related_plain' (same_int w)))
  list_view k a b d (related_plain' {p = p} {q = q} (same_uint w)) = reads_view (list (plain p)) (list (plain q)) d (object (new_list o k (plain p))) (related_list (related_plain' (same_uint w)))
  list_view k a b d (related_plain' {p = p} {q = q} (same_enum i j)) = reads_view (list (plain p)) (list (plain q)) d (object (new_list o k (plain p))) (related_list (related_plain' (same_enum i j)))
  list_view k a b d related_text = reads_view (list text) (list text) d (object (pointer_list (resized k none))) (related_list related_text)
  list_view k a b d related_blob = reads_view (list blob) (list blob) d (object (pointer_list (resized k none))) (related_list related_blob)
  list_view k a b d related_untyped = reads_view (list untyped) (list untyped) d (object (pointer_list (resized k none))) (related_list related_untyped)
  list_view k a b d related_interface = reads_view (list interface) (list interface) d (object (pointer_list (resized k none))) (related_list related_interface)
  list_view k x y d (related_list {a = a} {b = b} r) = reads_view (list (list a)) (list (list b)) d (object (pointer_list (resized k none))) (related_list (related_list r))

  initn_view : (k : ℕ) (ty ty' : Ty) (d : Tree) (x : Kind) → Related o n R ty ty' → reading_after o ty (initn_content o k ty x) ≡ outcome_map (project o (as_type ty d)) (reading_after n ty' (initn_content n k ty' x))
  initn_view k ty ty' d x related_void = refl
  initn_view k ty ty' d x (related_plain' same) = refl
  initn_view k ty ty' d x related_text = reads_view text text d (object (plain_list 2 (suc k) 0)) related_text
  initn_view k ty ty' d x related_blob = reads_view blob blob d (object (plain_list 2 k 0)) related_blob
  initn_view k ty ty' d x related_untyped = refl
  initn_view k ty ty' d x related_interface = refl
  initn_view k ty ty' d x (related_struct r) = refl
  initn_view k ty ty' d x (related_list {a = a} {b = b} r) = list_view k a b d r

  -- ---- slots and elements

  pub pointer-view : (verb : Verb) (i j : ℕ) (ty ty' : Ty) (d d' : Option Tree) (r r' : Reading) → Related o n R ty ty' → IsWrite verb → at_field o verb (pointer_slot i ty d) r ≡ outcome_map (project o (as_body (pointer_slot i ty d))) (at_field n verb (pointer_slot j ty' d') r')
  pointer-view get i j ty ty' d d' r r' h w = absurd w
  pointer-view (set_to v) i j ty ty' d d' r r' h w = reads_same ty ty' (default_or_null d) (value_content v ty) (value_content v ty') h (value_is v ty ty' h)
  pointer-view init i j ty ty' d d' r r' h w = init_view ty ty' (default_or_null d) h
  pointer-view (initn k) i j ty ty' d d' r r' h w = initn_view k ty ty' (default_or_null d) InitnIsOnlyValidForListTextOrDataFields h
  pointer-view clear i j ty ty' d d' r r' h w = reads_view ty ty' (default_or_null d) (object null) h

  pub plain-view : (verb : Verb) (p q : PlainType) (at d at' d' : ℕ) (r r' : Reading) → SamePlain p q → d ≡ d' → IsWrite verb → at_field o verb (plain_slot p at d) r ≡ outcome_map (project o (as_body (plain_slot p at d))) (at_field n verb (plain_slot q at' d') r')
  plain-view get p q at d at' d' r r' h e w = absurd w
  plain-view (set_to v) p q at d at' d' r r' h e w = reads_same (plain p) (plain q) null (plain_content p v) (plain_content q v) (related_plain' h) (plain_is p q v h)
  plain-view init p q at d at' d' r r' h e w = refl
  plain-view (initn k) p q at d at' d' r r' h e w = refl
  plain-view clear p q at d at' d' r r' h e w = reads_same (plain p) (plain q) null (bits_of d) (bits_of d') (related_plain' h) (ap bits_of e)

  pub void-view : (verb : Verb) (i j : ℕ) (r r' : Reading) → IsWrite verb → at_field o verb (void_slot i) r ≡ outcome_map (project o (as_body (void_slot i))) (at_field n verb (void_slot j) r')
  unfolding project
  void-view get i j r r' w = absurd w
  void-view (set_to v) i j r r' w = refl
  void-view init i j r r' w = refl
  void-view (initn k) i j r r' w = refl
  void-view clear i j r r' w = refl

  element_set : (v : CallValue) (ty ty' : Ty) → Related o n R ty ty' → element_content o (set_to v) ty ≡ element_content n (set_to v) ty'
  element_set v ty ty' related_void = refl
  element_set v ty ty' (related_plain' {p = p} {q = q} same) = plain_is p q v same
  element_set v ty ty' related_text = refl
  element_set v ty ty' related_blob = refl
  element_set v ty ty' related_untyped = refl
  element_set v ty ty' related_interface = refl
  element_set v ty ty' (related_struct {i = i} {j = j} r) = value_is v (struct i) (struct j) (related_struct r)
  element_set v ty ty' (related_list {a = a} {b = b} r) = value_is v (list a) (list b) (related_list r)

  element_initn : (k : ℕ) (ty ty' : Ty) → Related o n R ty ty' → reading_after o ty (element_content o (initn k) ty) ≡ outcome_map (project o (as_type ty null)) (reading_after n ty' (element_content n (initn k) ty'))
  element_initn k ty ty' related_untyped = refl
  element_initn k ty ty' related_void = refl
  element_initn k ty ty' (related_plain' same) = refl
  element_initn k ty ty' related_text = initn_view k text text null ExpectedAListOrBlob related_text
  element_initn k ty ty' related_blob = initn_view k blob blob null ExpectedAListOrBlob related_blob
  element_initn k ty ty' related_interface = refl
  element_initn k ty ty' (related_struct r) = refl
  element_initn k ty ty' (related_list {a = a} {b = b} r) = initn_view k (list a) (list b) null ExpectedAListOrBlob (related_list r)

  pub element-view : (verb : Verb) (ty ty' : Ty) (r r' : Reading) → Related o n R ty ty' → IsWrite verb → at_element o verb ty r ≡ outcome_map (project o (as_type ty null)) (at_element n verb ty' r')
  element-view get ty ty' r r' h w = absurd w
  element-view (set_to v) ty ty' r r' h w = reads_same ty ty' null (element_content o (set_to v) ty) (element_content n (set_to v) ty') h (element_set v ty ty' h)
  element-view init ty ty' r r' h w = refl
  element-view (initn k) ty ty' r r' h w = element_initn k ty ty' h
  element-view clear ty ty' r r' h w = refl
