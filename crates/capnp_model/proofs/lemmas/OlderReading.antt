-- The record under the older schema is the older view of the record under the newer.
use Rattle.std.proofs.Common.{◌≡◌, ℕ, zero, suc, List, [], ◌∷◌, Option, Bool, true, false, ◌==◌, length, take, slice_index, if◌then◌else◌, refl, sym, ◌∙◌, ap}
use Rattle.std.specs.Str.{bytes_eq}
use lib.Bits.{bit_xor}
use Rattle.capnp_model.specs.Trees.{Tree, null, capability, structure, plain_list, pointer_list, struct_list, Trees, none, ◌▸◌, Elements, no_elements, element, plain_elements, size_bits}
use Rattle.capnp_model.specs.Sections.{bits_at}
use Rattle.capnp_model.specs.Schemas.{PlainType, bool, int, uint, «enum», width, Ty, void, plain, text, blob, untyped, interface, struct, list, Shape, shape, Fields, no_fields, field, Body, void_slot, plain_slot, pointer_slot, group_slot, Schema, default_or_null}
use Rattle.capnp_model.specs.Readings.{expected_size, is_accepted_as, Reading, fault, number, record_as, Readings, ◌▹◌, Record, entry, Children, no_children, only_child, Extent, whole_words, just_bits, field_bits, discriminant, is_active, only_if, shape_record, fields_of, body_of, is_list_of, element_as, list_reading, read, read_child, pointer_elements, struct_elements, text_reading, text_of, blob_of, capability_reading, struct_reading, plain_list_reading, other_list_reading, plain_readings}
use Rattle.capnp_model.specs.Kinds.{WrongElementSize, TextWithoutZeroByte}
use Rattle.capnp_model.specs.Printing.{As, as_type, as_body, fields_in}
use Rattle.capnp_model.specs.Projection.{project, project_items, project_fields}

pub data SamePlain : PlainType → PlainType → Type 0 where
  same_bool : SamePlain bool bool
  same_int : (w : ℕ) → SamePlain (int w) (int w)
  same_uint : (w : ℕ) → SamePlain (uint w) (uint w)
  same_enum : (i j : ℕ) → SamePlain («enum» i) («enum» j)

module _ (o n : Schema) (R : ℕ → ℕ → Type 0) where
  pub data Related : Ty → Ty → Type 0 where
    related_void : Related void void
    related_plain' : {p q : PlainType} → SamePlain p q → Related (plain p) (plain q)
    related_text : Related text text
    related_blob : Related blob blob
    related_untyped : Related untyped untyped
    related_interface : Related interface interface
    related_struct : {i j : ℕ} → R i j → Related (struct i) (struct j)
    related_list : {a b : Ty} → Related a b → Related (list a) (list b)

  -- a field of the older is active under both unions alike
  abbrev pub SameActive : Option ℕ → Option ℕ → Option ℕ → Type 0
  SameActive u u' m = (size : Extent) (section : ℕ) → is_active m (discriminant u size section) ≡ is_active m (discriminant u' size section)

  abbrev pub IsAbsent : List ℕ → Fields → Type 0
  IsAbsent l no_fields = Unit {0}
  IsAbsent l (field k m b fs) = bytes_eq k l ≡ false

  mutual
    pub data KeptShape : Shape → Shape → Type 0 where
      kept : {nid nid' w p w' p' : ℕ} {u u' : Option ℕ} {fs fs' : Fields} → KeptFields u u' fs fs' → KeptShape (shape nid w p u fs) (shape nid' w' p' u' fs')

    pub data KeptFields : Option ℕ → Option ℕ → Fields → Fields → Type 0 where
      kept_all : {u u' : Option ℕ} → KeptFields u u' no_fields no_fields
      kept_added : {u u' : Option ℕ} {fs fs' : Fields} {l : List ℕ} {m : Option ℕ} {b : Body} → IsAbsent l fs → KeptFields u u' fs fs' → KeptFields u u' fs (field l m b fs')
      kept_field : {u u' : Option ℕ} {fs fs' : Fields} {l l' : List ℕ} {m : Option ℕ} {b b' : Body} → bytes_eq l l' ≡ true → SameActive u u' m → KeptBody b b' → KeptFields u u' fs fs' → KeptFields u u' (field l m b fs) (field l' m b' fs')

    pub data KeptBody : Body → Body → Type 0 where
      kept_void : {j : ℕ} → KeptBody (void_slot j) (void_slot j)
      kept_plain : {p q : PlainType} {at d : ℕ} → SamePlain p q → KeptBody (plain_slot p at d) (plain_slot q at d)
      kept_pointer : {i : ℕ} {ty ty' : Ty} {d d' : Option Tree} → Related ty ty' → KeptBody (pointer_slot i ty d) (pointer_slot i ty' d')
      kept_group : {g g' : Shape} → KeptShape g g' → KeptBody (group_slot g) (group_slot g')

  abbrev pub KidsAgree : Children → Children → Type 0
  KidsAgree ko kn = (i : ℕ) (ty ty' : Ty) (d : Tree) → Related ty ty' → ko i ty ≡ project o (as_type ty d) (kn i ty')

  same_width : {p q : PlainType} → SamePlain p q → width p ≡ width q
  same_width same_bool = refl
  same_width (same_int w) = refl
  same_width (same_uint w) = refl
  same_width (same_enum i j) = refl

  project-only_if : (b : Bool) (body : Body) (r : Reading) → project o (as_body body) (only_if b r) ≡ only_if b (project o (as_body body) r)
  unfolding project
  project-only_if true body r = refl
  project-only_if false body r = refl

  skip_added : (l : List ℕ) (fs : Fields) (r : Reading) (rest : Record) → IsAbsent l fs → project_fields o fs rest ≡ project_fields o fs (entry l r rest)
  unfolding project
  skip_added l no_fields r rest h = refl
  skip_added l (field k m b fs) r rest h =
      ap (λ c. elim c as (λ (x : Bool). Record) [ true ↦ entry k (project o (as_body b) r) (project_fields o fs rest) | false ↦ project_fields o (field k m b fs) rest ]) (sym h)

  take_shared : (l l' : List ℕ) (m : Option ℕ) (b : Body) (fs : Fields) (r : Reading) (rest : Record) → bytes_eq l l' ≡ true → entry l (project o (as_body b) r) (project_fields o fs rest) ≡ project_fields o (field l m b fs) (entry l' r rest)
  unfolding project
  take_shared l l' m b fs r rest h =
      ap (λ c. elim c as (λ (x : Bool). Record) [ true ↦ entry l (project o (as_body b) r) (project_fields o fs rest) | false ↦ project_fields o (field l m b fs) rest ]) (sym h)

  mutual
    unfolding shape_record project

    pub shape_record-project : (g g' : Shape) (size : Extent) (section : ℕ) (ko kn : Children) → KidsAgree ko kn → KeptShape g g' → shape_record g size section ko ≡ project_fields o (fields_in g) (shape_record g' size section kn)
    shape_record-project g g' size section ko kn agree (kept {u = u} {u' = u'} {fs = fs} {fs' = fs'} h) = fields_of-project u u' fs fs' size section ko kn agree h

    pub fields_of-project : (u u' : Option ℕ) (fs fs' : Fields) (size : Extent) (section : ℕ) (ko kn : Children) → KidsAgree ko kn → KeptFields u u' fs fs'
        → fields_of fs (discriminant u size section) size section ko ≡ project_fields o fs (fields_of fs' (discriminant u' size section) size section kn)
    fields_of-project u u' fs fs' size section ko kn agree kept_all = refl
    fields_of-project u u' fs fs' size section ko kn agree (kept_added {fs' = rest} {l = l} {m = m} {b = b} absent h) =
        fields_of-project u u' fs rest size section ko kn agree h ∙ skip_added l fs (only_if (is_active m (discriminant u' size section)) (body_of b size section kn)) _ absent
    fields_of-project u u' fs fs' size section ko kn agree (kept_field {fs = gs} {fs' = gs'} {l = l} {l' = l'} {m = m} {b = b} {b' = b'} same active body h) =
        let is : Bool = is_active m (discriminant u size section) in
        let is' : Bool = is_active m (discriminant u' size section) in
        let reads = body_of-project b b' size section ko kn agree body in
        let rest = fields_of-project u u' gs gs' size section ko kn agree h in
        let one : only_if is (body_of b size section ko) ≡ project o (as_body b) (only_if is' (body_of b' size section kn)) =
        ap (only_if is) reads ∙ ap (λ c. only_if c (project o (as_body b) (body_of b' size section kn))) (active size section) ∙ sym (project-only_if is' b (body_of b' size section kn)) in
        ap (λ r. entry l r (fields_of gs (discriminant u size section) size section ko)) one
        ∙ ap (entry l (project o (as_body b) (only_if is' (body_of b' size section kn)))) rest
        ∙ take_shared l l' m b gs (only_if is' (body_of b' size section kn)) _ same

    pub body_of-project : (b b' : Body) (size : Extent) (section : ℕ) (ko kn : Children) → KidsAgree ko kn → KeptBody b b' → body_of b size section ko ≡ project o (as_body b) (body_of b' size section kn)
    body_of-project b b' size section ko kn agree kept_void = refl
    body_of-project b b' size section ko kn agree (kept_plain {at = at} {d = d} same) = ap (λ w. number (bit_xor (field_bits size section at w) d)) (same_width same)
    body_of-project b b' size section ko kn agree (kept_pointer {i = i} {ty = ty} {ty' = ty'} {d = d} h) = agree i ty ty' (default_or_null d) h
    body_of-project b b' size section ko kn agree (kept_group {g = g} {g' = g'} h) = ap record_as (shape_record-project g g' size section ko kn agree h)

  -- ---- lists and pointers

  module _ (closed : (i j : ℕ) → R i j → KeptShape (o.shape_of i) (n.shape_of j)) where
    element_as-project : (ty ty' : Ty) (d : Tree) (size : Extent) (section : ℕ) (ko kn : Children) → KidsAgree ko kn → Related ty ty'
        → element_as o ty size section ko ≡ project o (as_type ty d) (element_as n ty' size section kn)
    unfolding project
    element_as-project ty ty' d size section ko kn agree related_void = refl
    element_as-project ty ty' d size section ko kn agree (related_plain' same) = ap (λ w. number (bits_at 0 w section)) (same_width same)
    element_as-project ty ty' d size section ko kn agree related_text = agree 0 text text d related_text
    element_as-project ty ty' d size section ko kn agree related_blob = agree 0 blob blob d related_blob
    element_as-project ty ty' d size section ko kn agree related_untyped = agree 0 untyped untyped d related_untyped
    element_as-project ty ty' d size section ko kn agree related_interface = agree 0 interface interface d related_interface
    element_as-project ty ty' d size section ko kn agree (related_struct {i = i} {j = j} r) = ap record_as (shape_record-project (o.shape_of i) (n.shape_of j) size section ko kn agree (closed i j r))
    element_as-project ty ty' d size section ko kn agree (related_list {a = a} {b = b} h) = agree 0 (list a) (list b) d (related_list h)

    pub no_children_agree : KidsAgree no_children no_children
    unfolding project
    no_children_agree i ty ty' d h = refl

    only_child_agree : (ro rn : Ty → Reading) → ((ty ty' : Ty) (d : Tree) → Related ty ty' → ro ty ≡ project o (as_type ty d) (rn ty')) → KidsAgree (only_child ro) (only_child rn)
    unfolding project
    only_child_agree ro rn h zero ty ty' d r = h ty ty' d r
    only_child_agree ro rn h (suc i) ty ty' d r = refl

    plain_readings-project : (size : ℕ) (xs : List ℕ) (ty ty' : Ty) → Related ty ty' → plain_readings o size xs ty ≡ project_items o (as_type ty null) (plain_readings n size xs ty')
    unfolding project
    plain_readings-project size [] ty ty' h = refl
    plain_readings-project size (x ∷ xs) ty ty' h =
        ap (λ r. r ▹ plain_readings o size xs ty) (element_as-project ty ty' null (just_bits size) x no_children no_children no_children_agree h)
        ∙ ap (λ rs. project o (as_type ty null) (element_as n ty' (just_bits size) x no_children) ▹ rs) (plain_readings-project size xs ty ty' h)

    same_sizes : (ty ty' : Ty) → Related ty ty' → expected_size ty ≡ expected_size ty'
    same_sizes ty ty' related_void = refl
    same_sizes ty ty' (related_plain' same_bool) = refl
    same_sizes ty ty' (related_plain' (same_int w)) = refl
    same_sizes ty ty' (related_plain' (same_uint w)) = refl
    same_sizes ty ty' (related_plain' (same_enum i j)) = refl
    same_sizes ty ty' related_text = refl
    same_sizes ty ty' related_blob = refl
    same_sizes ty ty' related_untyped = refl
    same_sizes ty ty' related_interface = refl
    same_sizes ty ty' (related_struct r) = refl
    same_sizes ty ty' (related_list h) = refl

    same_lists : (t : Tree) (ty ty' : Ty) → Related ty ty' → is_list_of t ty ≡ is_list_of t ty'
    same_lists t ty ty' h = ap (λ n. is_accepted_as n t) (same_sizes ty ty' h)

    list_reading-project : (b : Bool) (ty : Ty) (d : Tree) (rs : Readings) → list_reading b (project_items o (as_type ty null) rs) ≡ project o (as_type (list ty) d) (list_reading b rs)
    unfolding project
    list_reading-project true ty d rs = refl
    list_reading-project false ty d rs = refl

    lists_agree : (t : Tree) (ty ty' : Ty) (d : Tree) (ro rn : Readings) → Related ty ty' → ro ≡ project_items o (as_type ty null) rn
        → list_reading (is_list_of t ty) ro ≡ project o (as_type (list ty) d) (list_reading (is_list_of t ty') rn)
    lists_agree t ty ty' d ro rn h e =
        ap (λ b. list_reading b ro) (same_lists t ty ty' h) ∙ ap (list_reading (is_list_of t ty')) e ∙ list_reading-project (is_list_of t ty') ty d rn

    text_or_fault : (d : Tree) (b : Bool) (bs : List ℕ) → (if b then text_of bs else fault TextWithoutZeroByte) ≡ project o (as_type text d) (if b then text_of bs else fault TextWithoutZeroByte)
    unfolding project
    text_or_fault d true bs = refl
    text_or_fault d false bs = refl

    text_stays : (d : Tree) (xs : List ℕ) → text_reading xs ≡ project o (as_type text d) (text_reading xs)
    unfolding project
    text_stays d [] = refl
    text_stays d (x ∷ xs) = text_or_fault d (slice_index (x ∷ xs) (length xs) == 0) (take (length xs) (x ∷ xs))

    bytes_stay : (how : As) (b : Bool) (r : Reading) → r ≡ project o how r → (if b then r else fault WrongElementSize) ≡ project o how (if b then r else fault WrongElementSize)
    unfolding project
    bytes_stay how true r h = h
    bytes_stay how false r h = refl

    capability_reading-project : (k : ℕ) (ty ty' : Ty) (d : Tree) → Related ty ty' → capability_reading k ty ≡ project o (as_type ty d) (capability_reading k ty')
    unfolding project
    capability_reading-project k ty ty' d related_void = refl
    capability_reading-project k ty ty' d (related_plain' same) = refl
    capability_reading-project k ty ty' d related_text = refl
    capability_reading-project k ty ty' d related_blob = refl
    capability_reading-project k ty ty' d related_untyped = refl
    capability_reading-project k ty ty' d related_interface = refl
    capability_reading-project k ty ty' d (related_struct r) = refl
    capability_reading-project k ty ty' d (related_list h) = refl

    struct_reading-project : (t : Tree) (section : ℕ) (ko kn : Children) → KidsAgree ko kn → (ty ty' : Ty) (d : Tree) → Related ty ty'
        → struct_reading o t section ko ty ≡ project o (as_type ty d) (struct_reading n t section kn ty')
    unfolding project
    struct_reading-project t section ko kn agree ty ty' d related_void = refl
    struct_reading-project t section ko kn agree ty ty' d (related_plain' same) = refl
    struct_reading-project t section ko kn agree ty ty' d related_text = refl
    struct_reading-project t section ko kn agree ty ty' d related_blob = refl
    struct_reading-project t section ko kn agree ty ty' d related_untyped = refl
    struct_reading-project t section ko kn agree ty ty' d related_interface = refl
    struct_reading-project t section ko kn agree ty ty' d (related_struct {i = i} {j = j} r) = ap record_as (shape_record-project (o.shape_of i) (n.shape_of j) whole_words section ko kn agree (closed i j r))
    struct_reading-project t section ko kn agree ty ty' d (related_list h) = refl

    plain_list_reading-project : (t : Tree) (size : ℕ) (xs : List ℕ) (ty ty' : Ty) (d : Tree) → Related ty ty' → plain_list_reading o t size xs ty ≡ project o (as_type ty d) (plain_list_reading n t size xs ty')
    unfolding project
    plain_list_reading-project t size xs ty ty' d related_void = refl
    plain_list_reading-project t size xs ty ty' d (related_plain' same) = refl
    plain_list_reading-project t size xs ty ty' d related_text = bytes_stay (as_type text d) (size == 2) (text_reading xs) (text_stays d xs)
    plain_list_reading-project t size xs ty ty' d related_blob = bytes_stay (as_type blob d) (size == 2) (blob_of xs) refl
    plain_list_reading-project t size xs ty ty' d related_untyped = refl
    plain_list_reading-project t size xs ty ty' d related_interface = refl
    plain_list_reading-project t size xs ty ty' d (related_struct r) = refl
    plain_list_reading-project t size xs ty ty' d (related_list {a = a} {b = b} h) = lists_agree t a b d _ _ h (plain_readings-project (size_bits size) xs a b h)

    other_list_reading-project : (t : Tree) (eo en : Ty → Readings) → ((ty ty' : Ty) → Related ty ty' → eo ty ≡ project_items o (as_type ty null) (en ty')) → (ty ty' : Ty) (d : Tree) → Related ty ty'
        → other_list_reading t eo ty ≡ project o (as_type ty d) (other_list_reading t en ty')
    unfolding project
    other_list_reading-project t eo en agree ty ty' d related_void = refl
    other_list_reading-project t eo en agree ty ty' d (related_plain' same) = refl
    other_list_reading-project t eo en agree ty ty' d related_text = refl
    other_list_reading-project t eo en agree ty ty' d related_blob = refl
    other_list_reading-project t eo en agree ty ty' d related_untyped = refl
    other_list_reading-project t eo en agree ty ty' d related_interface = refl
    other_list_reading-project t eo en agree ty ty' d (related_struct r) = refl
    other_list_reading-project t eo en agree ty ty' d (related_list {a = a} {b = b} h) = lists_agree t a b d (eo a) (en b) h (agree a b h)

    mutual
      unfolding read project

      -- the older view of a pointer
      pub read-project : (t : Tree) (ty ty' : Ty) (d : Tree) → Related ty ty' → read o t ty ≡ project o (as_type ty d) (read n t ty')
      read-project null ty ty' d h = refl
      read-project (capability k) ty ty' d h = capability_reading-project k ty ty' d h
      read-project (structure w section kids) ty ty' d h = struct_reading-project (structure w section kids) section (read_child o kids) (read_child n kids) (read_child-project kids) ty ty' d h
      read-project (plain_list size count section) ty ty' d h = plain_list_reading-project (plain_list size count section) size (plain_elements size count section) ty ty' d h
      read-project (pointer_list ts) ty ty' d h = other_list_reading-project (pointer_list ts) (pointer_elements o ts) (pointer_elements n ts) (pointer_elements-project ts) ty ty' d h
      read-project (struct_list w p es) ty ty' d h = other_list_reading-project (struct_list w p es) (struct_elements o es) (struct_elements n es) (struct_elements-project es) ty ty' d h

      pub read_child-project : (ts : Trees) → KidsAgree (read_child o ts) (read_child n ts)
      read_child-project none i ty ty' d h = refl
      read_child-project (t ▸ ts) zero ty ty' d h = read-project t ty ty' d h
      read_child-project (t ▸ ts) (suc i) ty ty' d h = read_child-project ts i ty ty' d h

      pub pointer_elements-project : (ts : Trees) (ty ty' : Ty) → Related ty ty' → pointer_elements o ts ty ≡ project_items o (as_type ty null) (pointer_elements n ts ty')
      pointer_elements-project none ty ty' h = refl
      pointer_elements-project (t ▸ ts) ty ty' h =
          ap (λ r. r ▹ pointer_elements o ts ty) (element_as-project ty ty' null (just_bits 0) 0 (only_child (read o t)) (only_child (read n t)) (only_child_agree (read o t) (read n t) (read-project t)) h)
          ∙ ap (λ rs. project o (as_type ty null) (element_as n ty' (just_bits 0) 0 (only_child (read n t))) ▹ rs) (pointer_elements-project ts ty ty' h)

      pub struct_elements-project : (es : Elements) (ty ty' : Ty) → Related ty ty' → struct_elements o es ty ≡ project_items o (as_type ty null) (struct_elements n es ty')
      struct_elements-project no_elements ty ty' h = refl
      struct_elements-project (element section kids es) ty ty' h =
          ap (λ r. r ▹ struct_elements o es ty) (element_as-project ty ty' null whole_words section (read_child o kids) (read_child n kids) (read_child-project kids) h)
          ∙ ap (λ rs. project o (as_type ty null) (element_as n ty' whole_words section (read_child n kids)) ▹ rs) (struct_elements-project es ty ty' h)
