-- Readings with the names of an older schema: what is read in a newer one's words is so what is read in the older's.
use Rattle.std.proofs.Common.{◌≡◌, ℕ, zero, suc, Bool, true, false, if◌then◌else◌, ◌==◌, length, take, slice_index, List, [], ◌∷◌, Option, refl, sym, ◌∙◌, ap}
use Rattle.std.specs.Str.{bytes_eq}
use Rattle.capnp_model.specs.Kinds.{Kind, WrongElementSize, TextWithoutZeroByte}
use Rattle.capnp_model.specs.Trees.{Tree, null, capability, structure, plain_list, pointer_list, struct_list, Trees, none, ◌▸◌, Elements, no_elements, element, size_bits, plain_elements}
use Rattle.capnp_model.specs.Schemas.{Ty, void, plain, text, blob, untyped, interface, struct, list, Shape, shape, id_of_shape, Fields, no_fields, field, Body, void_slot, plain_slot, pointer_slot, group_slot, Schema, default_or_null}
use Rattle.capnp_model.specs.Partners.{Renaming, partner_name, renamed_shape, renamed_fields, renamed_body, renamed}
use Rattle.capnp_model.specs.Readings.{Reading, inactive, null_pointer, fault, number, text_of, blob_of, list_of, record_as, opaque, Readings, no_readings, ◌▹◌, Record, no_more, entry, Children, no_children, only_child, Extent, whole_words, just_bits, discriminant, is_active, only_if, shape_record, fields_of, body_of, is_list_of, element_as, text_reading, list_reading, plain_readings, read, read_child, pointer_elements, struct_elements, record_by_shape, record_of}
use Rattle.capnp_model.specs.Printing.{As, as_type, as_group, as_body, fields_in, shape_as, element_type, type_of_as}
use Rattle.capnp_model.specs.Projection.{project, project_items, project_fields, projected}
use Rattle.capnp_model_versions.specs.RenamedViews.{project_with, project_items_with, project_fields_with, projected_with}
use Rattle.capnp_model_versions.proofs.RenamedWrites.{shape-is}

unfoldable mutual
  -- a reading with the names of a schema's fields
  pub named : Schema → As → Reading → Reading
  named o how (record_as r) = record_as (named_fields o (shape_as o how) r)
  named o how (list_of xs) = list_of (named_items o (as_type (element_type (type_of_as how)) null) xs)
  named o how inactive = inactive
  named o how null_pointer = null_pointer
  named o how (fault k) = fault k
  named o how (number n) = number n
  named o how (text_of bs) = text_of bs
  named o how (blob_of bs) = blob_of bs
  named o how (opaque t) = opaque t

  pub named_items : Schema → As → Readings → Readings
  named_items o how no_readings = no_readings
  named_items o how (x ▹ xs) = named o how x ▹ named_items o how xs

  pub named_fields : Schema → Fields → Record → Record
  named_fields o no_fields r = no_more
  named_fields o (field l m b fs) no_more = no_more
  named_fields o (field l m b fs) (entry n x rest) = entry l (named o (as_body b) x) (named_fields o fs rest)

module _ (rs : List Renaming) (o : Schema) where
  abbrev o' : Schema
  o' = renamed rs o

  -- ---- views

  abbrev as' : As → As
  as' (as_type ty d) = as_type ty d
  as' (as_group g) = as_group (renamed_shape rs g)

  as_same : (b : Body) → as_body (renamed_body rs b) ≡ as' (as_body b)
  as_same (void_slot j) = refl
  as_same (plain_slot p at d) = refl
  as_same (pointer_slot i ty d) = refl
  as_same (group_slot g) = refl

  abbrev FieldsAre : Record → Type 0
  FieldsAre r = (nid : ℕ) (fs : Fields) → named_fields o fs (project_fields o' (renamed_fields rs nid fs) r) ≡ project_fields_with rs o nid fs r

  in_shape : (g : Shape) (r : Record) → FieldsAre r → named_fields o (fields_in g) (project_fields o' (fields_in (renamed_shape rs g)) r) ≡ project_fields_with rs o (id_of_shape g) (fields_in g) r
  in_shape (shape nid w p u fs) r h = h nid fs

  record_view : (how : As) (r : Record) → FieldsAre r → named o how (project o' (as' how) (record_as r)) ≡ project_with rs o how (record_as r)
  unfolding named project project_with
  record_view (as_group g) r h = ap record_as (in_shape g r h)
  record_view (as_type (struct i) d) r h = ap (λ (g : Shape). record_as (named_fields o (fields_in (o.shape_of i)) (project_fields o' (fields_in g) r))) (shape-is rs o i) ∙ ap record_as (in_shape (o.shape_of i) r h)
  record_view (as_type void d) r h = refl
  record_view (as_type (plain p) d) r h = refl
  record_view (as_type text d) r h = refl
  record_view (as_type blob d) r h = refl
  record_view (as_type untyped d) r h = refl
  record_view (as_type interface d) r h = refl
  record_view (as_type (list ty) d) r h = refl

  mutual
    unfolding named project project_with

    view : (how : As) (x : Reading) → named o how (project o' (as' how) x) ≡ project_with rs o how x
    view how (record_as r) = record_view how r (λ nid fs. fields nid fs r)
    view (as_type ty d) (list_of xs) = ap list_of (items (as_type (element_type ty) null) xs)
    view (as_group g) (list_of xs) = ap list_of (items (as_type void null) xs)
    view how inactive = refl
    view how null_pointer = refl
    view how (fault k) = refl
    view how (number n) = refl
    view how (text_of bs) = refl
    view how (blob_of bs) = refl
    view how (opaque t) = refl

    items : (how : As) (xs : Readings) → named_items o how (project_items o' (as' how) xs) ≡ project_items_with rs o how xs
    items how no_readings = refl
    items how (x ▹ xs) = ap (λ y. y ▹ named_items o how (project_items o' (as' how) xs)) (view how x) ∙ ap (λ ys. project_with rs o how x ▹ ys) (items how xs)

    fields : (nid : ℕ) (fs : Fields) (r : Record) → named_fields o fs (project_fields o' (renamed_fields rs nid fs) r) ≡ project_fields_with rs o nid fs r
    fields nid no_fields r = refl
    fields nid (field l m b fs) no_more = refl
    fields nid (field l m b fs) (entry n x rest) = by (bytes_eq (partner_name rs nid l) n) (view (as_body b) x) (fields nid fs rest) (fields nid (field l m b fs) rest)
      where
        by : (c : Bool) → named o (as_body b) (project o' (as' (as_body b)) x) ≡ project_with rs o (as_body b) x
            → named_fields o fs (project_fields o' (renamed_fields rs nid fs) rest) ≡ project_fields_with rs o nid fs rest
            → named_fields o (field l m b fs) (project_fields o' (renamed_fields rs nid (field l m b fs)) rest) ≡ project_fields_with rs o nid (field l m b fs) rest
            → named_fields o (field l m b fs)
            (elim c as (λ (z : Bool). Record) [ true ↦ entry (partner_name rs nid l) (project o' (as_body (renamed_body rs b)) x) (project_fields o' (renamed_fields rs nid fs) rest) | false ↦ project_fields o' (renamed_fields rs nid (field l m b fs)) rest ])
            ≡ (elim c as (λ (z : Bool). Record) [ true ↦ entry l (project_with rs o (as_body b) x) (project_fields_with rs o nid fs rest) | false ↦ project_fields_with rs o nid (field l m b fs) rest ])
        by true one shared added =
            ap (λ y. entry l y (named_fields o fs (project_fields o' (renamed_fields rs nid fs) rest))) (ap (λ (how : As). named o (as_body b) (project o' how x)) (as_same b) ∙ one)
            ∙ ap (entry l (project_with rs o (as_body b) x)) shared
        by false one shared added = added

  -- the older view with renamed fields is the view in the newer's words, by older names
  pub named-view : (id : ℕ) (r : Record) → named_fields o (fields_in (o.shape_of id)) (projected o' id r) ≡ projected_with rs o id r
  unfolding projected projected_with
  named-view id r = ap (λ (g : Shape). named_fields o (fields_in (o.shape_of id)) (project_fields o' (fields_in g) r)) (shape-is rs o id) ∙ in_shape (o.shape_of id) r (λ nid fs. fields nid fs r)

  -- ---- records

  abbrev KidsNamed : Children → Children → Type 0
  KidsNamed ko kn = (i : ℕ) (ty : Ty) (d : Tree) → named o (as_type ty d) (kn i ty) ≡ ko i ty

  no_kids : KidsNamed no_children no_children
  unfolding named
  no_kids i ty d = refl

  only_kid : (ro rn : Ty → Reading) → ((ty : Ty) (d : Tree) → named o (as_type ty d) (rn ty) ≡ ro ty) → KidsNamed (only_child ro) (only_child rn)
  unfolding named
  only_kid ro rn h zero ty d = h ty d
  only_kid ro rn h (suc i) ty d = refl

  if_active : (a : Bool) (how : As) (x y : Reading) → named o how x ≡ y → named o how (only_if a x) ≡ only_if a y
  unfolding named
  if_active true how x y h = h
  if_active false how x y h = refl

  module _ (size : Extent) (section : ℕ) (ko kn : Children) (agree : KidsNamed ko kn) where
    mutual
      unfolding named shape_record

      shape_named : (g : Shape) → named_fields o (fields_in g) (shape_record (renamed_shape rs g) size section kn) ≡ shape_record g size section ko
      shape_named (shape nid w p u fs) = fields_named nid fs (discriminant u size section)

      fields_named : (nid : ℕ) (fs : Fields) (e : Option ℕ) → named_fields o fs (fields_of (renamed_fields rs nid fs) e size section kn) ≡ fields_of fs e size section ko
      fields_named nid no_fields e = refl
      fields_named nid (field l m b fs) e =
          ap (λ y. entry l y (named_fields o fs (fields_of (renamed_fields rs nid fs) e size section kn))) (if_active (is_active m e) (as_body b) (body_of (renamed_body rs b) size section kn) (body_of b size section ko) (body_named b))
          ∙ ap (entry l (only_if (is_active m e) (body_of b size section ko))) (fields_named nid fs e)

      body_named : (b : Body) → named o (as_body b) (body_of (renamed_body rs b) size section kn) ≡ body_of b size section ko
      body_named (void_slot j) = refl
      body_named (plain_slot p at d) = refl
      body_named (pointer_slot i ty d) = agree i ty (default_or_null d)
      body_named (group_slot g) = ap record_as (shape_named g)

    struct_named : (i : ℕ) → named_fields o (fields_in (o.shape_of i)) (shape_record (o'.shape_of i) size section kn) ≡ shape_record (o.shape_of i) size section ko
    struct_named i = ap (λ (g : Shape). named_fields o (fields_in (o.shape_of i)) (shape_record g size section kn)) (shape-is rs o i) ∙ shape_named (o.shape_of i)

    element_named : (ty : Ty) (d : Tree) → named o (as_type ty d) (element_as o' ty size section kn) ≡ element_as o ty size section ko
    unfolding named
    element_named void d = refl
    element_named (plain p) d = refl
    element_named (struct i) d = ap record_as (struct_named i)
    element_named text d = agree 0 text d
    element_named blob d = agree 0 blob d
    element_named untyped d = agree 0 untyped d
    element_named interface d = agree 0 interface d
    element_named (list ty) d = agree 0 (list ty) d

  -- ---- lists and pointers

  list_named : (ty : Ty) (d : Tree) (b : Bool) (xs ys : Readings) → named_items o (as_type ty null) xs ≡ ys → named o (as_type (list ty) d) (list_reading b xs) ≡ list_reading b ys
  unfolding named
  list_named ty d true xs ys h = ap list_of h
  list_named ty d false xs ys h = refl

  if_named : (how : As) (b : Bool) (x : Reading) (k : Kind) → named o how x ≡ x → named o how (if b then x else fault k) ≡ (if b then x else fault k)
  unfolding named
  if_named how true x k h = h
  if_named how false x k h = refl

  text_named : (how : As) (bs : List ℕ) → named o how (text_reading bs) ≡ text_reading bs
  unfolding named
  text_named how [] = refl
  text_named how (b ∷ bs) = if_named how (slice_index (b ∷ bs) (length bs) == 0) (text_of (take (length bs) (b ∷ bs))) TextWithoutZeroByte refl

  blob_named : (how : As) (bs : List ℕ) → named o how (blob_of bs) ≡ blob_of bs
  unfolding named
  blob_named how bs = refl

  plain_named : (size : ℕ) (xs : List ℕ) (ty : Ty) → named_items o (as_type ty null) (plain_readings o' size xs ty) ≡ plain_readings o size xs ty
  unfolding named
  plain_named size [] ty = refl
  plain_named size (x ∷ xs) ty =
      ap (λ y. y ▹ named_items o (as_type ty null) (plain_readings o' size xs ty)) (element_named (just_bits size) x no_children no_children no_kids ty null)
      ∙ ap (λ ys. element_as o ty (just_bits size) x no_children ▹ ys) (plain_named size xs ty)

  mutual
    unfolding named read

    read_named : (t : Tree) (ty : Ty) (d : Tree) → named o (as_type ty d) (read o' t ty) ≡ read o t ty
    read_named null ty d = refl
    read_named (capability k) void d = refl
    read_named (capability k) (plain p) d = refl
    read_named (capability k) text d = refl
    read_named (capability k) blob d = refl
    read_named (capability k) untyped d = refl
    read_named (capability k) interface d = refl
    read_named (capability k) (struct i) d = refl
    read_named (capability k) (list ty) d = refl
    read_named (structure w n ts) void d = refl
    read_named (structure w n ts) (plain p) d = refl
    read_named (structure w n ts) text d = refl
    read_named (structure w n ts) blob d = refl
    read_named (structure w n ts) untyped d = refl
    read_named (structure w n ts) interface d = refl
    read_named (structure w n ts) (struct i) d = ap record_as (struct_named whole_words n (read_child o ts) (read_child o' ts) (λ j ty e. child_named ts j ty e) i)
    read_named (structure w n ts) (list ty) d = refl
    read_named (plain_list z n x) void d = refl
    read_named (plain_list z n x) (plain p) d = refl
    read_named (plain_list z n x) text d = if_named (as_type text d) (z == 2) (text_reading (plain_elements z n x)) WrongElementSize (text_named (as_type text d) (plain_elements z n x))
    read_named (plain_list z n x) blob d = if_named (as_type blob d) (z == 2) (blob_of (plain_elements z n x)) WrongElementSize (blob_named (as_type blob d) (plain_elements z n x))
    read_named (plain_list z n x) untyped d = refl
    read_named (plain_list z n x) interface d = refl
    read_named (plain_list z n x) (struct i) d = refl
    read_named (plain_list z n x) (list ty) d = list_named ty d (is_list_of (plain_list z n x) ty) _ _ (plain_named (size_bits z) (plain_elements z n x) ty)
    read_named (pointer_list ts) void d = refl
    read_named (pointer_list ts) (plain p) d = refl
    read_named (pointer_list ts) text d = refl
    read_named (pointer_list ts) blob d = refl
    read_named (pointer_list ts) untyped d = refl
    read_named (pointer_list ts) interface d = refl
    read_named (pointer_list ts) (struct i) d = refl
    read_named (pointer_list ts) (list ty) d = list_named ty d (is_list_of (pointer_list ts) ty) _ _ (pointers_named ts ty)
    read_named (struct_list w p es) void d = refl
    read_named (struct_list w p es) (plain q) d = refl
    read_named (struct_list w p es) text d = refl
    read_named (struct_list w p es) blob d = refl
    read_named (struct_list w p es) untyped d = refl
    read_named (struct_list w p es) interface d = refl
    read_named (struct_list w p es) (struct i) d = refl
    read_named (struct_list w p es) (list ty) d = list_named ty d (is_list_of (struct_list w p es) ty) _ _ (structs_named es ty)

    child_named : (ts : Trees) (i : ℕ) (ty : Ty) (d : Tree) → named o (as_type ty d) (read_child o' ts i ty) ≡ read_child o ts i ty
    child_named none i ty d = refl
    child_named (t ▸ ts) zero ty d = read_named t ty d
    child_named (t ▸ ts) (suc i) ty d = child_named ts i ty d

    pointers_named : (ts : Trees) (ty : Ty) → named_items o (as_type ty null) (pointer_elements o' ts ty) ≡ pointer_elements o ts ty
    pointers_named none ty = refl
    pointers_named (t ▸ ts) ty =
        ap (λ y. y ▹ named_items o (as_type ty null) (pointer_elements o' ts ty)) (element_named (just_bits 0) 0 (only_child (read o t)) (only_child (read o' t)) (only_kid (read o t) (read o' t) (λ e d. read_named t e d)) ty null)
        ∙ ap (λ ys. element_as o ty (just_bits 0) 0 (only_child (read o t)) ▹ ys) (pointers_named ts ty)

    structs_named : (es : Elements) (ty : Ty) → named_items o (as_type ty null) (struct_elements o' es ty) ≡ struct_elements o es ty
    structs_named no_elements ty = refl
    structs_named (element x ts es) ty =
        ap (λ y. y ▹ named_items o (as_type ty null) (struct_elements o' es ty)) (element_named whole_words x (read_child o ts) (read_child o' ts) (λ j e d. child_named ts j e d) ty null)
        ∙ ap (λ ys. element_as o ty whole_words x (read_child o ts) ▹ ys) (structs_named es ty)

  by_tree : (id : ℕ) (t : Tree) → named_fields o (fields_in (o.shape_of id)) (record_by_shape o' (o'.shape_of id) t) ≡ record_by_shape o (o.shape_of id) t
  unfolding record_by_shape
  by_tree id (structure w n ts) = struct_named whole_words n (read_child o ts) (read_child o' ts) (λ j ty d. child_named ts j ty d) id
  by_tree id null = struct_named whole_words 0 no_children no_children no_kids id
  by_tree id (capability i) = struct_named whole_words 0 no_children no_children no_kids id
  by_tree id (plain_list z n x) = struct_named whole_words 0 no_children no_children no_kids id
  by_tree id (pointer_list ts) = struct_named whole_words 0 no_children no_children no_kids id
  by_tree id (struct_list w p es) = struct_named whole_words 0 no_children no_children no_kids id

  -- a record in the newer's words, by older names
  pub named-record : (id : ℕ) (t : Tree) → named_fields o (fields_in (o.shape_of id)) (record_of o' id t) ≡ record_of o id t
  unfolding record_of
  named-record id t = by_tree id t
