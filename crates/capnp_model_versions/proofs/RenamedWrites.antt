-- What is written at the end of a path has no names in it.
use Rattle.std.proofs.Common.{◌≡◌, ℕ, Bool, true, false, List, [], ◌∷◌, ◌++◌, Option, Some, None, refl, ◌∙◌, ap}
use Rattle.capnp_model.specs.Trees.{Tree, null, capability, structure, plain_list, pointer_list, struct_list, child}
use Rattle.capnp_model.specs.Schemas.{Ty, void, plain, text, blob, untyped, interface, struct, list, Shape, shape, Fields, no_fields, field, Body, void_slot, plain_slot, pointer_slot, group_slot, Schema, default_or_null}
use Rattle.capnp_model.specs.Partners.{Renaming, renamed_shape, renamed_fields, renamed_body, renamed}
use Rattle.capnp_model.specs.Readings.{whole_words, discriminant}
use Rattle.capnp_model.specs.Kinds.{Kind, InitnIsOnlyValidForListTextOrDataFields, ExpectedAListOrBlob}
use Rattle.capnp_model.specs.Calls.{Verb, get, set_to, init, initn, clear, whole_number, truth, enumerant, text_value, blob_value, message, message_root, object, new_list, empty_struct, empty_structs, init_content, initn_content, slot_content, element_content}
use Rattle.capnp_model.specs.Groups.{empty_tree, source_tree}
use Rattle.capnp_model.specs.Edits.{Cell, Edit, put_child, put_content, mark, is_kept, edit_if, cleared, cleared_fields, cleared_body, pointer_writes, has_turn, group_writes, field_writes, body_writes, after_writes, from_message, put_group, put_field, widened_list, as_list}
use Rattle.capnp_model.proofs.lemmas.NewerWords.{newer-words}

module _ (rs : List Renaming) where
  -- ---- cleared groups

  if_same : (x : Bool) (f g : Edit) (c : Cell) → f c ≡ g c → edit_if x f c ≡ edit_if x g c
  if_same true f g c e = e
  if_same false f g c e = refl

  mutual
    unfolding cleared

    pub cleared-same : (g : Shape) (c : Cell) → cleared (renamed_shape rs g) c ≡ cleared g c
    cleared-same (shape nid w p u fs) c = fields_cleared nid fs (mark u (Some 0) c)

    fields_cleared : (nid : ℕ) (fs : Fields) (c : Cell) → cleared_fields (renamed_fields rs nid fs) c ≡ cleared_fields fs c
    fields_cleared nid no_fields c = refl
    fields_cleared nid (field l m b fs) c = fields_cleared nid fs (edit_if (is_kept m) (cleared_body (renamed_body rs b)) c) ∙ ap (cleared_fields fs) (if_same (is_kept m) (cleared_body (renamed_body rs b)) (cleared_body b) c (body_cleared b c))

    body_cleared : (b : Body) (c : Cell) → cleared_body (renamed_body rs b) c ≡ cleared_body b c
    body_cleared (void_slot j) c = refl
    body_cleared (plain_slot p at d) c = refl
    body_cleared (pointer_slot i ty d) c = refl
    body_cleared (group_slot g) c = cleared-same g c

  -- ---- sizes

  struct_same : (g : Shape) → empty_struct (renamed_shape rs g) ≡ empty_struct g
  struct_same (shape nid w p u fs) = refl

  structs_same : (g : Shape) (n : ℕ) → empty_structs (renamed_shape rs g) n ≡ empty_structs g n
  structs_same (shape nid w p u fs) n = refl

  widened_same : (g : Shape) (t : Tree) → widened_list (renamed_shape rs g) t ≡ widened_list g t
  widened_same (shape nid w p u fs) null = refl
  widened_same (shape nid w p u fs) (capability i) = refl
  widened_same (shape nid w p u fs) (structure x k ts) = refl
  widened_same (shape nid w p u fs) (plain_list z n x) = refl
  widened_same (shape nid w p u fs) (pointer_list ts) = refl
  widened_same (shape nid w p u fs) (struct_list x k es) = refl

  module _ (o : Schema) where
    abbrev o' : Schema
    o' = renamed rs o

    pub shape-is : (id : ℕ) → o'.shape_of id ≡ renamed_shape rs (o.shape_of id)
    shape-is id = newer-words rs (o.shape_of id)

    list_same : (n : ℕ) (ty : Ty) → new_list o' n ty ≡ new_list o n ty
    list_same n void = refl
    list_same n (plain p) = refl
    list_same n text = refl
    list_same n blob = refl
    list_same n untyped = refl
    list_same n interface = refl
    list_same n (struct id) = ap (λ g. empty_structs g n) (shape-is id) ∙ structs_same (o.shape_of id) n
    list_same n (list ty) = refl

    pub as-list-same : (ty : Ty) (t : Tree) → as_list o' ty t ≡ as_list o ty t
    as-list-same void t = refl
    as-list-same (plain p) t = refl
    as-list-same text t = refl
    as-list-same blob t = refl
    as-list-same untyped t = refl
    as-list-same interface t = refl
    as-list-same (struct id) t = ap (λ g. widened_list g t) (shape-is id) ∙ widened_same (o.shape_of id) t
    as-list-same (list ty) t = refl

    -- ---- contents

    init_same : (ty : Ty) → init_content o' ty ≡ init_content o ty
    init_same void = refl
    init_same (plain p) = refl
    init_same text = refl
    init_same blob = refl
    init_same untyped = refl
    init_same interface = refl
    init_same (struct id) = ap (λ g. object (empty_struct g)) (shape-is id) ∙ ap object (struct_same (o.shape_of id))
    init_same (list ty) = refl

    initn_same : (n : ℕ) (ty : Ty) (k : Kind) → initn_content o' n ty k ≡ initn_content o n ty k
    initn_same n void k = refl
    initn_same n (plain p) k = refl
    initn_same n text k = refl
    initn_same n blob k = refl
    initn_same n untyped k = refl
    initn_same n interface k = refl
    initn_same n (struct id) k = refl
    initn_same n (list ty) k = ap object (list_same n ty)

    pub slot-content-same : (verb : Verb) (b : Body) → slot_content o' verb (renamed_body rs b) ≡ slot_content o verb b
    slot-content-same get (void_slot j) = refl
    slot-content-same get (plain_slot p at d) = refl
    slot-content-same get (pointer_slot i ty d) = refl
    slot-content-same get (group_slot g) = refl
    slot-content-same (set_to v) (void_slot j) = refl
    slot-content-same (set_to v) (plain_slot p at d) = refl
    slot-content-same (set_to v) (pointer_slot i ty d) = refl
    slot-content-same (set_to v) (group_slot g) = refl
    slot-content-same init (void_slot j) = refl
    slot-content-same init (plain_slot p at d) = refl
    slot-content-same init (pointer_slot i ty d) = init_same ty
    slot-content-same init (group_slot g) = refl
    slot-content-same (initn n) (void_slot j) = refl
    slot-content-same (initn n) (plain_slot p at d) = refl
    slot-content-same (initn n) (pointer_slot i ty d) = initn_same n ty InitnIsOnlyValidForListTextOrDataFields
    slot-content-same (initn n) (group_slot g) = refl
    slot-content-same clear (void_slot j) = refl
    slot-content-same clear (plain_slot p at d) = refl
    slot-content-same clear (pointer_slot i ty d) = refl
    slot-content-same clear (group_slot g) = refl

    pub element-content-same : (verb : Verb) (ty : Ty) → element_content o' verb ty ≡ element_content o verb ty
    element-content-same get ty = refl
    element-content-same (set_to v) void = refl
    element-content-same (set_to v) (plain p) = refl
    element-content-same (set_to v) text = refl
    element-content-same (set_to v) blob = refl
    element-content-same (set_to v) untyped = refl
    element-content-same (set_to v) interface = refl
    element-content-same (set_to v) (struct id) = refl
    element-content-same (set_to v) (list ty) = refl
    element-content-same init ty = refl
    element-content-same (initn n) void = refl
    element-content-same (initn n) (plain p) = refl
    element-content-same (initn n) text = refl
    element-content-same (initn n) blob = refl
    element-content-same (initn n) untyped = refl
    element-content-same (initn n) interface = refl
    element-content-same (initn n) (struct id) = refl
    element-content-same (initn n) (list ty) = initn_same n (list ty) ExpectedAListOrBlob
    element-content-same clear ty = refl

    -- ---- groups

    empty_same : (ty : Ty) → empty_tree o' ty ≡ empty_tree o ty
    empty_same void = refl
    empty_same (plain p) = refl
    empty_same text = refl
    empty_same blob = refl
    empty_same untyped = refl
    empty_same interface = refl
    empty_same (struct id) = refl
    empty_same (list void) = refl
    empty_same (list (plain p)) = refl
    empty_same (list text) = refl
    empty_same (list blob) = refl
    empty_same (list untyped) = refl
    empty_same (list interface) = refl
    empty_same (list (struct id)) = refl
    empty_same (list (list ty)) = refl

    pub source-same : (ty : Ty) (d t : Tree) → source_tree o' ty d t ≡ source_tree o ty d t
    source-same ty null null = empty_same ty
    source-same ty (capability i) null = refl
    source-same ty (structure w n ts) null = refl
    source-same ty (plain_list z n x) null = refl
    source-same ty (pointer_list ts) null = refl
    source-same ty (struct_list w p es) null = refl
    source-same ty d (capability i) = refl
    source-same ty d (structure w n ts) = refl
    source-same ty d (plain_list z n x) = refl
    source-same ty d (pointer_list ts) = refl
    source-same ty d (struct_list w p es) = refl

    put_source : (i : ℕ) (ty : Ty) (d t : Tree) (before : Edit) → ◌≡◌ {A = List Edit} ((λ c. put_child i (source_tree o' ty d t) (before c)) ∷ []) ((λ c. put_child i (source_tree o ty d t) (before c)) ∷ [])
    put_source i ty d t before = ap (λ z. (λ c. put_child i z (before c)) ∷ []) (source-same ty d t)

    pointer_same : (m : Option ℕ) (i : ℕ) (ty : Ty) (d : Tree) (before : Edit) (t : Tree) → pointer_writes o' m i ty d before t ≡ pointer_writes o m i ty d before t
    pointer_same None i ty d before null = refl
    pointer_same None i ty d before (capability k) = put_source i ty d (capability k) before
    pointer_same None i ty d before (structure w n ts) = put_source i ty d (structure w n ts) before
    pointer_same None i ty d before (plain_list z n x) = put_source i ty d (plain_list z n x) before
    pointer_same None i ty d before (pointer_list ts) = put_source i ty d (pointer_list ts) before
    pointer_same None i ty d before (struct_list w p es) = put_source i ty d (struct_list w p es) before
    pointer_same (Some m) i ty d before null = put_source i ty d null before
    pointer_same (Some m) i ty d before (capability k) = put_source i ty d (capability k) before
    pointer_same (Some m) i ty d before (structure w n ts) = put_source i ty d (structure w n ts) before
    pointer_same (Some m) i ty d before (plain_list z n x) = put_source i ty d (plain_list z n x) before
    pointer_same (Some m) i ty d before (pointer_list ts) = put_source i ty d (pointer_list ts) before
    pointer_same (Some m) i ty d before (struct_list w p es) = put_source i ty d (struct_list w p es) before

    mutual
      unfolding group_writes

      pub group-same : (g : Shape) (before : Edit) (from : Cell) → group_writes o' (renamed_shape rs g) before from ≡ group_writes o g before from
      group-same (shape nid w p u fs) before from =
          let active : Option ℕ = discriminant u whole_words from.section in
          let front : Edit = λ c. cleared (renamed_shape rs (shape nid w p u fs)) (before c) in
          ap (λ (ws : List Edit). front ∷ (ws ++ field_writes o' false (renamed_fields rs nid fs) u active from)) (fields_same nid true fs u active from)
          ∙ ap (λ (ws : List Edit). front ∷ (field_writes o true fs u active from ++ ws)) (fields_same nid false fs u active from)
          ∙ (λ k. (λ c. (cleared-same (shape nid w p u fs) (before c)) k) ∷ (field_writes o true fs u active from ++ field_writes o false fs u active from))

      fields_same : (nid : ℕ) (members : Bool) (fs : Fields) (u active : Option ℕ) (from : Cell) → field_writes o' members (renamed_fields rs nid fs) u active from ≡ field_writes o members fs u active from
      fields_same nid members no_fields u active from = refl
      fields_same nid members (field l m b fs) u active from = by (has_turn members m active) (body_same b m (mark u m) from) (fields_same nid members fs u active from)
        where
          by : (x : Bool) → body_writes o' (renamed_body rs b) m (mark u m) from ≡ body_writes o b m (mark u m) from → field_writes o' members (renamed_fields rs nid fs) u active from ≡ field_writes o members fs u active from
              → (elim x as (λ (y : Bool). List Edit) [ true ↦ body_writes o' (renamed_body rs b) m (mark u m) from ++ field_writes o' members (renamed_fields rs nid fs) u active from | false ↦ field_writes o' members (renamed_fields rs nid fs) u active from ])
              ≡ (elim x as (λ (y : Bool). List Edit) [ true ↦ body_writes o b m (mark u m) from ++ field_writes o members fs u active from | false ↦ field_writes o members fs u active from ])
          by true e h = ap (λ (ws : List Edit). ws ++ field_writes o' members (renamed_fields rs nid fs) u active from) e ∙ ap (λ (ws : List Edit). body_writes o b m (mark u m) from ++ ws) h
          by false e h = h

      body_same : (b : Body) (m : Option ℕ) (before : Edit) (from : Cell) → body_writes o' (renamed_body rs b) m before from ≡ body_writes o b m before from
      body_same (void_slot j) m before from = refl
      body_same (plain_slot p at d) m before from = refl
      body_same (pointer_slot i ty d) m before from = pointer_same m i ty (default_or_null d) before (child from.kids i)
      body_same (group_slot g) m before from = group-same g before from

    message_same : (g : Shape) (t : Tree) (c : Cell) → from_message o' (renamed_shape rs g) t c ≡ from_message o g t c
    message_same g null c = refl
    message_same g (capability i) c = refl
    message_same g (structure w n ts) c = ap (λ ws. after_writes ws c) (group-same g (λ x. x) (record { section = n; kids = ts }))
    message_same g (plain_list z n x) c = refl
    message_same g (pointer_list ts) c = refl
    message_same g (struct_list w p es) c = refl

    group_put : (verb : Verb) (g : Shape) (c : Cell) → put_group o' verb (renamed_shape rs g) c ≡ put_group o verb g c
    group_put get g c = cleared-same g c
    group_put (set_to (whole_number z)) g c = cleared-same g c
    group_put (set_to (truth b)) g c = cleared-same g c
    group_put (set_to (enumerant n)) g c = cleared-same g c
    group_put (set_to (text_value bs)) g c = cleared-same g c
    group_put (set_to (blob_value bs)) g c = cleared-same g c
    group_put (set_to (message t)) g c = message_same g (message_root t) c
    group_put init g c = cleared-same g c
    group_put (initn n) g c = cleared-same g c
    group_put clear g c = cleared-same g c

    -- what a verb does to a field
    pub put-same : (verb : Verb) (b : Body) (c : Cell) → put_field o' verb (renamed_body rs b) c ≡ put_field o verb b c
    put-same verb (void_slot j) c = refl
    put-same verb (plain_slot p at d) c = ap (λ x. put_content (plain_slot p at d) x c) (slot-content-same verb (plain_slot p at d))
    put-same verb (pointer_slot i ty d) c = ap (λ x. put_content (pointer_slot i ty d) x c) (slot-content-same verb (pointer_slot i ty d))
    put-same verb (group_slot g) c = group_put verb g c
