-- Changes of a struct's children put no capability there.
use Rattle.std.proofs.Common.{ℕ, Bool, true, false, Option, Some, None, List, [], ◌∷◌, ◌++◌}
use Rattle.std.specs.List.{AllByRecursion}
use Rattle.capnp_model.specs.Trees.{Tree, null, capability, structure, plain_list, pointer_list, struct_list, child}
use Rattle.capnp_model.specs.Schemas.{Ty, void, plain, text, blob, untyped, interface, struct, list, Shape, shape, Fields, no_fields, field, Body, void_slot, plain_slot, pointer_slot, group_slot, Schema, default_or_null}
use Rattle.capnp_model.specs.Readings.{whole_words, discriminant}
use Rattle.capnp_model.specs.Calls.{whole_number, truth, enumerant, text_value, blob_value, message, Verb, get, set_to, init, initn, clear, Content, refused_by, bits_of, object, message_root, slot_content}
use Rattle.capnp_model.specs.Groups.{empty_tree, source_tree}
use Rattle.capnp_model.specs.Edits.{Cell, Edit, put_child, mark, put_content, is_kept, edit_if, cleared, cleared_fields, cleared_body, pointer_writes, has_turn, group_writes, field_writes, body_writes, after_writes, from_message, put_group, put_field, put_in_element}
use Rattle.capnp_model_versions.proofs.BareValues.{IsBare, AreBare, bare-with, bare-resized, bare-child}
use Rattle.capnp_model_versions.proofs.BareContents.{IsBareVerb, IsBareContent, bare-root, bare-list, slot-content}

-- ---- schemas

abbrev mutual
  -- no default has a capability
  pub ShapeBare : Shape → Type 0
  ShapeBare (shape nid w p u fs) = FieldsBare fs

  pub FieldsBare : Fields → Type 0
  FieldsBare no_fields = Unit {0}
  FieldsBare (field l m b fs) = BodyBare b × FieldsBare fs

  pub BodyBare : Body → Type 0
  BodyBare (void_slot j) = Unit {0}
  BodyBare (plain_slot p at d) = Unit {0}
  BodyBare (pointer_slot i ty d) = IsBare (default_or_null d)
  BodyBare (group_slot g) = ShapeBare g

-- ---- changes of a cell

-- a change that puts no capability among the children
abbrev pub KeepsBare : Edit → Type 0
KeepsBare f = (c : Cell) → AreBare c.kids → AreBare (f c).kids

pub mark-bare : (u m : Option ℕ) → KeepsBare (mark u m)
mark-bare (Some at) (Some k) c h = h
mark-bare (Some at) None c h = h
mark-bare None (Some k) c h = h
mark-bare None None c h = h

content-bare : (b : Body) (x : Content) → IsBareContent x → KeepsBare (put_content b x)
content-bare (void_slot j) x f c h = h
content-bare (plain_slot p at d) (refused_by k) f c h = h
content-bare (plain_slot p at d) (bits_of n) f c h = h
content-bare (plain_slot p at d) (object t) f c h = h
content-bare (pointer_slot i ty d) (refused_by k) f c h = h
content-bare (pointer_slot i ty d) (bits_of n) f c h = h
content-bare (pointer_slot i ty d) (object t) f c h = bare-with c.kids i t h f
content-bare (group_slot g) x f c h = h

if-bare : (b : Bool) (f : Edit) → KeepsBare f → KeepsBare (edit_if b f)
if-bare true f k c h = k c h
if-bare false f k c h = h

mutual
  unfolding cleared

  cleared-bare : (g : Shape) → KeepsBare (cleared g)
  cleared-bare (shape nid w p u fs) c h = cleared-fields fs (mark u (Some 0) c) (mark-bare u (Some 0) c h)

  cleared-fields : (fs : Fields) → KeepsBare (cleared_fields fs)
  cleared-fields no_fields c h = h
  cleared-fields (field n m b fs) c h = cleared-fields fs (edit_if (is_kept m) (cleared_body b) c) (if-bare (is_kept m) (cleared_body b) (cleared-body b) c h)

  cleared-body : (b : Body) → KeepsBare (cleared_body b)
  cleared-body (void_slot j) c h = h
  cleared-body (plain_slot p at d) c h = h
  cleared-body (pointer_slot i ty d) c h = bare-with c.kids i null h tt
  cleared-body (group_slot g) c h = cleared-bare g c h

-- ---- a group that is set

abbrev AllKeep : List Edit → Type 0
AllKeep fs = AllByRecursion KeepsBare fs

keep-both : (fs gs : List Edit) → AllKeep fs → AllKeep gs → AllKeep (fs ++ gs)
keep-both [] gs h k = k
keep-both (f ∷ fs) gs h k = (h.0, keep-both fs gs h.1 k)

after-bare : (fs : List Edit) → AllKeep fs → KeepsBare (after_writes fs)
after-bare [] h c b = b
after-bare (f ∷ fs) h c b = after-bare fs h.1 (f c) (h.0 c b)

module _ (s : Schema) where
  empty-bare : (ty : Ty) → IsBare (empty_tree s ty)
  empty-bare void = tt
  empty-bare (plain p) = tt
  empty-bare text = tt
  empty-bare blob = tt
  empty-bare untyped = tt
  empty-bare interface = tt
  empty-bare (struct id) = tt
  empty-bare (list void) = tt
  empty-bare (list (plain p)) = tt
  empty-bare (list text) = bare-list s 0 text
  empty-bare (list blob) = bare-list s 0 blob
  empty-bare (list untyped) = bare-list s 0 untyped
  empty-bare (list interface) = bare-list s 0 interface
  empty-bare (list (struct id)) = tt
  empty-bare (list (list ty)) = bare-list s 0 (list ty)

  source-of-null : (ty : Ty) (d : Tree) → IsBare d → IsBare (source_tree s ty d null)
  source-of-null ty null h = empty-bare ty
  source-of-null ty (capability i) h = h
  source-of-null ty (structure w n ts) h = h
  source-of-null ty (plain_list z n x) h = h
  source-of-null ty (pointer_list ts) h = h
  source-of-null ty (struct_list w p es) h = h

  source-bare : (ty : Ty) (d t : Tree) → IsBare d → IsBare t → IsBare (source_tree s ty d t)
  source-bare ty d null h k = source-of-null ty d h
  source-bare ty d (capability i) h k = absurd k
  source-bare ty null (structure w' n' ts') h k = k
  source-bare ty null (plain_list z' n' x') h k = k
  source-bare ty null (pointer_list ts') h k = k
  source-bare ty null (struct_list w' p' es') h k = k
  source-bare ty (capability i) (structure w' n' ts') h k = k
  source-bare ty (capability i) (plain_list z' n' x') h k = k
  source-bare ty (capability i) (pointer_list ts') h k = k
  source-bare ty (capability i) (struct_list w' p' es') h k = k
  source-bare ty (structure w n ts) (structure w' n' ts') h k = k
  source-bare ty (structure w n ts) (plain_list z' n' x') h k = k
  source-bare ty (structure w n ts) (pointer_list ts') h k = k
  source-bare ty (structure w n ts) (struct_list w' p' es') h k = k
  source-bare ty (plain_list z n x) (structure w' n' ts') h k = k
  source-bare ty (plain_list z n x) (plain_list z' n' x') h k = k
  source-bare ty (plain_list z n x) (pointer_list ts') h k = k
  source-bare ty (plain_list z n x) (struct_list w' p' es') h k = k
  source-bare ty (pointer_list ts) (structure w' n' ts') h k = k
  source-bare ty (pointer_list ts) (plain_list z' n' x') h k = k
  source-bare ty (pointer_list ts) (pointer_list ts') h k = k
  source-bare ty (pointer_list ts) (struct_list w' p' es') h k = k
  source-bare ty (struct_list w p es) (structure w' n' ts') h k = k
  source-bare ty (struct_list w p es) (plain_list z' n' x') h k = k
  source-bare ty (struct_list w p es) (pointer_list ts') h k = k
  source-bare ty (struct_list w p es) (struct_list w' p' es') h k = k

  -- a pointer that is put into its slot
  put-source : (i : ℕ) (ty : Ty) (d : Tree) (before : Edit) (t : Tree) → IsBare d → KeepsBare before → IsBare t → AllKeep ((λ (c : Cell). put_child i (source_tree s ty d t) (before c)) ∷ [])
  put-source i ty d before t h b k = ((λ c good. bare-with (before c).kids i (source_tree s ty d t) (b c good) (source-bare ty d t h k)), tt)

  pointer-keep : (m : Option ℕ) (i : ℕ) (ty : Ty) (d : Tree) (before : Edit) (t : Tree) → IsBare d → KeepsBare before → IsBare t → AllKeep (pointer_writes s m i ty d before t)
  pointer-keep None i ty d before null h b k = tt
  pointer-keep None i ty d before (capability j) h b k = absurd k
  pointer-keep None i ty d before (structure w n us) h b k = put-source i ty d before (structure w n us) h b k
  pointer-keep None i ty d before (plain_list z n x) h b k = put-source i ty d before (plain_list z n x) h b k
  pointer-keep None i ty d before (pointer_list us) h b k = put-source i ty d before (pointer_list us) h b k
  pointer-keep None i ty d before (struct_list w p es) h b k = put-source i ty d before (struct_list w p es) h b k
  pointer-keep (Some m) i ty d before null h b k = put-source i ty d before null h b k
  pointer-keep (Some m) i ty d before (capability j) h b k = absurd k
  pointer-keep (Some m) i ty d before (structure w n us) h b k = put-source i ty d before (structure w n us) h b k
  pointer-keep (Some m) i ty d before (plain_list z n x) h b k = put-source i ty d before (plain_list z n x) h b k
  pointer-keep (Some m) i ty d before (pointer_list us) h b k = put-source i ty d before (pointer_list us) h b k
  pointer-keep (Some m) i ty d before (struct_list w p es) h b k = put-source i ty d before (struct_list w p es) h b k

  module _ (from : Cell) (kids : AreBare from.kids) where
    mutual
      unfolding group_writes

      group-keep : (g : Shape) (before : Edit) → ShapeBare g → KeepsBare before → AllKeep (group_writes s g before from)
      group-keep (shape nid x p u fs) before h b =
          let active : Option ℕ = discriminant u whole_words from.section in (
            (λ c good. cleared-bare (shape nid x p u fs) (before c) (b c good)),
            keep-both (field_writes s true fs u active from) (field_writes s false fs u active from) (fields-keep true fs u active h) (fields-keep false fs u active h),
          )

      fields-keep : (members : Bool) (fs : Fields) (u active : Option ℕ) → FieldsBare fs → AllKeep (field_writes s members fs u active from)
      fields-keep members no_fields u active h = tt
      fields-keep members (field n m body fs) u active h =
          elim (has_turn members m active) as (λ x. AllKeep (elim x [ true ↦ body_writes s body m (mark u m) from ++ field_writes s members fs u active from | false ↦ field_writes s members fs u active from ])) [
            | true ↦ keep-both (body_writes s body m (mark u m) from) (field_writes s members fs u active from) (body-keep body m (mark u m) h.0 (mark-bare u m)) (fields-keep members fs u active h.1)
            | false ↦ fields-keep members fs u active h.1
          ]

      body-keep : (body : Body) (m : Option ℕ) (before : Edit) → BodyBare body → KeepsBare before → AllKeep (body_writes s body m before from)
      body-keep (void_slot j) m before h b = (b, tt)
      body-keep (plain_slot p at d) m before h b = ((λ c good. b c good), tt)
      body-keep (pointer_slot i ty d) m before h b = pointer-keep m i ty (default_or_null d) before (child from.kids i) h b (bare-child from.kids i kids)
      body-keep (group_slot g) m before h b = group-keep g before h b

  message-keeps : (g : Shape) → ShapeBare g → (t : Tree) → IsBare t → KeepsBare (from_message s g t)
  message-keeps g h null f c good = good
  message-keeps g h (capability i) f c good = good
  message-keeps g h (structure x n ts) f c good =
      after-bare (group_writes s g (λ y. y) (record { section = n; kids = ts })) (group-keep (record { section = n; kids = ts }) f g (λ y. y) h (λ y l. l)) c good
  message-keeps g h (plain_list z n x) f c good = good
  message-keeps g h (pointer_list ts) f c good = good
  message-keeps g h (struct_list x p es) f c good = good

  -- ---- the end of a path

  group-put : (verb : Verb) → IsBareVerb verb → (g : Shape) → ShapeBare g → KeepsBare (put_group s verb g)
  group-put get v g h c good = cleared-bare g c good
  group-put (set_to (whole_number z)) v g h c good = cleared-bare g c good
  group-put (set_to (truth b)) v g h c good = cleared-bare g c good
  group-put (set_to (enumerant n)) v g h c good = cleared-bare g c good
  group-put (set_to (text_value bs)) v g h c good = cleared-bare g c good
  group-put (set_to (blob_value bs)) v g h c good = cleared-bare g c good
  group-put (set_to (message t)) v g h c good = message-keeps g h (message_root t) (bare-root t v) c good
  group-put init v g h c good = cleared-bare g c good
  group-put (initn n) v g h c good = cleared-bare g c good
  group-put clear v g h c good = cleared-bare g c good

  pub field-put : (verb : Verb) → IsBareVerb verb → (b : Body) → BodyBare b → KeepsBare (put_field s verb b)
  field-put verb v (void_slot j) h c good = good
  field-put verb v (plain_slot p at d) h c good = content-bare (plain_slot p at d) (slot_content s verb (plain_slot p at d)) (slot-content s verb v (plain_slot p at d)) c good
  field-put verb v (pointer_slot i ty d) h c good = content-bare (pointer_slot i ty d) (slot_content s verb (pointer_slot i ty d)) (slot-content s verb v (pointer_slot i ty d)) c good
  field-put verb v (group_slot g) h c good = group-put verb v g h c good

-- the same of an element
pub element-put : (w q : ℕ) (ty : Ty) (x : Content) → IsBareContent x → KeepsBare (put_in_element w q ty x)
element-put w q void (refused_by k) f c h = h
element-put w q void (bits_of n) f c h = h
element-put w q void (object t) f c h = bare-with c.kids 0 t h f
element-put w q (plain p) (refused_by k) f c h = h
element-put w q (plain p) (bits_of n) f c h = h
element-put w q (plain p) (object t) f c h = bare-with c.kids 0 t h f
element-put w q text (refused_by k) f c h = h
element-put w q text (bits_of n) f c h = h
element-put w q text (object t) f c h = bare-with c.kids 0 t h f
element-put w q blob (refused_by k) f c h = h
element-put w q blob (bits_of n) f c h = h
element-put w q blob (object t) f c h = bare-with c.kids 0 t h f
element-put w q untyped (refused_by k) f c h = h
element-put w q untyped (bits_of n) f c h = h
element-put w q untyped (object t) f c h = bare-with c.kids 0 t h f
element-put w q interface (refused_by k) f c h = h
element-put w q interface (bits_of n) f c h = h
element-put w q interface (object t) f c h = bare-with c.kids 0 t h f
element-put w q (struct id) (refused_by k) f c h = h
element-put w q (struct id) (bits_of n) f c h = h
element-put w q (struct id) (object null) f c h = bare-with c.kids 0 null h f
element-put w q (struct id) (object (capability i)) f c h = bare-with c.kids 0 (capability i) h f
element-put w q (struct id) (object (structure x n ts)) f c h = bare-resized q ts f
element-put w q (struct id) (object (plain_list z n x)) f c h = bare-with c.kids 0 (plain_list z n x) h f
element-put w q (struct id) (object (pointer_list ts)) f c h = bare-with c.kids 0 (pointer_list ts) h f
element-put w q (struct id) (object (struct_list x p es)) f c h = bare-with c.kids 0 (struct_list x p es) h f
element-put w q (list ty) (refused_by k) f c h = h
element-put w q (list ty) (bits_of n) f c h = h
element-put w q (list ty) (object t) f c h = bare-with c.kids 0 t h f
