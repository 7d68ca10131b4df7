-- Changes of a cell add no level past those of the content.
use Rattle.std.proofs.Common.{ℕ, ◌≤◌, max, Bool, true, false, Option, Some, None, List, [], ◌∷◌, ◌++◌, arith}
use Rattle.std.specs.List.{AllByRecursion}
use Rattle.capnp_model.specs.Trees.{Tree, null, capability, structure, plain_list, pointer_list, struct_list, child, depth, depths}
use Rattle.capnp_model.specs.Schemas.{Ty, void, plain, text, blob, untyped, interface, struct, list, Shape, shape, Fields, no_fields, field, Body, void_slot, plain_slot, pointer_slot, group_slot, Schema, default_or_null}
use Rattle.capnp_model.specs.Readings.{discriminant, whole_words}
use Rattle.capnp_model.specs.Calls.{whole_number, truth, enumerant, text_value, blob_value, message, Verb, get, set_to, init, initn, clear, Content, refused_by, bits_of, object, message_root, slot_content}
use Rattle.capnp_model.specs.Groups.{empty_tree, source_tree}
use Rattle.capnp_model.specs.Edits.{Cell, Edit, put_child, mark, put_content, is_kept, edit_if, cleared, cleared_fields, cleared_body, pointer_writes, has_turn, group_writes, field_writes, body_writes, after_writes, from_message, put_group, put_field, put_in_element}
use Rattle.capnp_model.specs.EditDepths.{verb_depth}
use Rattle.capnp_model.proofs.lemmas.Stripping.{depths-resized}
use Rattle.capnp_model.proofs.ContentDepths.{depths-with_child, depth-child, ContentWithin, root_depth, new_list_within, slot_within}

-- ---- changes of a cell

-- A change adds no level past m.
abbrev pub Deepens : ℕ → Edit → Type 0
Deepens m f = (c : Cell) → depths (f c).kids ≤ max (depths c.kids) m

-- The defaults of a shape have at most m levels.
abbrev mutual
  pub DefaultsWithin : ℕ → Shape → Type 0
  DefaultsWithin m (shape nid w p u fs) = AllDefaultsWithin m fs

  pub AllDefaultsWithin : ℕ → Fields → Type 0
  AllDefaultsWithin m no_fields = Unit {0}
  AllDefaultsWithin m (field n member b fs) = BodyWithin m b × AllDefaultsWithin m fs

  pub BodyWithin : ℕ → Body → Type 0
  BodyWithin m (void_slot j) = Unit {0}
  BodyWithin m (plain_slot p at d) = Unit {0}
  BodyWithin m (pointer_slot i ty d) = depth (default_or_null d) ≤ m
  BodyWithin m (group_slot g) = DefaultsWithin m g

pub mark_deepens : (m : ℕ) (u member : Option ℕ) → Deepens m (mark u member)
mark_deepens m (Some at) (Some k) c = omega arith
mark_deepens m (Some at) None c = omega arith
mark_deepens m None (Some k) c = omega arith
mark_deepens m None None c = omega arith

pub put_child_deepens : (m : ℕ) (i : ℕ) (t : Tree) → depth t ≤ m → Deepens m (put_child i t)
put_child_deepens m i t h c = let r = depths-with_child c.kids i t in omega arith

pub content_deepens : (m : ℕ) (b : Body) (x : Content) → ContentWithin m x → Deepens m (put_content b x)
content_deepens m (void_slot j) x h c = omega arith
content_deepens m (plain_slot p at d) (refused_by k) h c = omega arith
content_deepens m (plain_slot p at d) (bits_of n) h c = omega arith
content_deepens m (plain_slot p at d) (object t) h c = omega arith
content_deepens m (pointer_slot i ty d) (refused_by k) h c = omega arith
content_deepens m (pointer_slot i ty d) (bits_of n) h c = omega arith
content_deepens m (pointer_slot i ty d) (object t) h c = put_child_deepens m i t h c
content_deepens m (group_slot g) x h c = omega arith

pub edit_if_deepens : (m : ℕ) (b : Bool) (f : Edit) → Deepens m f → Deepens m (edit_if b f)
edit_if_deepens m true f h c = h c
edit_if_deepens m false f h c = omega arith

mutual
  unfolding cleared

  pub cleared_deepens : (m : ℕ) (g : Shape) → Deepens m (cleared g)
  cleared_deepens m (shape nid w p u fs) c = let a = mark_deepens m u (Some 0) c in let b = cleared_fields_deepens m fs (mark u (Some 0) c) in omega arith

  pub cleared_fields_deepens : (m : ℕ) (fs : Fields) → Deepens m (cleared_fields fs)
  cleared_fields_deepens m no_fields c = omega arith
  cleared_fields_deepens m (field n member b fs) c =
      let a = edit_if_deepens m (is_kept member) (cleared_body b) (cleared_body_deepens m b) c in
      let r = cleared_fields_deepens m fs (edit_if (is_kept member) (cleared_body b) c) in omega arith

  pub cleared_body_deepens : (m : ℕ) (b : Body) → Deepens m (cleared_body b)
  cleared_body_deepens m (void_slot j) c = omega arith
  cleared_body_deepens m (plain_slot p at d) c = omega arith
  cleared_body_deepens m (pointer_slot i ty d) c = put_child_deepens m i null (omega arith) c
  cleared_body_deepens m (group_slot g) c = cleared_deepens m g c

-- ---- a group that is set

pub empty_within : (m : ℕ) → 1 ≤ m → (s : Schema) (ty : Ty) → depth (empty_tree s ty) ≤ m
empty_within m one s void = omega arith
empty_within m one s (plain p) = omega arith
empty_within m one s text = one
empty_within m one s blob = one
empty_within m one s untyped = omega arith
empty_within m one s interface = omega arith
empty_within m one s (struct id) = one
empty_within m one s (list void) = new_list_within m one s 0 void
empty_within m one s (list (plain p)) = new_list_within m one s 0 (plain p)
empty_within m one s (list text) = new_list_within m one s 0 text
empty_within m one s (list blob) = new_list_within m one s 0 blob
empty_within m one s (list untyped) = new_list_within m one s 0 untyped
empty_within m one s (list interface) = new_list_within m one s 0 interface
empty_within m one s (list (struct id)) = one
empty_within m one s (list (list ty)) = new_list_within m one s 0 (list ty)

pub source_within : (m : ℕ) → 1 ≤ m → (s : Schema) (ty : Ty) (d t : Tree) → depth d ≤ m → depth t ≤ m → depth (source_tree s ty d t) ≤ m
source_within m one s ty null null h k = empty_within m one s ty
source_within m one s ty null (capability j) h k = k
source_within m one s ty null (structure w' n' us) h k = k
source_within m one s ty null (plain_list z' n' x') h k = k
source_within m one s ty null (pointer_list us) h k = k
source_within m one s ty null (struct_list w' p' fs) h k = k
source_within m one s ty (capability i) null h k = h
source_within m one s ty (capability i) (capability j) h k = k
source_within m one s ty (capability i) (structure w' n' us) h k = k
source_within m one s ty (capability i) (plain_list z' n' x') h k = k
source_within m one s ty (capability i) (pointer_list us) h k = k
source_within m one s ty (capability i) (struct_list w' p' fs) h k = k
source_within m one s ty (structure w n ts) null h k = h
source_within m one s ty (structure w n ts) (capability j) h k = k
source_within m one s ty (structure w n ts) (structure w' n' us) h k = k
source_within m one s ty (structure w n ts) (plain_list z' n' x') h k = k
source_within m one s ty (structure w n ts) (pointer_list us) h k = k
source_within m one s ty (structure w n ts) (struct_list w' p' fs) h k = k
source_within m one s ty (plain_list z n x) null h k = h
source_within m one s ty (plain_list z n x) (capability j) h k = k
source_within m one s ty (plain_list z n x) (structure w' n' us) h k = k
source_within m one s ty (plain_list z n x) (plain_list z' n' x') h k = k
source_within m one s ty (plain_list z n x) (pointer_list us) h k = k
source_within m one s ty (plain_list z n x) (struct_list w' p' fs) h k = k
source_within m one s ty (pointer_list ts) null h k = h
source_within m one s ty (pointer_list ts) (capability j) h k = k
source_within m one s ty (pointer_list ts) (structure w' n' us) h k = k
source_within m one s ty (pointer_list ts) (plain_list z' n' x') h k = k
source_within m one s ty (pointer_list ts) (pointer_list us) h k = k
source_within m one s ty (pointer_list ts) (struct_list w' p' fs) h k = k
source_within m one s ty (struct_list w p es) null h k = h
source_within m one s ty (struct_list w p es) (capability j) h k = k
source_within m one s ty (struct_list w p es) (structure w' n' us) h k = k
source_within m one s ty (struct_list w p es) (plain_list z' n' x') h k = k
source_within m one s ty (struct_list w p es) (pointer_list us) h k = k
source_within m one s ty (struct_list w p es) (struct_list w' p' fs) h k = k

abbrev pub AllDeepen : ℕ → List Edit → Type 0
AllDeepen m fs = AllByRecursion (Deepens m) fs

pub deepen_both : (m : ℕ) (fs gs : List Edit) → AllDeepen m fs → AllDeepen m gs → AllDeepen m (fs ++ gs)
deepen_both m [] gs h k = k
deepen_both m (f ∷ fs) gs h k = (h.0, deepen_both m fs gs h.1 k)

pub after_deepens : (m : ℕ) (fs : List Edit) → AllDeepen m fs → Deepens m (after_writes fs)
after_deepens m [] h c = omega arith
after_deepens m (f ∷ fs) h c = let a = h.0 c in let r = after_deepens m fs h.1 (f c) in omega arith

pub then_deepens : (m : ℕ) (f g : Edit) → Deepens m f → Deepens m g → Deepens m (λ c. g (f c))
then_deepens m f g h k c = let a = h c in let b = k (f c) in omega arith

pub pointer_deepens : (m : ℕ) → 1 ≤ m → (s : Schema) (member : Option ℕ) (i : ℕ) (ty : Ty) (d : Tree) (before : Edit) (t : Tree) → depth d ≤ m → Deepens m before → depth t ≤ m → AllDeepen m (pointer_writes s member i ty d before t)
pointer_deepens m one s None i ty d before null h b k = tt
pointer_deepens m one s None i ty d before (capability j) h b k = (then_deepens m before (put_child i (source_tree s ty d (capability j))) b (put_child_deepens m i _ (source_within m one s ty d (capability j) h k)), tt)
pointer_deepens m one s None i ty d before (structure w' n' us) h b k = (then_deepens m before (put_child i (source_tree s ty d (structure w' n' us))) b (put_child_deepens m i _ (source_within m one s ty d (structure w' n' us) h k)), tt)
pointer_deepens m one s None i ty d before (plain_list z' n' x') h b k = (then_deepens m before (put_child i (source_tree s ty d (plain_list z' n' x'))) b (put_child_deepens m i _ (source_within m one s ty d (plain_list z' n' x') h k)), tt)
pointer_deepens m one s None i ty d before (pointer_list us) h b k = (then_deepens m before (put_child i (source_tree s ty d (pointer_list us))) b (put_child_deepens m i _ (source_within m one s ty d (pointer_list us) h k)), tt)
pointer_deepens m one s None i ty d before (struct_list w' p' fs) h b k = (then_deepens m before (put_child i (source_tree s ty d (struct_list w' p' fs))) b (put_child_deepens m i _ (source_within m one s ty d (struct_list w' p' fs) h k)), tt)
pointer_deepens m one s (Some l) i ty d before null h b k = (then_deepens m before (put_child i (source_tree s ty d null)) b (put_child_deepens m i _ (source_within m one s ty d null h k)), tt)
pointer_deepens m one s (Some l) i ty d before (capability j) h b k = (then_deepens m before (put_child i (source_tree s ty d (capability j))) b (put_child_deepens m i _ (source_within m one s ty d (capability j) h k)), tt)
pointer_deepens m one s (Some l) i ty d before (structure w' n' us) h b k = (then_deepens m before (put_child i (source_tree s ty d (structure w' n' us))) b (put_child_deepens m i _ (source_within m one s ty d (structure w' n' us) h k)), tt)
pointer_deepens m one s (Some l) i ty d before (plain_list z' n' x') h b k = (then_deepens m before (put_child i (source_tree s ty d (plain_list z' n' x'))) b (put_child_deepens m i _ (source_within m one s ty d (plain_list z' n' x') h k)), tt)
pointer_deepens m one s (Some l) i ty d before (pointer_list us) h b k = (then_deepens m before (put_child i (source_tree s ty d (pointer_list us))) b (put_child_deepens m i _ (source_within m one s ty d (pointer_list us) h k)), tt)
pointer_deepens m one s (Some l) i ty d before (struct_list w' p' fs) h b k = (then_deepens m before (put_child i (source_tree s ty d (struct_list w' p' fs))) b (put_child_deepens m i _ (source_within m one s ty d (struct_list w' p' fs) h k)), tt)

module _ (m : ℕ) (one : 1 ≤ m) (s : Schema) (from : Cell) (shallow : depths from.kids ≤ m) where
  mutual
    unfolding group_writes

    pub group_deepens : (g : Shape) (before : Edit) → DefaultsWithin m g → Deepens m before → AllDeepen m (group_writes s g before from)
    group_deepens (shape nid w p u fs) before h b =
        let active : Option ℕ = discriminant u whole_words from.section in (
          then_deepens m before (cleared (shape nid w p u fs)) b (cleared_deepens m (shape nid w p u fs)),
          deepen_both m (field_writes s true fs u active from) (field_writes s false fs u active from) (fields_deepen true fs u active h) (fields_deepen false fs u active h),
        )

    pub fields_deepen : (members : Bool) (fs : Fields) (u active : Option ℕ) → AllDefaultsWithin m fs → AllDeepen m (field_writes s members fs u active from)
    fields_deepen members no_fields u active h = tt
    fields_deepen members (field n member body fs) u active h =
        elim (has_turn members member active) as (λ x. AllDeepen m (elim x [ true ↦ body_writes s body member (mark u member) from ++ field_writes s members fs u active from | false ↦ field_writes s members fs u active from ])) [
          | true ↦ deepen_both m (body_writes s body member (mark u member) from) (field_writes s members fs u active from) (body_deepens body member (mark u member) h.0 (mark_deepens m u member)) (fields_deepen members fs u active h.1)
          | false ↦ fields_deepen members fs u active h.1
        ]

    pub body_deepens : (body : Body) (member : Option ℕ) (before : Edit) → BodyWithin m body → Deepens m before → AllDeepen m (body_writes s body member before from)
    body_deepens (void_slot j) member before h b = (b, tt)
    body_deepens (plain_slot p at d) member before h b = (b, tt)
    body_deepens (pointer_slot i ty d) member before h b = pointer_deepens m one s member i ty (default_or_null d) before (child from.kids i) h b (let r = depth-child from.kids i in omega arith)
    body_deepens (group_slot g) member before h b = group_deepens g before h b

pub message_deepens : (m : ℕ) → 1 ≤ m → (s : Schema) (g : Shape) → DefaultsWithin m g → (t : Tree) → depth t ≤ m → Deepens m (from_message s g t)
message_deepens m one s g h null k c = omega arith
message_deepens m one s g h (capability i) k c = omega arith
message_deepens m one s g h (structure w n ts) k c =
    after_deepens m (group_writes s g (λ x. x) (record { section = n; kids = ts })) (group_deepens m one s (record { section = n; kids = ts }) (omega arith) g (λ x. x) h (λ x. omega arith)) c
message_deepens m one s g h (plain_list z n x) k c = omega arith
message_deepens m one s g h (pointer_list ts) k c = omega arith
message_deepens m one s g h (struct_list w p es) k c = omega arith

pub group_put : (m : ℕ) → 1 ≤ m → (s : Schema) (verb : Verb) → verb_depth verb ≤ m → (g : Shape) → DefaultsWithin m g → Deepens m (put_group s verb g)
group_put m one s get h g d c = cleared_deepens m g c
group_put m one s (set_to (whole_number z)) h g d c = cleared_deepens m g c
group_put m one s (set_to (truth b)) h g d c = cleared_deepens m g c
group_put m one s (set_to (enumerant n)) h g d c = cleared_deepens m g c
group_put m one s (set_to (text_value bs)) h g d c = cleared_deepens m g c
group_put m one s (set_to (blob_value bs)) h g d c = cleared_deepens m g c
group_put m one s (set_to (message t)) h g d c = message_deepens m one s g d (message_root t) (let r = root_depth t in omega arith) c
group_put m one s init h g d c = cleared_deepens m g c
group_put m one s (initn n) h g d c = cleared_deepens m g c
group_put m one s clear h g d c = cleared_deepens m g c

pub field_put : (m : ℕ) → 1 ≤ m → (s : Schema) (verb : Verb) → verb_depth verb ≤ m → (b : Body) → BodyWithin m b → Deepens m (put_field s verb b)
field_put m one s verb h (void_slot j) d c = content_deepens m (void_slot j) (slot_content s verb (void_slot j)) (slot_within m one s verb h (void_slot j)) c
field_put m one s verb h (plain_slot p at x) d c = content_deepens m (plain_slot p at x) (slot_content s verb (plain_slot p at x)) (slot_within m one s verb h (plain_slot p at x)) c
field_put m one s verb h (pointer_slot i ty x) d c = content_deepens m (pointer_slot i ty x) (slot_content s verb (pointer_slot i ty x)) (slot_within m one s verb h (pointer_slot i ty x)) c
field_put m one s verb h (group_slot g) d c = group_put m one s verb h g d c

-- ---- an element

pub element_put : (m : ℕ) → (words pointers : ℕ) (ty : Ty) (x : Content) → ContentWithin m x → Deepens m (put_in_element words pointers ty x)
element_put m words pointers void (refused_by k) h c = omega arith
element_put m words pointers void (bits_of n) h c = omega arith
element_put m words pointers void (object t) h c = put_child_deepens m 0 t h c
element_put m words pointers (plain p) (refused_by k) h c = omega arith
element_put m words pointers (plain p) (bits_of n) h c = omega arith
element_put m words pointers (plain p) (object t) h c = put_child_deepens m 0 t h c
element_put m words pointers text (refused_by k) h c = omega arith
element_put m words pointers text (bits_of n) h c = omega arith
element_put m words pointers text (object t) h c = put_child_deepens m 0 t h c
element_put m words pointers blob (refused_by k) h c = omega arith
element_put m words pointers blob (bits_of n) h c = omega arith
element_put m words pointers blob (object t) h c = put_child_deepens m 0 t h c
element_put m words pointers untyped (refused_by k) h c = omega arith
element_put m words pointers untyped (bits_of n) h c = omega arith
element_put m words pointers untyped (object t) h c = put_child_deepens m 0 t h c
element_put m words pointers interface (refused_by k) h c = omega arith
element_put m words pointers interface (bits_of n) h c = omega arith
element_put m words pointers interface (object t) h c = put_child_deepens m 0 t h c
element_put m words pointers (struct id) (refused_by k) h c = omega arith
element_put m words pointers (struct id) (bits_of n) h c = omega arith
element_put m words pointers (struct id) (object null) h c = put_child_deepens m 0 null h c
element_put m words pointers (struct id) (object (capability i)) h c = put_child_deepens m 0 (capability i) h c
element_put m words pointers (struct id) (object (plain_list z n x)) h c = put_child_deepens m 0 (plain_list z n x) h c
element_put m words pointers (struct id) (object (pointer_list ts)) h c = put_child_deepens m 0 (pointer_list ts) h c
element_put m words pointers (struct id) (object (struct_list w p es)) h c = put_child_deepens m 0 (struct_list w p es) h c
element_put m words pointers (struct id) (object (structure w section kids)) h c = let r = depths-resized pointers kids in omega arith
element_put m words pointers (list ty) (refused_by k) h c = omega arith
element_put m words pointers (list ty) (bits_of n) h c = omega arith
element_put m words pointers (list ty) (object t) h c = put_child_deepens m 0 t h c
