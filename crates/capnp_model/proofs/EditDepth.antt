-- Edited values are no deeper than the values, the calls and the defaults allow.
use Rattle.std.proofs.Common.{◌≡◌, ℕ, zero, suc, ◌+◌, ◌/◌, ◌≤◌, max, Bool, true, false, Option, Some, None, List, [], ◌∷◌, length, refl, subst, arith}
use Rattle.std.specs.List.{AllByRecursion}
use Rattle.std.specs.Str.{bytes_eq}
use Rattle.capnp_model.specs.Trees.{Tree, null, capability, structure, plain_list, pointer_list, struct_list, Trees, none, ◌▸◌, Elements, no_elements, element, child, widened, plain_elements, depth, depths, element_depths}
use Rattle.capnp_model.specs.Schemas.{Value, no_value, bits, text_bytes, blob_bytes, list_segment, struct_segment, untyped_value, interface_value, FieldKind, slot, group, Field, NodeKind, struct_node, enum_node, Node, type_of, Ty, void, plain, text, blob, untyped, interface, struct, list, Shape, shape, Fields, no_fields, field, Body, void_slot, plain_slot, pointer_slot, group_slot, Schema, default_or_null}
use Rattle.capnp_model.specs.Readings.{Record, record_of}
use Rattle.capnp_model.specs.Segments.{root}
use Rattle.capnp_model.specs.Bytes.{words_in_bytes}
use Rattle.capnp_model.specs.Traversal.{tree_at}
use Rattle.capnp_model.specs.Decoding.{decode}
use Rattle.capnp_model.specs.Accepted.{default_tree, slot_body, field_body, fields_from, union_place, no_shape, shape_of_node, shape_in, find_node, schema_of}
use Rattle.capnp_model.specs.Answers.{edits}
use Rattle.capnp_model.specs.Calls.{Step, name, index, Verb, Call, element_content}
use Rattle.capnp_model.specs.Steps.{Outcome, refused, shown, done, step, Target, no_target, target, target_if, target_of}
use Rattle.capnp_model.specs.Edits.{Cell, Edit, put_child, mark, opened_tree, edit_target, edit_named, in_struct, edit_struct, elements_of_plain, elements_of_pointers, padded_elements, widened_list, as_list, on_pointers, on_elements, edit_list, edit_value, edit_through, edit_through_element, edit_field, edit_element, write_path, if_done, edit}
use Rattle.capnp_model.specs.EditDepths.{verb_depth, call_depth}
use Rattle.capnp_model.proofs.lemmas.Chaining.{bind_some, provided_some}
use Rattle.capnp_model.proofs.lemmas.Depth.{tree_at_deep}
use Rattle.capnp_model.proofs.lemmas.Stripping.{depths-resized}
use Rattle.capnp_model.proofs.ContentDepths.{depths-with_child, depth-child, depths-padded_to, depth-widened, element_within}
use Rattle.capnp_model.proofs.CellDepths.{Deepens, DefaultsWithin, AllDefaultsWithin, BodyWithin, mark_deepens, field_put, element_put}

-- ---- lists on the path

depths-of_plain : (p : ℕ) (xs : List ℕ) → element_depths (elements_of_plain p xs) ≤ 0
depths-of_plain p [] = omega arith
depths-of_plain p (x ∷ xs) = let r = depths-of_plain p xs in let q = depths-resized p none in omega arith

depths-of_pointers : (p : ℕ) (ts : Trees) → element_depths (elements_of_pointers p ts) ≤ depths ts
depths-of_pointers p none = omega arith
depths-of_pointers p (t ▸ ts) = let r = depths-of_pointers p ts in let q = depths-padded_to p (t ▸ none) in omega arith

depths-padded_elements : (p : ℕ) (es : Elements) → element_depths (padded_elements p es) ≤ element_depths es
depths-padded_elements p no_elements = omega arith
depths-padded_elements p (element n ts es) = let r = depths-padded_elements p es in let q = depths-padded_to p ts in omega arith

depth-widened_list : (g : Shape) (t : Tree) → depth (widened_list g t) ≤ depth t
depth-widened_list (shape nid w p u fs) null = omega arith
depth-widened_list (shape nid w p u fs) (capability i) = omega arith
depth-widened_list (shape nid w p u fs) (structure n x ts) = omega arith
depth-widened_list (shape nid w p u fs) (plain_list z n x) = let r = depths-of_plain p (plain_elements z n x) in omega arith
depth-widened_list (shape nid w p u fs) (pointer_list ts) = let r = depths-of_pointers p ts in omega arith
depth-widened_list (shape nid w p u fs) (struct_list n k es) = let r = depths-padded_elements p es in omega arith

depth-as_list : (s : Schema) (ty : Ty) (t : Tree) → depth (as_list s ty t) ≤ depth t
depth-as_list s void t = omega arith
depth-as_list s (plain p) t = omega arith
depth-as_list s text t = omega arith
depth-as_list s blob t = omega arith
depth-as_list s untyped t = omega arith
depth-as_list s interface t = omega arith
depth-as_list s (struct id) t = depth-widened_list (s.shape_of id) t
depth-as_list s (list ty) t = omega arith

module _ (m : ℕ) (f : Edit) (deepens : Deepens m f) where
  on_pointers_deepens : (k : ℕ) (ts : Trees) → depths (on_pointers f k ts) ≤ max (depths ts) m
  on_pointers_deepens zero none = omega arith
  on_pointers_deepens (suc k) none = omega arith
  on_pointers_deepens zero (t ▸ ts) =
      let c : Cell = record { section = 0; kids = t ▸ none } in
      let a = deepens c in let b = depth-child (f c).kids 0 in omega arith
  on_pointers_deepens (suc k) (t ▸ ts) = let r = on_pointers_deepens k ts in omega arith

  on_elements_deepens : (k : ℕ) (es : Elements) → element_depths (on_elements f k es) ≤ max (element_depths es) m
  on_elements_deepens zero no_elements = omega arith
  on_elements_deepens (suc k) no_elements = omega arith
  on_elements_deepens zero (element section kids es) = let a = deepens (record { section = section; kids = kids }) in omega arith
  on_elements_deepens (suc k) (element section kids es) = let r = on_elements_deepens k es in omega arith

list_deepens : (m : ℕ) (f : ℕ → ℕ → Edit) → ((w p : ℕ) → Deepens m (f w p)) → (k : ℕ) (t : Tree) → depth (edit_list f k t) ≤ max (depth t) (suc m)
list_deepens m f h k null = omega arith
list_deepens m f h k (capability i) = omega arith
list_deepens m f h k (structure w n ts) = omega arith
list_deepens m f h k (plain_list z n x) = omega arith
list_deepens m f h k (pointer_list ts) = let r = on_pointers_deepens m (f 0 1) (h 0 1) k ts in omega arith
list_deepens m f h k (struct_list w p es) = let r = on_elements_deepens m (f w p) (h w p) k es in omega arith

-- ---- the path

abbrev TargetWithin : ℕ → Target → Type 0
TargetWithin m no_target = Unit {0}
TargetWithin m (target member body) = BodyWithin m body

within_if : (m : ℕ) (b : Bool) (x y : Target) → TargetWithin m x → TargetWithin m y → TargetWithin m (target_if b x y)
within_if m true x y h k = h
within_if m false x y h k = k

target_within : (m : ℕ) (n : List ℕ) (fs : Fields) → AllDefaultsWithin m fs → TargetWithin m (target_of n fs)
target_within m n no_fields h = tt
target_within m n (field l member b fs) h = within_if m (bytes_eq l n) (target member b) (target_of n fs) h.0 (target_within m n fs h.1)

-- a change of a field adds no level past k, where the field's defaults have at most m
abbrev FieldDeepens : ℕ → ℕ → (Option ℕ → Option ℕ → Body → Edit) → Type 0
FieldDeepens m k f = (u member : Option ℕ) (body : Body) → BodyWithin m body → Deepens k (f u member body)

target_deepens : (m k : ℕ) (f : Option ℕ → Option ℕ → Body → Edit) → FieldDeepens m k f → (u : Option ℕ) (x : Target) → TargetWithin m x → Deepens k (edit_target f u x)
target_deepens m k f h u no_target w c = omega arith
target_deepens m k f h u (target member body) w c = h u member body w c

in_struct_deepens : (k words : ℕ) (f : Edit) → Deepens k f → (t : Tree) → depth (in_struct words f t) ≤ max (depth t) (suc k)
in_struct_deepens k words f h null = omega arith
in_struct_deepens k words f h (capability i) = omega arith
in_struct_deepens k words f h (structure w n ts) = let r = h (record { section = n; kids = ts }) in omega arith
in_struct_deepens k words f h (plain_list z n x) = omega arith
in_struct_deepens k words f h (pointer_list ts) = omega arith
in_struct_deepens k words f h (struct_list w p es) = omega arith

struct_deepens : (m k : ℕ) (f : Option ℕ → Option ℕ → Body → Edit) → FieldDeepens m k f → (n : List ℕ) (g : Shape) → DefaultsWithin m g → (t : Tree) → depth (edit_struct f n g t) ≤ max (depth t) (suc k)
struct_deepens m k f h n (shape nid w p u fs) d t =
    let a = in_struct_deepens k w (edit_named f n u fs) (target_deepens m k f h u (target_of n fs) (target_within m n fs d)) (widened w p t) in
    let b = depth-widened w p t in omega arith

opened_within : (m : ℕ) (ty : Ty) (d t : Tree) → depth d ≤ m → depth (opened_tree ty d t) ≤ max (depth t) m
opened_within m ty d null h = omega arith
opened_within m ty d (capability i) h = omega arith
opened_within m ty d (structure w n ts) h = omega arith
opened_within m ty d (plain_list z n x) h = omega arith
opened_within m ty d (pointer_list ts) h = omega arith
opened_within m ty d (struct_list w p es) h = omega arith

module _ (s : Schema) (m : ℕ) (one : 1 ≤ m) (defaults : (id : ℕ) → DefaultsWithin m (s.shape_of id)) (verb : Verb) (shallow : verb_depth verb ≤ m) where
  module _ (k : ℕ) (f : Option ℕ → Option ℕ → Body → Edit) (h : FieldDeepens m k f) (e : Ty → ℕ → ℕ → Edit) (g : (ty : Ty) (w p : ℕ) → Deepens k (e ty w p)) where
    value_deepens : (st : Step) (ty : Ty) (t : Tree) → depth (edit_value s st f e ty t) ≤ max (depth t) (suc k)
    value_deepens (name n) void t = omega arith
    value_deepens (name n) (plain p) t = omega arith
    value_deepens (name n) text t = omega arith
    value_deepens (name n) blob t = omega arith
    value_deepens (name n) untyped t = omega arith
    value_deepens (name n) interface t = omega arith
    value_deepens (name n) (struct id) t = struct_deepens m k f h n (s.shape_of id) (defaults id) t
    value_deepens (name n) (list ty) t = omega arith
    value_deepens (index i) void t = omega arith
    value_deepens (index i) (plain p) t = omega arith
    value_deepens (index i) text t = omega arith
    value_deepens (index i) blob t = omega arith
    value_deepens (index i) untyped t = omega arith
    value_deepens (index i) interface t = omega arith
    value_deepens (index i) (struct id) t = omega arith
    value_deepens (index i) (list ty) t = let a = list_deepens k (e ty) (g ty) i (as_list s ty t) in let b = depth-as_list s ty t in omega arith

    child_deepens : (st : Step) (i : ℕ) (ty : Ty) (d : Tree) → depth d ≤ m → m ≤ suc k → Deepens (suc k) (λ c. put_child i (edit_value s st f e ty (opened_tree ty d (child c.kids i))) c)
    child_deepens st i ty d within more c =
        let a = value_deepens st ty (opened_tree ty d (child c.kids i)) in
        let b = opened_within m ty d (child c.kids i) within in
        let q = depth-child c.kids i in
        let r = depths-with_child c.kids i (edit_value s st f e ty (opened_tree ty d (child c.kids i))) in omega arith

    named_deepens : (n : List ℕ) (x : Shape) → DefaultsWithin m x → Deepens (suc k) (elim x [ shape nid w p u fs ↦ edit_named f n u fs ])
    named_deepens n (shape nid w p u fs) d c = let a = target_deepens m k f h u (target_of n fs) (target_within m n fs d) c in omega arith

    through_deepens : (st : Step) (body : Body) → BodyWithin m body → m ≤ suc k → Deepens (suc k) (edit_through s st f e body)
    through_deepens (name n) (void_slot j) d more c = omega arith
    through_deepens (index i) (void_slot j) d more c = omega arith
    through_deepens (name n) (plain_slot p at x) d more c = omega arith
    through_deepens (index i) (plain_slot p at x) d more c = omega arith
    through_deepens (name n) (pointer_slot i ty x) d more c = child_deepens (name n) i ty (default_or_null x) d more c
    through_deepens (index j) (pointer_slot i ty x) d more c = child_deepens (index j) i ty (default_or_null x) d more c
    through_deepens (name n) (group_slot (shape nid w p u fs)) d more c = named_deepens n (shape nid w p u fs) d c
    through_deepens (index i) (group_slot x) d more c = omega arith

    only_deepens : (st : Step) (ty : Ty) → Deepens (suc k) (λ c. put_child 0 (edit_value s st f e ty (child c.kids 0)) c)
    only_deepens st ty c =
        let a = value_deepens st ty (child c.kids 0) in
        let q = depth-child c.kids 0 in
        let r = depths-with_child c.kids 0 (edit_value s st f e ty (child c.kids 0)) in omega arith

    through_element_deepens : (st : Step) (ty : Ty) → Deepens (suc k) (edit_through_element s st f e ty)
    through_element_deepens (name n) void c = only_deepens (name n) void c
    through_element_deepens (name n) (plain p) c = only_deepens (name n) (plain p) c
    through_element_deepens (name n) text c = only_deepens (name n) text c
    through_element_deepens (name n) blob c = only_deepens (name n) blob c
    through_element_deepens (name n) untyped c = only_deepens (name n) untyped c
    through_element_deepens (name n) interface c = only_deepens (name n) interface c
    through_element_deepens (name n) (struct id) c = by (s.shape_of id) (defaults id)
      where
        by : (x : Shape) → DefaultsWithin m x → depths (elim x as (λ y. Cell) [ shape nid w p u fs ↦ edit_named f n u fs c ]).kids ≤ max (depths c.kids) (suc k)
        by (shape nid w p u fs) d = let a = target_deepens m k f h u (target_of n fs) (target_within m n fs d) c in omega arith
    through_element_deepens (name n) (list ty) c = only_deepens (name n) (list ty) c
    through_element_deepens (index i) void c = only_deepens (index i) void c
    through_element_deepens (index i) (plain p) c = only_deepens (index i) (plain p) c
    through_element_deepens (index i) text c = only_deepens (index i) text c
    through_element_deepens (index i) blob c = only_deepens (index i) blob c
    through_element_deepens (index i) untyped c = only_deepens (index i) untyped c
    through_element_deepens (index i) interface c = only_deepens (index i) interface c
    through_element_deepens (index i) (struct id) c = only_deepens (index i) (struct id) c
    through_element_deepens (index i) (list ty) c = only_deepens (index i) (list ty) c

  mutual
    unfolding edit_field

    field_deepens : (path : List Step) → FieldDeepens m (length path + m) (edit_field s path verb)
    field_deepens [] u member body d c =
        let a = mark_deepens m u member c in let b = field_put m one s verb shallow body d (mark u member c) in omega arith
    field_deepens (st ∷ path) u member body d c =
        let a = through_deepens (length path + m) (edit_field s path verb) (field_deepens path) (edit_element s path verb) (element_deepens path) st body d (omega arith) c in omega arith

    element_deepens : (path : List Step) (ty : Ty) (w p : ℕ) → Deepens (length path + m) (edit_element s path verb ty w p)
    element_deepens [] ty w p c = let a = element_put m w p ty (element_content s verb ty) (element_within m one s verb shallow ty) c in omega arith
    element_deepens (st ∷ path) ty w p c =
        let a = through_element_deepens (length path + m) (edit_field s path verb) (field_deepens path) (edit_element s path verb) (element_deepens path) st ty c in omega arith

  path_deepens : (g : Shape) → DefaultsWithin m g → (path : List Step) (t : Tree) → depth (write_path s g path verb t) ≤ max (depth t) (length path + m)
  path_deepens g d [] t = omega arith
  path_deepens g d (name n ∷ path) t = let a = struct_deepens m (length path + m) (edit_field s path verb) (field_deepens path) n g d t in omega arith
  path_deepens g d (index i ∷ path) t = omega arith

-- ---- the defaults of node records

module _ (m : ℕ) (enough : 64 ≤ m) where
  decoded_deep : (bytes : List ℕ) (t : Tree) → decode bytes ≡ Some t → depth t ≤ 64
  unfolding decode
  decoded_deep bytes t e =
      let a = bind_some (tree_at 64 (words_in_bytes (length bytes / 8) bytes ∷ []) root) _ t e in
      let b = provided_some a.0 t _ a.2 in
      subst (λ u. depth u ≤ 64) b.1 (tree_at_deep 64 _ root a.0 a.1)

  decoded_within : (bytes : List ℕ) → depth (default_or_null (decode bytes)) ≤ m
  decoded_within bytes = by (decode bytes) refl
    where
      by : (o : Option Tree) → decode bytes ≡ o → depth (default_or_null o) ≤ m
      by None e = omega arith
      by (Some t) e = let h = decoded_deep bytes t e in omega arith

  default_within : (d : Option Value) → depth (default_or_null (default_tree d)) ≤ m
  default_within None = omega arith
  default_within (Some no_value) = omega arith
  default_within (Some (bits p n)) = omega arith
  default_within (Some (text_bytes bs)) = omega arith
  default_within (Some (blob_bytes bs)) = omega arith
  default_within (Some (list_segment bs)) = decoded_within bs
  default_within (Some (struct_segment bs)) = decoded_within bs
  default_within (Some untyped_value) = omega arith
  default_within (Some interface_value) = omega arith

  slot_default : (offset : ℕ) (ty : Ty) (d : Option Value) → BodyWithin m (slot_body offset ty d)
  slot_default offset void d = tt
  slot_default offset (plain p) d = tt
  slot_default offset text d = default_within d
  slot_default offset blob d = default_within d
  slot_default offset untyped d = default_within d
  slot_default offset interface d = default_within d
  slot_default offset (struct id) d = default_within d
  slot_default offset (list ty) d = default_within d

  module _ (groups : ℕ → Shape) (h : (id : ℕ) → DefaultsWithin m (groups id)) where
    field_default : (k : FieldKind) → BodyWithin m (field_body groups k)
    field_default (slot offset ty d) = slot_default offset (type_of ty) d
    field_default (group id) = h id

    fields_default : (fs : List Field) → AllDefaultsWithin m (fields_from groups fs)
    fields_default [] = tt
    fields_default (f ∷ fs) = (field_default f.kind, fields_default fs)

    kind_default : (n : Node) (k : NodeKind) → DefaultsWithin m (elim k as (λ x. Shape) [ struct_node s ↦ shape n.id s.words s.pointers (union_place s) (fields_from groups s.fields) | enum_node es ↦ no_shape ])
    kind_default n (struct_node s) = fields_default s.fields
    kind_default n (enum_node es) = tt

    node_default : (o : Option Node) → DefaultsWithin m (shape_of_node groups o)
    node_default None = tt
    node_default (Some n) = kind_default n n.kind

  shape_default : (nodes : List Node) (levels id : ℕ) → DefaultsWithin m (shape_in nodes levels id)
  unfolding shape_in
  shape_default nodes zero id = tt
  shape_default nodes (suc levels) id = node_default (λ g. shape_in nodes levels g) (λ g. shape_default nodes levels g) (find_node nodes id)

done_deeper : (o : Outcome Record) (new old : Tree) (k : ℕ) → depth new ≤ max (depth old) k → depth (if_done o new old) ≤ max (depth old) k
done_deeper (refused kind) new old k h = omega arith
done_deeper (shown how r) new old k h = omega arith
done_deeper (done r) new old k h = h

-- THE LAW: a call adds no level past its own.
pub edit_deepens : (nodes : List Node) (id : ℕ) (c : Call) (t : Tree) → depth (edit (schema_of nodes) id c t) ≤ max (depth t) (call_depth c)
unfolding edit schema_of
edit_deepens nodes id c t =
    let s = schema_of nodes in
    let m : ℕ = max 64 (verb_depth c.verb) in
    let defaults : (x : ℕ) → DefaultsWithin m (s.shape_of x) = λ x. shape_default m (omega arith) nodes (length nodes) x in
    done_deeper (step s id c (record_of s id t)) (write_path s (s.shape_of id) c.path c.verb t) t (length c.path + m)
    (path_deepens s m (omega arith) defaults c.verb (omega arith) (s.shape_of id) (defaults id) c.path t)

-- THE LAW, of calls in turn
pub edits_deepen : (nodes : List Node) (id : ℕ) (k : ℕ) (calls : List Call) (t : Tree) → AllByRecursion (λ c. call_depth c ≤ k) calls → depth (edits (schema_of nodes) id calls t) ≤ max (depth t) k
unfolding edits
edits_deepen nodes id k [] t h = omega arith
edits_deepen nodes id k (c ∷ cs) t h = let a = edit_deepens nodes id c t in let b = edits_deepen nodes id k cs (edit (schema_of nodes) id c t) h.1 in let l = h.0 in omega arith
