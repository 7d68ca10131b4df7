-- Calls put no capability into a value.
use Rattle.std.proofs.Common.{ℕ, zero, suc, Bool, true, false, Option, List, [], ◌∷◌}
use Rattle.std.specs.Str.{bytes_eq}
use Rattle.capnp_model.specs.Trees.{Tree, null, capability, structure, plain_list, pointer_list, struct_list, Trees, none, ◌▸◌, Elements, no_elements, element, child, with_child, plain_elements, widened}
use Rattle.capnp_model.specs.Schemas.{Ty, void, plain, text, blob, untyped, interface, struct, list, Shape, shape, Fields, no_fields, field, Body, void_slot, plain_slot, pointer_slot, group_slot, Schema, default_or_null}
use Rattle.capnp_model.specs.Calls.{Step, name, index, Verb, element_content}
use Rattle.capnp_model.specs.Steps.{target, target_if, target_of}
use Rattle.capnp_model.specs.Edits.{Cell, Edit, mark, opened_tree, edit_target, edit_named, in_struct, edit_struct, elements_of_plain, elements_of_pointers, padded_elements, widened_list, as_list, on_pointers, on_elements, edit_list, edit_value, edit_through, edit_through_element, edit_field, edit_element, write_path}
use Rattle.capnp_model_versions.proofs.BareValues.{IsBare, AreBare, HaveBare, bare-with, bare-padded, bare-resized, bare-child, bare-widened}
use Rattle.capnp_model_versions.proofs.BareContents.{IsBareVerb, element-content}
use Rattle.capnp_model_versions.proofs.BareCells.{ShapeBare, FieldsBare, BodyBare, KeepsBare, mark-bare, field-put, element-put}

-- ---- lists

of-plain : (p : ℕ) (xs : List ℕ) → HaveBare (elements_of_plain p xs)
of-plain p [] = tt
of-plain p (x ∷ xs) = (bare-resized p none tt, of-plain p xs)

of-pointers : (p : ℕ) (ts : Trees) → AreBare ts → HaveBare (elements_of_pointers p ts)
of-pointers p none h = tt
of-pointers p (t ▸ ts) h = (bare-padded p (t ▸ none) (h.0, tt), of-pointers p ts h.1)

padded-bare : (p : ℕ) (es : Elements) → HaveBare es → HaveBare (padded_elements p es)
padded-bare p no_elements h = tt
padded-bare p (element n ts es) h = (bare-padded p ts h.0, padded-bare p es h.1)

widened-list : (g : Shape) (t : Tree) → IsBare t → IsBare (widened_list g t)
widened-list (shape nid w p u fs) null h = h
widened-list (shape nid w p u fs) (capability i) h = h
widened-list (shape nid w p u fs) (structure x n ts) h = h
widened-list (shape nid w p u fs) (plain_list z n x) h = of-plain p (plain_elements z n x)
widened-list (shape nid w p u fs) (pointer_list ts) h = of-pointers p ts h
widened-list (shape nid w p u fs) (struct_list d k es) h = padded-bare p es h

on-pointers : (f : Edit) → KeepsBare f → (k : ℕ) (ts : Trees) → AreBare ts → AreBare (on_pointers f k ts)
on-pointers f keeps zero none h = tt
on-pointers f keeps (suc k) none h = tt
on-pointers f keeps zero (t ▸ ts) h =
    let c : Cell = record { section = 0; kids = t ▸ none } in
    (bare-child (f c).kids 0 (keeps c (h.0, tt)), h.1)
on-pointers f keeps (suc k) (t ▸ ts) h = (h.0, on-pointers f keeps k ts h.1)

on-elements : (f : Edit) → KeepsBare f → (k : ℕ) (es : Elements) → HaveBare es → HaveBare (on_elements f k es)
on-elements f keeps zero no_elements h = tt
on-elements f keeps (suc k) no_elements h = tt
on-elements f keeps zero (element n ts es) h = (keeps (record { section = n; kids = ts }) h.0, h.1)
on-elements f keeps (suc k) (element n ts es) h = (h.0, on-elements f keeps k es h.1)

list-bare : (f : ℕ → ℕ → Edit) → ((w q : ℕ) → KeepsBare (f w q)) → (k : ℕ) (t : Tree) → IsBare t → IsBare (edit_list f k t)
list-bare f keeps k null h = h
list-bare f keeps k (capability i) h = h
list-bare f keeps k (structure w n ts) h = h
list-bare f keeps k (plain_list z n x) h = tt
list-bare f keeps k (pointer_list ts) h = on-pointers (f 0 1) (keeps 0 1) k ts h
list-bare f keeps k (struct_list w p es) h = on-elements (f w p) (keeps w p) k es h

-- ---- structs

in-struct : (w : ℕ) (f : Edit) → KeepsBare f → (t : Tree) → IsBare t → IsBare (in_struct w f t)
in-struct w f keeps null h = h
in-struct w f keeps (capability i) h = h
in-struct w f keeps (structure x n ts) h = keeps (record { section = n; kids = ts }) h
in-struct w f keeps (plain_list z n x) h = h
in-struct w f keeps (pointer_list ts) h = h
in-struct w f keeps (struct_list x p es) h = h

opened-bare : (ty : Ty) (d t : Tree) → IsBare d → IsBare t → IsBare (opened_tree ty d t)
opened-bare ty d null h k = h
opened-bare ty d (capability i) h k = k
opened-bare ty d (structure w n ts) h k = k
opened-bare ty d (plain_list z n x) h k = k
opened-bare ty d (pointer_list ts) h k = k
opened-bare ty d (struct_list w p es) h k = k

-- ---- paths

module _ (s : Schema) (bare : (id : ℕ) → ShapeBare (s.shape_of id)) (verb : Verb) (v : IsBareVerb verb) where
  abbrev FieldKeeps : List Step → Type 0
  FieldKeeps path = (u m : Option ℕ) (b : Body) → BodyBare b → KeepsBare (edit_field s path verb u m b)

  abbrev ElementKeeps : List Step → Type 0
  ElementKeeps path = (ty : Ty) (w q : ℕ) → KeepsBare (edit_element s path verb ty w q)

  module _ (path : List Step) (fields : FieldKeeps path) (elements : ElementKeeps path) where
    name-keeps : (l : List ℕ) (u : Option ℕ) (fs : Fields) → FieldsBare fs → KeepsBare (edit_named (edit_field s path verb) l u fs)
    name-keeps l u no_fields g c h = h
    name-keeps l u (field n m b fs) g c h = by (bytes_eq n l) (name-keeps l u fs g.1 c h)
      where
        by : (x : Bool) → AreBare (edit_target (edit_field s path verb) u (target_of l fs) c).kids → AreBare (edit_target (edit_field s path verb) u (target_if x (target m b) (target_of l fs)) c).kids
        by true more = fields u m b g.0 c h
        by false more = more

    struct-keeps : (l : List ℕ) (g : Shape) → ShapeBare g → (t : Tree) → IsBare t → IsBare (edit_struct (edit_field s path verb) l g t)
    struct-keeps l (shape nid w p u fs) g t h = in-struct w (edit_named (edit_field s path verb) l u fs) (name-keeps l u fs g) (widened w p t) (bare-widened w p t h)

    as-list : (ty : Ty) (t : Tree) → IsBare t → IsBare (as_list s ty t)
    as-list void t h = h
    as-list (plain p) t h = h
    as-list text t h = h
    as-list blob t h = h
    as-list untyped t h = h
    as-list interface t h = h
    as-list (struct id) t h = widened-list (s.shape_of id) t h
    as-list (list ty) t h = h

    value-keeps : (st : Step) (ty : Ty) (t : Tree) → IsBare t → IsBare (edit_value s st (edit_field s path verb) (edit_element s path verb) ty t)
    value-keeps (name l) void t h = h
    value-keeps (name l) (plain p) t h = h
    value-keeps (name l) text t h = h
    value-keeps (name l) blob t h = h
    value-keeps (name l) untyped t h = h
    value-keeps (name l) interface t h = h
    value-keeps (name l) (struct id) t h = struct-keeps l (s.shape_of id) (bare id) t h
    value-keeps (name l) (list ty) t h = h
    value-keeps (index i) void t h = h
    value-keeps (index i) (plain p) t h = h
    value-keeps (index i) text t h = h
    value-keeps (index i) blob t h = h
    value-keeps (index i) untyped t h = h
    value-keeps (index i) interface t h = h
    value-keeps (index i) (struct id) t h = h
    value-keeps (index i) (list ty) t h = list-bare (edit_element s path verb ty) (elements ty) i (as_list s ty t) (as-list ty t h)

    pointer-keeps : (st : Step) (i : ℕ) (ty : Ty) (d : Option Tree) → IsBare (default_or_null d) → (c : Cell) → AreBare c.kids
        → IsBare (edit_value s st (edit_field s path verb) (edit_element s path verb) ty (opened_tree ty (default_or_null d) (child c.kids i)))
    pointer-keeps st i ty d g c h = value-keeps st ty (opened_tree ty (default_or_null d) (child c.kids i)) (opened-bare ty (default_or_null d) (child c.kids i) g (bare-child c.kids i h))

    through-keeps : (st : Step) (b : Body) → BodyBare b → KeepsBare (edit_through s st (edit_field s path verb) (edit_element s path verb) b)
    through-keeps (name l) (void_slot j) g c h = h
    through-keeps (index i) (void_slot j) g c h = h
    through-keeps (name l) (plain_slot p at d) g c h = h
    through-keeps (index i) (plain_slot p at d) g c h = h
    through-keeps (index i) (group_slot x) g c h = h
    through-keeps (name l) (group_slot (shape nid w p u fs)) g c h = name-keeps l u fs g c h
    through-keeps (name l) (pointer_slot i ty d) g c h = bare-with c.kids i _ h (pointer-keeps (name l) i ty d g c h)
    through-keeps (index k) (pointer_slot i ty d) g c h = bare-with c.kids i _ h (pointer-keeps (index k) i ty d g c h)

    named-element : (l : List ℕ) (g : Shape) → ShapeBare g → (c : Cell) → AreBare c.kids → AreBare (elim g as (λ x. Cell) [ shape nid x y u fs ↦ edit_named (edit_field s path verb) l u fs c ]).kids
    named-element l (shape nid x y u fs) g c h = name-keeps l u fs g c h

    first-keeps : (st : Step) (ty : Ty) (c : Cell) → AreBare c.kids → AreBare (with_child c.kids 0 (edit_value s st (edit_field s path verb) (edit_element s path verb) ty (child c.kids 0)))
    first-keeps st ty c h = bare-with c.kids 0 _ h (value-keeps st ty (child c.kids 0) (bare-child c.kids 0 h))

    through-element : (st : Step) (ty : Ty) → KeepsBare (edit_through_element s st (edit_field s path verb) (edit_element s path verb) ty)
    through-element (name l) void c h = first-keeps (name l) void c h
    through-element (name l) (plain p) c h = first-keeps (name l) (plain p) c h
    through-element (name l) text c h = first-keeps (name l) text c h
    through-element (name l) blob c h = first-keeps (name l) blob c h
    through-element (name l) untyped c h = first-keeps (name l) untyped c h
    through-element (name l) interface c h = first-keeps (name l) interface c h
    through-element (name l) (struct id) c h = named-element l (s.shape_of id) (bare id) c h
    through-element (name l) (list ty) c h = first-keeps (name l) (list ty) c h
    through-element (index i) ty c h = first-keeps (index i) ty c h

  mutual
    unfolding edit_field

    fields-keep : (path : List Step) → FieldKeeps path
    fields-keep [] u m b g c h = field-put s verb v b g (mark u m c) (mark-bare u m c h)
    fields-keep (st ∷ path) u m b g c h = through-keeps path (fields-keep path) (elements-keep path) st b g c h

    elements-keep : (path : List Step) → ElementKeeps path
    elements-keep [] ty w q c h = element-put w q ty (element_content s verb ty) (element-content s verb v ty) c h
    elements-keep (st ∷ path) ty w q c h = through-element path (fields-keep path) (elements-keep path) st ty c h

  -- whatever the path is
  pub written-bare : (g : Shape) → ShapeBare g → (path : List Step) (t : Tree) → IsBare t → IsBare (write_path s g path verb t)
  written-bare g b [] t h = h
  written-bare g b (index i ∷ path) t h = h
  written-bare g b (name n ∷ path) t h = struct-keeps path (fields-keep path) (elements-keep path) n g b t h
