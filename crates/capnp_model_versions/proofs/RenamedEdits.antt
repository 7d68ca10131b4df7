-- An edit along a path is the same along the path in a newer schema's words.
use Rattle.std.proofs.Common.{◌≡◌, ℕ, List, [], ◌∷◌, Option, refl, sym, ◌∙◌, ap}
use Rattle.capnp_model.specs.Trees.{Tree, child, widened}
use Rattle.capnp_model.specs.Schemas.{Ty, void, plain, text, blob, untyped, interface, struct, list, Shape, shape, id_of_shape, Fields, Body, void_slot, plain_slot, pointer_slot, group_slot, Schema, default_or_null}
use Rattle.capnp_model.specs.Partners.{Renaming, partner_name, renamed_shape, renamed_fields, renamed_body, renamed}
use Rattle.capnp_model.specs.RenamedCalls.{renamed_path, renamed_step, node_at}
use Rattle.capnp_model.specs.InKindCalls.{at_slot, at_value, end_at, step_into}
use Rattle.capnp_model.specs.Printing.{fields_in}
use Rattle.capnp_model.specs.Calls.{Step, name, index, Verb}
use Rattle.capnp_model.specs.Steps.{Target, target_of}
use Rattle.capnp_model.specs.Edits.{Cell, Edit, put_child, mark, opened_tree, edit_target, edit_named, in_struct, edit_struct, edit_list, as_list, edit_value, edit_through, edit_through_element, edit_field, edit_element, put_in_element}
use Rattle.capnp_model_versions.proofs.RenamedTwins.{NameTwin, ValueTwin, FieldTwin, ElementTwin}
use Rattle.capnp_model_versions.proofs.RenamedWrites.{shape-is, as-list-same, element-content-same, put-same}

module _ (rs : List Renaming) (o : Schema) (verb : Verb) where
  abbrev o' : Schema
  o' = renamed rs o

  -- the path in the newer's words, from a field and from an element
  abbrev behind : List Step → Body → List Step
  behind path b = renamed_path rs o path (at_slot b)

  abbrev within : List Step → Ty → List Step
  within path ty = renamed_path rs o path (at_value ty)

  abbrev FieldSame : List Step → Type 0
  FieldSame path = (u m : Option ℕ) (b : Body) (c : Cell) → FieldTwin rs o path b → edit_field o' (behind path b) verb u m (renamed_body rs b) c ≡ edit_field o path verb u m b c

  abbrev ElementSame : List Step → Type 0
  ElementSame path = (ty : Ty) (w p : ℕ) (c : Cell) → ElementTwin rs o path ty → edit_element o' (within path ty) verb ty w p c ≡ edit_element o path verb ty w p c

  module _ (path : List Step) (fields : FieldSame path) (elements : ElementSame path) where
    -- the field that both names find
    named : (l : List ℕ) (nid w p : ℕ) (u : Option ℕ) (fs : Fields) (c : Cell) → NameTwin rs o (FieldTwin rs o path) l (shape nid w p u fs)
        → edit_named (edit_field o' (renamed_path rs o path (end_at (target_of l fs))) verb) (partner_name rs nid l) u (renamed_fields rs nid fs) c ≡ edit_named (edit_field o path verb) l u fs c
    named l nid w p u fs c (m, b, e, e', h) =
        ap (λ (t : Target). edit_target (edit_field o' (renamed_path rs o path (end_at t)) verb) u (target_of (partner_name rs nid l) (renamed_fields rs nid fs)) c) e
        ∙ ap (λ (t : Target). edit_target (edit_field o' (behind path b) verb) u t c) e'
        ∙ fields u m b c h
        ∙ sym (ap (λ (t : Target). edit_target (edit_field o path verb) u t c) e)

    in_shape : (l : List ℕ) (g : Shape) (t : Tree) → NameTwin rs o (FieldTwin rs o path) l g
        → edit_struct (edit_field o' (renamed_path rs o path (end_at (target_of l (fields_in g)))) verb) (partner_name rs (id_of_shape g) l) (renamed_shape rs g) t ≡ edit_struct (edit_field o path verb) l g t
    in_shape l (shape nid w p u fs) t h = ap (λ (f : Edit). in_struct w f (widened w p t)) (λ k c. (named l nid w p u fs c h) k)

    value_same : (st : Step) (ty : Ty) (t : Tree) → ValueTwin rs o st (FieldTwin rs o path) (ElementTwin rs o path) ty
        → edit_value o' (renamed_step rs (node_at o (at_value ty)) st) (edit_field o' (renamed_path rs o path (step_into o st ty)) verb) (edit_element o' (renamed_path rs o path (step_into o st ty)) verb) ty t
        ≡ edit_value o st (edit_field o path verb) (edit_element o path verb) ty t
    value_same (name l) (struct i) t h =
        ap (λ (g : Shape). edit_struct (edit_field o' (renamed_path rs o path (end_at (target_of l (fields_in (o.shape_of i))))) verb) (partner_name rs (id_of_shape (o.shape_of i)) l) g t) (shape-is rs o i)
        ∙ in_shape l (o.shape_of i) t h
    value_same (index k) (list ty) t h =
        ap (edit_list (edit_element o' (within path ty) verb ty) k) (as-list-same rs o ty t)
        ∙ ap (λ (f : ℕ → ℕ → Edit). edit_list f k (as_list o ty t)) (λ j w p c. (elements ty w p c h) j)
    value_same (name l) void t h = refl
    value_same (name l) (plain q) t h = refl
    value_same (name l) text t h = refl
    value_same (name l) blob t h = refl
    value_same (name l) untyped t h = refl
    value_same (name l) interface t h = refl
    value_same (name l) (list ty) t h = refl
    value_same (index k) void t h = refl
    value_same (index k) (plain q) t h = refl
    value_same (index k) text t h = refl
    value_same (index k) blob t h = refl
    value_same (index k) untyped t h = refl
    value_same (index k) interface t h = refl
    value_same (index k) (struct i) t h = refl

    node_same : (i : ℕ) (ty : Ty) (d : Option Tree) → node_at o (at_slot (pointer_slot i ty d)) ≡ node_at o (at_value ty)
    node_same i void d = refl
    node_same i (plain q) d = refl
    node_same i text d = refl
    node_same i blob d = refl
    node_same i untyped d = refl
    node_same i interface d = refl
    node_same i (struct id) d = refl
    node_same i (list ty) d = refl

    pointer_same : (st : Step) (i : ℕ) (ty : Ty) (d : Option Tree) (c : Cell) → ValueTwin rs o st (FieldTwin rs o path) (ElementTwin rs o path) ty
        → put_child i (edit_value o' (renamed_step rs (node_at o (at_slot (pointer_slot i ty d))) st) (edit_field o' (renamed_path rs o path (step_into o st ty)) verb) (edit_element o' (renamed_path rs o path (step_into o st ty)) verb) ty (opened_tree ty (default_or_null d) (child c.kids i))) c
        ≡ put_child i (edit_value o st (edit_field o path verb) (edit_element o path verb) ty (opened_tree ty (default_or_null d) (child c.kids i))) c
    pointer_same st i ty d c h =
        ap (λ (node : Option ℕ). put_child i (edit_value o' (renamed_step rs node st) (edit_field o' (renamed_path rs o path (step_into o st ty)) verb) (edit_element o' (renamed_path rs o path (step_into o st ty)) verb) ty (opened_tree ty (default_or_null d) (child c.kids i))) c) (node_same i ty d)
        ∙ ap (λ z. put_child i z c) (value_same st ty (opened_tree ty (default_or_null d) (child c.kids i)) h)

    -- a step through a pointer goes into its value
    through_pointer : (s : Schema) (st : Step) (f : Option ℕ → Option ℕ → Body → Edit) (e : Ty → ℕ → ℕ → Edit) (i : ℕ) (ty : Ty) (d : Option Tree) (c : Cell)
        → edit_through s st f e (pointer_slot i ty d) c ≡ put_child i (edit_value s st f e ty (opened_tree ty (default_or_null d) (child c.kids i))) c
    through_pointer s (name l) f e i ty d c = refl
    through_pointer s (index k) f e i ty d c = refl

    field_step : (st : Step) → FieldSame (st ∷ path)
    unfolding edit_field renamed_path
    field_step (name l) u m (group_slot (shape nid w p v fs)) c h = named l nid w p v fs c h
    field_step (index k) u m (group_slot (shape nid w p v fs)) c h = refl
    field_step (name l) u m (void_slot j) c h = refl
    field_step (index k) u m (void_slot j) c h = refl
    field_step (name l) u m (plain_slot q at d) c h = refl
    field_step (index k) u m (plain_slot q at d) c h = refl
    field_step (name l) u m (pointer_slot i ty d) c h = through_pointer o' (renamed_step rs (node_at o (at_slot (pointer_slot i ty d))) (name l)) _ _ i ty d c ∙ pointer_same (name l) i ty d c h
    field_step (index k) u m (pointer_slot i ty d) c h = through_pointer o' (renamed_step rs (node_at o (at_slot (pointer_slot i ty d))) (index k)) _ _ i ty d c ∙ pointer_same (index k) i ty d c h

    element_named : (l : List ℕ) (g : Shape) (c : Cell) → NameTwin rs o (FieldTwin rs o path) l g
        → (elim (renamed_shape rs g) as (λ (x : Shape). Cell) [ shape nid w p u fs ↦ edit_named (edit_field o' (renamed_path rs o path (end_at (target_of l (fields_in g)))) verb) (partner_name rs (id_of_shape g) l) u fs c ])
        ≡ (elim g as (λ (x : Shape). Cell) [ shape nid w p u fs ↦ edit_named (edit_field o path verb) l u fs c ])
    element_named l (shape nid w p u fs) c h = named l nid w p u fs c h

    element_step : (st : Step) (ty : Ty) (c : Cell) → ValueTwin rs o st (FieldTwin rs o path) (ElementTwin rs o path) ty
        → edit_through_element o' (renamed_step rs (node_at o (at_value ty)) st) (edit_field o' (renamed_path rs o path (step_into o st ty)) verb) (edit_element o' (renamed_path rs o path (step_into o st ty)) verb) ty c
        ≡ edit_through_element o st (edit_field o path verb) (edit_element o path verb) ty c
    element_step (name l) (struct i) c h =
        ap (λ (g : Shape). elim g as (λ (x : Shape). Cell) [ shape nid w p u fs ↦ edit_named (edit_field o' (renamed_path rs o path (end_at (target_of l (fields_in (o.shape_of i))))) verb) (partner_name rs (id_of_shape (o.shape_of i)) l) u fs c ]) (shape-is rs o i)
        ∙ element_named l (o.shape_of i) c h
    element_step (index k) (struct i) c h = refl
    element_step (name l) void c h = refl
    element_step (name l) (plain q) c h = refl
    element_step (name l) text c h = refl
    element_step (name l) blob c h = refl
    element_step (name l) untyped c h = refl
    element_step (name l) interface c h = refl
    element_step (name l) (list ty) c h = refl
    element_step (index k) (list ty) c h = ap (λ z. put_child 0 z c) (value_same (index k) (list ty) (child c.kids 0) h)
    element_step (index k) void c h = refl
    element_step (index k) (plain q) c h = refl
    element_step (index k) text c h = refl
    element_step (index k) blob c h = refl
    element_step (index k) untyped c h = refl
    element_step (index k) interface c h = refl

  mutual
    unfolding edit_field edit_element renamed_path

    fields_same : (path : List Step) → FieldSame path
    fields_same [] = λ u m b c h. put-same rs o verb b (mark u m c)
    fields_same (st ∷ path) = field_step path (fields_same path) (elements_same path) st

    elements_same : (path : List Step) → ElementSame path
    elements_same [] = λ ty w p c h. ap (λ x. put_in_element w p ty x c) (element-content-same rs o verb ty)
    elements_same (name l ∷ path) = λ ty w p c h. element_step path (fields_same path) (elements_same path) (name l) ty c h
    elements_same (index k ∷ path) = λ ty w p c h. element_step path (fields_same path) (elements_same path) (index k) ty c h

  -- THE LAW: a path from a struct on
  pub path-same : (path : List Step) (l : List ℕ) (id : ℕ) (t : Tree) → NameTwin rs o (FieldTwin rs o path) l (o.shape_of id)
      → edit_struct (edit_field o' (renamed_path rs o path (end_at (target_of l (fields_in (o.shape_of id))))) verb) (partner_name rs (id_of_shape (o.shape_of id)) l) (o'.shape_of id) t ≡ edit_struct (edit_field o path verb) l (o.shape_of id) t
  path-same path l id t h =
      ap (λ (g : Shape). edit_struct (edit_field o' (renamed_path rs o path (end_at (target_of l (fields_in (o.shape_of id))))) verb) (partner_name rs (id_of_shape (o.shape_of id)) l) g t) (shape-is rs o id)
      ∙ in_shape path (fields_same path) (elements_same path) l (o.shape_of id) t h
