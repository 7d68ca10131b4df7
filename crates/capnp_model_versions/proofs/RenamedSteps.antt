-- A call ends alike along a path and along the path in the newer's words.
use Rattle.std.proofs.Common.{◌≡◌, ℕ, zero, suc, Bool, true, false, List, [], ◌∷◌, Option, Some, None, refl, sym, ◌∙◌, ap}
use Rattle.capnp_model.specs.Kinds.{Kind}
use Rattle.capnp_model.specs.Trees.{Tree, null, capability, structure, plain_list, pointer_list, struct_list, child}
use Rattle.capnp_model.specs.Schemas.{Ty, void, plain, text, blob, untyped, interface, struct, list, Shape, shape, id_of_shape, Fields, Body, void_slot, plain_slot, pointer_slot, group_slot, Schema, default_or_null}
use Rattle.capnp_model.specs.Partners.{Renaming, partner_name, renamed_shape, renamed_fields, renamed_body, renamed}
use Rattle.capnp_model.specs.RenamedCalls.{renamed_path, renamed_step, node_at}
use Rattle.capnp_model.specs.InKindCalls.{at_slot, at_value, end_at, step_into}
use Rattle.capnp_model.specs.Readings.{Reading, null_pointer, number, text_of, blob_of, opaque, list_of, record_as, Readings, no_readings, ◌▹◌, Record, Children, Extent, whole_words, discriminant, is_active, only_if, shape_record, fields_of, body_of, element_as, read, read_child, record_by_shape}
use Rattle.capnp_model.specs.Printing.{as_type, as_body, fields_in}
use Rattle.capnp_model.specs.Calls.{Step, name, index, Verb, get, set_to, init, initn, clear, CallValue, whole_number, truth, enumerant, text_value, blob_value, message, message_root, slot_content, element_content}
use Rattle.capnp_model.specs.Groups.{group_fault}
use Rattle.capnp_model.specs.Steps.{Outcome, reading_after, Target, target_of, entry_of, replaced, at_target, on_name, on_index, copied_or_refused, set_group_from, set_group, slot_type, at_field, at_element, opened, through_value, through_field, step_field, step_element}
use Rattle.capnp_model.proofs.lemmas.Paths.{entry_of-fields_of}
use Rattle.capnp_model_versions.proofs.RenamedTwins.{NameTwin, ValueTwin, FieldTwin, ElementTwin}
use Rattle.capnp_model_versions.proofs.RenamedWrites.{shape-is, slot-content-same, element-content-same}
use Rattle.capnp_model_versions.proofs.RenamedReadings.{head, kids_at, child_at, Like, like_null, like_fault, like_number, like_text, like_blob, like_opaque, like_struct, like_list, BothItem, both_item, BothItems, heads-like, read-like, element-like, opened-like}
use Rattle.capnp_model_versions.proofs.RenamedFaults.{group-fault-same}
use Rattle.capnp_model_versions.proofs.RenamedEnds.{End, is_refused, is_done, end_is, end-mapped, both_mapped, content_end, after_end, got_alike, wrong_step, like-here, passes}

abbrev fault_end : Option Kind → End
fault_end (Some k) = is_refused k
fault_end None = is_done

copied_end : (s : Schema) (g : Shape) (r : Record) (k : Option Kind) → end_is (copied_or_refused s g r k) ≡ fault_end k
copied_end s g r (Some k) = refl
copied_end s g r None = refl

module _ (rs : List Renaming) (o : Schema) (verb : Verb) where
  abbrev o' : Schema
  o' = renamed rs o

  abbrev behind : List Step → Body → List Step
  behind path b = renamed_path rs o path (at_slot b)

  abbrev within : List Step → Ty → List Step
  within path ty = renamed_path rs o path (at_value ty)

  abbrev FieldEnds : List Step → Type 0
  FieldEnds path =
      (b : Body) (a : Bool) (size : Extent) (section : ℕ) (f : ℕ → Tree) → FieldTwin rs o path b
      → end_is (step_field o path verb b (only_if a (body_of b size section (kids_at o f)))) ≡ end_is (step_field o' (behind path b) verb (renamed_body rs b) (only_if a (body_of (renamed_body rs b) size section (kids_at o' f))))

  abbrev ElementEnds : List Step → Type 0
  ElementEnds path =
      (ty : Ty) (size : Extent) (section : ℕ) (f : ℕ → Tree) → ElementTwin rs o path ty
      → end_is (step_element o path verb ty (element_as o ty size section (kids_at o f))) ≡ end_is (step_element o' (within path ty) verb ty (element_as o' ty size section (kids_at o' f)))

  -- ---- the end of a path

  body_heads : (b : Body) (a : Bool) (size : Extent) (section : ℕ) (f : ℕ → Tree) → head (only_if a (body_of b size section (kids_at o f))) ≡ head (only_if a (body_of (renamed_body rs b) size section (kids_at o' f)))
  unfolding shape_record
  body_heads b false size section f = refl
  body_heads (void_slot j) true size section f = refl
  body_heads (plain_slot p at d) true size section f = refl
  body_heads (pointer_slot i ty d) true size section f = heads-like rs o ty (read o (f i) ty) (read o' (f i) ty) (read-like rs o (f i) ty)
  body_heads (group_slot g) true size section f = refl

  from_tree : (g : Shape) (t : Tree) → end_is (set_group_from o g t) ≡ end_is (set_group_from o' (renamed_shape rs g) t)
  unfolding record_by_shape
  from_tree g null = refl
  from_tree g (capability i) = refl
  from_tree g (plain_list z n x) = refl
  from_tree g (pointer_list ts) = refl
  from_tree g (struct_list w p es) = refl
  from_tree g (structure w n ts) =
      copied_end o g (shape_record g whole_words n (read_child o ts)) (group_fault g (shape_record g whole_words n (read_child o ts)))
      ∙ ap (λ (ks : Children). fault_end (group_fault g (shape_record g whole_words n ks))) (child_at rs o o ts)
      ∙ sym (ap fault_end (group-fault-same rs o g whole_words n (child ts)))
      ∙ sym (ap (λ (ks : Children). fault_end (group_fault (renamed_shape rs g) (shape_record (renamed_shape rs g) whole_words n ks))) (child_at rs o o' ts))
      ∙ sym (copied_end o' (renamed_shape rs g) (shape_record (renamed_shape rs g) whole_words n (read_child o' ts)) (group_fault (renamed_shape rs g) (shape_record (renamed_shape rs g) whole_words n (read_child o' ts))))

  from_value : (v : CallValue) (g : Shape) → end_is (set_group o g v) ≡ end_is (set_group o' (renamed_shape rs g) v)
  from_value (whole_number z) g = refl
  from_value (truth b) g = refl
  from_value (enumerant n) g = refl
  from_value (text_value bs) g = refl
  from_value (blob_value bs) g = refl
  from_value (message t) g = from_tree g (message_root t)

  slot_end : (w : Verb) (b : Body) → content_end (slot_content o w b) ≡ content_end (slot_content o' w (renamed_body rs b))
  slot_end w b = sym (ap content_end (slot-content-same rs o w b))

  slot_ends : (w : Verb) (b : Body) → end_is (reading_after o (slot_type b) (slot_content o w b)) ≡ end_is (reading_after o' (slot_type (renamed_body rs b)) (slot_content o' w (renamed_body rs b)))
  slot_ends w b = after_end o (slot_type b) (slot_content o w b) ∙ slot_end w b ∙ sym (after_end o' (slot_type (renamed_body rs b)) (slot_content o' w (renamed_body rs b)))

  at_end : (w : Verb) (b : Body) (x y : Reading) → head x ≡ head y → end_is (at_field o w b x) ≡ end_is (at_field o' w (renamed_body rs b) y)
  at_end get b x y e = got_alike (as_body b) (as_body (renamed_body rs b)) x y e
  at_end (set_to v) (void_slot j) x y e = slot_ends (set_to v) (void_slot j)
  at_end (set_to v) (plain_slot p at d) x y e = slot_ends (set_to v) (plain_slot p at d)
  at_end (set_to v) (pointer_slot i ty d) x y e = slot_ends (set_to v) (pointer_slot i ty d)
  at_end (set_to v) (group_slot g) x y e = from_value v g
  at_end init (void_slot j) x y e = slot_ends init (void_slot j)
  at_end init (plain_slot p at d) x y e = slot_ends init (plain_slot p at d)
  at_end init (pointer_slot i ty d) x y e = slot_ends init (pointer_slot i ty d)
  at_end init (group_slot g) x y e = refl
  at_end (initn n) (void_slot j) x y e = slot_ends (initn n) (void_slot j)
  at_end (initn n) (plain_slot p at d) x y e = slot_ends (initn n) (plain_slot p at d)
  at_end (initn n) (pointer_slot i ty d) x y e = slot_ends (initn n) (pointer_slot i ty d)
  at_end (initn n) (group_slot g) x y e = refl
  at_end clear (void_slot j) x y e = slot_ends clear (void_slot j)
  at_end clear (plain_slot p at d) x y e = slot_ends clear (plain_slot p at d)
  at_end clear (pointer_slot i ty d) x y e = slot_ends clear (pointer_slot i ty d)
  at_end clear (group_slot g) x y e = refl

  element_end : (w : Verb) (ty : Ty) (x y : Reading) → head x ≡ head y → end_is (at_element o w ty x) ≡ end_is (at_element o' w ty y)
  element_end get ty x y e = got_alike (as_type ty null) (as_type ty null) x y e
  element_end (set_to v) ty x y e = after_end o ty (element_content o (set_to v) ty) ∙ sym (ap content_end (element-content-same rs o (set_to v) ty)) ∙ sym (after_end o' ty (element_content o' (set_to v) ty))
  element_end init ty x y e = after_end o ty (element_content o init ty) ∙ sym (ap content_end (element-content-same rs o init ty)) ∙ sym (after_end o' ty (element_content o' init ty))
  element_end (initn n) ty x y e = after_end o ty (element_content o (initn n) ty) ∙ sym (ap content_end (element-content-same rs o (initn n) ty)) ∙ sym (after_end o' ty (element_content o' (initn n) ty))
  element_end clear ty x y e = after_end o ty (element_content o clear ty) ∙ sym (ap content_end (element-content-same rs o clear ty)) ∙ sym (after_end o' ty (element_content o' clear ty))

  -- ---- a step

  module _ (path : List Step) (fields : FieldEnds path) (elements : ElementEnds path) where
    named : (l : List ℕ) (g : Shape) (size : Extent) (section : ℕ) (f : ℕ → Tree) → NameTwin rs o (FieldTwin rs o path) l g
        → end_is (on_name (step_field o path verb) l (fields_in g) (shape_record g size section (kids_at o f)))
        ≡ end_is (on_name (step_field o' (renamed_path rs o path (end_at (target_of l (fields_in g)))) verb) (partner_name rs (id_of_shape g) l) (fields_in (renamed_shape rs g)) (shape_record (renamed_shape rs g) size section (kids_at o' f)))
    unfolding shape_record
    named l (shape nid w p u fs) size section f (m, b, e, e', h) =
        let d : Option ℕ = discriminant u size section in
        let fs' : Fields = renamed_fields rs nid fs in
        let l' : List ℕ = partner_name rs nid l in
        let r : Record = fields_of fs d size section (kids_at o f) in
        let r' : Record = fields_of fs' d size section (kids_at o' f) in
        ap (λ (t : Target). end_is (at_target (step_field o path verb) l fs r t)) e
        ∙ end-mapped (λ x. replaced l m x fs r) (step_field o path verb b (entry_of l r))
        ∙ ap (λ x. end_is (step_field o path verb b x)) (entry_of-fields_of l fs m b d size section (kids_at o f) e)
        ∙ fields b (is_active m d) size section f h
        ∙ sym (ap (λ x. end_is (step_field o' (behind path b) verb (renamed_body rs b) x)) (entry_of-fields_of l' fs' m (renamed_body rs b) d size section (kids_at o' f) e'))
        ∙ sym (end-mapped (λ x. replaced l' m x fs' r') (step_field o' (behind path b) verb (renamed_body rs b) (entry_of l' r')))
        ∙ sym (ap (λ (t : Target). end_is (at_target (step_field o' (behind path b) verb) l' fs' r' t)) e')
        ∙ sym (ap (λ (t : Target). end_is (at_target (step_field o' (renamed_path rs o path (end_at t)) verb) l' fs' r' (target_of l' fs'))) e)

    one_item : (ty : Ty) (x y : Reading) → BothItem rs o ty x y → ElementTwin rs o path ty → end_is (step_element o path verb ty x) ≡ end_is (step_element o' (within path ty) verb ty y)
    one_item ty x y (both_item size section f) w = elements ty size section f w

    items : (ty : Ty) (k : ℕ) (xs ys : Readings) → BothItems rs o ty xs ys → ElementTwin rs o path ty → end_is (on_index (step_element o path verb ty) k xs) ≡ end_is (on_index (step_element o' (within path ty) verb ty) k ys)
    items ty k no_readings no_readings h w = refl
    items ty k no_readings (y ▹ ys) h w = absurd h
    items ty k (x ▹ xs) no_readings h w = absurd h
    items ty zero (x ▹ xs) (y ▹ ys) h w = both_mapped (λ z. z ▹ xs) (λ z. z ▹ ys) (step_element o path verb ty x) (step_element o' (within path ty) verb ty y) (one_item ty x y h.0 w)
    items ty (suc k) (x ▹ xs) (y ▹ ys) h w = both_mapped (λ zs. x ▹ zs) (λ zs. y ▹ zs) (on_index (step_element o path verb ty) k xs) (on_index (step_element o' (within path ty) verb ty) k ys) (items ty k xs ys h.1 w)

    abbrev F' : Step → Ty → Body → Reading → Outcome Reading
    F' st ty = step_field o' (renamed_path rs o path (step_into o st ty)) verb

    abbrev E' : Step → Ty → Ty → Reading → Outcome Reading
    E' st ty = step_element o' (renamed_path rs o path (step_into o st ty)) verb

    abbrev step_at : Step → Ty → Step
    step_at st ty = renamed_step rs (node_at o (at_value ty)) st

    values : (st : Step) (ty : Ty) (x y : Reading) → Like rs o ty x y → ValueTwin rs o st (FieldTwin rs o path) (ElementTwin rs o path) ty
        → end_is (through_value o st (step_field o path verb) (step_element o path verb) ty x) ≡ end_is (through_value o' (step_at st ty) (F' st ty) (E' st ty) ty y)
    values st ty x y (like_null t) w = ap end_is (wrong_step o st (step_field o path verb) (step_element o path verb) ty null_pointer tt) ∙ sym (ap end_is (wrong_step o' (step_at st ty) (F' st ty) (E' st ty) ty null_pointer tt))
    values st ty x y (like_number t n) w = ap end_is (wrong_step o st (step_field o path verb) (step_element o path verb) ty (number n) tt) ∙ sym (ap end_is (wrong_step o' (step_at st ty) (F' st ty) (E' st ty) ty (number n) tt))
    values st ty x y (like_text t bs) w = ap end_is (wrong_step o st (step_field o path verb) (step_element o path verb) ty (text_of bs) tt) ∙ sym (ap end_is (wrong_step o' (step_at st ty) (F' st ty) (E' st ty) ty (text_of bs) tt))
    values st ty x y (like_blob t bs) w = ap end_is (wrong_step o st (step_field o path verb) (step_element o path verb) ty (blob_of bs) tt) ∙ sym (ap end_is (wrong_step o' (step_at st ty) (F' st ty) (E' st ty) ty (blob_of bs) tt))
    values st ty x y (like_opaque t u) w = ap end_is (wrong_step o st (step_field o path verb) (step_element o path verb) ty (opaque u) tt) ∙ sym (ap end_is (wrong_step o' (step_at st ty) (F' st ty) (E' st ty) ty (opaque u) tt))
    values st ty x y (like_fault t k) w = refl
    values (name l) ty x y (like_struct i size section f) w =
        both_mapped record_as record_as (on_name (step_field o path verb) l (fields_in (o.shape_of i)) (shape_record (o.shape_of i) size section (kids_at o f))) _
        (named l (o.shape_of i) size section f w
        ∙ sym (ap (λ (g : Shape). end_is (on_name (F' (name l) (struct i)) (partner_name rs (id_of_shape (o.shape_of i)) l) (fields_in g) (shape_record g size section (kids_at o' f)))) (shape-is rs o i)))
    values (index k) ty x y (like_struct i size section f) w = refl
    values (index k) ty x y (like_list t xs ys h) w = both_mapped list_of list_of (on_index (step_element o path verb t) k xs) (on_index (step_element o' (within path t) verb t) k ys) (items t k xs ys h w)
    values (name l) ty x y (like_list t xs ys h) w = refl

    node_same : (i : ℕ) (ty : Ty) (d : Option Tree) → node_at o (at_slot (pointer_slot i ty d)) ≡ node_at o (at_value ty)
    node_same i void d = refl
    node_same i (plain q) d = refl
    node_same i text d = refl
    node_same i blob d = refl
    node_same i untyped d = refl
    node_same i interface d = refl
    node_same i (struct id) d = refl
    node_same i (list ty) d = refl

    pointers : (st : Step) (i : ℕ) (ty : Ty) (d : Option Tree) (f : ℕ → Tree) → ValueTwin rs o st (FieldTwin rs o path) (ElementTwin rs o path) ty
        → end_is (through_field o st (step_field o path verb) (step_element o path verb) (pointer_slot i ty d) (read o (f i) ty))
        ≡ end_is (through_field o' (renamed_step rs (node_at o (at_slot (pointer_slot i ty d))) st) (F' st ty) (E' st ty) (pointer_slot i ty d) (read o' (f i) ty))
    pointers st i ty d f w =
        let x : Reading = read o (f i) ty in
        let y : Reading = read o' (f i) ty in
        let like = read-like rs o (f i) ty in
        let here = like-here rs o ty x y like in
        ap end_is (passes o st (step_field o path verb) (step_element o path verb) i ty d x here.0)
        ∙ values st ty _ _ (opened-like rs o ty (default_or_null d) x y like) w
        ∙ sym (ap end_is (passes o' (step_at st ty) (F' st ty) (E' st ty) i ty d y here.1))
        ∙ sym (ap (λ (node : Option ℕ). end_is (through_field o' (renamed_step rs node st) (F' st ty) (E' st ty) (pointer_slot i ty d) y)) (node_same i ty d))

    field_step : (st : Step) → FieldEnds (st ∷ path)
    unfolding step_field renamed_path shape_record
    field_step (name l) (void_slot j) true size section f h = refl
    field_step (name l) (void_slot j) false size section f h = refl
    field_step (index k) (void_slot j) true size section f h = refl
    field_step (index k) (void_slot j) false size section f h = refl
    field_step (name l) (plain_slot q at d) true size section f h = refl
    field_step (name l) (plain_slot q at d) false size section f h = refl
    field_step (index k) (plain_slot q at d) true size section f h = refl
    field_step (index k) (plain_slot q at d) false size section f h = refl
    field_step (name l) (group_slot g) true size section f h = both_mapped record_as record_as (on_name (step_field o path verb) l (fields_in g) (shape_record g size section (kids_at o f))) _ (named l g size section f h)
    field_step (name l) (group_slot g) false size section f h = refl
    field_step (index k) (group_slot g) true size section f h = refl
    field_step (index k) (group_slot g) false size section f h = refl
    field_step (name l) (pointer_slot i ty d) true size section f h = pointers (name l) i ty d f h
    field_step (index k) (pointer_slot i ty d) true size section f h = pointers (index k) i ty d f h
    field_step (index k) (pointer_slot i ty d) false size section f h = refl
    field_step (name l) (pointer_slot i void d) false size section f h = refl
    field_step (name l) (pointer_slot i (plain q) d) false size section f h = refl
    field_step (name l) (pointer_slot i text d) false size section f h = refl
    field_step (name l) (pointer_slot i blob d) false size section f h = refl
    field_step (name l) (pointer_slot i untyped d) false size section f h = refl
    field_step (name l) (pointer_slot i interface d) false size section f h = refl
    field_step (name l) (pointer_slot i (struct id) d) false size section f h = refl
    field_step (name l) (pointer_slot i (list ty) d) false size section f h = refl

    element_step : (st : Step) (ty : Ty) (size : Extent) (section : ℕ) (f : ℕ → Tree) → ValueTwin rs o st (FieldTwin rs o path) (ElementTwin rs o path) ty
        → end_is (through_value o st (step_field o path verb) (step_element o path verb) ty (opened o ty null (element_as o ty size section (kids_at o f))))
        ≡ end_is (through_value o' (step_at st ty) (F' st ty) (E' st ty) ty (opened o' ty null (element_as o' ty size section (kids_at o' f))))
    element_step st ty size section f w = values st ty _ _ (opened-like rs o ty null _ _ (element-like rs o ty size section f)) w

  mutual
    unfolding step_field step_element renamed_path

    fields_alike : (path : List Step) → FieldEnds path
    fields_alike [] = λ b a size section f h. at_end verb b _ _ (body_heads b a size section f)
    fields_alike (st ∷ path) = field_step path (fields_alike path) (elements_alike path) st

    elements_alike : (path : List Step) → ElementEnds path
    elements_alike [] = λ ty size section f h. element_end verb ty _ _ (heads-like rs o ty _ _ (element-like rs o ty size section f))
    elements_alike (name l ∷ path) = λ ty size section f h. element_step path (fields_alike path) (elements_alike path) (name l) ty size section f h
    elements_alike (index k ∷ path) = λ ty size section f h. element_step path (fields_alike path) (elements_alike path) (index k) ty size section f h

  -- THE LAW: at the record of a struct
  pub ends-alike : (path : List Step) (l : List ℕ) (g : Shape) (size : Extent) (section : ℕ) (f : ℕ → Tree) → NameTwin rs o (FieldTwin rs o path) l g
      → end_is (on_name (step_field o path verb) l (fields_in g) (shape_record g size section (kids_at o f)))
      ≡ end_is (on_name (step_field o' (renamed_path rs o path (end_at (target_of l (fields_in g)))) verb) (partner_name rs (id_of_shape g) l) (fields_in (renamed_shape rs g)) (shape_record (renamed_shape rs g) size section (kids_at o' f)))
  ends-alike path l g size section f h = named path (fields_alike path) (elements_alike path) l g size section f h
